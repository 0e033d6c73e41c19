-- Laws: what upper floors use of the messages. Quorums: how many values of sound columns are heard. Delivery: what is heard of one sound column is what it
-- sent.
pub mod Laws
pub mod Delivery
pub mod Quorums
