-- Laws: what upper floors use of the protocols.
pub mod Laws
