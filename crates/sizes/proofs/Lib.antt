-- Laws: what upper floors use of the sizes. Refusals: how a refusal is handed on.
pub mod Laws
pub mod Refusals
