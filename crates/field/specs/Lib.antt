-- The field of document 01, "Sizes of a wall": the whole numbers modulo 257.
-- Field: the definitions. Congruence: equal modulo 257. Laws: the laws of a field.
pub mod Field
pub mod Congruence
pub mod Laws
