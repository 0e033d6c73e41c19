-- Data dissemination, Protocol 3.8: document 01, "Rounds" 5 and 6. Dissemination: the definitions. Run: what sound columns do in it, and
-- Definition 3.7 as a statement of them. Laws, Kept, Decoding: what the code makes on its way, as definitions and statements.
pub mod Dissemination
pub mod Laws
pub mod Kept
pub mod Decoding
pub mod Run
