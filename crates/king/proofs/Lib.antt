-- Laws: what each of the definitions gives. Phase: one phase keeps a common vote, and one with a sound king makes one. Phases: t + 1 phases end in a
-- common vote. Calls: what the calls give is a phase.
pub mod Laws
pub mod Calls
pub mod Phases
pub mod Phase
