-- Messages of one round: document 01, "Sizes of a wall" (which values are legal) and "Rounds" (how messages lie, and the own place).
-- Messages: the definitions. Wall: the definitions of a sound column, and of messages that are delivered.
pub mod Messages
pub mod Wall
