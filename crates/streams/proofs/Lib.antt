-- Lemmas: what a read adds to a room.
mod Filling
