-- One round of a column, by the round's kind. What a column says and hears is defined in `agreement`. Rounds: the definitions of a round with its
-- refusals. Ready: what is known behind them. Endings: how the last round ends.
pub mod Rounds
pub mod Ready
pub mod Endings
