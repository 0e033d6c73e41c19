-- The protocols, each by its rounds: document 01, "Rounds" and "Posting by one column"; document 002, Protocols 3.11 and 3.14.
-- Protocols: the definitions. A new protocol is a clause of `kinds`, `beside`, `posts` and `number_of`, a new kind of round one of `width`, `legal` and
-- `alone`.
pub mod Protocols
