-- Graded dispersal, Protocol 3.2: document 01, "Rounds" 1 to 3. Dispersal: the definitions. Laws: what the calls use of them, and two grades
-- computed. Run: what sound columns do in it, and Definition 3.1 as a statement of them. Claims: what Claims 3.4 to 3.6 count on, as a statement.
pub mod Dispersal
pub mod Laws
pub mod Run
pub mod Claims
