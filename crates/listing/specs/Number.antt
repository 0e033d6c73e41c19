-- The poster's number as a program is told it, in decimal digits. Document 01, "Posting by one column": "A posting wall takes s beside the sheet".
use Rattle.std.specs.Prelude.{Option, Some, None, cond, ◌&&◌, List, ℕ, zero, suc, ◌+◌, ◌-◌, ◌*◌, ltb, leb, length, get_or}

-- one digit more; 256 where the number is none, or no byte
unfoldable pub with_digit : ℕ → ℕ → ℕ
with_digit v c = cond (leb 48 c && leb c 57 && ltb (10 * v + (c - 48)) 256) (10 * v + (c - 48)) 256

-- what the first k letters of a text say
unfoldable pub read_to : List ℕ → ℕ → ℕ
read_to text zero = 0
read_to text (suc k) = with_digit (read_to text k) (get_or text k 0)

-- a decimal number up to 255; 0, which is no column, for every other text
unfoldable pub number : List ℕ → ℕ
number text = cond (ltb (read_to text (length text)) 256) (read_to text (length text)) 0

-- read off what the code keeps: none stands for 256
abbrev pub number_in : Option ℕ → ℕ
number_in None = 256
number_in (Some v) = v
