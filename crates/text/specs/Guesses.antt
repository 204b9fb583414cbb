-- A number in columns, and the number that columns can hold at most, whatever their bytes are: the reader guesses it, writes
-- it and compares. Only the contracts of inner functions cite this. Assumes nothing.
use Rattle.std.specs.Prelude.{ℕ, zero, suc, ◌+◌, ◌-◌, ◌*◌, ◌%◌, ◌^◌, cond, ◌&&◌, List, [], ◌∷◌, length, nat_le}
use Rattle.text.specs.Rows.{shown}

-- a number in so many columns: a number's field has five, and a used operand's has six
abbrev pub columns : ℕ → ℕ → List ℕ
columns zero n = []
columns (suc zero) n = (48 + n % 10) ∷ []
columns (suc (suc k)) n = shown n (10 ^ suc k) ∷ columns (suc k) n

-- the value of a digit, and 0 of any other byte
abbrev pub digit_value : ℕ → ℕ
digit_value b = cond (nat_le 48 b && nat_le b 57) (b - 48) 0

-- bytes as a number
abbrev pub guessed : List ℕ → ℕ
guessed [] = 0
guessed (b ∷ bs) = digit_value b * 10 ^ length bs + guessed bs
