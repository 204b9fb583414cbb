-- Rows of 24 characters and a line feed: their fields, and the bytes of a row. Assumes nothing.
use Rattle.std.specs.Prelude.{◌≡◌, ℕ, ◌+◌, ◌/◌, ◌%◌, cond, List, [], ◌∷◌, ◌++◌, length, take, drop, Some, None, codes, Option, nat_lt, slice_index_or}

-- the digit of n at the place that is worth k, or a space where n does not reach that place
abbrev pub shown : ℕ → ℕ → ℕ
shown n k = cond (nat_lt n k) 32 (48 + n / k % 10)

-- a number in five columns, from the right, without leading zeros. Of a number that is too long for its field the last
-- digits are shown, so that every number has a field; the fields that are read hold numbers below 100,000, or 1,000,000.
abbrev pub number_field : ℕ → List ℕ
number_field n = shown n 10000 ∷ shown n 1000 ∷ shown n 100 ∷ shown n 10 ∷ (48 + n % 10) ∷ []

-- an operand in six columns: a number, or a hyphen where it is unused
abbrev pub operand_field : Option ℕ → List ℕ
operand_field None = codes "     -"
operand_field (Some n) = shown n 100000 ∷ number_field n

-- a row: a number, a space, a word of six columns, two operands and the line feed
abbrev pub row : ℕ → List ℕ → Option ℕ → Option ℕ → List ℕ
row n word a b = number_field n ++ (32 ∷ (word ++ (operand_field a ++ (operand_field b ++ (10 ∷ [])))))

-- the 25 bytes from a place on, or what there is of them
abbrev pub row_at : List ℕ → ℕ → List ℕ
row_at bytes at = take 25 (drop at bytes)

-- a whole row, with the space of column 6 and the line feed in place
pub record Framed (s : List ℕ) : Type 0 where
  pub whole : length s ≡ 25
  pub space : slice_index_or s 5 0 ≡ 32
  pub feed : slice_index_or s 24 0 ≡ 10

-- the word of a row
abbrev pub word_of : List ℕ → List ℕ
word_of s = take 6 (drop 6 s)
