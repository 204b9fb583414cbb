-- The text of a netlist: a HEAD row and a row for each line. Assumes nothing.
use Rattle.std.specs.Prelude.{◌≡◌, ℕ, suc, ◌<◌, ◌≤◌, Bool, true, cond, ◌||◌, ◌⊎◌, List, [], ◌∷◌, ◌++◌, length, take, Some, None, codes, Option, ◌==◌, slice_index_or}
use Rattle.std.specs.List.{AllByRecursion}
use Rattle.netlist.specs.declared.line.Line.{Line}
use Rattle.text.specs.declared.header.Values.{Values}
use Rattle.text.specs.declared.header.Values.TheVariants.{Two, Five}
use Rattle.text.specs.declared.fault.RowFault.{RowFault}
use Rattle.text.specs.declared.fault.RowFault.TheVariants.{Incomplete, Word, Field, OutOfTurn, Limits}
use Rattle.text.specs.Rows.{number_field, row, Framed, word_of}

-- the names of the kinds, by their numbers
abbrev pub kind_words : List (List ℕ)
kind_words =
    codes "INPUT " ∷ codes "CONST " ∷ codes "NOT   " ∷ codes "AND   " ∷ codes "OR    "
    ∷ codes "IFAND " ∷ codes "IFOR  " ∷ codes "WIRE  " ∷ codes "OUT   " ∷ []

abbrev pub kind_word : ℕ → List ℕ
kind_word k = slice_index_or kind_words k []

abbrev pub head_word : List ℕ
head_word = codes "HEAD  "

-- INPUT, CONST, NOT and OUT leave their second operand unused
abbrev pub takes_one : ℕ → Bool
takes_one k = k == 0 || (k == 1 || (k == 2 || k == 8))

abbrev pub second_operand : ℕ → ℕ → Option ℕ
second_operand k second = cond (takes_one k) None (Some second)

-- a line that a row can hold: its second operand is 0 where it is unused
pub record Readable (l : Line) : Type 0 where
  pub known : l.kind < 9
  pub first : l.first < 1000000
  pub second : l.second < 1000000
  pub unused : takes_one l.kind ≡ true → l.second ≡ 0

-- the row of the line of a number, and the HEAD row of a count of lines, of inputs and of values
unfoldable pub line_row : ℕ → Line → List ℕ
line_row n l = row n (kind_word l.kind) (Some l.first) (second_operand l.kind l.second)

unfoldable pub head_row : ℕ → ℕ → ℕ → List ℕ
head_row n inputs values = row n head_word (Some inputs) (Some values)

-- a row that is some line's under some number, and one that is some HEAD row
pub record LineRow (s : List ℕ) : Type 0 where
  pub number : ℕ
  pub line : Line
  pub small : number < 100000
  pub readable : Readable line
  pub text : s ≡ line_row number line

pub record HeadRow (s : List ℕ) (count inputs values : ℕ) : Type 0 where
  pub small : count < 100000
  pub few : inputs < 1000000
  pub less : values < 1000000
  pub text : s ≡ head_row count inputs values

-- the number that stands in a HEAD row for the values
abbrev pub values_number : Values → ℕ
values_number Two = 2
values_number Five = 5

-- at most 60 inputs, and two or five values
abbrev pub Allowed : ℕ → ℕ → Type 0
Allowed inputs values = (inputs ≤ 60) × ((values ≡ 2) ⊎ (values ≡ 5))

-- the tests of the row of the line that is due
abbrev pub LineTest : ℕ → List ℕ → RowFault → Type 0
LineTest due s Incomplete = Framed s
LineTest due s Word = (k : ℕ) × (k < 9) × (word_of s ≡ kind_word k)
LineTest due s Field = LineRow s
LineTest due s OutOfTurn = take 5 s ≡ number_field due
LineTest due s Limits = Unit {0}

-- the tests of a HEAD row
abbrev pub HeadTest : List ℕ → RowFault → Type 0
HeadTest s Incomplete = Framed s
HeadTest s Word = word_of s ≡ head_word
HeadTest s Field = (count : ℕ) × (inputs : ℕ) × (values : ℕ) × HeadRow s count inputs values
HeadTest s OutOfTurn = Unit {0}
HeadTest s Limits = (count : ℕ) × (inputs : ℕ) × (values : ℕ) × HeadRow s count inputs values × Allowed inputs values

-- a netlist that has a text
pub record Writable (inputs values : ℕ) (lines : List Line) : Type 0 where
  pub short : length lines < 100000
  pub readable : AllByRecursion Readable lines
  pub allowed : Allowed inputs values

-- the rows of lines, the first of which has the number n
unfoldable pub lines_text : ℕ → List Line → List ℕ
lines_text n [] = []
lines_text n (l ∷ ls) = line_row n l ++ lines_text (suc n) ls

unfoldable pub netlist_text : ℕ → ℕ → List Line → List ℕ
netlist_text inputs values ls = head_row (length ls) inputs values ++ lines_text 0 ls
