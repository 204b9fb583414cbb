-- The rows of reports and of refusals, and what it is to write a text into bytes. Assumes nothing.
use Rattle.std.specs.Prelude.{◌≡◌, ℕ, suc, ◌+◌, ◌<◌, ◌≤◌, List, [], ◌∷◌, ◌++◌, map, length, take, drop, Some, codes, Option}
use Rattle.std.specs.List.{range_with_len}
use Rattle.netlist.specs.declared.finding.Difference.{Difference}
use Rattle.netlist.specs.declared.finding.Finding.{Finding}
use Rattle.netlist.specs.declared.finding.Finding.TheVariants.{Clean, Differs}
use Rattle.netlist.specs.Signals.{bit}
use Rattle.text.specs.declared.writer.Summary.{Summary}
use Rattle.text.specs.declared.writer.Summary.TheVariants.{Tried, Report}
use Rattle.text.specs.Rows.{number_field, operand_field, row}

-- the first row of a report: the pairs, a word and a number, to column 18
abbrev pub summary_word : Summary → List ℕ
summary_word Tried = codes "TRIED "
summary_word Report = codes "REPORT"

unfoldable pub summary_row : ℕ → Summary → ℕ → List ℕ
summary_row pairs word number = number_field pairs ++ (32 ∷ (summary_word word ++ (operand_field (Some number) ++ (10 ∷ []))))

-- the bits of a pattern of a width, input 0 first
abbrev pub bits : ℕ → ℕ → List ℕ
bits width pattern = map (λ i. 48 + bit width pattern i) (range_with_len 0 width)

-- the letters of the grade and of both values, and the bits of the pattern
abbrev pub difference : (ℕ → ℕ) → ℕ → Difference → List ℕ
difference letter width d =
    (32 ∷ letter d.grade ∷ 32 ∷ letter d.left ∷ 32 ∷ letter d.right ∷ 32 ∷ []) ++ (bits width d.pattern ++ (10 ∷ []))

-- the row of the pair of a number; a clean one ends after the letter of grade 0
unfoldable pub finding_row : (ℕ → ℕ) → ℕ → ℕ → Finding → List ℕ
finding_row letter width n Clean = number_field n ++ (32 ∷ letter 0 ∷ 10 ∷ [])
finding_row letter width n (Differs d) = number_field n ++ difference letter width d

-- the rows of findings, the first of which has the number n
unfoldable pub findings_text : (ℕ → ℕ) → ℕ → ℕ → List Finding → List ℕ
findings_text letter width n [] = []
findings_text letter width n (f ∷ fs) = finding_row letter width n f ++ findings_text letter width (suc n) fs

-- the bytes of a finding's row and of the rows of findings, as the writers count them
abbrev pub finding_size : ℕ → Finding → ℕ
finding_size width Clean = 8
finding_size width (Differs d) = 13 + width

abbrev pub findings_size : ℕ → List Finding → ℕ
findings_size width [] = 0
findings_size width (f ∷ fs) = finding_size width f + findings_size width fs

-- the row of a refusal: its number, the netlist, and the line or a hyphen
unfoldable pub fault_row : ℕ → ℕ → Option ℕ → List ℕ
fault_row number netlist line = row number (codes "FAULT ") (Some netlist) line

-- a text stands at a place now, up to an end; the other bytes are as before
pub record Written (text : List ℕ) (at : ℕ) (before after : List ℕ) (end : ℕ) : Type 0 where
  pub fits : at + length text ≤ length before
  pub after_is : after ≡ take at before ++ (text ++ drop (at + length text) before)
  pub end_is : end ≡ at + length text

-- a text is too long for the room from a place on; all bytes are as before
pub record Unwritten (text : List ℕ) (at : ℕ) (before after : List ℕ) : Type 0 where
  pub long : length before < at + length text
  pub kept : after ≡ before
