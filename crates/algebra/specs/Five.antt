-- The five values 0, 1, X, Z and S, codes 0 to 4, by their published tables: a row for each left operand. Assumes nothing.
use Rattle.std.specs.Prelude.{ℕ, ◌+◌, ◌*◌, true, cond, not, List, [], ◌∷◌, codes, ◌==◌, slice_index}
use Prim.Native.String.{String}
use Rattle.algebra.specs.Ops.{Ops, total}
use Rattle.algebra.specs.Laws.{Laws}
use Rattle.algebra.specs.Lawful.{lawful, total_is_total}

-- the value that a letter names
abbrev value : ℕ → ℕ
value c = cond (c == 48) 0 (cond (c == 49) 1 (cond (c == 88) 2 (cond (c == 90) 3 4)))

-- the values that letters name; a space between rows is left out
abbrev values : List ℕ → List ℕ
values [] = []
values (c ∷ cs) = cond (c == 32) (values cs) (value c ∷ values cs)

abbrev rows : String → List ℕ
rows s = values (codes s)

abbrev pub and_rows : List ℕ
and_rows = rows "0000S 01XXS 0XXXS 0XXXS SSSSS"

abbrev pub or_rows : List ℕ
or_rows = rows "01XXS 1111S X1XXS X1XXS SSSSS"

abbrev pub wire_rows : List ℕ
wire_rows = rows "SSS0S SSS1S SSSXS 01XZS SSSSS"

abbrev pub ifand_rows : List ℕ
ifand_rows = rows "00000 01XZS XXXXS XXXXS SSSSS"

abbrev pub ifor_rows : List ℕ
ifor_rows = rows "01XZS 1111S X1XXS Z1XZS SSSSS"

abbrev pub grade_rows : List ℕ
grade_rows = rows "01X1S 10X1S XXXXX 11X0S SSXSS"

-- the table of an operator, by its number
abbrev pub table : ℕ → List ℕ
table k =
    cond (k == 3) and_rows
    (cond (k == 4) or_rows
    (cond (k == 5) ifand_rows
    (cond (k == 6) ifor_rows
    (cond (k == 7) wire_rows grade_rows))))

-- at its own codes
abbrev five_at_codes : Ops
five_at_codes = record {
  count = 5;
  turn = λ v. slice_index (rows "10XXS") v;
  settled = λ v. not (v == 3);
  plain = λ v. (v == 0);
  wired = true;
  op = λ k a b. slice_index (table k) (a * 5 + b);
  grave = rows "1SX";
  letter = λ v. slice_index (codes "01XZS") v;
}

abbrev pub five : Ops
five = total five_at_codes

pub five_laws : Laws five
five_laws = lawful five (total_is_total five_at_codes) tt
