-- The two values 0 and 1, without WIRE. Assumes nothing.
use Rattle.std.specs.Prelude.{◌+◌, ◌-◌, true, false, cond, ◌||◌, [], ◌∷◌, ◌==◌, bit_and, bit_or, bit_xor}
use Rattle.algebra.specs.Ops.{Ops, total}
use Rattle.algebra.specs.Laws.{Laws}
use Rattle.algebra.specs.Lawful.{lawful, total_is_total}

-- at its own codes
abbrev two_at_codes : Ops
two_at_codes = record {
  count = 2;
  turn = λ v. 1 - v;
  settled = λ v. true;
  plain = λ v. (v == 0);
  wired = false;
  op = λ k a b. cond (k == 3 || k == 5) (bit_and a b) (cond (k == 4 || k == 6) (bit_or a b) (bit_xor a b));
  grave = 1 ∷ [];
  letter = λ v. 48 + v;
}

abbrev pub two : Ops
two = total two_at_codes

pub two_laws : Laws two
two_laws = lawful two (total_is_total two_at_codes) tt
