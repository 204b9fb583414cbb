-- What a handle must be to tell how two others grade, and where it has a grade. Assumes nothing.
use Rattle.std.specs.Prelude.{ℕ, Some, None, Option}
use Rattle.algebra.specs.Ops.{Ops}
use Rattle.netlist.specs.declared.finding.Difference.{Difference}
use Rattle.netlist.specs.Signals.{Signal, Agree, joined}
use Rattle.records.specs.Stores.{Store, value}
use Rattle.records.specs.Rules.{Sound, Lawful}

-- g is GRADE of x and y on every pattern
pub record Graded (o : Ops) (s : Store) (g x y : ℕ) : Type 0 where
  pub sound : Sound o s
  pub left : Lawful o s x
  pub right : Lawful o s y
  pub lawful : Lawful o s g
  pub means : Agree s.inputs (value o s g) (joined o 9 (value o s x) (value o s y))

-- s and t at the pattern at which they are graded v, if there is one
abbrev pub difference_of : Signal → Signal → ℕ → Option ℕ → Option Difference
difference_of s t v None = None
difference_of s t v (Some p) = Some (record { grade = v; pattern = p; left = s p; right = t p })
