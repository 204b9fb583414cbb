-- Results of an operation that need no walk. Only the contracts of inner functions cite this. Assumes nothing.
use Rattle.std.specs.Prelude.{◌≡◌, ℕ, ◌<◌, min, cond, ◌⊎◌, nat_lt}
use Rattle.algebra.specs.Ops.{Ops}
use Rattle.netlist.specs.Signals.{Agree}
use Rattle.records.specs.Stores.{Store, level, value}
use Rattle.records.specs.Rules.{Sound, Lawful}
use Rattle.records.specs.Makings.{From}
use Rattle.records.specs.Walks.{combined}

-- the value of an operand: a constant has its own, any other one v
abbrev pub operand : ℕ → ℕ → ℕ
operand h v = cond (nat_lt h 16) h v

-- t is the operand that tells the other one: each is a constant or t
pub record Leads (x y t : ℕ) : Type 0 where
  pub left : (x < 16) ⊎ (x ≡ t)
  pub right : (y < 16) ⊎ (y ≡ t)
  pub either : (t ≡ x) ⊎ (t ≡ y)

-- h is k of x and y
pub record Short (o : Ops) (s : Store) (k x y h : ℕ) : Type 0 where
  pub from : From s (min (level s x) (level s y)) h
  pub lawful : Sound o s → Lawful o s x → Lawful o s y → Lawful o s h
  pub means : Sound o s → Lawful o s x → Lawful o s y → Agree s.inputs (value o s h) (combined o s k x y)
