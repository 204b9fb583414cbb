-- One number for one signal, as a statement. Assumes nothing.
use Rattle.std.specs.Prelude.{◌≡◌, ℕ}
use Rattle.algebra.specs.Ops.{Ops}
use Rattle.algebra.specs.Laws.{Laws}
use Rattle.netlist.specs.Signals.{Agree}
use Rattle.records.specs.Stores.{Store, value}
use Rattle.records.specs.Rules.{Well, Sound, Lawful}

-- two lawful handles of a sound table that have the same value on every pattern are the same
abbrev pub OneNumber : Type 0
OneNumber =
    (o : Ops) (s : Store) → Laws o → Well s → Sound o s
    → (x y : ℕ) → Lawful o s x → Lawful o s y → Agree s.inputs (value o s x) (value o s y) → x ≡ y
