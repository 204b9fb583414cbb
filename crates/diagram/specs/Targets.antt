-- Where a handle leads. Only the contracts of inner functions cite this. Assumes nothing.
use Rattle.std.specs.Prelude.{◌≡◌, ℕ, ◌<◌, ◌≤◌, Bool}
use Rattle.diagram.specs.declared.handle.Target.{Target}
use Rattle.diagram.specs.declared.handle.Target.TheVariants.{Constant, Place}
use Rattle.records.specs.Stores.{place, marked}

-- h is a handle of place p, with a mark exactly if m is true
pub record LeadsTo (h p : ℕ) (m : Bool) : Type 0 where
  pub large : 16 ≤ h
  pub place_is : p ≡ place h
  pub mark_is : m ≡ marked h

abbrev pub Aims : ℕ → Target → Type 0
Aims h (Constant c) = (h < 16) × (c ≡ h)
Aims h (Place p m) = LeadsTo h p m
