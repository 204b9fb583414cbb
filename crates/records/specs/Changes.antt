-- What a call may do to a table: keep all that it has, and add a record. Assumes nothing.
use Rattle.std.specs.Prelude.{◌≡◌, ℕ, ◌+◌, ◌<◌, ◌≤◌}
use Rattle.records.specs.declared.record.Record.{Record}
use Rattle.records.specs.Stores.{Store, handle}

-- a constant, or a place in use, marked or not
abbrev pub Within : Store → ℕ → Type 0
Within s h = h < handle s.used

-- t has all that s has
pub record Grows (s t : Store) : Type 0 where
  pub inputs : t.inputs ≡ s.inputs
  pub more : s.used ≤ t.used
  pub same : (p : ℕ) → p < s.used → t.at p ≡ s.at p

-- t is s with the record r at one more place
pub record Added (s t : Store) (r : Record) : Type 0 where
  pub inputs : t.inputs ≡ s.inputs
  pub used : t.used ≡ s.used + 1
  pub same : (p : ℕ) → p < s.used → t.at p ≡ s.at p
  pub new : t.at s.used ≡ r
