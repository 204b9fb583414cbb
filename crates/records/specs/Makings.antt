-- What making a record asks, answers and leaves. Assumes nothing.
use Rattle.std.specs.Prelude.{◌≡◌, ℕ, ◌<◌, ◌≤◌, false, Ok, Err, Result}
use Rattle.algebra.specs.Ops.{Ops}
use Rattle.netlist.specs.Signals.{Signal}
use Rattle.netlist.specs.Parts.{is_constant}
use Rattle.records.specs.declared.fault.Full.{Full}
use Rattle.records.specs.Stores.{Store, handle, level, value}
use Rattle.records.specs.Rules.{Sound, Lawful}
use Rattle.records.specs.Changes.{Within}
use Rattle.records.specs.Marks.{choice, Made}
use Rattle.records.specs.Counts.{OnePart}

-- a handle in use that tests no input up to i; one that tests none before i
pub record Beyond (s : Store) (i h : ℕ) : Type 0 where
  pub within : Within s h
  pub deeper : i < level s h

pub record From (s : Store) (i h : ℕ) : Type 0 where
  pub within : Within s h
  pub deep : i ≤ level s h

-- h is the choice between the two sides, and a place that was taken has its signal, up to NOT
pub record Chosen (o : Ops) (s t : Store) (i low high h : ℕ) : Type 0 where
  pub made : Made o s t i low high h
  pub taken : (p : ℕ) → s.used ≤ p → p < t.used → OnePart o s.inputs (value o t (handle p)) (value o t h)

-- all places are in use, and none has the signal f, which is not constant
pub record Crowded (o : Ops) (room : ℕ) (s : Store) (f : Signal) : Type 0 where
  pub full : s.used ≡ room
  pub varies : is_constant s.inputs f ≡ false
  pub lacked : (p : ℕ) → p < s.used → OnePart o s.inputs (value o s (handle p)) f → ⊥

-- on any table
abbrev pub MakeShape : Store → Store → ℕ → Result ℕ Full → Type 0
MakeShape s t i (Ok h) = From t i h
MakeShape s t i (Err f) = t ≡ s

-- on a table that was started under the algebra
abbrev pub MakeMeans : Ops → ℕ → Store → Store → ℕ → ℕ → ℕ → Result ℕ Full → Type 0
MakeMeans o room s t i low high (Ok h) = Chosen o s t i low high h
MakeMeans o room s t i low high (Err f) = Crowded o room s (choice o s i low high)

abbrev pub Making : Ops → ℕ → Store → Store → ℕ → ℕ → ℕ → Result ℕ Full → Type 0
Making o room s t i low high r = Sound o s → Lawful o s low → Lawful o s high → MakeMeans o room s t i low high r
