-- What the walk over two handles asks, answers and leaves. Assumes nothing.
use Rattle.std.specs.Prelude.{◌≡◌, ℕ, ◌<◌, ◌≤◌, min, false, cond, [], ◌∷◌, Ok, Err, Result, ◌==◌}
use Rattle.algebra.specs.Ops.{Ops}
use Rattle.netlist.specs.Signals.{Signal}
use Rattle.netlist.specs.Parts.{is_constant}
use Rattle.records.specs.declared.fault.Full.{Full}
use Rattle.records.specs.declared.row.Row.{Row}
use Rattle.records.specs.Stores.{Store, handle, level, value}
use Rattle.records.specs.Rules.{Sound, Lawful}
use Rattle.records.specs.Marks.{cofactor}
use Rattle.records.specs.Makings.{From}
use Rattle.memo.specs.Memos.{Pairs}
use Rattle.records.specs.Counts.{OnePart, PartIn}
use Rattle.records.specs.Outcomes.{TruePairs, ResultOf}

-- what is left of h when the bit of input i is b: h itself if it does not test i
abbrev pub cofactor_at : Ops → Store → ℕ → ℕ → ℕ → ℕ
cofactor_at o s h i b = cond (level s h == i) (cofactor o s h b) h

-- x and y split at the input that either tests first
pub record Cut (o : Ops) (s : Store) (x y : ℕ) (r : Row) : Type 0 where
  pub input_is : r.input ≡ min (level s x) (level s y)
  pub inside : r.input < s.inputs
  pub low_is : r.low ≡ cofactor_at o s x r.input 0
  pub high_is : r.high ≡ cofactor_at o s x r.input 1
  pub low_other_is : r.low_other ≡ cofactor_at o s y r.input 0
  pub high_other_is : r.high_other ≡ cofactor_at o s y r.input 1

-- NOT of a under number 2, else the operator k of a and b
abbrev pub combine : Ops → ℕ → ℕ → ℕ → ℕ
combine o k a b = cond (k == 2) (o.turn a) (o.op k a b)

abbrev pub combined : Ops → Store → ℕ → ℕ → ℕ → Signal
combined o s k x y = λ p. combine o k (value o s x p) (value o s y p)

-- all places are in use, each one that was taken is a part of the result, and one more part that is not constant has none
pub record RanOut (o : Ops) (room : ℕ) (s t : Store) (result : Signal) : Type 0 where
  pub sound : Sound o t
  pub full : t.used ≡ room
  pub taken : (p : ℕ) → s.used ≤ p → p < t.used → PartIn o t.inputs (result ∷ []) (value o t (handle p))
  pub signal : Signal
  pub varies : is_constant t.inputs signal ≡ false
  pub part : PartIn o t.inputs (result ∷ []) signal
  pub lacked : (p : ℕ) → p < t.used → OnePart o t.inputs (value o t (handle p)) signal → ⊥

-- on any table
abbrev pub WalkShape : Store → Store → ℕ → ℕ → Result ℕ Full → Type 0
WalkShape s t x y (Ok h) = From t (min (level s x) (level s y)) h
WalkShape s t x y (Err f) = Unit {0}

-- on a table and a memo that were started under the algebra
abbrev pub WalkMeans : Ops → ℕ → Store → Store → Pairs → Signal → Result ℕ Full → Type 0
WalkMeans o room s t Q result (Ok h) = ResultOf o s t Q result h
WalkMeans o room s t Q result (Err f) = RanOut o room s t result

abbrev pub Walked : Ops → ℕ → Store → Store → Pairs → Pairs → ℕ → ℕ → ℕ → Result ℕ Full → Type 0
Walked o room s t P Q k x y r =
    Sound o s → TruePairs o s P → Lawful o s x → Lawful o s y → WalkMeans o room s t Q (combined o s k x y) r
