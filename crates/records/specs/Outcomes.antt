-- What a call with one result leaves of a table and a memo, and what it answers. Assumes nothing.
use Rattle.std.specs.Prelude.{◌≡◌, ℕ, ◌<◌, ◌≤◌, ◌⊎◌, List, [], ◌∷◌, Some, None, Ok, Err, Option, Result, ◌≢◌}
use Rattle.algebra.specs.Ops.{Ops}
use Rattle.netlist.specs.Signals.{Signal, Agree}
use Rattle.netlist.specs.Parts.{part_count}
use Rattle.records.specs.declared.fault.TableFault.{TableFault}
use Rattle.records.specs.declared.fault.TableFault.TheVariants.{TooManyInputs, FewRows, NoSuchHandle, NoSuchInput, NoSuchCode, NoSuchOperator, NoSuchPattern, Full}
use Rattle.records.specs.Stores.{Store, store, handle, value}
use Rattle.records.specs.Rules.{Sound, Lawful}
use Rattle.records.specs.Changes.{Within, Grows}
use Rattle.records.specs.Steps.{Back}
use Rattle.memo.specs.Memos.{Pairs, NoPairs}
use Rattle.records.specs.Counts.{PartIn}

-- On any table and memo.

-- a test refused: nothing changes
pub record Stopped (s t : Store) (P Q : Pairs) (refusal : Option TableFault) (f : TableFault) : Type 0 where
  pub why : refusal ≡ Some f
  pub table : t ≡ s
  pub memo : Q ≡ P

-- the table has n inputs and no place in use, and the memo no pair
pub record Begun (n : ℕ) (t : Store) (Q : Pairs) (refusal : Option TableFault) : Type 0 where
  pub passed : refusal ≡ None
  pub table : t ≡ store n []
  pub memo : NoPairs Q

-- every test passed, and the table was full: it is cut back, and the memo is cleared
pub record CutBack (s t : Store) (Q : Pairs) (refusal : Option TableFault) (f : TableFault) : Type 0 where
  pub passed : refusal ≡ None
  pub full : f ≡ Full
  pub table : Back s s.used t
  pub memo : NoPairs Q

-- every test passed, and the call is accepted: the table keeps all that it has
pub record Accepted (s t : Store) (refusal : Option TableFault) (h : ℕ) : Type 0 where
  pub passed : refusal ≡ None
  pub grows : Grows s t
  pub within : Within t h

abbrev pub Shape : Store → Store → Pairs → Pairs → Option TableFault → Result ℕ TableFault → Type 0
Shape s t P Q refusal (Ok h) = Accepted s t refusal h
Shape s t P Q refusal (Err f) = Stopped s t P Q refusal f ⊎ CutBack s t Q refusal f

-- On a table and a memo that were started under the algebra.

-- the memo has h for x k y: h is lawful, and is k of x and y on every pattern. NOT is filed under 2, with x twice.
pub record TruePair (o : Ops) (s : Store) (k x y h : ℕ) : Type 0 where
  pub left : Lawful o s x
  pub right : Lawful o s y
  pub lawful : Lawful o s h
  pub means : (k ≡ 2 → Agree s.inputs (value o s h) (λ p. o.turn (value o s x p))) × ((k ≢ 2) → Agree s.inputs (value o s h) (λ p. o.op k (value o s x p) (value o s y p)))

abbrev pub TruePairs : Ops → Store → Pairs → Type 0
TruePairs o s P = (k x y h : ℕ) → P k x y ≡ Some h → TruePair o s k x y h

-- h has the result as its signal, and each place that was taken is a part of the result
pub record ResultOf (o : Ops) (s t : Store) (Q : Pairs) (result : Signal) (h : ℕ) : Type 0 where
  pub sound : Sound o t
  pub pairs : TruePairs o t Q
  pub lawful : Lawful o t h
  pub means : Agree t.inputs (value o t h) result
  pub taken : (p : ℕ) → s.used ≤ p → p < t.used → PartIn o t.inputs (result ∷ []) (value o t (handle p))

-- the parts of any signals that the places in use are parts of, with those of the result, outnumber the places
abbrev pub Overfull : Ops → ℕ → Store → Signal → Type 0
Overfull o room s result =
    (ss : List Signal) → ((p : ℕ) → p < s.used → PartIn o s.inputs ss (value o s (handle p))) → room < part_count o s.inputs (result ∷ ss)

abbrev pub ToldFull : TableFault → Type 0 → Type 0
ToldFull TooManyInputs P = Unit {0}
ToldFull FewRows P = Unit {0}
ToldFull NoSuchHandle P = Unit {0}
ToldFull NoSuchInput P = Unit {0}
ToldFull NoSuchCode P = Unit {0}
ToldFull NoSuchOperator P = Unit {0}
ToldFull NoSuchPattern P = Unit {0}
ToldFull Full P = P

abbrev pub Means : Ops → ℕ → Store → Store → Pairs → Signal → Result ℕ TableFault → Type 0
Means o room s t Q result (Ok h) = ResultOf o s t Q result h
Means o room s t Q result (Err f) = ToldFull f (Overfull o room s result)

abbrev pub Meaning : Ops → ℕ → Store → Store → Pairs → Pairs → Signal → Result ℕ TableFault → Type 0
Meaning o room s t P Q result r = Sound o s → TruePairs o s P → Means o room s t Q result r
