-- What every algebra keeps. Assumes nothing.
use Rattle.std.specs.Prelude.{◌≡◌, ℕ, ◌<◌, ◌≤◌, false, not, T, ◌≢◌, length, slice_index}
use Rattle.algebra.specs.Ops.{Ops, read, known}

-- settled, and different from its NOT
abbrev pub Firm : Ops → ℕ → Type 0
Firm o v = T (o.settled v) × (o.turn v ≢ v)

-- a code not below the count is read as 0, and an operator that is not there gives 0
pub record Total (o : Ops) : Type 0 where
  pub turn : (v : ℕ) → o.turn v ≡ o.turn (read o.count v)
  pub settled : (v : ℕ) → o.settled v ≡ o.settled (read o.count v)
  pub plain : (v : ℕ) → o.plain v ≡ o.plain (read o.count v)
  pub op : (k a b : ℕ) → o.op k a b ≡ o.op k (read o.count a) (read o.count b)
  pub unknown : (k a b : ℕ) → known o k ≡ false → o.op k a b ≡ 0

pub record Laws (o : Ops) : Type 0 where
  pub two_or_more : 2 ≤ o.count
  pub sixteen_at_most : o.count ≤ 16
  pub total : Total o
  -- every answer is a code
  pub turn_below : (v : ℕ) → o.turn v < o.count
  pub op_below : (k a b : ℕ) → o.op k a b < o.count
  -- the NOT of a settled value is settled, and its NOT leads back
  pub turn_settled : (v : ℕ) → v < o.count → T (o.settled v) → T (o.settled (o.turn v))
  pub turn_back : (v : ℕ) → v < o.count → T (o.settled v) → o.turn (o.turn v) ≡ v
  -- of a firm value and its NOT exactly one is plain
  pub one_plain : (v : ℕ) → v < o.count → Firm o v → o.plain (o.turn v) ≡ not (o.plain v)
  -- GRADE gives 0 only for two equal values, and never 1 for them
  pub grade_zero : (a b : ℕ) → a < o.count → b < o.count → o.op 9 a b ≡ 0 → a ≡ b
  pub grade_same : (a : ℕ) → a < o.count → o.op 9 a a ≢ 1
  -- the grave order has exactly the non-zero results of GRADE, each once
  pub grave_all : (a b : ℕ) → a < o.count → b < o.count → o.op 9 a b ≢ 0 → (k : ℕ) × (k < length o.grave) × (slice_index o.grave k ≡ o.op 9 a b)
  pub grave_some : (k : ℕ) → k < length o.grave → (a : ℕ) × (b : ℕ) × (a < o.count) × (b < o.count) × (o.op 9 a b ≡ slice_index o.grave k)
  pub grave_heavy : (k : ℕ) → k < length o.grave → slice_index o.grave k ≢ 0
  pub grave_once : (j k : ℕ) → j < length o.grave → k < length o.grave → slice_index o.grave j ≡ slice_index o.grave k → j ≡ k
