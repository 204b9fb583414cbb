-- Parts of signals as relations, and what the number of different parts counts. Assumes nothing.
use Rattle.std.specs.Prelude.{◌≡◌, ℕ, ◌^◌, ◌<◌, ◌≤◌, false, T, ◌⊎◌, List, length, slice_index_or}
use Rattle.algebra.specs.Ops.{Ops}
use Rattle.netlist.specs.Signals.{Signal, Agree, constant, turned}
use Rattle.netlist.specs.Parts.{part, is_constant, part_count}

-- every value is a code; every value is settled
abbrev pub Coded : Ops → ℕ → Signal → Type 0
Coded o n s = (p : ℕ) → p < 2 ^ n → s p < o.count

abbrev pub Settled : Ops → ℕ → Signal → Type 0
Settled o n s = (p : ℕ) → p < 2 ^ n → T (o.settled (s p))

-- both take settled values alone, and each is the other's NOT
pub record Opposite (o : Ops) (n : ℕ) (s t : Signal) : Type 0 where
  pub left_settled : Settled o n s
  pub right_settled : Settled o n t
  pub left_turned : Agree n (turned o s) t
  pub right_turned : Agree n s (turned o t)

-- two parts are one
abbrev pub OnePart : Ops → ℕ → Signal → Signal → Type 0
OnePart o n s t = Agree n s t ⊎ Opposite o n s t

-- t is what remains of s when its first k bits are fixed to those of a
abbrev pub PartOf : ℕ → Signal → Signal → Type 0
PartOf n t s = (k : ℕ) × (a : ℕ) × (k ≤ n) × (a < 2 ^ k) × Agree n t (part n s k a)

-- the signal at place k of a list
abbrev pub nth : List Signal → ℕ → Signal
nth ss k = slice_index_or ss k (constant 0)

-- t is one with a part of some signal of ss
abbrev pub PartIn : Ops → ℕ → List Signal → Signal → Type 0
PartIn o n ss t = (k : ℕ) × (k < length ss) × (u : Signal) × PartOf n u (nth ss k) × OnePart o n t u

-- the first `used` of f: no two are one part, none is constant, each is a part of a signal of ss
pub record DifferentParts (o : Ops) (n : ℕ) (ss : List Signal) (used : ℕ) (f : ℕ → Signal) : Type 0 where
  pub apart : (i j : ℕ) → i < used → j < used → OnePart o n (f i) (f j) → i ≡ j
  pub vary : (i : ℕ) → i < used → is_constant n (f i) ≡ false
  pub from : (i : ℕ) → i < used → PartIn o n ss (f i)

-- every part of a signal of ss that is not constant is one of the first `used` of f
abbrev pub AllParts : Ops → ℕ → List Signal → ℕ → (ℕ → Signal) → Type 0
AllParts o n ss used f =
    (k : ℕ) (t : Signal) → k < length ss → PartOf n t (nth ss k) → is_constant n t ≡ false → (i : ℕ) × (i < used) × OnePart o n t (f i)

-- m is the number of different parts of the signals of ss: all of them can be listed by m, and no more that differ
pub record NumberOfParts (o : Ops) (n : ℕ) (ss : List Signal) (m : ℕ) : Type 0 where
  pub listed : (f : ℕ → Signal) × DifferentParts o n ss m f × AllParts o n ss m f
  pub most : (used : ℕ) (f : ℕ → Signal) → DifferentParts o n ss used f → used ≤ m
  pub exact : (used : ℕ) (f : ℕ → Signal) → DifferentParts o n ss used f → AllParts o n ss used f → m ≡ used

-- the computed number is that number
abbrev pub Counted : Type 0
Counted = (o : Ops) (n : ℕ) (ss : List Signal) → NumberOfParts o n ss (part_count o n ss)
