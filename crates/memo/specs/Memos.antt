-- What a memo holds, and what laying a pair and clearing do to it. Assumes nothing.
use Rattle.std.specs.Prelude.{◌≡◌, ℕ, ◌⊎◌, Some, None, Option}

-- the handle, if any, for each key: an operator and two handles
abbrev pub Pairs : Type 0
Pairs = ℕ → ℕ → ℕ → Option ℕ

-- no handle for any key
abbrev pub none_kept : Pairs
none_kept o a b = None

-- the key of the pair then has its handle or none, and every other key what it had or none
pub record Puts (before after : Pairs) (op x y h : ℕ) : Type 0 where
  pub own : (after op x y ≡ Some h) ⊎ (after op x y ≡ None)
  pub others : (o a b : ℕ) → ((o ≡ op) × (a ≡ x) × (b ≡ y) → ⊥) → (after o a b ≡ before o a b) ⊎ (after o a b ≡ None)

-- no key has a handle
abbrev pub NoPairs : Pairs → Type 0
NoPairs pairs = (o a b : ℕ) → pairs o a b ≡ None
