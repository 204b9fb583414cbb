-- What the steps on a table ask and answer: splitting a handle at an input, adding a record, going back. Assumes nothing.
use Rattle.std.specs.Prelude.{◌≡◌, ℕ, ◌<◌, cond, ◌⊎◌, Some, None, Option, ◌==◌, ◌≢◌}
use Rattle.records.specs.declared.record.Record.{Record}
use Rattle.records.specs.Stores.{Store, place, level}
use Rattle.records.specs.Changes.{Within, Added}

-- the sides of h at input i, as stored: those of its record if it tests i, else h itself
abbrev pub split_low : Store → ℕ → ℕ → ℕ
split_low s h i = cond (level s h == i) (s.at (place h)).low h

abbrev pub split_high : Store → ℕ → ℕ → ℕ
split_high s h i = cond (level s h == i) (s.at (place h)).high h

pub record Split (s : Store) (h i low high : ℕ) : Type 0 where
  pub low_is : low ≡ split_low s h i
  pub high_is : high ≡ split_high s h i
  pub low_within : Within s low
  pub high_within : Within s high
  pub low_deeper : i < level s low
  pub high_deeper : i < level s high

-- what is asked of a record that tests input i
pub record Fits (s : Store) (i low high : ℕ) : Type 0 where
  pub inside : i < s.inputs
  pub low_within : Within s low
  pub high_within : Within s high
  pub low_deeper : i < level s low
  pub high_deeper : i < level s high
  pub differ : low ≡ high → ⊥

-- no place in use has the key
abbrev pub Lacks : Store → ℕ → ℕ → ℕ → Type 0
Lacks s i low high = (p : ℕ) → p < s.used → (s.at p).input ≡ i → (s.at p).low ≡ low → (s.at p).high ≢ high

-- place p has the key of r, and nothing changes
pub record Found (s t : Store) (r : Record) (p : ℕ) : Type 0 where
  pub same : t ≡ s
  pub within : p < s.used
  pub input_is : (s.at p).input ≡ r.input
  pub low_is : (s.at p).low ≡ r.low
  pub high_is : (s.at p).high ≡ r.high

-- r has a key that no place has, and goes to the next place
pub record Fresh (s t : Store) (r : Record) (p : ℕ) : Type 0 where
  pub next : p ≡ s.used
  pub added : Added s t r
  pub lacked : Lacks s r.input r.low r.high

-- r has a key that no place has, all n places are in use, and nothing changes
pub record Full (s t : Store) (n : ℕ) (r : Record) : Type 0 where
  pub same : t ≡ s
  pub full : s.used ≡ n
  pub lacked : Lacks s r.input r.low r.high

-- what adding r to a table with room for n answers and leaves
abbrev pub Adds : Store → ℕ → Record → Option ℕ → Store → Type 0
Adds s n r None t = Full s t n r
Adds s n r (Some p) t = Found s t r p ⊎ Fresh s t r p

-- t is s with only its first n places in use
pub record Back (s : Store) (n : ℕ) (t : Store) : Type 0 where
  pub inputs : t.inputs ≡ s.inputs
  pub used : t.used ≡ n
  pub same : (p : ℕ) → p < n → t.at p ≡ s.at p
