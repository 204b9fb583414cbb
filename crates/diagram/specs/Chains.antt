-- The index of a list of records: a chain of places for each hash of a key. Assumes nothing.
use Rattle.std.specs.Prelude.{◌≡◌, ℕ, ◌-◌, ◌<◌, ◌≤◌, List, length, map, slice_index}
use Rattle.records.specs.declared.record.Record.{Record}
use Rattle.diagram.specs.declared.places.link.Link.{Link}
use Rattle.diagram.specs.declared.places.Node.{Node}
use Rattle.memo.specs.Buckets.{bucket_of}
use Rattle.records.specs.Keys.{record_at, Keyed}

-- the records of the places
abbrev pub records_of : List Node → List Record
records_of ns = map (λ n. n.record) ns

-- a link as a number: a place and one more, or 0 for none
abbrev pub rank : Link → ℕ
rank l = l.number

-- the links from each place to the next one of its chain
abbrev pub links_of : List Node → List ℕ
links_of ns = map (λ n. rank n.next) ns

-- no two places have the same key
abbrev pub Apart : List Record → Type 0
Apart rs =
    (i j : ℕ) → (i < j) × (j < length rs) × Keyed (record_at rs i) (record_at rs j).input (record_at rs j).low (record_at rs j).high → ⊥

-- the chain of a record
abbrev pub chain : ℕ → Record → ℕ
chain mask r = bucket_of mask r.input r.low r.high

-- the chain of the record at place q
abbrev pub chain_at : ℕ → List Record → ℕ → ℕ
chain_at mask rs q = chain mask (record_at rs q)

-- Each chain begins at a place in use ..
abbrev pub HeadsLow : List Record → List ℕ → Type 0
HeadsLow rs heads = (b : ℕ) → slice_index heads b ≤ length rs

-- .. which is in the chain ..
abbrev pub HeadsOwn : ℕ → List Record → List ℕ → Type 0
HeadsOwn mask rs heads = (b : ℕ) → 0 < slice_index heads b → chain_at mask rs (slice_index heads b - 1) ≡ b

-- .. and no place of the chain is above it.
abbrev pub HeadsAll : ℕ → List Record → List ℕ → Type 0
HeadsAll mask rs heads = (q : ℕ) → q < length rs → q < slice_index heads (chain_at mask rs q)

-- From each place a chain goes on to a lower one ..
abbrev pub NextsLow : List Record → List ℕ → Type 0
NextsLow rs next = (p : ℕ) → p < length rs → slice_index next p ≤ p

-- .. of the same chain ..
abbrev pub NextsOwn : ℕ → List Record → List ℕ → Type 0
NextsOwn mask rs next = (p : ℕ) → (p < length rs) × (0 < slice_index next p) → chain_at mask rs (slice_index next p - 1) ≡ chain_at mask rs p

-- .. and passes over none of its places.
abbrev pub NextsAll : ℕ → List Record → List ℕ → Type 0
NextsAll mask rs next = (p q : ℕ) → (q < p) × (p < length rs) × (chain_at mask rs q ≡ chain_at mask rs p) → q < slice_index next p

-- So the chains lead to each place by its key, and no key stands twice.
pub record Chained (mask : ℕ) (rs : List Record) (heads next : List ℕ) : Type 0 where
  pub heads_low : HeadsLow rs heads
  pub heads_own : HeadsOwn mask rs heads
  pub heads_all : HeadsAll mask rs heads
  pub nexts_low : NextsLow rs next
  pub nexts_own : NextsOwn mask rs next
  pub nexts_all : NextsAll mask rs next
  pub apart : Apart rs
