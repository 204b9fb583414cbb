-- Lists of records, the keys of their records, and adding a record by its key. Assumes nothing.
use Rattle.std.specs.Prelude.{◌≡◌, ℕ, ◌<◌, ◌⊎◌, List, [], ◌∷◌, ◌++◌, length, Some, None, Option, slice_index_or}
use Rattle.records.specs.declared.record.Record.{Record}

-- what stands past the end of a list of records
abbrev pub blank : Record
blank = record { low = 0; high = 0; reach = 0; input = 0 }

-- the record at place p
abbrev pub record_at : List Record → ℕ → Record
record_at rs p = slice_index_or rs p blank

-- r has the key (input, low, high)
abbrev pub Keyed : Record → ℕ → ℕ → ℕ → Type 0
Keyed r input low high = (r.input ≡ input) × (r.low ≡ low) × (r.high ≡ high)

-- no record of the list has the key
abbrev pub Absent : List Record → ℕ → ℕ → ℕ → Type 0
Absent rs input low high = (p : ℕ) → p < length rs → Keyed (record_at rs p) input low high → ⊥

-- place p of the list has the key
abbrev pub Present : List Record → ℕ → ℕ → ℕ → ℕ → Type 0
Present rs input low high p = (p < length rs) × Keyed (record_at rs p) input low high

-- what adding r to rs, with room for n in all, answers and leaves: the place of its key in rs, or the next place, now
-- with r; none exactly where no record has the key and all room is in use
abbrev pub Added : List Record → ℕ → Record → Option ℕ → List Record → Type 0
Added rs n r None after = (after ≡ rs) × (length rs ≡ n) × Absent rs r.input r.low r.high
Added rs n r (Some p) after =
    ((after ≡ rs) × Present rs r.input r.low r.high p)
    ⊎ ((after ≡ rs ++ r ∷ []) × (p ≡ length rs) × Absent rs r.input r.low r.high)
