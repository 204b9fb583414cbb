-- The rows of a direct-mapped memo. Assumes nothing.
use Rattle.std.specs.Prelude.{ℕ, ◌≤◌, cond, ◌&&◌, List, Some, None, ◌==◌, slice_index_or}
use Rattle.memo.specs.declared.rows.Row.{Row}
use Rattle.memo.specs.Buckets.{bucket_of}
use Rattle.memo.specs.Memos.{Pairs}

-- a row that was never written
abbrev pub blank_row : Row
blank_row = record { key = record { x = 0; y = 0; op = 0 }; h = 0; epoch = 0 }

abbrev pub row_at : List Row → ℕ → Row
row_at rows i = slice_index_or rows i blank_row

-- what a row says of a key in an epoch
abbrev pub told : ℕ → Row → Pairs
told e r o a b = cond (r.epoch == e && (r.key.op == o && (r.key.x == a && r.key.y == b))) (Some r.h) None

-- what rows say of a key: the row of the key's bucket
abbrev pub told_by : ℕ → ℕ → List Row → Pairs
told_by e mask rows o a b = told e (row_at rows (bucket_of mask o a b)) o a b

-- no row was written after the epoch
abbrev pub Past : ℕ → List Row → Type 0
Past e rows = (i : ℕ) → (row_at rows i).epoch ≤ e
