-- What a memo of rows holds. Assumes nothing.
use Rattle.std.specs.Prelude.{ℕ, ◌-◌, vec_items, vec_len}
use Rattle.memo.specs.declared.rows.RowMemo.{RowMemo}
use Rattle.memo.specs.Memos.{Pairs}
use Rattle.memo.specs.Rows.{told_by}

abbrev pub row_count : RowMemo → ℕ
row_count m = vec_len m.rows

abbrev pub recalled : RowMemo → Pairs
recalled m = told_by m.epoch (row_count m - 1) (vec_items m.rows)
