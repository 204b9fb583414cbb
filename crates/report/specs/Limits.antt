-- What a workspace has room for. Assumes nothing.
use Rattle.std.specs.Prelude.{ℕ, vec_len}
use Rattle.diagram.specs.Views.{room}
use Rattle.memo.specs.Recalls.{row_count}
use Rattle.report.specs.declared.workspace.Workspace.{Workspace}

-- the lines of a netlist
abbrev pub lines_of : Workspace → ℕ
lines_of w = vec_len w.first

-- the places of its table
abbrev pub places_of : Workspace → ℕ
places_of w = room w.table

-- the rows of its memo
abbrev pub memo_rows_of : Workspace → ℕ
memo_rows_of w = row_count w.memo
