use Rattle.std.proofs.Common.{◌≡◌, length}
use Rattle.diagram.specs.Views.{view, room}
use Rattle.comparison.proofs.Reruns.{apart, Running}
use Rattle.comparison.proofs.replaying.calls.replay_lending.Given as goal

abbrev pub invariant-loop-number : goal.invariant-loop-number
invariant-loop-number g l =
    Running (apart g.row.APART) g.G.Algebra.ops (room l.table) l.inputs (length l.initial.rows) l.lines l.calls l.initial.handles l.initial.found l.initial.told
    (view l.table) (g.M.Memo.recalls l.memo) l.handles l.found l.told l.number l.next l.row
    × (room l.table ≡ room l.initial.table)
