use Rattle.std.proofs.Common.{◌≡◌}
use Rattle.diagram.specs.Views.{view, room}
use Rattle.laying.proofs.Layings.{Laying}
use Rattle.laying.proofs.laying.lay.Given as goal

abbrev pub invariant-loop-number : goal.invariant-loop-number
invariant-loop-number g l =
    Laying g.G.Algebra.ops (room l.initial.table) (view l.initial.table) (view l.table) (g.M.Memo.recalls l.initial.memo) (g.M.Memo.recalls l.memo) l.lines l.initial.handles l.handles l.number-counter
    × (room l.table ≡ room l.initial.table)
