use Rattle.std.proofs.Common.{◌≡◌}
use Rattle.diagram.specs.Views.{view, room}
use Rattle.comparison.proofs.Pairings.{Checking}
use Rattle.comparison.proofs.pairing.check_pairs.Given as goal

abbrev pub invariant-loop-pair : goal.invariant-loop-pair
invariant-loop-pair g l =
    Checking g.G.Algebra.ops (room l.initial.table) (view l.initial.table) (view l.table) (g.M.Memo.recalls l.initial.memo) (g.M.Memo.recalls l.memo) l.first l.second l.left l.right l.initial.found l.found l.pair-counter l.from_left l.from_right
    × (room l.table ≡ room l.initial.table)
