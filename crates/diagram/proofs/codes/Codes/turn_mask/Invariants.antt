use Rattle.std.proofs.Common.{◌≡◌}
use Rattle.records.specs.Marks.{turn_below}
use Rattle.diagram.proofs.codes.Codes.turn_mask.Given as goal

abbrev pub invariant-loop-v : goal.invariant-loop-v
invariant-loop-v g l = l.turned ≡ turn_below g.G.Algebra.ops l.mask l.v
