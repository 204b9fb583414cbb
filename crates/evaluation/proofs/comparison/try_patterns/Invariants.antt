use Rattle.std.proofs.Common.{◌≡◌, ◌+◌, length, drop}
use Rattle.netlist.specs.Findings.{findings_below}
use Rattle.evaluation.proofs.comparison.try_patterns.Given as goal

abbrev pub invariant-loop-number : goal.invariant-loop-number
invariant-loop-number g l =
    (l.found ≡ findings_below g.G.Algebra.ops l.inputs l.number l.first l.second)
    × (drop (length l.first + length l.second) l.values ≡ drop (length l.first + length l.second) l.initial.values)
