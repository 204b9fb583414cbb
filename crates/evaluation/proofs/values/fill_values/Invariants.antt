use Rattle.std.proofs.Common.{◌≡◌, ◌++◌, take, drop}
use Rattle.netlist.specs.Faults.{first_fault}
use Rattle.netlist.specs.Lines.{line_signals}
use Rattle.netlist.specs.Evaluations.{values_at}
use Rattle.evaluation.proofs.values.fill_values.Given as goal

abbrev pub invariant-loop-number : goal.invariant-loop-number
invariant-loop-number g l =
    (l.values ≡ values_at l.pattern.number (line_signals g.G.Algebra.ops l.pattern.width (take l.number l.lines)) ++ drop l.number l.initial.values)
    × (first_fault g.G.Algebra.ops l.pattern.width 0 l.lines ≡ first_fault g.G.Algebra.ops l.pattern.width l.number (drop l.number l.lines))
