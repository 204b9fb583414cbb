use Rattle.std.proofs.Common.{◌≡◌, drop}
use Rattle.netlist.specs.Faults.{first_fault}
use Rattle.netlist.proofs.checks.check_lines.Given as goal

abbrev pub invariant-loop-number : goal.invariant-loop-number
invariant-loop-number g l = first_fault g.G.Algebra.ops l.inputs 0 l.lines ≡ first_fault g.G.Algebra.ops l.inputs l.number-counter (drop l.number-counter l.lines)
