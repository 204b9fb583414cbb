use Rattle.netlist.proofs.OutLines.{Kept}
use Rattle.evaluation.proofs.comparison.keep_outs.Given as goal

abbrev pub invariant-loop-number : goal.invariant-loop-number
invariant-loop-number l = Kept l.lines l.initial.values l.values l.number l.count
