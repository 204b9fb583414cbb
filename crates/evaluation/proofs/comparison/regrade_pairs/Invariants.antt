use Rattle.netlist.proofs.PairGrades.{Upto}
use Rattle.evaluation.proofs.comparison.regrade_pairs.Given as goal

abbrev pub invariant-loop-pair : goal.invariant-loop-pair
invariant-loop-pair g l = Upto g.G.Algebra.ops l.number l.left l.right l.initial.findings l.findings l.pair
