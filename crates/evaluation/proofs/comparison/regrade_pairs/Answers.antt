use Rattle.std.proofs.Common.{arith}
use Rattle.std.proofs.lemmas.List.{get_or_default}
use Rattle.netlist.proofs.PairGrades.{upto_none, upto_more, upto_all}
use Rattle.evaluation.proofs.comparison.regrade_pairs.Goals as goal

pub loop-pair-init : goal.loop-pair-init
loop-pair-init g c = upto_none g.G.Algebra.ops c.args.number c.args.left.now c.args.right.now c.args.findings.now

pub loop-pair-preserved : goal.loop-pair-preserved
loop-pair-preserved g c = upto_more g.G.Algebra.ops c.args.number c.args.left.now c.args.right.now c.args.findings.now c.loop-pair.findings c.loop-pair.pair c.loop-pair.invariant _ c.regrade.result
    (let h = c.loop-pair-test.true in let k = c.loop-pair.auto.findings in omega arith)
    (get_or_default c.loop-pair.findings c.loop-pair.pair _ _ (let h = c.loop-pair-test.true in let k = c.loop-pair.auto.findings in omega arith))
    c.regrade.ensures

pub returns : goal.returns
returns g c ss ts es et el er known =
    upto_all g.G.Algebra.ops c.args.number c.args.left.now c.args.right.now c.args.findings.now c.loop-pair.findings c.loop-pair.pair c.loop-pair.invariant c.loop-pair.auto.findings c.loop-pair-test.false ss ts es et el er known
