use Rattle.std.proofs.Common.{refl, map, ap, arith}
use Rattle.std.proofs.lemmas.Bool.Decides.{not_from_Decides}
use Rattle.text.specs.Reports.{finding_row, finding_size}
use Rattle.text.proofs.Writing.{written_as}
use Rattle.text.proofs.Found.{findings_sized, size_more, no_findings, next_row}
use Rattle.text.proofs.writer.write_findings.Goals as goal

pub returns-then-not-rows_fit : goal.returns-then-not-rows_fit
returns-then-not-rows_fit g c =
    let n = not_from_Decides c.rows_fit.result c.rows_fit.ensures c.if-not-rows_fit.true in
    let s = findings_sized g.G.Algebra.ops.letter c.args.width 0 (map g.F.HasFinding.of c.args.findings.now) in
    record { long = omega (arith, n, s); kept = refl {a = c.args.out.now} }

pub loop-number-init : goal.loop-number-init
loop-number-init g c =
    let f = c.rows_fit.ensures.0 c.if-not-rows_fit.false in
    (no_findings g.G.Algebra.ops.letter c.args.width c.args.at c.args.out.now (omega arith), omega (arith, f))

pub put_finding-end-requires : goal.put_finding-end-requires
put_finding-end-requires g c =
    let s = size_more g.F.HasFinding.of c.args.width c.args.findings.now c.loop-number.number c.index-findings-number.result c.loop-number-test.true c.index-findings-number.is in
    let e = ap (finding_size c.args.width) c.finding.ensures in
    omega (arith, s, e, c.loop-number.invariant.1)

pub loop-number-preserved : goal.loop-number-preserved
loop-number-preserved g c =
    next_row g.F.HasFinding.of c.args.width c.args.findings.now c.loop-number.number g.G.Algebra.ops.letter c.index-findings-number.result c.args.at c.loop-number.end c.put_finding-end.result
    c.args.out.now c.loop-number.out c.put_finding-end.new.out c.loop-number-test.true c.index-findings-number.is c.loop-number.invariant.0 c.loop-number.invariant.1
    (written_as _ _ _ _ _ _ (ap (finding_row g.G.Algebra.ops.letter c.args.width c.loop-number.number) c.finding.ensures) c.put_finding-end.ensures)
