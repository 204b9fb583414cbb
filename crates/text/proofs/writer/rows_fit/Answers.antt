use Rattle.std.proofs.Common.{◌≡◌, ap, ◌∙◌, arith}
use Rattle.std.proofs.lemmas.Bool.{false≢true}
use Rattle.text.specs.Reports.{finding_size}
use Rattle.text.proofs.Found.{size_more}
use Rattle.text.proofs.writer.rows_fit.Goals as goal

pub returns-in_default : goal.returns-in_default
returns-in_default g c =
    let s = size_more g.F.HasFinding.of c.args.width c.args.findings.now c.loop-row.row-index c.row-item.result c.loop-row-test.true c.row-item.is in
    let e : c.size_of_row.result ≡ finding_size c.args.width (g.F.HasFinding.of c.row-item.result) = c.size_of_row.ensures ∙ ap (finding_size c.args.width) c.finding.ensures in
    let i = c.loop-row.invariant in
    let l = c.in_default.ensures in
    ((λ e. absurd (false≢true e)), (λ h. absurd (l (omega arith))))

pub loop-row-preserved : goal.loop-row-preserved
loop-row-preserved g c =
    let s = size_more g.F.HasFinding.of c.args.width c.args.findings.now c.loop-row.row-index c.row-item.result c.loop-row-test.true c.row-item.is in
    let e : c.size_of_row.result ≡ finding_size c.args.width (g.F.HasFinding.of c.row-item.result) = c.size_of_row.ensures ∙ ap (finding_size c.args.width) c.finding.ensures in
    let i = c.loop-row.invariant in
    let l = c.in-Some.ensures in
    omega (arith, l.0, l.1, i, s, e)
