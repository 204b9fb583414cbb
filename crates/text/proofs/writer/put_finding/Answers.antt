use Rattle.std.proofs.Common.{sym, ap, ◌∙◌}
use Rattle.text.specs.Reports.{finding_row}
use Rattle.text.proofs.Writing.{written_more, written_as}
use Rattle.text.proofs.Found.{clean_is, differs_is}
use Rattle.text.proofs.writer.put_finding.Goals as goal

pub returns-in-Clean : goal.returns-in-Clean
returns-in-Clean g c =
    written_as _ _ c.args.at c.args.out.now c.put.new.out c.put.result
    (clean_is g.G.Algebra.ops.letter c.args.width c.args.number c.columns.result c.letter.result c.columns.ensures c.letter.ensures
    ∙ ap (finding_row g.G.Algebra.ops.letter c.args.width c.args.number) (sym c.in-Clean.is))
    (written_more _ c.args.at _ _ _ c.put-spaced.ensures _ _ _ c.put.ensures)

pub returns-in-Differs : goal.returns-in-Differs
returns-in-Differs g c =
    written_as _ _ c.args.at c.args.out.now c.put_difference.new.out c.put_difference.result
    (differs_is g.G.Algebra.ops.letter c.args.width c.args.number c.in-Differs.d c.columns.result c.columns.ensures
    ∙ ap (finding_row g.G.Algebra.ops.letter c.args.width c.args.number) (sym c.in-Differs.is))
    (written_more _ c.args.at _ _ _ c.put-spaced.ensures _ _ _ c.put_difference.ensures)
