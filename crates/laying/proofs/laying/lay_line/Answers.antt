use Rattle.std.proofs.Common.{take}
use Rattle.std.proofs.lemmas.Result.{err_from_is_err_and}
use Rattle.records.proofs.Shapes.{well}
use Rattle.diagram.proofs.Fulls.{table_fits}
use Rattle.laying.proofs.Layings.{refused_kept}
use Rattle.laying.proofs.laying.lay_line.Goals as goal

pub returns-in_err-check_line-clause-kept : goal.returns-in_err-check_line-clause-kept
returns-in_err-check_line-clause-kept g c =
    let p = err_from_is_err_and c.from_residual.result c.from_residual.ensures.1 in
    rw (p.1, p.2) (refused_kept g.G.Algebra.laws (well c.args.table.now.well) (table_fits c.args.table.now) (g.M.Memo.recalls c.args.memo.now) (take c.args.number c.args.handles.now) c.args.line)
