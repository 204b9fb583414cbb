use Rattle.std.proofs.Common.{sym, subst}
use Rattle.records.specs.Rules.{Placed}
use Rattle.diagram.specs.Views.{view}
use Rattle.records.proofs.Shapes.{well}
use Rattle.diagram.proofs.table.Table.record_at.Goals as goal

pub returns-clause-placed : goal.returns-clause-placed
returns-clause-placed c =
    let s = view c.args.self.now in
    let p = c.args.p in
    subst (Placed s p) (sym c.get.ensures) ((well c.args.self.now.well).placed p c.requires)
