use Rattle.diagram.specs.Views.{view}
use Rattle.records.proofs.Shapes.{well}
use Rattle.records.proofs.Lookups.{reach_decides}
use Rattle.diagram.proofs.table.Table.reach.Goals as goal

pub returns-clause-meaning : goal.returns-clause-meaning
returns-clause-meaning g c =
    let s = view c.args.self.now in
    let o = g.G.Algebra.ops in
    let h = c.args.h in
    let l = c.in_ok-check_lawful.ensures in
    λ sound v. reach_decides g.G.Algebra.laws (well c.args.self.now.well) sound h _ v l c.reach_of.ensures
