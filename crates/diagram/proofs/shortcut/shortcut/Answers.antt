use Rattle.std.proofs.Common.{sym, ap, ◌∙◌}
use Rattle.std.proofs.lemmas.Bool.{ltb-true}
use Rattle.records.specs.Rules.{settled_mask}
use Rattle.records.proofs.Shapes.{well}
use Rattle.diagram.specs.Tasks.{number_of}
use Rattle.diagram.specs.Views.{view}
use Rattle.diagram.proofs.Telling.{short_leaf, short_negated}
use Rattle.diagram.proofs.shortcut.shortcut.Goals as goal

pub returns-then-is_constant-2 : goal.returns-then-is_constant-2
returns-then-is_constant-2 g c =
    let x = ltb-true c.args.task.x 16 (sym c.is_constant.ensures ∙ c.if-is_constant.true) in
    let y = ltb-true c.args.task.y 16 (sym c.is_constant-then-is_constant.ensures ∙ c.if-is_constant-2.true) in
    short_leaf g.G.Algebra.laws (view c.args.table.now) (number_of c.args.task.operation) c.args.task.x c.args.task.y c.at-value.result x y c.at-value.ensures

pub returns-then-settled : goal.returns-then-settled
returns-then-settled g c =
    let settled = ap (settled_mask g.G.Algebra.ops) (sym c.reach_of.ensures) ∙ sym c.settled.ensures ∙ c.if-settled.true in
    short_negated g.G.Algebra.laws (well c.args.table.now.well) (number_of c.args.task.operation) c.args.task.x c.args.task.y c.negate.result (ap number_of c.in-Turn.is) c.requires.x c.negate.ensures settled
