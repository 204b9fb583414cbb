use Rattle.std.proofs.Common.{T, sym, subst, rules}
use Rattle.records.proofs.Shapes.{well}
use Rattle.diagram.specs.Tasks.{number_of}
use Rattle.diagram.proofs.Telling.{Gives, short_same, short_constant}
use Rattle.diagram.proofs.shortcut.by_values.Goals as goal

pub returns-then-gives : goal.returns-then-gives
returns-then-gives g c =
    let k = number_of c.args.task.operation in
    short_same g.G.Algebra.laws (well c.args.table.now.well) k c.args.task.x c.args.task.y c.args.lead c.requires.leads c.requires.lead
    (subst (λ m. Gives g.G.Algebra.ops k c.args.task.x c.args.task.y m (λ v. v)) c.reach_of-reach.ensures (λ v l u. let p = c.gives.ensures (subst T (sym c.if-gives.true) tt) v l u in search rules))

pub returns-then-gives-2 : goal.returns-then-gives-2
returns-then-gives-2 g c =
    let k = number_of c.args.task.operation in
    short_constant g.G.Algebra.laws (well c.args.table.now.well) k c.args.task.x c.args.task.y c.args.lead c.requires.leads c.requires.lead c.in_ok-some.some c.value_at-result.result c.value_at-result.ensures
    (subst (λ m. Gives g.G.Algebra.ops k c.args.task.x c.args.task.y m (λ _. c.value_at-result.result)) c.reach_of-reach.ensures (λ v l u. let p = c.gives-2.ensures (subst T (sym c.if-gives-2.true) tt) v l u in search rules))
