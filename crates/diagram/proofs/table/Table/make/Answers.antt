use Rattle.std.proofs.Common.{◌+◌, cond, Some, None, sym, ap, ◌∙◌, subst}
use Rattle.std.specs.Result.{result_ok}
use Rattle.records.specs.Stores.{handle}
use Rattle.diagram.specs.Views.{view, room}
use Rattle.records.specs.Steps.{Fits, Adds}
use Rattle.records.specs.Makings.{From, Chosen, Making}
use Rattle.records.proofs.Shapes.{well}
use Rattle.records.proofs.Makes.{kept_sides}
use Rattle.records.proofs.Chooses.{beside, from_found, chosen, crowded}
use Rattle.diagram.proofs.Fulls.{refused}
use Rattle.diagram.proofs.table.Table.make.Goals as goal

pub add-requires : goal.add-requires
add-requires g c =
    let s = view c.args.self.now in
    subst (λ r. Fits s r.input r.low r.high) (sym c.kept-kept.ensures.record)
    (kept_sides g.G.Algebra.laws (beside c.requires.inside c.requires.low c.requires.high c.if-low-high.false))

pub returns-in_err-p-clause-meaning : goal.returns-in_err-p-clause-meaning
returns-in_err-p-clause-meaning g c =
    let o = g.G.Algebra.ops in
    let s = view c.args.self.now in
    let t = view c.add.new.self in
    let n = room c.args.self.now in
    let i = c.args.input in
    let low = c.args.low in
    let high = c.args.high in
    let r = c.kept-kept.result.record in
    let none = c.ok_or.ensures.ok_part ∙ ap result_ok c.in_err-p.was in
    let full : Adds s n r None t = subst (λ a. Adds s n r a t) none c.add.ensures.place in
    let fits = beside c.requires.inside c.requires.low c.requires.high c.if-low-high.false in
    let err = c.from_residual.ensures.0 in
    refused (Making o n s t i low high) _ err (λ _. crowded g.G.Algebra.laws (well c.args.self.now.well) fits n r c.kept-kept.ensures.record full.full full.lacked)

pub returns : goal.returns
returns g c =
    let o = g.G.Algebra.ops in
    let s = view c.args.self.now in
    let t = view c.add.new.self in
    let n = room c.args.self.now in
    let i = c.args.input in
    let low = c.args.low in
    let high = c.args.high in
    let p = c.in_ok-p.p in
    let r = c.kept-kept.result.record in
    let fits = beside c.requires.inside c.requires.low c.requires.high c.if-low-high.false in
    let h = c.handle_with.ensures ∙ ap (λ b. cond b (handle p + 1) (handle p)) c.kept-kept.ensures.turned in
    let some = c.ok_or.ensures.ok_part ∙ ap result_ok c.in_ok-p.was in
    let place : Adds s n r (Some p) t = subst (λ a. Adds s n r a t) some c.add.ensures.place in
    record {
      grows = c.add.ensures.grows;
      room = c.add.ensures.room;
      shape = subst (From t i) (sym h) (from_found o s t i low high p r c.kept-kept.ensures.record place);
      meaning = λ sound l m.
          subst (Chosen o s t i low high) (sym h)
          (chosen g.G.Algebra.laws (well c.args.self.now.well) fits (well c.add.new.self.well) p r c.kept-kept.ensures.record place sound l m);
    }
