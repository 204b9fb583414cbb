use Rattle.std.proofs.Common.{◌≡◌, cond, sym, ap, ◌∙◌}
use Rattle.records.specs.Stores.{value, under_mark, side_on}
use Rattle.diagram.specs.Views.{view}
use Rattle.records.proofs.Shapes.{well}
use Rattle.records.proofs.Values.{value_constant, value_place}
use Rattle.diagram.proofs.table.Table.+value_in_use.Goals as goal

pub returns-in-Constant : goal.returns-in-Constant
returns-in-Constant g t c =
    let o = g.G.Algebra.ops in
    let to = c.in-Constant.ensures in
    to.1 ∙ sym (value_constant o (view c.args.self.now) c.args.h c.args.pattern.number to.0)

pub returns-in-Place : goal.returns-in-Place
returns-in-Place g t c =
    let s = view c.args.self.now in
    let o = g.G.Algebra.ops in
    let h = c.args.h in
    let p = c.args.pattern.number in
    let to = c.in-Place.ensures in
    let side : c.side_on-side.result ≡ side_on s h p = cc (c.side_on-side.ensures, c.record_at.ensures.read, to.place_is, c.requires.wide) in
    let below = c.value_in_use-below.ensures ∙ ap (λ k. value o s k p) side in
    let mark : c.under_mark.result ≡ under_mark o h c.value_in_use-below.result = c.under_mark.ensures ∙ ap (λ m. cond m (o.turn c.value_in_use-below.result) c.value_in_use-below.result) to.mark_is in
    mark
    ∙ ap (under_mark o h) below
    ∙ sym (value_place o (well c.args.self.now.well) h p to.large c.requires.within)
