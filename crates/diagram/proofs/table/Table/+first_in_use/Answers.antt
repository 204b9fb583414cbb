use Rattle.std.proofs.Common.{◌-◌, ◌^◌, ◌<◌, ◌≤◌, cond, sym, ap, ◌∙◌, subst, arith, pow_mono}
use Rattle.records.specs.Rules.{Placed}
use Rattle.records.specs.Stores.{level}
use Rattle.diagram.specs.Views.{view}
use Rattle.records.proofs.Shapes.{well}
use Rattle.records.proofs.Finds.{constant_first, low_small, low_leads, high_small, high_leads}
use Rattle.diagram.proofs.table.Table.+first_in_use.Goals as goal

pub returns-in_default-clause-first : goal.returns-in_default-clause-first
returns-in_default-clause-first g t c =
    let small : c.args.h < 16 = grind arith in
    λ sound lawful occurs. constant_first g.G.Algebra.ops (view c.args.self.now) c.args.h c.args.wanted small occurs

pub returns-then-is_up : goal.returns-then-is_up
returns-then-is_up g t c =
    let laws = g.G.Algebra.laws in
    let w = well c.args.self.now.well in
    let s = view c.args.self.now in
    let h = c.args.h in
    let v = c.args.wanted in
    let u = c.under_mark-below.result in
    let m = c.reach_of.result in
    let r = c.record_at-record.result in
    let x = c.first_in_use.result in
    let to = c.in-Place.ensures in
    let read = c.record_at-record.ensures.read ∙ ap s.at to.place_is in
    let placed = subst (λ p. Placed s p r) to.place_is c.record_at-record.ensures.placed in
    let mark = c.under_mark-below.ensures ∙ ap (λ m. cond m (g.G.Algebra.ops.turn v) v) to.mark_is in
    let small = c.first_in_use.ensures.small in
    record {
      small = low_small laws w h v u m r to.large c.requires.within read mark c.reach_of.ensures x placed small;
      first = low_leads laws w h v u m r to.large c.requires.within read mark c.reach_of.ensures x (sym c.is_up.ensures ∙ c.if-is_up.true) small c.first_in_use.ensures.first;
    }

pub overflow_add-result : goal.overflow_add-result
overflow_add-result g t c =
    let laws = g.G.Algebra.laws in
    let w = well c.args.self.now.well in
    let n = c.args.self.now.inputs in
    let s = view c.args.self.now in
    let h = c.args.h in
    let v = c.args.wanted in
    let u = c.under_mark-below.result in
    let m = c.reach_of.result in
    let r = c.record_at-record.result in
    let to = c.in-Place.ensures in
    let read = c.record_at-record.ensures.read ∙ ap s.at to.place_is in
    let placed = subst (λ p. Placed s p r) to.place_is c.record_at-record.ensures.placed in
    let mark = c.under_mark-below.ensures ∙ ap (λ m. cond m (g.G.Algebra.ops.turn v) v) to.mark_is in
    let sum = high_small laws w h v u m r to.large c.requires.within read mark c.reach_of.ensures c.first_in_use-rest.result c.pattern_of.result placed c.first_in_use-rest.ensures.small c.pattern_of.ensures in
    let k : n - level (view c.args.self.now) h ≤ 60 = omega (arith, w.few) in
    let most : 2 ^ (n - level (view c.args.self.now) h) ≤ 2 ^ 60 = pow_mono k in
    omega arith

pub returns : goal.returns
returns g t c =
    let laws = g.G.Algebra.laws in
    let w = well c.args.self.now.well in
    let s = view c.args.self.now in
    let h = c.args.h in
    let v = c.args.wanted in
    let u = c.under_mark-below.result in
    let m = c.reach_of.result in
    let r = c.record_at-record.result in
    let x = c.first_in_use-rest.result in
    let y = c.pattern_of.result in
    let to = c.in-Place.ensures in
    let read = c.record_at-record.ensures.read ∙ ap s.at to.place_is in
    let placed = subst (λ p. Placed s p r) to.place_is c.record_at-record.ensures.placed in
    let mark = c.under_mark-below.ensures ∙ ap (λ m. cond m (g.G.Algebra.ops.turn v) v) to.mark_is in
    let small = c.first_in_use-rest.ensures.small in
    record {
      small = high_small laws w h v u m r to.large c.requires.within read mark c.reach_of.ensures x y placed small c.pattern_of.ensures;
      first = high_leads laws w h v u m r to.large c.requires.within read mark c.reach_of.ensures x y (sym c.is_up.ensures ∙ c.if-is_up.false) small c.pattern_of.ensures c.first_in_use-rest.ensures.first;
    }
