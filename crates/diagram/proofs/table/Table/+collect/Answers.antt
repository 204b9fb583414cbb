use Rattle.std.proofs.Common.{◌*◌, ◌%◌, ◌^◌, ◌<◌, length, sym, refl, ap, ◌∙◌, subst, arith, rules}
use lib.Bits.{bit_or}
use Rattle.records.specs.Stores.{handle}
use Rattle.records.specs.Supports.{Covers}
use Rattle.diagram.specs.Views.{view}
use Rattle.records.proofs.Shapes.{well}
use Rattle.records.proofs.Matter.{collected_none, covers_constant, covers_marked, covers_rest, own_more, covers_place, collected_step, done_more, done_set}
use Rattle.diagram.proofs.table.Table.+collect.Goals as goal

pub returns-in_default-clause-collected : goal.returns-in_default-clause-collected
returns-in_default-clause-collected t c =
    let s = view c.args.self.now in
    let h = c.args.h in
    let small : h < 16 = grind arith in
    collected_none s h c.args.mask (covers_constant s h c.args.mask small)

pub returns-then-rows-row-clause-collected : goal.returns-then-rows-row-clause-collected
returns-then-rows-row-clause-collected t c =
    let s = view c.args.self.now in
    let h = c.args.h in
    let m = c.args.mask in
    let rows = c.args.rows.now in
    let k = c.row_of-row.result in
    let to = c.in-Place.ensures in
    let less : k < length rows = c.row_of-row.ensures in
    let bare = c.if-rows-row.true ∙ c.handle_of-bare.ensures ∙ ap handle to.place_is in
    collected_none s h m (covers_marked (well c.args.self.now.well) h m to.large c.requires.within (subst (Covers s m) bare (c.requires.done k less)))

pub has_rest-requires-clause-few : goal.has_rest-requires-clause-few
has_rest-requires-clause-few t c =
    let few = (well c.args.self.now.well).few in
    let inside = c.record_at-record.ensures.placed.within in
    omega arith

pub returns-then-has_rest-clause-collected : goal.returns-then-has_rest-clause-collected
returns-then-has_rest-clause-collected t c =
    let s = view c.args.self.now in
    let h = c.args.h in
    let m = c.args.mask in
    let to = c.in-Place.ensures in
    collected_none s h m
    (covers_rest (well c.args.self.now.well) h m 0 0 0 c.record_at-record.result to.large c.requires.within (c.record_at-record.ensures.read ∙ ap s.at to.place_is)
    (λ i l d. c.has_rest.ensures c.if-has_rest.true i l (omega arith)))

pub overflow_shl-own : goal.overflow_shl-own
overflow_shl-own t c =
    let few = (well c.args.self.now.well).few in
    let inside = c.record_at-record.ensures.placed.within in
    omega arith

pub collect-low-requires : goal.collect-low-requires
collect-low-requires t c =
    let s = view c.args.self.now in
    let w = well c.args.self.now.well in
    let h = c.args.h in
    let m = c.args.mask in
    let r = c.record_at-record.result in
    let to = c.in-Place.ensures in
    let u = c.requires.within in
    let before = c.record_at-record.ensures.placed.low_before in
    let less : r.low < h = omega arith in
    let small : r.input < 64 = omega (arith, w.few, c.record_at-record.ensures.placed.within) in
    let own = bit_or m ((1 * 2 ^ r.input) % 2 ^ 64) in
    (search rules, (omega arith, (c.requires.enough, done_more s m own c.args.rows.now (own_more w h m own 0 0 r to.large u (c.record_at-record.ensures.read ∙ ap s.at to.place_is) small refl) c.requires.done)))

pub returns : goal.returns
returns t c =
    let s = view c.args.self.now in
    let w = well c.args.self.now.well in
    let h = c.args.h in
    let m = c.args.mask in
    let r = c.record_at-record.result in
    let low = c.collect-low.result in
    let both = c.collect-both.result in
    let rows = c.collect-both.new.rows in
    let k = c.row_of-row.result in
    let to = c.in-Place.ensures in
    let u = c.requires.within in
    let small : r.input < 64 = omega (arith, w.few, c.record_at-record.ensures.placed.within) in
    let own = bit_or m ((1 * 2 ^ r.input) % 2 ^ 64) in
    let read = c.record_at-record.ensures.read ∙ ap s.at to.place_is in
    let less : k < length rows = omega (arith, c.row_of-row.ensures, c.collect-low.auto.rows, c.collect-both.auto.rows) in
    let bare = c.handle_of-bare.ensures ∙ ap handle to.place_is in
    record {
      collected = collected_step w h m own low both r to.large u read small refl c.collect-low.ensures.collected c.collect-both.ensures.collected;
      done = done_set s both rows k _ less c.collect-both.ensures.done
          (subst (Covers s both) (sym bare) (covers_place w h m own low both r to.large u read small refl c.collect-low.ensures.collected c.collect-both.ensures.collected));
    }
