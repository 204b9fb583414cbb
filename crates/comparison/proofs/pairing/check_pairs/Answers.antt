use Rattle.std.proofs.Common.{◌≡◌, ◌<◌, ◌≤◌, ◌∷◌, ◌++◌, length, Err, sym, refl, ap, ◌∙◌, subst, arith, rules, of_calls}
use Rattle.std.proofs.lemmas.List.{set-get_or}
use Rattle.std.proofs.lemmas.Result.{err_from_is_err_and}
use Rattle.netlist.specs.declared.finding.Finding.TheVariants.{Clean}
use Rattle.netlist.specs.Lines.{out_count}
use Rattle.records.specs.Runs.{Kept}
use Rattle.diagram.specs.Views.{view, room}
use Rattle.records.proofs.Shapes.{well}
use Rattle.faults.proofs.Lifts.{ok_from_map_err, err_from_map_err}
use Rattle.comparison.specs.Compares.{pairs_event, PairsChecked}
use Rattle.comparison.proofs.Pairings.{PairDue, checking_none, out_due, out_at, checked_more, checked_refused, refused_leaves, all_checked}
use Rattle.comparison.proofs.pairing.check_pairs.Goals as goal

pub loop-pair-init : goal.loop-pair-init
loop-pair-init g c =
    (checking_none g.G.Algebra.ops (room c.args.table.now) (view c.args.table.now) (g.M.Memo.recalls c.args.memo.now) c.args.first.now c.args.second.now c.args.left.now c.args.right.now c.args.found.now, refl)

pub next_out-x-requires : goal.next_out-x-requires
next_out-x-requires g c =
    let inv = c.loop-pair.invariant.0 in
    record {
      inside = inv.left_inside;
      due = out_due c.args.first.now c.args.left.now c.requires.left c.loop-pair.pair-counter c.loop-pair.from_left (omega (arith, c.loop-pair-test.true, c.requires.room)) inv.left_rest;
    }

pub next_out-y-requires : goal.next_out-y-requires
next_out-y-requires g c =
    let inv = c.loop-pair.invariant.0 in
    record {
      inside = inv.right_inside;
      due = out_due c.args.second.now c.args.right.now c.requires.right c.loop-pair.pair-counter c.loop-pair.from_right (omega (arith, c.loop-pair-test.true, c.requires.room, c.requires.even)) inv.right_rest;
    }

pub bounds-left-x : goal.bounds-left-x
bounds-left-x g c = omega (arith, c.requires.left, c.next_out-x.ensures.within)

pub bounds-right-y : goal.bounds-right-y
bounds-right-y g c = omega (arith, c.requires.right, c.next_out-y.ensures.within)

pub returns-in_err-row : goal.returns-in_err-row
returns-in_err-row g c =
    let p = err_from_is_err_and c.from_residual.result c.from_residual.ensures.1 in
    let o = g.G.Algebra.ops in
    let ls = c.args.first.now in
    let ms = c.args.second.now in
    let hs = c.args.left.now in
    let ks = c.args.right.now in
    let k = c.loop-pair.pair-counter in
    let x = c.next_out-x.result in
    let y = c.next_out-y.result in
    let inv = c.loop-pair.invariant in
    let inside : k < out_count ls = omega (arith, c.loop-pair-test.true, c.requires.room) in
    let due : PairDue ls ms hs ks c.loop-pair.found k = record { left = c.requires.left; right = c.requires.right; even = c.requires.even; inside = inside; rows = c.loop-pair.auto.found ∙ c.requires.room } in
    let left = out_at ls hs c.requires.left k c.loop-pair.from_left x inside inv.0.left_rest (c.next_out-x.ensures.skipped hs c.requires.left) c.next_out-x.ensures.found in
    let right = out_at ms ks c.requires.right k c.loop-pair.from_right y (omega (arith, inside, c.requires.even)) inv.0.right_rest (c.next_out-y.ensures.skipped ks c.requires.right) c.next_out-y.ensures.found in
    let told = c.check.ensures in
    let fits = subst (λ n. (view c.check.new.table).used ≤ n) told.room told.fits in
    let err = err_from_map_err _ _ c.check.result c.in_err-row.field-0.0 c.in_err-row.ensures.cases in
    let f = err.0 in
    let made : c.in_err-row.field-0.0 ≡ record { pair = k; fault = f } = search (rules, of_calls) in
    let r = c.from_residual.result in
    let is : r ≡ Err (record { pair = k; fault = f }) = p.1 ∙ ap Err (p.2 ∙ made) in
    let ds = c.loop-pair.found in
    -- the row of the refused pair is as it was
    let same = sym (set-get_or ds k (record { handle = 0; finding = Clean })) in
    let s = view c.args.table.now in
    let t = view c.check.new.table in
    let Q = g.M.Memo.recalls c.check.new.memo in
    record {
      checked =
          subst (λ z. PairsChecked o s t (hs ++ ks) c.args.found.now z r) same
          (subst (λ r. PairsChecked o s t (hs ++ ks) c.args.found.now ds r) (sym is)
          (refused_leaves g.G.Algebra.laws inv.0 due (well c.loop-pair.table.well) (view c.check.new.table) (well c.check.new.table.well) (room c.loop-pair.table) inv.1 fits (g.M.Memo.recalls c.check.new.memo) (length c.loop-pair.rows) x y left right (omega (arith, c.requires.rows, c.loop-pair.auto.rows)) f c.check.result err.1 told.shape c.requires.room));
      room = told.room ∙ inv.1;
      kept = λ run kept.
          subst (λ z. Kept o (room c.args.table.now) (pairs_event ls ms hs ks z r ∷ run) t Q) same
          (subst (λ r. Kept o (room c.args.table.now) (pairs_event ls ms hs ks ds r ∷ run) t Q) (sym is)
          (checked_refused g.G.Algebra.laws inv.0 due (well c.loop-pair.table.well) (view c.check.new.table) (well c.check.new.table.well) (room c.loop-pair.table) inv.1 fits (g.M.Memo.recalls c.check.new.memo) (length c.loop-pair.rows) x y left right f c.check.result err.1 told.shape told.meaning run kept));
    }

pub loop-pair-preserved : goal.loop-pair-preserved
loop-pair-preserved g c =
    let o = g.G.Algebra.ops in
    let ls = c.args.first.now in
    let ms = c.args.second.now in
    let hs = c.args.left.now in
    let ks = c.args.right.now in
    let k = c.loop-pair.pair-counter in
    let x = c.next_out-x.result in
    let y = c.next_out-y.result in
    let inv = c.loop-pair.invariant in
    let inside : k < out_count ls = omega (arith, c.loop-pair-test.true, c.requires.room) in
    let due : PairDue ls ms hs ks c.loop-pair.found k = record { left = c.requires.left; right = c.requires.right; even = c.requires.even; inside = inside; rows = c.loop-pair.auto.found ∙ c.requires.room } in
    let left = out_at ls hs c.requires.left k c.loop-pair.from_left x inside inv.0.left_rest (c.next_out-x.ensures.skipped hs c.requires.left) c.next_out-x.ensures.found in
    let right = out_at ms ks c.requires.right k c.loop-pair.from_right y (omega (arith, inside, c.requires.even)) inv.0.right_rest (c.next_out-y.ensures.skipped ks c.requires.right) c.next_out-y.ensures.found in
    let told = c.check.ensures in
    let fits = subst (λ n. (view c.check.new.table).used ≤ n) told.room told.fits in
    let d = c.in_ok-row.field-0 in (
      checked_more g.G.Algebra.laws inv.0 due (well c.loop-pair.table.well) (view c.check.new.table) (well c.check.new.table.well) (room c.loop-pair.table) inv.1 fits (g.M.Memo.recalls c.check.new.memo) (length c.loop-pair.rows) x y left right d c.check.result (ok_from_map_err _ c.check.result d c.in_ok-row.ensures.cases) told.shape told.meaning told.found,
      told.room ∙ inv.1,
    )

pub returns : goal.returns
returns g c =
    record {
      checked = c.loop-pair.invariant.0.grows;
      room = c.loop-pair.invariant.1;
      kept = all_checked c.loop-pair.invariant.0 (omega (arith, c.loop-pair-test.false, c.loop-pair.auto.found));
    }
