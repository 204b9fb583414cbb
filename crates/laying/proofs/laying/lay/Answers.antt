use Rattle.std.proofs.Common.{◌≡◌, ◌≤◌, ◌∷◌, length, get_or, take, Ok, Err, sym, refl, ap, ◌∙◌, subst, arith, rules, of_calls}
use Rattle.std.proofs.lemmas.List.{get_or_default}
use Rattle.std.proofs.lemmas.Result.{err_from_is_err_and}
use Rattle.records.specs.Runs.{lay, Kept}
use Rattle.diagram.specs.Views.{view, room}
use Rattle.records.proofs.Shapes.{well}
use Rattle.records.proofs.Laying.{kept_lay_none}
use Rattle.faults.specs.declared.fault.LayFault.TheVariants.{Line as AtLine, Table as AtTable}
use Rattle.laying.specs.Lays.{LineKept, Lined, Laid, reason_answer, line_answer, lay_answers}
use Rattle.netlist.specs.declared.line.Line.{Line}
use Rattle.laying.specs.Lays.{blank_line}
use Rattle.faults.proofs.Lifts.{ok_from_map_err, err_from_map_err, enough_rows, few_rows}
use Rattle.laying.proofs.Layings.{laying_none, laying_more, line_refused, refused_answered, laid_all, all_kept}
use Rattle.laying.proofs.laying.lay.Goals as goal

pub returns-then-handles-lines : goal.returns-then-handles-lines
returns-then-handles-lines g c =
    record {
      laid = (c.if-handles-lines.true, record { table = refl; memo = refl; handles = refl });
      room = refl;
      kept = λ run. kept_lay_none g.G.Algebra.laws (well c.args.table.now.well) (room c.args.table.now) (g.M.Memo.recalls c.args.memo.now) run c.args.lines.now;
    }

pub returns-in_err-map_err : goal.returns-in_err-map_err
returns-in_err-map_err g c =
    let p = err_from_is_err_and c.from_residual.result c.from_residual.ensures.1 in
    let s = view c.args.table.now in
    let P = g.M.Memo.recalls c.args.memo.now in
    let rows = length c.args.rows.now in
    let ls = c.args.lines.now in
    let hs = c.args.handles.now in
    let err = err_from_map_err _ _ c.check_rows.result c.in_err-map_err.field-0.0 c.in_err-map_err.ensures.cases in
    let told = few_rows s.inputs rows c.check_rows.result c.check_rows.ensures err.0 err.1 in
    let made : c.in_err-map_err.field-0.0 ≡ AtTable err.0 = search (rules, of_calls) in
    let is : c.from_residual.result ≡ Err (AtTable err.0) = p.1 ∙ ap Err (p.2 ∙ made) in
    record {
      laid = subst (λ r. Laid g.G.Algebra.ops s s P P rows ls hs hs r) (sym is) (c.if-handles-lines.false, told.1, told.0, record { table = refl; memo = refl; handles = refl });
      room = refl;
      kept = λ run kept. subst (λ r. Kept g.G.Algebra.ops (room c.args.table.now) (lay ls (lay_answers ls hs r) ∷ run) s P) (sym is) (kept_lay_none g.G.Algebra.laws (well c.args.table.now.well) (room c.args.table.now) P run ls kept);
    }

pub loop-number-init : goal.loop-number-init
loop-number-init g c =
    (laying_none g.G.Algebra.laws (well c.args.table.now.well) (room c.args.table.now) (g.M.Memo.recalls c.args.memo.now) c.args.lines.now c.args.handles.now, refl)

pub lay_line-requires : goal.lay_line-requires
lay_line-requires g c =
    let kept = c.loop-number.auto in
    let enough = enough_rows (view c.args.table.now).inputs (length c.args.rows.now) c.check_rows.result c.check_rows.ensures (ok_from_map_err _ c.check_rows.result tt c.in_ok-map_err.ensures.cases) in
    record {
      within = omega arith;
      rows = omega (arith, c.loop-number.invariant.0.written.grows.inputs, enough);
    }

pub returns-in_err-h : goal.returns-in_err-h
returns-in_err-h g c =
    let p = err_from_is_err_and c.from_residual-in_err-h.result c.from_residual-in_err-h.ensures.1 in
    let o = g.G.Algebra.ops in
    let s = view c.args.table.now in
    let P = g.M.Memo.recalls c.args.memo.now in
    let ls = c.args.lines.now in
    let k = c.loop-number.number-counter in
    let hs = c.loop-number.handles in
    let t = view c.loop-number.table in
    let u = view c.lay_line.new.table in
    let Q = g.M.Memo.recalls c.loop-number.memo in
    let R = g.M.Memo.recalls c.lay_line.new.memo in
    let h = c.loop-number-test.true in
    let inv = c.loop-number.invariant in
    let told = c.lay_line.ensures in
    let l : Line = get_or ls k blank_line in
    let err = err_from_map_err _ _ c.lay_line.result c.in_err-h.field-0.0 c.in_err-h.ensures.cases in
    let f = err.0 in
    let at : c.in_err-h.field-0.0 ≡ record { line = k; fault = f } = search (rules, of_calls) in
    let is : c.from_residual-in_err-h.result ≡ Err (AtLine (record { line = k; fault = f })) = p.1 ∙ ap Err (p.2 ∙ ap AtLine at) in
    let long : length ls ≤ length hs = (let e = c.loop-number.auto in omega (arith, c.if-handles-lines.false)) in
    let here = get_or_default ls k blank_line l h in
    let stays = line_refused inv.0 l h here long u R f (subst (λ r. Lined o t u Q R (take k hs) k l r) err.1 told.lined) in
    record {
      laid = subst (λ r. Laid o s u P R (length c.args.rows.now) ls c.args.handles.now hs r) (sym is) (c.if-handles-lines.false, enough_rows (view c.args.table.now).inputs (length c.args.rows.now) c.check_rows.result c.check_rows.ensures (ok_from_map_err _ c.check_rows.result tt c.in_ok-map_err.ensures.cases), h, stays.0, stays.1);
      room = told.room ∙ inv.1;
      kept = λ run kept.
          subst (λ r. Kept o (room c.args.table.now) (lay ls (lay_answers ls hs r) ∷ run) u R) (sym is)
          (refused_answered inv.0 l h here long u R f (subst (λ n. LineKept o n t u Q R (take k hs) l (reason_answer f)) inv.1 (subst (λ r. LineKept o (room c.loop-number.table) t u Q R (take k hs) l (line_answer r)) err.1 told.kept)) run kept);
    }

pub loop-number-preserved : goal.loop-number-preserved
loop-number-preserved g c =
    let o = g.G.Algebra.ops in
    let ls = c.args.lines.now in
    let k = c.loop-number.number-counter in
    let hs = c.loop-number.handles in
    let t = view c.loop-number.table in
    let u = view c.lay_line.new.table in
    let Q = g.M.Memo.recalls c.loop-number.memo in
    let R = g.M.Memo.recalls c.lay_line.new.memo in
    let h = c.loop-number-test.true in
    let inv = c.loop-number.invariant in
    let told = c.lay_line.ensures in
    let x = c.in_ok-h.h in
    let l : Line = get_or ls k blank_line in
    let ok = ok_from_map_err _ c.lay_line.result x c.in_ok-h.ensures.cases in (
      laying_more inv.0 l h (get_or_default ls k blank_line l h) (let e = c.loop-number.auto in omega (arith, c.if-handles-lines.false)) u R x
          (subst (λ r. Lined o t u Q R (take k hs) k l r) ok told.lined)
          (subst (λ n. LineKept o n t u Q R (take k hs) l (line_answer (Ok x))) inv.1 (subst (λ r. LineKept o (room c.loop-number.table) t u Q R (take k hs) l (line_answer r)) ok told.kept)),
      told.room ∙ inv.1,
    )

pub returns : goal.returns
returns g c =
    let inv = c.loop-number.invariant in
    let end = c.loop-number-test.false in
    let done = laid_all inv.0 end in
    record {
      laid = (c.if-handles-lines.false, enough_rows (view c.args.table.now).inputs (length c.args.rows.now) c.check_rows.result c.check_rows.ensures (ok_from_map_err _ c.check_rows.result tt c.in_ok-map_err.ensures.cases), done.0, done.1);
      room = inv.1;
      kept = all_kept inv.0 end;
    }
