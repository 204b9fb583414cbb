use Rattle.std.proofs.Common.{◌≡◌, ℕ, ◌+◌, ◌-◌, ◌≤◌, min, [], length, set, Err, sym, refl, ap, ◌∙◌, subst, arith, rules, of_calls}
use borrow.Rule.Slice.PartMut.{put_mid}
use Rattle.std.proofs.lemmas.List.{get_or_default}
use Rattle.std.proofs.lemmas.Result.{err_from_is_err_and}
use Rattle.diagram.specs.Views.{view, room}
use Rattle.records.specs.Runs.{Kept}
use Rattle.records.proofs.Shapes.{well}
use Rattle.faults.proofs.Lifts.{ok_from_map_err, err_from_map_err}
use Rattle.comparison.specs.declared.replaying.ReplayFault.TheVariants.{Table}
use Rattle.comparison.specs.Replays.{ReplayAnswer}
use Rattle.comparison.specs.States.{state, ReplayLent}
use Rattle.comparison.proofs.Reruns.{apart, apart_on, apart_off, Running, running_none, running_on, running_all, lent_short, lent_refused}
use Rattle.comparison.proofs.replaying.calls.replay_lending.Goals as goal
use Rattle.comparison.proofs.replaying.calls.replay_lending.Goals.{then-this-ne0, else-this-ne0}

pub returns-then-told-calls-clause-lent : goal.returns-then-told-calls-clause-lent
returns-then-told-calls-clause-lent g c =
    let here = state (view c.args.table.now) (g.M.Memo.recalls c.args.memo.now) c.args.handles.now c.args.found.now in
    lent_short g.G.Algebra.ops (room c.args.table.now) c.args.inputs (length c.args.rows.now) c.args.lines.now c.args.calls.now here here c.args.told.now refl (apart g.row.APART) c.if-told-calls.true

pub returns-in_err-map_err : goal.returns-in_err-map_err
returns-in_err-map_err g c =
    let p = err_from_is_err_and c.from_residual.result c.from_residual.ensures.1 in
    let o = g.G.Algebra.ops in
    let n = room c.args.table.now in
    let s = view c.args.table.now in
    let t = view c.start.new.self in
    let P = g.M.Memo.recalls c.args.memo.now in
    let Q = g.M.Memo.recalls c.start.new.memo in
    let hs = c.args.handles.now in
    let fs = c.args.found.now in
    let told = c.args.told.now in
    let err = err_from_map_err _ _ c.start.result c.in_err-map_err.field-0.0 c.in_err-map_err.ensures.cases in
    let f = err.0 in
    let made : c.in_err-map_err.field-0.0 ≡ Table f = search (rules, of_calls) in
    let is : c.from_residual.result ≡ Err (Table f) = p.1 ∙ ap Err (p.2 ∙ made) in
    let stopped = rw err.1 at c.start.ensures.outcome in
    let fits : length c.args.calls.now ≤ length told = omega (arith, c.if-told-calls.false) in
    let same : state t Q hs fs ≡ state s P hs fs = ap (λ z. state z Q hs fs) stopped.table ∙ ap (λ z. state s z hs fs) stopped.memo in
    record {
      answer =
          subst (λ r. ReplayAnswer o n c.args.inputs c.args.lines.now c.args.calls.now s t P Q told told r) (sym is)
          (fits, stopped.why, record { table = stopped.table; memo = stopped.memo; told = refl });
      lent =
          subst (λ r. ReplayLent (apart g.row.APART) o n c.args.inputs (length c.args.rows.now) c.args.lines.now c.args.calls.now (state s P hs fs) (state t Q hs fs) told told r) (sym is)
          (lent_refused o n c.args.inputs (length c.args.rows.now) c.args.lines.now c.args.calls.now (state s P hs fs) (state t Q hs fs) told same (apart g.row.APART) f fits stopped.why);
      room = c.start.ensures.room;
    }

pub loop-number-init : goal.loop-number-init
loop-number-init g c =
    let o = g.G.Algebra.ops in
    let table = c.start.new.self in
    let pairs = g.M.Memo.recalls c.start.new.memo in
    let ok = ok_from_map_err _ c.start.result tt c.in_ok-map_err.ensures.cases in
    let begun = rw ok at c.start.ensures.outcome in
    let kept = rw ok at c.start.ensures.kept in (
      running_none (apart g.row.APART) o (room table) c.args.inputs (length c.args.rows.now) c.args.lines.now c.args.calls.now (view table) pairs c.args.handles.now c.args.found.now c.args.told.now
          (subst (λ m. Kept o m [] (view table) pairs) (sym c.start.ensures.room) (kept o)) begun.table begun.memo,
      refl,
    )

pub loop-number-preserved : goal.loop-number-preserved
loop-number-preserved g c =
    let o = g.G.Algebra.ops in
    let inv = c.loop-number.invariant in
    let running = inv.0 in
    let ls = c.args.lines.now in
    let hs = c.loop-number.handles in
    let fs = c.loop-number.found in
    let next = c.loop-number.next in
    let row = c.loop-number.row in
    let i = c.loop-number.number in
    let table = c.make_call.new.table in
    let Q = g.M.Memo.recalls c.make_call.new.memo in
    let told = c.make_call.ensures in
    let h = c.loop-number-test.true in
    let hs' = c.make_call.new.handles in
    let fs' = c.make_call.new.found in
    let hsN = put_mid next (length hs - next) hs hs' in
    let fsN = put_mid row (length fs - row) fs fs' in
    let After : ℕ → ℕ → ℕ → Type 0 = λ m a b. Running (apart g.row.APART) o m c.args.inputs (length c.args.rows.now) ls c.args.calls.now c.args.handles.now c.args.found.now c.args.told.now (view table) Q hsN fsN (set c.loop-number.told i c.make_call.result) (i + 1) a b in
    let more =
    running_on running _ c.make_call.result h (let e = c.loop-number.auto.told in omega (arith, c.if-told-calls.false)) (get_or_default c.args.calls.now i _ _ h) told.inputs
    c.make_call.auto.handles told.handles c.make_call.auto.found told.found c.loop-number.auto.rows told.made
    in (
      subst (λ m. After m c.if-this-ne0.next c.if-this-ne0.row) (sym told.room)
          (elim c.if-this-ne0.branch as (λ _. After (room c.loop-number.table) c.if-this-ne0.next c.if-this-ne0.row) [
            | then-this-ne0 w ↦
                subst (λ a. After (room c.loop-number.table) a c.if-this-ne0.row) (sym w.next-is)
                (subst (λ b. After (room c.loop-number.table) (next + w.min-next.result) b) (sym w.row-is)
                (more.0 (apart_on g.row.APART (omega arith)) w.min-next.result w.min-row.result
                (w.min-next.ensures ∙ ap (λ n. min n (length hsN - next)) w.handles_for.ensures) (w.min-row.ensures ∙ ap (λ n. min n (length fsN - row)) w.rows_for.ensures)))
            | else-this-ne0 w ↦
                subst (λ a. After (room c.loop-number.table) a c.if-this-ne0.row) (sym w.next-is)
                (subst (λ b. After (room c.loop-number.table) next b) (sym w.row-is) (more.1 (apart_off g.row.APART (omega arith))))
          ]),
      told.room ∙ inv.1,
    )

pub returns : goal.returns
returns g c =
    let o = g.G.Algebra.ops in
    let inv = c.loop-number.invariant in
    let table = c.loop-number.table in
    let before = state (view c.args.table.now) (g.M.Memo.recalls c.args.memo.now) c.args.handles.now c.args.found.now in
    let e : room table ≡ room c.args.table.now = inv.1 ∙ c.start.ensures.room in
    let ended : c.loop-number.number ≡ length c.args.calls.now = omega (arith, c.loop-number-test.false, c.loop-number.auto.number-end) in
    let fits : length c.args.calls.now ≤ length c.args.told.now = omega (arith, c.if-told-calls.false) in
    let few : c.args.inputs ≤ 60 = omega (arith, (well table.well).few, inv.0.inputs) in
    let running =
    subst (λ m. Running (apart g.row.APART) o m c.args.inputs (length c.args.rows.now) c.args.lines.now c.args.calls.now c.args.handles.now c.args.found.now c.args.told.now (view table) (g.M.Memo.recalls c.loop-number.memo) c.loop-number.handles c.loop-number.found c.loop-number.told c.loop-number.number c.loop-number.next c.loop-number.row) e inv.0
    in
    let ran = running_all (apart g.row.APART) before running ended fits few in
    record { answer = (fits, few, ran.1); lent = ran.0; room = e }
