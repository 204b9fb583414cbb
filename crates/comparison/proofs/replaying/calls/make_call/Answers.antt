use Rattle.std.proofs.Common.{◌≡◌, ◌∷◌, length, drop, sym, refl, subst}
use Rattle.diagram.specs.Views.{view, room}
use Rattle.records.specs.Runs as runs
use Rattle.records.specs.Runs.{answer_of, given, Kept}
use Rattle.records.proofs.Stepping.{inputs_kept}
use Rattle.comparison.specs.declared.replaying.Told.TheVariants.{Handle, Check, Lay, Compare}
use Rattle.checking.specs.Checks.{handle_of, check_event}
use Rattle.laying.specs.Lays.{Laid, lay_answers}
use Rattle.comparison.specs.Compares.{Compared, compare_event}
use Rattle.comparison.specs.Replays.{span_of}
use Rattle.comparison.specs.States.{handles_for, rows_for, state, Called, input, constant, turn, join, check, lay, compare}
use Rattle.comparison.proofs.Reruns.{laid_inputs, compared_inputs, laid_rest, compared_rest}
use Rattle.comparison.proofs.replaying.calls.make_call.Goals as goal

pub returns-in-Input : goal.returns-in-Input
returns-in-Input g c =
    let o = g.G.Algebra.ops in
    let recalls = g.M.Memo.recalls in
    let hs = c.args.handles.now in
    let fs = c.args.found.now in
    let s = view c.args.table.now in
    let t = view c.input.new.self in
    let P = recalls c.args.memo.now in
    let Q = recalls c.input.new.memo in
    let r = c.input.result in
    let told = c.input.ensures in
    record {
      room = told.room;
      inputs = inputs_kept s t P Q _ r told.shape;
      made =
          subst (λ z. Called o (room c.args.table.now) (length c.args.rows.now) c.args.lines.now (state s P hs fs) z (Handle r) (state t Q hs fs)) (sym c.in-Input.is)
          (runs.input c.in-Input.i (answer_of r), input c.in-Input.i r told.shape, told.kept);
      handles = refl;
      found = refl;
    }

pub returns-in-Constant : goal.returns-in-Constant
returns-in-Constant g c =
    let o = g.G.Algebra.ops in
    let hs = c.args.handles.now in
    let fs = c.args.found.now in
    let s = view c.args.table.now in
    let P = g.M.Memo.recalls c.args.memo.now in
    let r = c.constant.result in
    let told = c.constant.ensures in
    record {
      room = refl;
      inputs = refl;
      made =
          subst (λ z. Called o (room c.args.table.now) (length c.args.rows.now) c.args.lines.now (state s P hs fs) z (Handle r) (state s P hs fs)) (sym c.in-Constant.is)
          (runs.constant c.in-Constant.v (answer_of r), constant c.in-Constant.v r told.shape, told.kept P);
      handles = refl;
      found = refl;
    }

pub returns-in-Turn : goal.returns-in-Turn
returns-in-Turn g c =
    let o = g.G.Algebra.ops in
    let recalls = g.M.Memo.recalls in
    let hs = c.args.handles.now in
    let fs = c.args.found.now in
    let s = view c.args.table.now in
    let t = view c.turn.new.self in
    let P = recalls c.args.memo.now in
    let Q = recalls c.turn.new.memo in
    let x = c.in-Turn.x in
    let r = c.turn.result in
    let told = c.turn.ensures in
    record {
      room = told.room;
      inputs = inputs_kept s t P Q _ r told.shape;
      made =
          subst (λ z. Called o (room c.args.table.now) (length c.args.rows.now) c.args.lines.now (state s P hs fs) z (Handle r) (state t Q hs fs)) (sym c.in-Turn.is)
          (runs.turn (given o s x) (answer_of r), turn x r told.shape, told.kept);
      handles = refl;
      found = refl;
    }

pub returns-in-Join : goal.returns-in-Join
returns-in-Join g c =
    let o = g.G.Algebra.ops in
    let recalls = g.M.Memo.recalls in
    let hs = c.args.handles.now in
    let fs = c.args.found.now in
    let s = view c.args.table.now in
    let t = view c.join.new.self in
    let P = recalls c.args.memo.now in
    let Q = recalls c.join.new.memo in
    let k = c.in-Join.op in
    let x = c.in-Join.x in
    let y = c.in-Join.y in
    let r = c.join.result in
    let told = c.join.ensures in
    record {
      room = told.room;
      inputs = inputs_kept s t P Q _ r told.shape;
      made =
          subst (λ z. Called o (room c.args.table.now) (length c.args.rows.now) c.args.lines.now (state s P hs fs) z (Handle r) (state t Q hs fs)) (sym c.in-Join.is)
          (runs.join k (given o s x) (given o s y) (answer_of r), join k x y r told.shape, told.kept);
      handles = refl;
      found = refl;
    }

pub returns-in-Check : goal.returns-in-Check
returns-in-Check g c =
    let o = g.G.Algebra.ops in
    let recalls = g.M.Memo.recalls in
    let hs = c.args.handles.now in
    let fs = c.args.found.now in
    let s = view c.args.table.now in
    let t = view c.check.new.table in
    let P = recalls c.args.memo.now in
    let Q = recalls c.check.new.memo in
    let x = c.in-Check.x in
    let y = c.in-Check.y in
    let r = c.check.result in
    let told = c.check.ensures in
    record {
      room = told.room;
      inputs = inputs_kept s t P Q _ (handle_of r) told.shape;
      made =
          subst (λ z. Called o (room c.args.table.now) (length c.args.rows.now) c.args.lines.now (state s P hs fs) z (Check r) (state t Q hs fs)) (sym c.in-Check.is)
          (check_event o s x y r, check x y r told.shape, told.kept);
      handles = refl;
      found = refl;
    }

pub returns-in-Lay : goal.returns-in-Lay
returns-in-Lay g c =
    let o = g.G.Algebra.ops in
    let recalls = g.M.Memo.recalls in
    let n = room c.args.table.now in
    let work = length c.args.rows.now in
    let lines = c.args.lines.now in
    let hs = c.args.handles.now in
    let hs' = c.lay.new.handles in
    let fs = c.args.found.now in
    let s = view c.args.table.now in
    let t = view c.lay.new.table in
    let P = recalls c.args.memo.now in
    let Q = recalls c.lay.new.memo in
    let a = c.in-Lay.span in
    let ls = span_of lines a in
    let r = c.lay.result in
    let told = c.lay.ensures in
    let laid : Laid o s t P Q work ls hs hs' r = subst (λ z. Laid o s t P Q work z hs hs' r) c.of.ensures told.laid in
    record {
      room = told.room;
      inputs = laid_inputs o s t P Q work ls hs hs' r laid;
      made =
          subst (λ z. Called o n work lines (state s P hs fs) z (Lay r) (state t Q hs' fs)) (sym c.in-Lay.is)
          (runs.lay ls (lay_answers ls hs' r), lay a r laid, λ run kept. subst (λ z. Kept o n (runs.lay z (lay_answers z hs' r) ∷ run) t Q) c.of.ensures (told.kept run kept));
      handles = subst (λ z. drop (handles_for lines z) hs' ≡ drop (handles_for lines z) hs) (sym c.in-Lay.is) (laid_rest o s t P Q work ls hs hs' r laid);
      found = refl;
    }

pub returns-in-Compare : goal.returns-in-Compare
returns-in-Compare g c =
    let o = g.G.Algebra.ops in
    let recalls = g.M.Memo.recalls in
    let n = room c.args.table.now in
    let work = length c.args.rows.now in
    let lines = c.args.lines.now in
    let hs = c.args.handles.now in
    let hs' = c.compare.new.handles in
    let fs = c.args.found.now in
    let fs' = c.compare.new.found in
    let s = view c.args.table.now in
    let t = view c.compare.new.table in
    let P = recalls c.args.memo.now in
    let Q = recalls c.compare.new.memo in
    let a = c.in-Compare.a in
    let b = c.in-Compare.b in
    let ls = span_of lines a in
    let ms = span_of lines b in
    let r = c.compare.result in
    let told = c.compare.ensures in
    let compared : Compared o s t P Q work ls ms hs hs' fs fs' r =
    subst (λ z. Compared o s t P Q work ls z hs hs' fs fs' r) c.of-in-Compare-2.ensures
    (subst (λ z. Compared o s t P Q work z c.of-in-Compare-2.result.now hs hs' fs fs' r) c.of-in-Compare.ensures told.compared) in
    let rests = compared_rest o s t P Q work ls ms hs hs' fs fs' r compared in
    record {
      room = told.room;
      inputs = compared_inputs o s t P Q work ls ms hs hs' fs fs' r compared;
      made =
          subst (λ z. Called o n work lines (state s P hs fs) z (Compare r) (state t Q hs' fs')) (sym c.in-Compare.is) (
            compare_event ls ms hs' fs' r,
            compare a b r compared,
            λ run kept.
                subst (λ z. Kept o n (compare_event ls z hs' fs' r ∷ run) t Q) c.of-in-Compare-2.ensures
                (subst (λ z. Kept o n (compare_event z c.of-in-Compare-2.result.now hs' fs' r ∷ run) t Q) c.of-in-Compare.ensures (told.kept run kept)),
          );
      handles = subst (λ z. drop (handles_for lines z) hs' ≡ drop (handles_for lines z) hs) (sym c.in-Compare.is) rests.0;
      found = subst (λ z. drop (rows_for lines z) fs' ≡ drop (rows_for lines z) fs) (sym c.in-Compare.is) rests.1;
    }
