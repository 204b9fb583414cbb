use Rattle.std.proofs.Common.{◌+◌, ◌≤◌, min, length, sym, ap, ◌∙◌, subst, arith, rules}
use Rattle.std.proofs.lemmas.Bool.Decides.{when_true}
use Rattle.memo.specs.Memos.{Puts}
use Rattle.records.specs.Makings.{From}
use Rattle.records.specs.Stores.{level}
use Rattle.diagram.specs.Tasks.{number_of}
use Rattle.diagram.specs.Views.{view, room}
use Rattle.records.proofs.Adds.{grows_trans}
use Rattle.records.proofs.Descents.{moved_from, some_row, low_rows, high_rows, low_beyond, high_beyond}
use Rattle.records.proofs.Halves.{halved}
use Rattle.records.proofs.Shapes.{well}
use Rattle.records.proofs.Values.{within_grows}
use Rattle.records.proofs.Walking.{recalled_result, shape_out, walked_out_low, walked_out_high, walked_out_made, walked_made}
use Rattle.diagram.proofs.walk.+walk.Goals as goal

pub split_at_mut-own-requires : goal.split_at_mut-own-requires
split_at_mut-own-requires g t c = some_row (well c.args.table.now.well) c.args.task.x c.args.task.y (length c.args.rows.now) c.requires.x c.requires.rows

pub returns-then-is_from-clause-meaning : goal.returns-then-is_from-clause-meaning
returns-then-is_from-clause-meaning g t c =
    let o = g.G.Algebra.ops in
    let s = view c.args.table.now in
    let r : From s c.min-input.result c.in-Some-get.h = when_true _ (Unit {0}) c.if-is_from.true c.is_from.ensures in
    λ sound pairs lx ly.
    recalled_result o s (g.M.Memo.recalls c.args.memo.now) (number_of c.args.task.operation) c.args.task.x c.args.task.y c.in-Some-get.h (sym (c.get.ensures ∙ ap (λ k. g.M.Memo.recalls c.args.memo.now k.op k.x k.y) c.key-key.ensures) ∙ c.in-Some-get.is) sound pairs

pub walk-requires : goal.walk-requires
walk-requires g t c κs within =
    let cut = halved g.G.Algebra.laws (well c.args.table.now.well) c.args.task.x c.args.task.y c.cut.result c.requires.x c.requires.y c.cut.ensures in
    let rest : length c.args.rows.now ≤ length c.split_at_mut-own.result.1.now + 1 = omega (arith, c.split_at_mut-own.ensures.back_len) in
    let rows = low_rows _ _ _ _ _ _ _ _ (length c.split_at_mut-own.result.1.now) cut c.requires.rows rest in
    (search rules, (within.0, (within.1, (cut.low.beyond.within, (cut.low_other.beyond.within, rows)))))

pub returns-in_err-own : goal.returns-in_err-own
returns-in_err-own g t c =
    let laws = g.G.Algebra.laws in
    let recalls = g.M.Memo.recalls in
    let s = view c.args.table.now in
    let t1 = view c.walk.new.table in
    let w = well c.args.table.now.well in
    let row = c.cut.result in
    let cut = halved laws {s = s} w c.args.task.x c.args.task.y row c.requires.x c.requires.y c.cut.ensures in
    let err = c.from_residual.ensures.0 in
    record {
      grows = c.walk.ensures.grows;
      room = c.walk.ensures.room;
      shape = shape_out s t1 c.args.task.x c.args.task.y c.from_residual.result err;
      meaning =
          walked_out_low laws s w (recalls c.args.memo.now) (number_of c.args.task.operation) c.args.task.x c.args.task.y row.input row.low row.high row.low_other row.high_other cut t1
          (room c.args.table.now) (recalls c.walk.new.memo) c.from_residual.result err c.walk.ensures.grows c.in_err-own.ensures.meaning;
    }

pub walk-requires-2 : goal.walk-requires-2
walk-requires-2 g t c κs within =
    let cut = halved g.G.Algebra.laws (well c.args.table.now.well) c.args.task.x c.args.task.y c.cut.result c.requires.x c.requires.y c.cut.ensures in
    let grows = c.walk.ensures.grows in
    let rest : length c.args.rows.now ≤ length c.walk.new.rows + 1 = omega (arith, c.split_at_mut-own.ensures.back_len, c.walk.auto.rows) in
    let rows = high_rows _ _ _ _ _ _ _ _ (length c.walk.new.rows) cut c.requires.rows rest grows in
    (search rules, (within.0, (within.1, (within_grows grows _ cut.high.beyond.within, (within_grows grows _ cut.high_other.beyond.within, rows)))))

pub returns-in_err-high : goal.returns-in_err-high
returns-in_err-high g t c =
    let laws = g.G.Algebra.laws in
    let recalls = g.M.Memo.recalls in
    let s = view c.args.table.now in
    let t1 = view c.walk.new.table in
    let t2 = view c.walk-2.new.table in
    let w = well c.args.table.now.well in
    let row = c.cut.result in
    let cut = halved laws {s = s} w c.args.task.x c.args.task.y row c.requires.x c.requires.y c.cut.ensures in
    let err = c.from_residual-in_err-high.ensures.0 in
    record {
      grows = grows_trans {s = s} {t = t1} {u = t2} c.walk.ensures.grows c.walk-2.ensures.grows;
      room = c.walk-2.ensures.room ∙ c.walk.ensures.room;
      shape = shape_out s t2 c.args.task.x c.args.task.y c.from_residual-in_err-high.result err;
      meaning =
          walked_out_high laws s w (recalls c.args.memo.now) (number_of c.args.task.operation) c.args.task.x c.args.task.y row.input row.low row.high row.low_other row.high_other cut
          t1 (well c.walk.new.table.well) c.walk.ensures.grows (recalls c.walk.new.memo) c.in_ok-own.field-0 c.in_ok-own.ensures.meaning
          t2 (room c.args.table.now) (room c.walk.new.table) (recalls c.walk-2.new.memo) c.from_residual-in_err-high.result err c.walk.ensures.room
          c.walk-2.ensures.grows c.in_err-high.ensures.meaning;
    }

pub make-requires : goal.make-requires
make-requires g t c =
    let cut = halved g.G.Algebra.laws (well c.args.table.now.well) c.args.task.x c.args.task.y c.cut.result c.requires.x c.requires.y c.cut.ensures in
    let first = c.walk.ensures.grows in
    let second = c.walk-2.ensures.grows in
    record {
      inside = omega (arith, first.inputs, second.inputs, cut.inside);
      low = low_beyond _ _ _ _ _ _ _ cut first second c.in_ok-own.field-0 c.in_ok-own.ensures.shape;
      high = high_beyond _ _ _ _ _ _ _ cut first second c.in_ok-high.high c.in_ok-high.ensures.shape;
    }

pub returns-in_err-h : goal.returns-in_err-h
returns-in_err-h g t c =
    let laws = g.G.Algebra.laws in
    let recalls = g.M.Memo.recalls in
    let s = view c.args.table.now in
    let t1 = view c.walk.new.table in
    let t2 = view c.walk-2.new.table in
    let t3 = view c.make.new.self in
    let w = well c.args.table.now.well in
    let row = c.cut.result in
    let cut = halved laws {s = s} w c.args.task.x c.args.task.y row c.requires.x c.requires.y c.cut.ensures in
    let err = c.from_residual-in_err-h.ensures.0 in
    let places = c.walk-2.ensures.room ∙ c.walk.ensures.room in
    record {
      grows = grows_trans {s = s} {t = t1} {u = t3} c.walk.ensures.grows (grows_trans {s = t1} {t = t2} {u = t3} c.walk-2.ensures.grows c.make.ensures.grows);
      room = c.make.ensures.room ∙ places;
      shape = shape_out s t3 c.args.task.x c.args.task.y c.from_residual-in_err-h.result err;
      meaning =
          walked_out_made laws s w (recalls c.args.memo.now) (number_of c.args.task.operation) c.args.task.x c.args.task.y row.input row.low row.high row.low_other row.high_other cut
          t1 (well c.walk.new.table.well) c.walk.ensures.grows (recalls c.walk.new.memo) c.in_ok-own.field-0 c.in_ok-own.ensures.meaning
          t2 (well c.walk-2.new.table.well) c.walk-2.ensures.grows (recalls c.walk-2.new.memo) c.in_ok-high.high c.in_ok-high.ensures.meaning
          t3 (room c.args.table.now) (room c.walk-2.new.table) (recalls c.walk-2.new.memo) c.from_residual-in_err-h.result err places c.in_err-h.ensures.shape
          c.in_err-h.ensures.meaning;
    }

pub returns : goal.returns
returns g t c =
    let laws = g.G.Algebra.laws in
    let recalls = g.M.Memo.recalls in
    let s = view c.args.table.now in
    let t1 = view c.walk.new.table in
    let t2 = view c.walk-2.new.table in
    let t3 = view c.make.new.self in
    let w = well c.args.table.now.well in
    let row = c.cut.result in
    let cut = halved laws {s = s} w c.args.task.x c.args.task.y row c.requires.x c.requires.y c.cut.ensures in
    record {
      grows = grows_trans {s = s} {t = t1} {u = t3} c.walk.ensures.grows (grows_trans {s = t1} {t = t2} {u = t3} c.walk-2.ensures.grows c.make.ensures.grows);
      room = c.make.ensures.room ∙ c.walk-2.ensures.room ∙ c.walk.ensures.room;
      shape = moved_from t3 row.input (min (level s c.args.task.x) (level s c.args.task.y)) c.in_ok-h.h c.cut.ensures.input_is c.in_ok-h.ensures.shape;
      meaning =
          walked_made laws s w (recalls c.args.memo.now) (number_of c.args.task.operation) c.args.task.x c.args.task.y row.input row.low row.high row.low_other row.high_other cut
          t1 (well c.walk.new.table.well) c.walk.ensures.grows (recalls c.walk.new.memo) c.in_ok-own.field-0 c.in_ok-own.ensures.meaning
          t2 (well c.walk-2.new.table.well) c.walk-2.ensures.grows (recalls c.walk-2.new.memo) c.in_ok-high.high c.in_ok-high.ensures.meaning
          t3 c.make.ensures.grows (recalls c.put.new.self) c.in_ok-h.h c.in_ok-h.ensures.meaning (subst (λ k. Puts (recalls c.walk-2.new.memo) (recalls c.put.new.self) k.op k.x k.y c.in_ok-h.h) c.key-key.ensures c.put.ensures);
    }
