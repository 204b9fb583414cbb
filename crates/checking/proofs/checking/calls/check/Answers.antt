use Rattle.std.proofs.Common.{◌≤◌, length, Ok, Err, subst}
use Rattle.std.proofs.lemmas.Result.{err_from_is_err_and}
use Rattle.diagram.specs.Views.{view, room}
use Rattle.records.proofs.Shapes.{well}
use Rattle.checking.proofs.Checks.{check_found, check_kept}
use Rattle.checking.proofs.checking.calls.check.Goals as goal

pub returns-in_err-handle : goal.returns-in_err-handle
returns-in_err-handle g c =
    let p = err_from_is_err_and c.from_residual.result c.from_residual.ensures.1 in
    let told = c.in_err-handle.ensures in
    rw (p.1, p.2) record {
      shape = told.shape;
      meaning = told.meaning;
      found = λ _ _. tt;
      room = told.room;
      fits = told.fits;
      kept =
          check_kept g.G.Algebra.laws (well c.args.table.now.well) (well c.join.new.self.well) (room c.args.table.now) (subst (λ n. (view c.join.new.self).used ≤ n) told.room told.fits) (g.M.Memo.recalls c.args.memo.now) (g.M.Memo.recalls c.join.new.memo) (length c.args.rows.now) c.args.x c.args.y (Err c.in_err-handle.field-0.0)
          told.shape told.meaning (λ _ _. tt);
    }

pub returns : goal.returns
returns g c =
    let told = c.in_ok-handle.ensures in
    let w = well c.args.table.now.well in
    let P = g.M.Memo.recalls c.args.memo.now in
    let Q = g.M.Memo.recalls c.join.new.memo in
    let n = room c.args.table.now in
    let rows = length c.args.rows.now in
    let h = c.in_ok-handle.handle in
    record {
      shape = told.shape;
      meaning = told.meaning;
      found = check_found w P Q n rows c.args.x c.args.y h told.shape told.meaning c.grade_pair-finding.result c.grade_pair-finding.ensures;
      room = told.room;
      fits = told.fits;
      kept =
          check_kept g.G.Algebra.laws w (well c.join.new.self.well) n (subst (λ n. (view c.join.new.self).used ≤ n) told.room told.fits) P Q rows c.args.x c.args.y (Ok (record { handle = h; finding = c.grade_pair-finding.result }))
          told.shape told.meaning (check_found w P Q n rows c.args.x c.args.y h told.shape told.meaning c.grade_pair-finding.result c.grade_pair-finding.ensures);
    }
