use Rattle.std.proofs.Common.{◌≡◌, ◌-◌, ◌∷◌, ◌++◌, length, Ok, Err, sym, refl, ap, ◌∙◌, subst, arith, rules, of_calls}
use borrow.Rule.Slice.PartMut.{post_of}
use Rattle.std.proofs.lemmas.List.{length-take-le}
use Rattle.std.proofs.lemmas.Result.{err_from_is_err_and}
use Rattle.netlist.specs.Lines.{out_count}
use Rattle.records.specs.Runs.{Kept}
use Rattle.faults.specs.declared.fault.CompareFault.TheVariants.{Counts, Table}
use Rattle.diagram.specs.Views.{view, room}
use Rattle.faults.proofs.Lifts.{ok_from_map_err, err_from_map_err, enough_rows, few_rows}
use Rattle.records.proofs.Shapes.{well}
use Rattle.comparison.specs.Compares.{Compared, compare_event}
use Rattle.comparison.proofs.Comparings.{none_laid, counts_refused, begun_refused, begun, rows_event_kept}
use Rattle.comparison.proofs.comparing.compare.Goals as goal

pub returns-in_err-pairs : goal.returns-in_err-pairs
returns-in_err-pairs g c =
    let p = err_from_is_err_and c.from_residual.result c.from_residual.ensures.1 in
    let o = g.G.Algebra.ops in
    let n = room c.args.table.now in
    let s = view c.args.table.now in
    let P = g.M.Memo.recalls c.args.memo.now in
    let ls = c.args.first.now in
    let ms = c.args.second.now in
    let hs = c.args.handles.now in
    let cs = c.args.found.now in
    let e = c.in_err-pairs.field-0.0 in
    let x = c.in_err-pairs.ensures in
    let is : c.from_residual.result ≡ Err (Counts e) = p.1 ∙ ap Err p.2 in
    record {
      compared = subst (λ r. Compared o s s P P (length c.args.rows.now) ls ms hs hs cs cs r) (sym is) (counts_refused o s P (length c.args.rows.now) ls ms hs cs e x);
      room = refl;
      kept = λ run kept.
          subst (λ r. Kept o n (compare_event ls ms hs cs r ∷ run) s P) (sym is)
          (none_laid g.G.Algebra.laws (well c.args.table.now.well) n P ls ms run kept);
    }

pub returns-in_err-map_err : goal.returns-in_err-map_err
returns-in_err-map_err g c =
    let p = err_from_is_err_and c.from_residual-in_err-map_err.result c.from_residual-in_err-map_err.ensures.1 in
    let o = g.G.Algebra.ops in
    let n = room c.args.table.now in
    let s = view c.args.table.now in
    let P = g.M.Memo.recalls c.args.memo.now in
    let ls = c.args.first.now in
    let ms = c.args.second.now in
    let hs = c.args.handles.now in
    let cs = c.args.found.now in
    let rows = length c.args.rows.now in
    let err = err_from_map_err _ _ c.check_rows.result c.in_err-map_err.field-0.0 c.in_err-map_err.ensures.cases in
    let told = few_rows s.inputs rows c.check_rows.result c.check_rows.ensures err.0 err.1 in
    let made : c.in_err-map_err.field-0.0 ≡ Table err.0 = search (rules, of_calls) in
    let is : c.from_residual-in_err-map_err.result ≡ Err (Table err.0) = p.1 ∙ ap Err (p.2 ∙ made) in
    record {
      compared = subst (λ r. Compared o s s P P rows ls ms hs hs cs cs r) (sym is) (c.in_ok-pairs.ensures.1, told.1, told.0, record { table = refl; memo = refl; handles = refl; found = refl });
      room = refl;
      kept = λ run kept.
          subst (λ r. Kept o n (compare_event ls ms hs cs r ∷ run) s P) (sym is)
          (none_laid g.G.Algebra.laws (well c.args.table.now.well) n P ls ms run kept);
    }

pub compare_parts-requires : goal.compare_parts-requires
compare_parts-requires g c =
    let k = c.in_ok-pairs.pairs in
    let told = c.in_ok-pairs.ensures in
    record {
      long = told.1.values;
      even = told.1.pairs;
      room = length-take-le k c.args.found.now (let h = told.1.findings in omega arith) ∙ told.0;
      rows = enough_rows (view c.args.table.now).inputs (length c.args.rows.now) c.check_rows.result c.check_rows.ensures (ok_from_map_err _ c.check_rows.result tt c.in_ok-map_err.ensures.cases);
    }

pub returns-in_err-compare_parts : goal.returns-in_err-compare_parts
returns-in_err-compare_parts g c =
    let p = err_from_is_err_and c.from_residual-in_err-compare_parts.result c.from_residual-in_err-compare_parts.ensures.1 in
    let o = g.G.Algebra.ops in
    let n = room c.args.table.now in
    let s = view c.args.table.now in
    let t = view c.compare_parts.new.table in
    let P = g.M.Memo.recalls c.args.memo.now in
    let Q = g.M.Memo.recalls c.compare_parts.new.memo in
    let ls = c.args.first.now in
    let ms = c.args.second.now in
    let hs = c.args.handles.now in
    let hs' = c.compare_parts.new.handles in
    let cs = c.args.found.now in
    let ds = c.compare_parts.new.found in
    let k = c.in_ok-pairs.pairs in
    let counted = c.in_ok-pairs.ensures in
    let e = c.in_err-compare_parts.field-0.0 in
    let told = c.in_err-compare_parts.ensures in
    let is : c.from_residual-in_err-compare_parts.result ≡ Err e = p.1 ∙ ap Err p.2 in
    let rows = length c.args.rows.now in
    let enough = enough_rows (view c.args.table.now).inputs (length c.args.rows.now) c.check_rows.result c.check_rows.ensures (ok_from_map_err _ c.check_rows.result tt c.in_ok-map_err.ensures.cases) in
    let new = ds ++ post_of 0 k cs in
    record {
      compared = subst (λ r. Compared o s t P Q rows ls ms hs hs' cs new r) (sym is)
          (begun_refused o s t P Q rows ls ms hs hs' cs new e
          (begun o s t rows ls ms hs hs' cs ds k counted.0 c.compare_parts.auto.found counted.1 (Err e) enough told.compared told.rest));
      room = told.room;
      kept = λ run kept.
          subst (λ r. Kept o n (compare_event ls ms hs' new r ∷ run) t Q) (sym is)
          (rows_event_kept o s t rows ls ms hs hs' cs ds k counted.0 c.compare_parts.auto.found counted.1 n run Q (Err e) (told.kept run kept));
    }

pub returns : goal.returns
returns g c =
    let o = g.G.Algebra.ops in
    let n = room c.args.table.now in
    let s = view c.args.table.now in
    let t = view c.compare_parts.new.table in
    let Q = g.M.Memo.recalls c.compare_parts.new.memo in
    let ls = c.args.first.now in
    let ms = c.args.second.now in
    let hs = c.args.handles.now in
    let hs' = c.compare_parts.new.handles in
    let cs = c.args.found.now in
    let ds = c.compare_parts.new.found in
    let k = c.in_ok-pairs.pairs in
    let counted = c.in_ok-pairs.ensures in
    let told = c.in_ok-compare_parts.ensures in
    let rows = length c.args.rows.now in
    let enough = enough_rows (view c.args.table.now).inputs (length c.args.rows.now) c.check_rows.result c.check_rows.ensures (ok_from_map_err _ c.check_rows.result tt c.in_ok-map_err.ensures.cases) in
    record {
      compared = (counted.0, begun o s t rows ls ms hs hs' cs ds k counted.0 c.compare_parts.auto.found counted.1 (Ok tt) enough told.compared told.rest);
      room = told.room;
      kept = λ run kept. rows_event_kept o s t rows ls ms hs hs' cs ds k counted.0 c.compare_parts.auto.found counted.1 n run Q (Ok tt) (told.kept run kept);
    }
