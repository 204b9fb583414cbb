use Rattle.std.proofs.Common.{◌≡◌, ◌+◌, ◌-◌, ◌<◌, [], ◌∷◌, ◌++◌, map, length, take, drop, Ok, Err, sym, refl, ap, ◌∙◌, subst, ap₂, arith, rules, of_calls}
use borrow.Rule.Slice.PartMut.{put_mid, post_of}
use Rattle.std.proofs.lemmas.List.{length-take-le}
use Rattle.std.proofs.lemmas.Result.{err_from_is_err_and}
use Rattle.netlist.specs.Faults.{first_fault}
use Rattle.records.specs.Runs.{told, Run, lay, compare, Kept}
use Rattle.diagram.specs.Views.{view, room}
use Rattle.records.proofs.Adds.{grows_trans}
use Rattle.records.proofs.Shapes.{well}
use Rattle.faults.proofs.Lifts.{ok_from_map_err, err_from_map_err}
use Rattle.faults.specs.declared.fault.CompareFault.TheVariants.{First, Second, Pair}
use Rattle.laying.specs.Lays.{TableRefuses, lay_answers}
use Rattle.comparison.specs.Compares.{parts_event, PartsCompared, no_pairs, pairs_event, second_part}
use Rattle.comparison.proofs.Comparings.{laid_ok, laid_refused, refused_since, answers_all, one_laid, two_laid, front_first, back_first, rest_first, parted, parts_moved, event_moved}
use Rattle.comparison.proofs.comparing.compare_parts.Goals as goal

pub returns-in_err-map_err : goal.returns-in_err-map_err
returns-in_err-map_err g c =
    let p = err_from_is_err_and c.from_residual.result c.from_residual.ensures.1 in
    let o = g.G.Algebra.ops in
    let n = room c.args.table.now in
    let s = view c.args.table.now in
    let t = view c.lay.new.table in
    let P = g.M.Memo.recalls c.args.memo.now in
    let Q = g.M.Memo.recalls c.lay.new.memo in
    let ls = c.args.first.now in
    let ms = c.args.second.now in
    let xs = c.args.handles.now in
    let a = length ls in
    let b = length ms in
    let hs = c.lay.new.handles in
    let e0 : a - 0 ≡ a = omega arith in
    let long : length (take (a - 0) xs) ≡ a = length-take-le (a - 0) xs (omega (arith, c.requires.long)) ∙ e0 in
    let lu : length hs ≡ a = c.lay.auto.handles ∙ long in
    let old : take a xs ≡ take (a - 0) xs = ap (λ k. take k xs) (sym e0) in
    let H = hs ++ post_of 0 (a - 0) xs in
    let front : take a H ≡ hs = front_first a b (a - 0) xs hs e0 lu in
    let err = err_from_map_err _ _ c.lay.result c.in_err-map_err.field-0.0 c.in_err-map_err.ensures.cases in
    let d = err.0 in
    let made : c.in_err-map_err.field-0.0 ≡ First d = search (rules, of_calls) in
    let is : c.from_residual.result ≡ Err (First d) = p.1 ∙ ap Err (p.2 ∙ made) in
    record {
      compared =
          parts_moved o s t ls ms (take a xs) (take (a - 0) xs) (take a H) hs (second_part ls ms xs) (second_part ls ms xs) (second_part ls ms H) (second_part ls ms xs) c.args.found.now c.args.found.now c.from_residual.result old front refl (back_first a b (a - 0) xs hs e0 lu)
          (subst (λ r. PartsCompared o s t ls ms (take (a - 0) xs) hs (second_part ls ms xs) (second_part ls ms xs) c.args.found.now c.args.found.now r) (sym is)
          (laid_refused o s t P Q (length c.args.rows.now) ls (take (a - 0) xs) hs long c.requires.rows c.lay.result d err.1 c.lay.ensures.laid, refl, refl));
      rest = rest_first a b (a - 0) xs hs e0 lu;
      room = c.lay.ensures.room;
      kept = λ run kept.
          event_moved o n t Q run ls ms (take a H) hs (second_part ls ms H) (second_part ls ms H) c.args.found.now c.from_residual.result front refl
          (subst (λ r. Kept o n (parts_event ls ms hs (second_part ls ms H) c.args.found.now r ∷ run) t Q) (sym is)
          (one_laid g.G.Algebra.laws (well c.lay.new.table.well) n Q run ls ms (lay_answers ls hs (Err d))
          (subst (λ r. Kept o n (lay ls (lay_answers ls hs r) ∷ run) t Q) err.1 (c.lay.ensures.kept run kept))));
    }

pub returns-in_err-map_err-2 : goal.returns-in_err-map_err-2
returns-in_err-map_err-2 g c =
    let p = err_from_is_err_and c.from_residual-in_err-map_err-2.result c.from_residual-in_err-map_err-2.ensures.1 in
    let o = g.G.Algebra.ops in
    let n = room c.args.table.now in
    let s = view c.args.table.now in
    let t = view c.lay.new.table in
    let P = g.M.Memo.recalls c.args.memo.now in
    let Q = g.M.Memo.recalls c.lay.new.memo in
    let ls = c.args.first.now in
    let ms = c.args.second.now in
    let xs = c.args.handles.now in
    let a = length ls in
    let b = length ms in
    let hs = c.lay.new.handles in
    let u = view c.lay-2.new.table in
    let R = g.M.Memo.recalls c.lay-2.new.memo in
    let ks = c.lay-2.new.handles in
    let mid = hs ++ post_of 0 (a - 0) xs in
    let both = parted a b xs hs ks c.requires.long c.lay.auto.handles c.lay-2.auto.handles in
    let H = put_mid a (a + b - a) mid ks in
    let one = ok_from_map_err _ c.lay.result tt c.in_ok-map_err.ensures.cases in
    let first = laid_ok o s t P Q (length c.args.rows.now) ls (take (a - 0) xs) hs both.long c.requires.rows c.lay.result one c.lay.ensures.laid in
    let enough : t.inputs < length c.lay.new.rows = (let e = first.1.inputs in omega (arith, c.requires.rows, c.lay.auto.rows)) in
    let err = err_from_map_err _ _ c.lay-2.result c.in_err-map_err-2.field-0.0 c.in_err-map_err-2.ensures.cases in
    let d = err.0 in
    let made : c.in_err-map_err-2.field-0.0 ≡ Second d = search (rules, of_calls) in
    let r = c.from_residual-in_err-map_err-2.result in
    let is : r ≡ Err (Second d) = p.1 ∙ ap Err (p.2 ∙ made) in
    record {
      compared =
          parts_moved o s u ls ms (take a xs) (take (a - 0) xs) (take a H) hs (second_part ls ms xs) (take (a + b - a) (drop a mid)) (second_part ls ms H) ks c.args.found.now c.args.found.now r both.old both.front both.old2 both.back
          (subst (λ r. PartsCompared o s u ls ms (take (a - 0) xs) hs (take (a + b - a) (drop a mid)) ks c.args.found.now c.args.found.now r) (sym is) (
            first.0,
            refused_since o s t u ms (take (a + b - a) (drop a mid)) ks first.1 d
                (laid_refused o t u Q R (length c.lay.new.rows) ms (take (a + b - a) (drop a mid)) ks both.long2 enough c.lay-2.result d err.1 c.lay-2.ensures.laid),
            refl,
          ));
      rest = both.rest;
      room = c.lay-2.ensures.room ∙ c.lay.ensures.room;
      kept = λ run kept.
          event_moved o n u R run ls ms (take a H) hs (second_part ls ms H) ks c.args.found.now r both.front both.back
          (subst (λ r. Kept o n (parts_event ls ms hs ks c.args.found.now r ∷ run) u R) (sym is)
          (subst (λ r. Kept o n (compare ls ms (map told hs) (lay_answers ms ks r) [] [] ∷ run) u R) err.1
          (two_laid g.G.Algebra.laws (well c.lay-2.new.table.well) n (room c.lay.new.table) c.lay.ensures.room P Q R ls ms hs (lay_answers ls hs c.lay.result) (lay_answers ms ks c.lay-2.result)
          (answers_all ls hs c.lay.result one both.lu) c.lay.ensures.kept c.lay-2.ensures.kept run kept)));
    }

pub check_pairs-requires : goal.check_pairs-requires
check_pairs-requires g c =
    let o = g.G.Algebra.ops in
    let n = room c.args.table.now in
    let s = view c.args.table.now in
    let t = view c.lay.new.table in
    let P = g.M.Memo.recalls c.args.memo.now in
    let Q = g.M.Memo.recalls c.lay.new.memo in
    let ls = c.args.first.now in
    let ms = c.args.second.now in
    let xs = c.args.handles.now in
    let a = length ls in
    let b = length ms in
    let hs = c.lay.new.handles in
    let u = view c.lay-2.new.table in
    let R = g.M.Memo.recalls c.lay-2.new.memo in
    let ks = c.lay-2.new.handles in
    let mid = hs ++ post_of 0 (a - 0) xs in
    let both = parted a b xs hs ks c.requires.long c.lay.auto.handles c.lay-2.auto.handles in
    let H = put_mid a (a + b - a) mid ks in
    let one = ok_from_map_err _ c.lay.result tt c.in_ok-map_err.ensures.cases in
    let first = laid_ok o s t P Q (length c.args.rows.now) ls (take (a - 0) xs) hs both.long c.requires.rows c.lay.result one c.lay.ensures.laid in
    let enough : t.inputs < length c.lay.new.rows = (let e = first.1.inputs in omega (arith, c.requires.rows, c.lay.auto.rows)) in
    let two = ok_from_map_err _ c.lay-2.result tt c.in_ok-map_err-2.ensures.cases in
    let second = laid_ok o t u Q R (length c.lay.new.rows) ms (take (a + b - a) (drop a mid)) ks both.long2 enough c.lay-2.result two c.lay-2.ensures.laid in
    record {
      left = ap length both.isl ∙ both.lu;
      right = ap length both.isr ∙ both.lv;
      even = c.requires.even;
      room = c.requires.room;
      rows = let e = second.1.inputs in omega (arith, enough, c.lay-2.auto.rows);
    }

pub returns-in_err-check_pairs : goal.returns-in_err-check_pairs
returns-in_err-check_pairs g c =
    let p = err_from_is_err_and c.from_residual-in_err-check_pairs.result c.from_residual-in_err-check_pairs.ensures.1 in
    let o = g.G.Algebra.ops in
    let n = room c.args.table.now in
    let s = view c.args.table.now in
    let t = view c.lay.new.table in
    let P = g.M.Memo.recalls c.args.memo.now in
    let Q = g.M.Memo.recalls c.lay.new.memo in
    let ls = c.args.first.now in
    let ms = c.args.second.now in
    let xs = c.args.handles.now in
    let a = length ls in
    let b = length ms in
    let hs = c.lay.new.handles in
    let u = view c.lay-2.new.table in
    let R = g.M.Memo.recalls c.lay-2.new.memo in
    let ks = c.lay-2.new.handles in
    let mid = hs ++ post_of 0 (a - 0) xs in
    let both = parted a b xs hs ks c.requires.long c.lay.auto.handles c.lay-2.auto.handles in
    let H = put_mid a (a + b - a) mid ks in
    let one = ok_from_map_err _ c.lay.result tt c.in_ok-map_err.ensures.cases in
    let first = laid_ok o s t P Q (length c.args.rows.now) ls (take (a - 0) xs) hs both.long c.requires.rows c.lay.result one c.lay.ensures.laid in
    let enough : t.inputs < length c.lay.new.rows = (let e = first.1.inputs in omega (arith, c.requires.rows, c.lay.auto.rows)) in
    let v = view c.check_pairs.new.table in
    let S = g.M.Memo.recalls c.check_pairs.new.memo in
    let two = ok_from_map_err _ c.lay-2.result tt c.in_ok-map_err-2.ensures.cases in
    let second = laid_ok o t u Q R (length c.lay.new.rows) ms (take (a + b - a) (drop a mid)) ks both.long2 enough c.lay-2.result two c.lay-2.ensures.laid in
    let grows = grows_trans first.1 second.1 in
    let same = c.lay-2.ensures.room ∙ c.lay.ensures.room in
    let laid : (run : Run) → Kept o n run s P → Kept o n (no_pairs ls ms hs ks ∷ run) u R =
    λ run kept.
    subst (λ z. Kept o n (compare ls ms (map told hs) z [] [] ∷ run) u R) (answers_all ms ks c.lay-2.result two both.lv)
    (two_laid g.G.Algebra.laws (well c.lay-2.new.table.well) n (room c.lay.new.table) c.lay.ensures.room P Q R ls ms hs (lay_answers ls hs c.lay.result) (lay_answers ms ks c.lay-2.result)
    (answers_all ls hs c.lay.result one both.lu) c.lay.ensures.kept c.lay-2.ensures.kept run kept) in
    let none = ap (λ k. first_fault o k 0 ms) (sym first.1.inputs) ∙ second.0 in
    let cs = c.check_pairs.new.found in
    let e = c.in_err-check_pairs.field-0.0 in
    let pairs = c.in_err-check_pairs.ensures in
    let r = c.from_residual-in_err-check_pairs.result in
    let is : r ≡ Err (Pair e) = p.1 ∙ ap Err p.2 in
    record {
      compared =
          parts_moved o s v ls ms (take a xs) (take (a - 0) xs) (take a H) hs (second_part ls ms xs) (take (a + b - a) (drop a mid)) (second_part ls ms H) ks c.args.found.now cs r both.old both.front both.old2 both.back
          (subst (λ r. PartsCompared o s v ls ms (take (a - 0) xs) hs (take (a + b - a) (drop a mid)) ks c.args.found.now cs r) (sym is)
          (first.0, none, (grows_trans grows pairs.checked.0, pairs.checked.1, subst (λ z. TableRefuses o v z e.fault) (ap₂ (λ x y. x ++ y) both.isl both.isr) pairs.checked.2, pairs.checked.3)));
      rest = both.rest;
      room = pairs.room ∙ same;
      kept = λ run kept.
          event_moved o n v S run ls ms (take a H) hs (second_part ls ms H) ks cs r both.front both.back
          (subst (λ r. Kept o n (parts_event ls ms hs ks cs r ∷ run) v S) (sym is)
          (subst (λ z. Kept o n (no_pairs ls ms z ks ∷ run) u R → Kept o n (pairs_event ls ms z ks cs (Err e) ∷ run) v S) both.isl
          (subst (λ z. Kept o n (no_pairs ls ms (take (a - 0) H) z ∷ run) u R → Kept o n (pairs_event ls ms (take (a - 0) H) z cs (Err e) ∷ run) v S) both.isr
          (subst (λ m. Kept o m (no_pairs ls ms (take (a - 0) H) (take (a + b - a) (drop a H)) ∷ run) u R → Kept o m (pairs_event ls ms (take (a - 0) H) (take (a + b - a) (drop a H)) cs (Err e) ∷ run) v S) same (pairs.kept run)))
          (laid run kept)));
    }

pub returns : goal.returns
returns g c =
    let o = g.G.Algebra.ops in
    let n = room c.args.table.now in
    let s = view c.args.table.now in
    let t = view c.lay.new.table in
    let P = g.M.Memo.recalls c.args.memo.now in
    let Q = g.M.Memo.recalls c.lay.new.memo in
    let ls = c.args.first.now in
    let ms = c.args.second.now in
    let xs = c.args.handles.now in
    let a = length ls in
    let b = length ms in
    let hs = c.lay.new.handles in
    let u = view c.lay-2.new.table in
    let R = g.M.Memo.recalls c.lay-2.new.memo in
    let ks = c.lay-2.new.handles in
    let mid = hs ++ post_of 0 (a - 0) xs in
    let both = parted a b xs hs ks c.requires.long c.lay.auto.handles c.lay-2.auto.handles in
    let H = put_mid a (a + b - a) mid ks in
    let one = ok_from_map_err _ c.lay.result tt c.in_ok-map_err.ensures.cases in
    let first = laid_ok o s t P Q (length c.args.rows.now) ls (take (a - 0) xs) hs both.long c.requires.rows c.lay.result one c.lay.ensures.laid in
    let enough : t.inputs < length c.lay.new.rows = (let e = first.1.inputs in omega (arith, c.requires.rows, c.lay.auto.rows)) in
    let v = view c.check_pairs.new.table in
    let S = g.M.Memo.recalls c.check_pairs.new.memo in
    let two = ok_from_map_err _ c.lay-2.result tt c.in_ok-map_err-2.ensures.cases in
    let second = laid_ok o t u Q R (length c.lay.new.rows) ms (take (a + b - a) (drop a mid)) ks both.long2 enough c.lay-2.result two c.lay-2.ensures.laid in
    let grows = grows_trans first.1 second.1 in
    let same = c.lay-2.ensures.room ∙ c.lay.ensures.room in
    let laid : (run : Run) → Kept o n run s P → Kept o n (no_pairs ls ms hs ks ∷ run) u R =
    λ run kept.
    subst (λ z. Kept o n (compare ls ms (map told hs) z [] [] ∷ run) u R) (answers_all ms ks c.lay-2.result two both.lv)
    (two_laid g.G.Algebra.laws (well c.lay-2.new.table.well) n (room c.lay.new.table) c.lay.ensures.room P Q R ls ms hs (lay_answers ls hs c.lay.result) (lay_answers ms ks c.lay-2.result)
    (answers_all ls hs c.lay.result one both.lu) c.lay.ensures.kept c.lay-2.ensures.kept run kept) in
    let none = ap (λ k. first_fault o k 0 ms) (sym first.1.inputs) ∙ second.0 in
    let cs = c.check_pairs.new.found in
    let pairs = c.in_ok-check_pairs.ensures in
    record {
      compared =
          parts_moved o s v ls ms (take a xs) (take (a - 0) xs) (take a H) hs (second_part ls ms xs) (take (a + b - a) (drop a mid)) (second_part ls ms H) ks c.args.found.now cs (Ok tt) both.old both.front both.old2 both.back
          (first.0, none, grows_trans grows pairs.checked);
      rest = both.rest;
      room = pairs.room ∙ same;
      kept = λ run kept.
          event_moved o n v S run ls ms (take a H) hs (second_part ls ms H) ks cs (Ok tt) both.front both.back
          (subst (λ z. Kept o n (no_pairs ls ms z ks ∷ run) u R → Kept o n (pairs_event ls ms z ks cs (Ok tt) ∷ run) v S) both.isl
          (subst (λ z. Kept o n (no_pairs ls ms (take (a - 0) H) z ∷ run) u R → Kept o n (pairs_event ls ms (take (a - 0) H) z cs (Ok tt) ∷ run) v S) both.isr
          (subst (λ m. Kept o m (no_pairs ls ms (take (a - 0) H) (take (a + b - a) (drop a H)) ∷ run) u R → Kept o m (pairs_event ls ms (take (a - 0) H) (take (a + b - a) (drop a H)) cs (Ok tt) ∷ run) v S) same (pairs.kept run)))
          (laid run kept));
    }
