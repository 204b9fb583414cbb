-- What a run of one compare that was kept says of the report: by its answer. Assumes nothing.
use Rattle.std.proofs.Common.{◌≡◌, ℕ, suc, ◌<◌, List, [], ◌∷◌, ◌++◌, map, reverse, length, take, Some, None, Ok, Err, sym, refl, ap, ◌∙◌, subst, ap₂, append_assoc, arith}
use Rattle.std.specs.List.{AllByRecursion}
use Rattle.std.proofs.lemmas.List.{length-map, length-take-le, take_all}
use Rattle.std.proofs.ByRecursion.{All-append}
use Rattle.algebra.specs.Ops.{Ops}
use Rattle.netlist.specs.declared.line.Line.{Line}
use Rattle.netlist.specs.declared.finding.Finding.{Finding}
use Rattle.netlist.specs.Signals.{Signal, joined}
use Rattle.netlist.specs.Parts.{part_count}
use Rattle.netlist.specs.Lines.{line_signals, outs, out_count}
use Rattle.netlist.specs.Faults.{first_fault}
use Rattle.netlist.specs.Findings.{findings, finding, zipped}
use Rattle.netlist.proofs.LineSignals.{signals_length}
use Rattle.netlist.proofs.OutValues.{outs_length}
use Rattle.netlist.proofs.Zips.{zipped_length}
use Rattle.text.specs.declared.writer.Summary.TheVariants.{Report}
use Rattle.text.specs.Reports.{fault_row, summary_row, findings_text}
use Rattle.records.specs.Faults.{table_fault_number}
use Rattle.records.specs.Stores.{Store}
use Rattle.records.specs.Rules.{Lawful}
use Rattle.memo.specs.Memos.{Pairs}
use Rattle.records.specs.Runs.{Answer, told, Run, compare, answer_of, Book, book_signals, Step, step, all_booked, kept_pairs, steps, book, Provided, AllTrue, Facts, Kept}
use Rattle.records.proofs.Books.{booked_append}
use Rattle.checking.specs.declared.checking.Checked.{Checked}
use Rattle.faults.specs.declared.fault.PairRefusal.{PairRefusal}
use Rattle.faults.specs.declared.fault.LayFault.TheVariants as lays
use Rattle.faults.specs.Faults.{LineRefusal, line_reason_number}
use Rattle.laying.specs.Lays.{TableRefuses, RefusedLine, lay_answers}
use Rattle.comparison.specs.Compares.{row_handles, row_findings, pairs_event}
use Rattle.report.specs.Refusals.{grade_signals, all_signals, refused_line}
use Rattle.report.specs.Reports.{compared}
use Rattle.report.proofs.Judgings.{Faring, faring_append, told_lawful, all_told_booked, booked_count}
use Rattle.report.proofs.Ends.{first_stops, second_stops, pair_stops, none_stops}
use Rattle.report.proofs.Stops.{refuses_full, stopped_over, told_all, lines_pass, line_stops}

pairs_told : (gs : List ℕ) → kept_pairs (map told gs) ≡ length gs
unfolding kept_pairs
pairs_told [] = refl
pairs_told (g ∷ gs) = ap suc (pairs_told gs)

grades_length : (o : Ops) (n : ℕ) (ls ms : List Line) {Z : Type 0} (f : Signal → Signal → Z) → out_count ms ≡ out_count ls → length (zipped f (outs ls (line_signals o n ls)) (outs ms (line_signals o n ms))) ≡ out_count ls
grades_length o n ls ms f even =
    let one = outs_length ls (line_signals o n ls) (signals_length o n ls) in
    let two = outs_length ms (line_signals o n ms) (signals_length o n ms) in
    zipped_length f (outs ls (line_signals o n ls)) (outs ms (line_signals o n ms)) (one ∙ sym (two ∙ even)) ∙ one

-- what is known after the one event of a run
record After (o : Ops) (n room : ℕ) (ls ms : List Line) (xs ys zs : List Answer) (fs : List Finding) (t : Store) : Type 0 where
  faring : Faring o n room t [] (steps o n [] (compare ls ms xs ys zs fs))
  used : t.used ≡ part_count o n (book_signals (all_booked (steps o n [] (compare ls ms xs ys zs fs)) []))
  told_truly : fs ≡ take (kept_pairs zs) (findings o n ls ms)

after : (o : Ops) (n room : ℕ) (ls ms : List Line) (xs ys zs : List Answer) (fs : List Finding) (t : Store) (Q : Pairs) → t.inputs ≡ n → Kept o room (compare ls ms xs ys zs fs ∷ []) t Q → After o n room ls ms xs ys zs fs t
unfolding Provided book AllTrue
after o n room ls ms xs ys zs fs t Q inputs kept =
    let run : Run = compare ls ms xs ys zs fs ∷ [] in
    let facts : Facts o n room run t Q = (subst (λ m. Provided o m run → Facts o m room run t Q) inputs kept) (tt, tt) in
    record { faring = (facts.found.all_true.0, facts.holds.handles); used = facts.found.exact_places; told_truly = facts.found.all_true.1.1 }

module _ (o : Ops) (n room : ℕ) (ls ms : List Line) (t : Store) (Q : Pairs) (inputs : t.inputs ≡ n) (even : out_count ms ≡ out_count ls) where
  pub first_comes : (hs : List ℕ) (e : LineRefusal) → length hs ≡ length ls → e.line < length ls → RefusedLine o n ls t (take e.line hs) e.line e.fault
      → Kept o room (compare ls ms (lay_answers ls hs (Err (lays.Line e))) [] [] [] ∷ []) t Q
      → compared room o n ls ms ≡ fault_row (line_reason_number e.fault) 1 (Some e.line)
  first_comes hs e long h refused kept =
      let known = after o n room ls ms (lay_answers ls hs (Err (lays.Line e))) [] [] [] t Q inputs kept in
      first_stops o n room ls ms even (record { line = e.line; fault = e.fault })
      (line_stops o n room t [] [] refl ls hs e.line e.fault long h refused (faring_append o n room t (zipped step (line_signals o n ls) (lay_answers ls hs (Err (lays.Line e)))) _ [] known.faring).0)

  -- the first netlist is laid
  module _ (hs : List ℕ) (long : length hs ≡ length ls) (passed : first_fault o n 0 ls ≡ None) where
    abbrev laid : List Step
    laid = zipped step (line_signals o n ls) (map told hs)

    abbrev one : Book
    one = all_booked laid []

    one_is : book_signals one ≡ reverse (line_signals o n ls)
    one_is = all_told_booked (line_signals o n ls) hs [] [] refl (long ∙ sym (signals_length o n ls))

    pub second_comes : (ks : List ℕ) (e : LineRefusal) → length ks ≡ length ms → e.line < length ms → RefusedLine o n ms t (take e.line ks) e.line e.fault
        → Kept o room (compare ls ms (map told hs) (lay_answers ms ks (Err (lays.Line e))) [] [] ∷ []) t Q
        → compared room o n ls ms ≡ fault_row (line_reason_number e.fault) 2 (Some e.line)
    second_comes ks e long' h refused kept =
        let known = after o n room ls ms (map told hs) (lay_answers ms ks (Err (lays.Line e))) [] [] t Q inputs kept in
        let split = faring_append o n room t laid _ [] known.faring in
        second_stops o n room ls ms even (lines_pass o n room t [] [] refl ls hs long passed split.0) (record { line = e.line; fault = e.fault })
        (line_stops o n room t one (line_signals o n ls) one_is ms ks e.line e.fault long' h refused
        (faring_append o n room t (zipped step (line_signals o n ms) (lay_answers ms ks (Err (lays.Line e)))) _ one split.1).0)

    -- and the second
    module _ (ks : List ℕ) (long' : length ks ≡ length ms) (passed' : first_fault o n 0 ms ≡ None) where
      abbrev laid' : List Step
      laid' = zipped step (line_signals o n ms) (map told ks)

      abbrev two : Book
      two = all_booked laid' one

      two_is : book_signals two ≡ reverse (line_signals o n ls ++ line_signals o n ms)
      two_is = all_told_booked (line_signals o n ms) ks one (line_signals o n ls) one_is (long' ∙ sym (signals_length o n ms))

      -- the steps of both, and then those of the pairs
      record Both (zs : List Answer) : Type 0 where
        first : Faring o n room t [] laid
        second : Faring o n room t one laid'
        pairs : Faring o n room t two (zipped step (grade_signals o n ls ms) zs)

      both : (zs : List Answer) → Faring o n room t [] (laid ++ (laid' ++ zipped step (grade_signals o n ls ms) zs)) → Both zs
      both zs faring =
          let a = faring_append o n room t laid (laid' ++ zipped step (grade_signals o n ls ms) zs) [] faring in
          let b = faring_append o n room t laid' (zipped step (grade_signals o n ls ms) zs) one a.1 in
          record { first = a.0; second = b.0; pairs = b.1 }

      module _ (zs : List Answer) (split : Both zs) where
        first_passes : refused_line o n room [] ls ≡ None
        first_passes = lines_pass o n room t [] [] refl ls hs long passed split.first

        second_passes : refused_line o n room (line_signals o n ls) ms ≡ None
        second_passes = lines_pass o n room t one (line_signals o n ls) one_is ms ks long' passed' split.second

        all_lawful : AllByRecursion (Lawful o t) (hs ++ ks)
        all_lawful =
            All-append (Lawful o t) hs ks
            (told_lawful o n room t (line_signals o n ls) hs [] (omega (arith, signals_length o n ls)) split.first)
            (told_lawful o n room t (line_signals o n ms) ks one (omega (arith, signals_length o n ms)) split.second)

      pub pair_comes : (cs : List Checked) (e : PairRefusal) → length cs ≡ out_count ls → e.pair < out_count ls → TableRefuses o t (hs ++ ks) e.fault
          → Kept o room (pairs_event ls ms hs ks cs (Err e) ∷ []) t Q
          → compared room o n ls ms ≡ fault_row (table_fault_number e.fault) 0 (Some e.pair)
      pair_comes cs e count h refuses kept =
          let gs = row_handles (take e.pair cs) in
          let zs = map told gs ++ answer_of (Err e.fault) ∷ [] in
          let known = after o n room ls ms (map told hs) (map told ks) zs (row_findings (take e.pair cs)) t Q inputs kept in
          let split = both zs known.faring in
          let only = refuses_full o t (hs ++ ks) e.fault (all_lawful zs split) refuses in
          let grades : length (grade_signals o n ls ms) ≡ out_count ls = grades_length o n ls ms (joined o 9) even in
          let made : length gs ≡ e.pair = length-map (take e.pair cs) (λ c. c.handle) ∙ length-take-le e.pair cs (omega arith) in
          pair_stops o n room ls ms even (first_passes zs split) (second_passes zs split) e.pair
          (stopped_over o n room t two (line_signals o n ls ++ line_signals o n ms) two_is (grade_signals o n ls ms) gs e.pair made (omega arith) e.fault only split.pairs)
          ∙ ap (λ f. fault_row (table_fault_number f) 0 (Some e.pair)) (sym only)

      pub all_come : (cs : List Checked) → length cs ≡ out_count ls → Kept o room (pairs_event ls ms hs ks cs (Ok tt) ∷ []) t Q
          → compared room o n ls ms ≡ summary_row (out_count ls) Report t.used ++ findings_text o.letter n 0 (row_findings cs)
      all_come cs count kept =
          let gs = row_handles cs in
          let zs = map told gs in
          let known = after o n room ls ms (map told hs) (map told ks) zs (row_findings cs) t Q inputs kept in
          let split = both zs known.faring in
          let grades : length (grade_signals o n ls ms) ≡ out_count ls = grades_length o n ls ms (joined o 9) even in
          let made : length gs ≡ out_count ls = length-map cs (λ c. c.handle) ∙ count in
          none_stops o n room ls ms even (first_passes zs split) (second_passes zs split)
          (told_all o n room t two (line_signals o n ls ++ line_signals o n ms) two_is (grade_signals o n ls ms) gs (made ∙ sym grades) split.pairs)
          ∙ ap₂ (λ u fs. summary_row (out_count ls) Report u ++ findings_text o.letter n 0 fs)
          (sym (known.used ∙ ap (λ b. part_count o n (book_signals b)) (booked_append laid (laid' ++ zipped step (grade_signals o n ls ms) zs) [] ∙ booked_append laid' (zipped step (grade_signals o n ls ms) zs) one)
          ∙ booked_count o n (all_booked (zipped step (grade_signals o n ls ms) zs) two) (all_signals o n ls ms)
          (all_told_booked (grade_signals o n ls ms) gs two (line_signals o n ls ++ line_signals o n ms) two_is (made ∙ sym grades)
          ∙ ap reverse (append_assoc (line_signals o n ls) (line_signals o n ms) (grade_signals o n ls ms)))))
          (sym (known.told_truly ∙ take_all (kept_pairs zs) (findings o n ls ms) (omega (arith, grades_length o n ls ms (finding o n) even, pairs_told gs))))
