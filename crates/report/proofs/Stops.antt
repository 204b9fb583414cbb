-- Where the lines of a netlist stop, from what they were told. Assumes nothing.
use Rattle.std.proofs.Common.{◌≡◌, ℕ, suc, ◌+◌, ◌<◌, List, [], ◌∷◌, ◌++◌, map, reverse, length, get_or, take, drop, Some, None, Err, sym, ap, ◌∙◌, subst, ⊎_elim, append_assoc, add-one, arith}
use Rattle.std.specs.List.{AllByRecursion}
use Rattle.std.proofs.lemmas.List.{length-map, length-take-le, take_more}
use Rattle.std.proofs.ByRecursion.{All-get_or}
use Rattle.std.proofs.lemmas.Bool.{both_ways}
use Rattle.algebra.specs.Ops.{Ops}
use Rattle.netlist.specs.declared.line.Line.{Line}
use Rattle.netlist.specs.Signals.{Signal, constant}
use Rattle.netlist.specs.Parts.{part_count}
use Rattle.netlist.specs.Lines.{line_signals}
use Rattle.netlist.specs.Faults.{first_fault}
use Rattle.netlist.specs.Findings.{zipped}
use Rattle.netlist.proofs.LineSignals.{signals_length}
use Rattle.records.specs.declared.fault.TableFault.{TableFault}
use Rattle.records.specs.declared.fault.TableFault.TheVariants.{Full}
use Rattle.records.specs.Stores.{Store}
use Rattle.records.specs.Rules.{Lawful, lawful}
use Rattle.records.specs.Counts.{nth}
use Rattle.records.specs.Runs.{Answer, told, full, answer_of, Book, book_signals, step, all_booked, AllJudged}
use Rattle.records.proofs.Laying.{zipped_more}
use Rattle.faults.specs.declared.fault.LineReason.{LineReason}
use Rattle.faults.specs.declared.fault.LineReason.TheVariants.{Line as OfLine, Table as OfTable}
use Rattle.laying.specs.Lays.{TableRefuses, reason_answer, RefusedLine}
use Rattle.report.specs.Refusals.{first_over, earlier, refused_line}
use Rattle.report.proofs.Overs.{Roomy, over_none, over_at, over_later, neither, itself_earlier, room_earlier, fault_from}
use Rattle.report.proofs.Judgings.{Faring, faring_append, told_lawful, told_roomy, told_booked, full_over}

-- where all handles are lawful, the table refuses only for want of room
pub refuses_full : (o : Ops) (t : Store) (hs : List ℕ) (f : TableFault) → AllByRecursion (Lawful o t) hs → TableRefuses o t hs f → f ≡ Full
refuses_full o t hs f all refuses =
    ⊎_elim
    (λ e. e)
    (λ r. absurd (both_ways (lawful o t (get_or hs r.1.0 0)) r.1.2 (All-get_or (Lawful o t) hs r.1.0 0 r.1.1 all)))
    refuses

module _ (o : Ops) (n room : ℕ) (t : Store) (b : Book) (before : List Signal) (same : book_signals b ≡ reverse before) where
  -- the first k signals were told handles, and the next one something
  module _ (ss : List Signal) (hs : List ℕ) (k : ℕ) (count : length hs ≡ k) (h : k < length ss) where
    stopped : (a : Answer) → Faring o n room t b (zipped step ss (map told hs ++ a ∷ []))
        → Faring o n room t b (zipped step ss (map told hs)) × AllJudged o n room (all_booked (zipped step ss (map told hs)) b) (step (nth ss k) a ∷ [])
    stopped a faring =
        let e : zipped step ss (map told hs ++ a ∷ []) ≡ zipped step ss (map told hs) ++ step (nth ss k) a ∷ [] =
        zipped_more step ss (map told hs) (constant 0) a (omega (arith, length-map hs told)) ∙ ap (λ i. zipped step ss (map told hs) ++ step (nth ss i) a ∷ []) (length-map hs told ∙ count) in
        let r = faring_append o n room t (zipped step ss (map told hs)) (step (nth ss k) a ∷ []) b (subst (Faring o n room t b) e faring) in
        (r.0, r.1.0)

    pub stopped_lawful : (a : Answer) → Faring o n room t b (zipped step ss (map told hs ++ a ∷ [])) → AllByRecursion (Lawful o t) hs
    stopped_lawful a faring = told_lawful o n room t ss hs b (omega arith) (stopped a faring).0

    pub stopped_roomy : (a : Answer) → Faring o n room t b (zipped step ss (map told hs ++ a ∷ [])) → Roomy o n room before ss k
    stopped_roomy a faring = subst (Roomy o n room before ss) count (told_roomy o n room t ss hs b before same (omega arith) (stopped a faring).0.0)

    pub stopped_over : (f : TableFault) → f ≡ Full → Faring o n room t b (zipped step ss (map told hs ++ answer_of (Err f) ∷ [])) → first_over o n room before ss ≡ Some k
    stopped_over f e faring =
        over_at o n room before ss k h (stopped_roomy (answer_of (Err f)) faring)
        (subst (λ l. room < part_count o n l) signals
        (full_over o n room t (all_booked (zipped step ss (map told hs)) b) (before ++ take k ss) (nth ss k) booked
        (stopped full (subst (λ z. Faring o n room t b (zipped step ss (map told hs ++ answer_of (Err z) ∷ []))) e faring)).1))
      where
        booked : book_signals (all_booked (zipped step ss (map told hs)) b) ≡ reverse (before ++ take k ss)
        booked = told_booked ss hs b before same (omega arith) ∙ ap (λ i. reverse (before ++ take i ss)) count

        signals : (before ++ take k ss) ++ nth ss k ∷ [] ≡ before ++ take (suc k) ss
        signals = append_assoc before (take k ss) (nth ss k ∷ []) ∙ ap (λ l. before ++ l) (sym (take_more ss k (constant 0) h) ∙ ap (λ i. take i ss) (add-one k))

  -- all signals were told handles
  pub told_all : (ss : List Signal) (hs : List ℕ) → length hs ≡ length ss → Faring o n room t b (zipped step ss (map told hs)) → first_over o n room before ss ≡ None
  told_all ss hs count faring = over_none o n room before ss (length hs) (omega arith) (told_roomy o n room t ss hs b before same (omega arith) faring.0)

  pub lines_pass : (ls : List Line) (hs : List ℕ) → length hs ≡ length ls → first_fault o n 0 ls ≡ None → Faring o n room t b (zipped step (line_signals o n ls) (map told hs)) → refused_line o n room before ls ≡ None
  lines_pass ls hs count passed faring = neither _ _ passed (told_all (line_signals o n ls) hs (count ∙ sym (signals_length o n ls)) faring)

  pub line_stops : (ls : List Line) (hs : List ℕ) (k : ℕ) (r : LineReason) → length hs ≡ length ls → k < length ls → RefusedLine o n ls t (take k hs) k r
      → Faring o n room t b (zipped step (line_signals o n ls) (map told (take k hs) ++ reason_answer r ∷ []))
      → refused_line o n room before ls ≡ Some (record { line = k; fault = r })
  line_stops ls hs k (OfLine f) count h refused faring =
      let ss = line_signals o n ls in
      ap (λ x. earlier x (first_over o n room before ss)) refused
      ∙ itself_earlier (record { line = k; fault = f }) (first_over o n room before ss)
      (over_later o n room before ss k
      (stopped_roomy ss (take k hs) k (length-take-le k hs (omega arith)) (omega (arith, signals_length o n ls)) (reason_answer (OfLine f)) faring))
  line_stops ls hs k (OfTable f) count h refused faring =
      let ss = line_signals o n ls in
      let long = length-take-le k hs (omega arith) in
      let inside : k < length ss = omega (arith, signals_length o n ls) in
      let only = refuses_full o t (take k hs) f (stopped_lawful ss (take k hs) k long inside (answer_of (Err f)) faring) refused.1 in
      ap (earlier (first_fault o n 0 ls)) (stopped_over ss (take k hs) k long inside f only faring)
      ∙ room_earlier (first_fault o n 0 ls) k (λ g e. let p = fault_from o n (k + 1) (drop (k + 1) ls) g (sym refused.0 ∙ e) in omega arith)
      ∙ ap (λ z. Some (record { line = k; fault = OfTable z })) (sym only)
