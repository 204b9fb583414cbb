-- What compare answered is what is reported. Assumes nothing.
use Rattle.std.proofs.Common.{◌≡◌, ℕ, ◌+◌, ◌<◌, ◌≤◌, List, [], ◌∷◌, ◌++◌, length, take, drop, None, Ok, Err, Result, sym, refl, ap, ◌∙◌, subst, arith, length-drop}
use Rattle.std.proofs.lemmas.List.{length-take, length-take-le}
use Rattle.algebra.specs.Ops.{Ops}
use Rattle.netlist.specs.declared.line.Line.{Line}
use Rattle.netlist.specs.Lines.{out_count}
use Rattle.netlist.specs.Faults.{first_fault}
use Rattle.netlist.proofs.OutLines.{few_outs}
use Rattle.text.specs.declared.writer.Summary.TheVariants.{Report}
use Rattle.text.specs.Reports.{summary_row, findings_text}
use Rattle.records.specs.Stores.{Store}
use Rattle.memo.specs.Memos.{Pairs}
use Rattle.records.specs.Runs.{Run, Kept}
use Rattle.checking.specs.declared.checking.Checked.{Checked}
use Rattle.netlist.specs.declared.fault.CountFault.TheVariants as counts
use Rattle.faults.specs.declared.fault.LayFault.TheVariants as lays
use Rattle.faults.specs.declared.fault.CompareFault.{CompareFault}
use Rattle.faults.specs.declared.fault.CompareFault.TheVariants.{Counts, Table, First, Second, Pair}
use Rattle.laying.specs.Lays.{RefusedLine}
use Rattle.comparison.specs.Compares.{row_findings, second_part, Compared, compare_event}
use Rattle.report.specs.Reports.{compared}
use Rattle.report.specs.Outcomes.{ComesTo}
use Rattle.report.proofs.Ends.{counts_stop}
use Rattle.report.proofs.Answered.{first_comes, second_comes, pair_comes, all_come}

module _ (o : Ops) (room rows n : ℕ) (ls ms : List Line) (s t : Store) (P Q : Pairs) (hs hs' : List ℕ) (cs cs' : List Checked) (inputs : s.inputs ≡ n) (long : length ls + length ms ≤ length hs) (few : out_count ls ≤ length cs) (enough : n < rows) (same : length hs' ≡ length hs) (same' : length cs' ≡ length cs) where
  first_long : length (take (length ls) hs') ≡ length ls
  first_long = length-take-le (length ls) hs' (omega arith)

  second_long : length (second_part ls ms hs') ≡ length ms
  second_long = length-take-le (length ms) (drop (length ls) hs') (omega (arith, length-drop (length ls) hs'))

  rows_long : (xs : List Checked) → length xs ≡ length cs → length (take (out_count ls) xs) ≡ out_count ls
  rows_long xs e = length-take-le (out_count ls) xs (omega arith)

  at_n : (ls : List Line) → first_fault o s.inputs 0 ls ≡ None → first_fault o n 0 ls ≡ None
  at_n ls e = subst (λ m. first_fault o m 0 ls ≡ None) inputs e

  -- the answer, the places in use and the rows that are left are what is reported
  pub comes_to : (r : Result ℕ CompareFault) → Compared o s t P Q rows ls ms hs hs' cs cs' r → Kept o room (compare_event ls ms hs' cs' r ∷ []) t Q → ComesTo o n room ls ms t.used cs' r
  comes_to (Ok k) x kept =
      let parts = x.1.parts in (
        x.0,
        subst (λ z. compared room o n ls ms ≡ summary_row z Report t.used ++ findings_text o.letter n 0 (row_findings (take z cs'))) (sym x.0)
            (all_come o n room ls ms t Q (parts.2.inputs ∙ inputs) x.1.counted.pairs (take (length ls) hs') first_long (at_n ls parts.0) (second_part ls ms hs') second_long (at_n ms parts.1) (take (out_count ls) cs') (rows_long cs' same') kept),
      )
  comes_to (Err (Counts counts.ShortList)) x kept = absurd (let h = x.0 in omega arith)
  comes_to (Err (Counts counts.FewFindings)) x kept = absurd (let h = x.0.1 in omega arith)
  comes_to (Err (Counts counts.OutCounts)) x kept = counts_stop o n room ls ms x.0.2
  comes_to (Err (Table f)) x kept = absurd (let h = x.1 in omega arith)
  comes_to (Err (First lays.ShortList)) x kept = absurd x.parts.0
  comes_to (Err (First (lays.Table f))) x kept = absurd x.parts.0
  comes_to (Err (First (lays.Line e))) x kept =
      let line = x.parts.0 in
      first_comes o n room ls ms t Q (line.2.grows.inputs ∙ inputs) x.counted.pairs (take (length ls) hs') e first_long line.0
      (subst (λ m. RefusedLine o m ls t (take e.line (take (length ls) hs')) e.line e.fault) inputs line.1) kept
  comes_to (Err (Second lays.ShortList)) x kept = absurd x.parts.1
  comes_to (Err (Second (lays.Table f))) x kept = absurd x.parts.1
  comes_to (Err (Second (lays.Line e))) x kept =
      let line = x.parts.1 in
      second_comes o n room ls ms t Q (line.2.grows.inputs ∙ inputs) x.counted.pairs (take (length ls) hs') first_long (at_n ls x.parts.0) (second_part ls ms hs') e second_long line.0
      (subst (λ m. RefusedLine o m ms t (take e.line (second_part ls ms hs')) e.line e.fault) inputs line.1) kept
  comes_to (Err (Pair e)) x kept =
      let parts = x.parts in
      pair_comes o n room ls ms t Q (parts.2.0.inputs ∙ inputs) x.counted.pairs (take (length ls) hs') first_long (at_n ls parts.0) (second_part ls ms hs') second_long (at_n ms parts.1) (take (out_count ls) cs') e (rows_long cs' same')
      (let h = parts.2.1 in omega (arith, rows_long cs refl)) parts.2.2 kept

-- .. where compare is the first call on a table that was started, and a workspace lends the first lines of its lists x and y
pub started_comes : (o : Ops) (room room' rows n k l lines : ℕ) (x x' y y' : List Line) (s t : Store) (P Q : Pairs) (hs hs' : List ℕ) (cs cs' : List Checked)
    → x ≡ x' → y ≡ y' → s.inputs ≡ n → n ≤ 60 → rows ≡ 61 → k ≤ lines → l ≤ lines → length hs ≡ lines + lines → length cs ≡ lines
    → length hs' ≡ length hs → length cs' ≡ length cs → room' ≡ room → Kept o room [] s P → (r : Result ℕ CompareFault) → Compared o s t P Q rows (take k x) (take l y) hs hs' cs cs' r
    → ((run : Run) → Kept o room' run s P → Kept o room' (compare_event (take k x) (take l y) hs' cs' r ∷ run) t Q) → ComesTo o n room (take k x') (take l y') t.used cs' r
started_comes o room room' rows n k l lines x x' y y' s t P Q hs hs' cs cs' ex ey inputs narrow deep hk hl long paired same same' e begun r compared kept =
    let ls = take k x in
    let ms = take l y in
    let few : length ls ≤ lines = omega (arith, length-take k x) in
    let few' : length ms ≤ lines = omega (arith, length-take l y) in
    let comes : ComesTo o n room ls ms t.used cs' r =
    comes_to o room rows n ls ms s t P Q hs hs' cs cs' inputs (omega arith) (let h = few_outs ls in omega arith) (omega arith) same same' r compared
    (subst (λ m. Kept o m (compare_event ls ms hs' cs' r ∷ []) t Q) e (kept [] (subst (λ m. Kept o m [] s P) (sym e) begun))) in
    subst (λ z. ComesTo o n room (take k x') (take l z) t.used cs' r) ey (subst (λ z. ComesTo o n room (take k z) ms t.used cs' r) ex comes)
