-- What is printed of two netlists, by the answer of the comparison. Assumes nothing.
use Rattle.std.proofs.Common.{◌≡◌, ℕ, ◌*◌, ◌%◌, ◌^◌, ◌<◌, ◌≤◌, cond, ltb, List, ◌++◌, take, drop, sym, ap, ap₂, ◌∙◌, arith}
use Rattle.std.proofs.lemmas.List.{length-take, take_at}
use Rattle.std.proofs.lemmas.Bool.{cond-true, cond-false, eq-eqb, ne_eqb, lt-ltb, le-ltb}
use Rattle.std.proofs.lemmas.Nat.{one_shl}
use Rattle.algebra.specs.Ops.{Ops}
use Rattle.netlist.specs.declared.line.Line.{Line}
use Rattle.netlist.specs.declared.fault.CountFault.TheVariants.{ShortList, FewFindings, OutCounts}
use Rattle.netlist.specs.declared.fault.ComparisonFault.{ComparisonFault}
use Rattle.netlist.specs.declared.fault.ComparisonFault.TheVariants.{TooManyInputs, Counts, First, Second}
use Rattle.netlist.specs.declared.finding.Finding.{Finding}
use Rattle.netlist.specs.Lines.{line_signals, outs, out_count}
use Rattle.netlist.specs.Findings.{finding, findings}
use Rattle.netlist.specs.Faults.{first_fault}
use Rattle.netlist.specs.FaultNumbers.{comparison_fault_number, comparison_fault_netlist, comparison_fault_line}
use Rattle.netlist.specs.Comparisons.{Accepted, Refused}
use Rattle.netlist.proofs.FirstFaults.{fault_within}
use Rattle.netlist.proofs.OutLines.{few_outs}
use Rattle.netlist.proofs.OutValues.{outs_length}
use Rattle.netlist.proofs.LineSignals.{signals_length}
use Rattle.netlist.proofs.Zips.{zipped_length}
use Rattle.text.specs.declared.writer.Summary.TheVariants.{Tried}
use Rattle.text.specs.Reports.{fault_row, summary_row, findings_text}
use Rattle.patterns.specs.Answers.{compared, unless_refused, too_many_inputs, report, SmallLine}

-- the netlists are the first k lines of x and the first l lines of y
module _ (o : Ops) (n k l : ℕ) (x x' y y' : List Line) (ex : x ≡ x') (ey : y ≡ y') (room rows : ℕ) where
  abbrev ls : List Line
  ls = take k x

  abbrev ms : List Line
  ms = take l y

  abbrev printed : List ℕ
  printed = compared o n (take k x') (take l y')

  same : compared o n ls ms ≡ printed
  same = ap₂ (λ a b. compared o n (take k a) (take l b)) ex ey

  accepted : Accepted o n ls ms room rows → cond (ltb 16 n) too_many_inputs (report o n ls ms) ≡ printed
  accepted a =
      sym
      (cond-true _ _ _ (eq-eqb (out_count ms) (out_count ls) a.pairs)
      ∙ ap (λ z. unless_refused 1 z (unless_refused 2 (first_fault o n 0 ms) (cond (ltb 16 n) too_many_inputs (report o n ls ms)))) a.first
      ∙ ap (λ z. unless_refused 2 z (cond (ltb 16 n) too_many_inputs (report o n ls ms))) a.second)
      ∙ same

  pub too_many_printed : Accepted o n ls ms room rows → 16 < n → too_many_inputs ≡ printed
  too_many_printed a h = sym (cond-true _ _ _ (lt-ltb 16 n h)) ∙ accepted a

  -- the first of the findings are those of the pairs
  found_first : Accepted o n ls ms room rows → (old new : List Finding) → new ≡ findings o n ls ms ++ drop (out_count ls) old → take (out_count ls) new ≡ findings o n ls ms
  found_first a old new e =
      let es = outs_length ls (line_signals o n ls) (signals_length o n ls) in
      let et = outs_length ms (line_signals o n ms) (signals_length o n ms) in
      let q = a.pairs in
      let z = zipped_length (finding o n) (outs ls (line_signals o n ls)) (outs ms (line_signals o n ms)) (omega arith) in
      ap (take (out_count ls)) e ∙ take_at (findings o n ls ms) (drop (out_count ls) old) (out_count ls) (omega arith)

  pub report_printed : n ≤ 16 → (pairs : ℕ) (old new : List Finding) → (pairs ≡ out_count ls) × Accepted o n ls ms room rows × (new ≡ findings o n ls ms ++ drop pairs old)
      → (fs : List Finding) → fs ≡ take pairs new → summary_row pairs Tried (1 * 2 ^ n % 2 ^ 32) ++ findings_text o.letter n 0 fs ≡ printed
  report_printed h pairs old new ok fs e =
      ap (λ z. summary_row pairs Tried (1 * 2 ^ n % 2 ^ 32) ++ findings_text o.letter n 0 z) e
      ∙ ap₂ (λ c t. summary_row c Tried t ++ findings_text o.letter n 0 (take c new)) ok.0 (one_shl n 32 (omega arith))
      ∙ ap (λ z. summary_row (out_count ls) Tried (2 ^ n) ++ findings_text o.letter n 0 z) (found_first ok.1 old new (ok.2 ∙ ap (λ c. findings o n ls ms ++ drop c old) ok.0))
      ∙ sym (cond-false _ _ _ (le-ltb 16 n h)) ∙ accepted ok.1

  module _ (hk : k ≤ 512) (hl : l ≤ 512) where
    pub small_line : (f : ComparisonFault) → Refused o n ls ms room rows f → SmallLine f
    small_line TooManyInputs r = tt
    small_line (Counts f) r = tt
    small_line (First f) r = let p = fault_within o n 0 ls f r.4 in omega (arith, length-take k x)
    small_line (Second f) r = let p = fault_within o n 0 ms f r.5 in omega (arith, length-take l y)

    pub fault_printed : n ≤ 60 → room ≡ 1024 → rows ≡ 512 → (f : ComparisonFault) → Refused o n ls ms room rows f
        → fault_row (comparison_fault_number f) (comparison_fault_netlist f) (comparison_fault_line f) ≡ printed
    fault_printed hn hv hr TooManyInputs r = absurd (omega arith)
    fault_printed hn hv hr (Counts ShortList) r = absurd (let q = r.1 in omega (arith, length-take k x, length-take l y))
    fault_printed hn hv hr (Counts FewFindings) r = absurd (let q = r.1.1 in let w = few_outs ls in omega (arith, length-take k x))
    fault_printed hn hv hr (Counts OutCounts) r = sym (cond-false _ _ _ (ne_eqb (out_count ms) (out_count ls) r.1.2)) ∙ same
    fault_printed hn hv hr (First f) r = sym (cond-true _ _ _ (eq-eqb (out_count ms) (out_count ls) r.3) ∙ ap (λ z. unless_refused 1 z (unless_refused 2 (first_fault o n 0 ms) (cond (ltb 16 n) too_many_inputs (report o n ls ms)))) r.4) ∙ same
    fault_printed hn hv hr (Second f) r =
        sym
        (cond-true _ _ _ (eq-eqb (out_count ms) (out_count ls) r.3)
        ∙ ap (λ z. unless_refused 1 z (unless_refused 2 (first_fault o n 0 ms) (cond (ltb 16 n) too_many_inputs (report o n ls ms)))) r.4
        ∙ ap (λ z. unless_refused 2 z (cond (ltb 16 n) too_many_inputs (report o n ls ms))) r.5)
        ∙ same
