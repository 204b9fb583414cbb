-- The report on two netlists, by where the lines and the pairs stop. Assumes nothing.
use Rattle.std.proofs.Common.{◌≡◌, ℕ, List, [], Some, None, ap, ◌∙◌}
use Rattle.std.proofs.lemmas.Bool.{cond-true, cond-false, eq-eqb, ne_eqb}
use Rattle.algebra.specs.Ops.{Ops}
use Rattle.netlist.specs.declared.line.Line.{Line}
use Rattle.netlist.specs.Lines.{line_signals, out_count}
use Rattle.text.specs.Reports.{fault_row}
use Rattle.faults.specs.Faults.{LineRefusal, line_reason_number}
use Rattle.report.specs.Refusals.{refused_line, refused_pair}
use Rattle.report.specs.Reports.{unless_line, unless_pair, findings_report, compared}

-- what is reported once the first netlist is passed, and once both are
abbrev after_both : Ops → ℕ → ℕ → List Line → List Line → List ℕ
after_both o n room ls ms = unless_pair (refused_pair o n room ls ms) (findings_report o n ls ms)

abbrev after_first : Ops → ℕ → ℕ → List Line → List Line → List ℕ
after_first o n room ls ms = unless_line 2 (refused_line o n room (line_signals o n ls) ms) (after_both o n room ls ms)

module _ (o : Ops) (n room : ℕ) (ls ms : List Line) where
  pub counts_stop : (out_count ms ≡ out_count ls → ⊥) → compared room o n ls ms ≡ fault_row 42 0 None
  counts_stop uneven = cond-false _ _ _ (ne_eqb (out_count ms) (out_count ls) uneven)

  module _ (even : out_count ms ≡ out_count ls) where
    begun : compared room o n ls ms ≡ unless_line 1 (refused_line o n room [] ls) (after_first o n room ls ms)
    begun = cond-true _ _ _ (eq-eqb (out_count ms) (out_count ls) even)

    pub first_stops : (e : LineRefusal) → refused_line o n room [] ls ≡ Some e → compared room o n ls ms ≡ fault_row (line_reason_number e.fault) 1 (Some e.line)
    first_stops e x = begun ∙ ap (λ z. unless_line 1 z (after_first o n room ls ms)) x

    module _ (one : refused_line o n room [] ls ≡ None) where
      second : compared room o n ls ms ≡ after_first o n room ls ms
      second = begun ∙ ap (λ z. unless_line 1 z (after_first o n room ls ms)) one

      pub second_stops : (e : LineRefusal) → refused_line o n room (line_signals o n ls) ms ≡ Some e → compared room o n ls ms ≡ fault_row (line_reason_number e.fault) 2 (Some e.line)
      second_stops e x = second ∙ ap (λ z. unless_line 2 z (after_both o n room ls ms)) x

      module _ (two : refused_line o n room (line_signals o n ls) ms ≡ None) where
        pairs : compared room o n ls ms ≡ after_both o n room ls ms
        pairs = second ∙ ap (λ z. unless_line 2 z (after_both o n room ls ms)) two

        pub pair_stops : (k : ℕ) → refused_pair o n room ls ms ≡ Some k → compared room o n ls ms ≡ fault_row 31 0 (Some k)
        pair_stops k x = pairs ∙ ap (λ z. unless_pair z (findings_report o n ls ms)) x

        pub none_stops : refused_pair o n room ls ms ≡ None → compared room o n ls ms ≡ findings_report o n ls ms
        none_stops x = pairs ∙ ap (λ z. unless_pair z (findings_report o n ls ms)) x
