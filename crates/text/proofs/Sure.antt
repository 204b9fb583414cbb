-- What has room is written: a refusal's row, and a report's first row with the rows of the findings. Assumes nothing.
use Rattle.std.proofs.Common.{◌≡◌, ℕ, ◌+◌, ◌*◌, ◌≤◌, List, ◌++◌, length, Some, None, Option, refl, arith}
use Rattle.std.specs.Option.{MatchOption, IsSome}
use Rattle.std.proofs.lemmas.Option.{MatchOption-at_some}
use Rattle.netlist.specs.declared.finding.Finding.{Finding}
use Rattle.text.specs.declared.writer.Summary.{Summary}
use Rattle.text.specs.Reports.{Written, Unwritten, fault_row, summary_row, findings_text}
use Rattle.text.proofs.Writing.{same_length, written_more}
use Rattle.text.proofs.Found.{summary_size}
use Rattle.text.proofs.Fits.{fault_fits, summary_fits, findings_fit}

-- a text was written, or did not fit
abbrev Wrote : List ℕ → ℕ → List ℕ → List ℕ → Option ℕ → Type 0
Wrote text at x y r = MatchOption r (Unwritten text at x y) (Written text at x y)

wrote : (text : List ℕ) (at : ℕ) (x y : List ℕ) (r : Option ℕ) → (Unwritten text at x y → ⊥) → Wrote text at x y r → IsSome r
wrote text at x y None fits u = absurd (fits u)
wrote text at x y (Some end) fits w = refl

pub fault_written : (number netlist : ℕ) (line : Option ℕ) (x y : List ℕ) (r : Option ℕ) → 25 ≤ length x → Wrote (fault_row number netlist line) 0 x y r → IsSome r
fault_written number netlist line x y r room = wrote _ 0 x y r (fault_fits number netlist 25 line x y room (omega arith))

module _ (pairs : ℕ) (word : Summary) (number : ℕ) (x y : List ℕ) (r : Option ℕ) (first : Wrote (summary_row pairs word number) 0 x y r) where
  pub summary_written : 19 ≤ length x → IsSome r
  summary_written room = wrote _ 0 x y r (summary_fits pairs word number 19 x y room (omega arith)) first

  module _ (at : ℕ) (e : r ≡ Some at) (letter : ℕ → ℕ) (width : ℕ) (fs : List Finding) (z : List ℕ) (s : Option ℕ) (rest : Wrote (findings_text letter width 0 fs) at y z s) where
    summary_stands : Written (summary_row pairs word number) 0 x y at
    summary_stands = MatchOption-at_some _ _ at e first

    pub findings_written : width ≤ 60 → 19 + 73 * length fs ≤ length x → IsSome s
    findings_written narrow room =
        let low : at ≤ 19 = (let q = summary_stands.end_is in let l = summary_size pairs word number in omega arith) in
        wrote _ at y z s (findings_fit letter width at (length fs) fs y z narrow (omega arith) low (let l = same_length _ 0 x y at summary_stands in omega arith)) rest

    pub report_written : (end : ℕ) → s ≡ Some end → Written (summary_row pairs word number ++ findings_text letter width 0 fs) 0 x z end
    report_written end f = written_more _ 0 x y at summary_stands _ z end (MatchOption-at_some _ _ end f rest)
