-- The report on two netlists, as bytes: a function of the netlists and of how many different parts there is room for. No
-- word of tables. Assumes nothing.
use Rattle.std.specs.Prelude.{◌≡◌, ℕ, ◌+◌, ◌*◌, ◌<◌, ◌≤◌, max, cond, List, [], ◌++◌, length, Some, None, Ok, Err, Option, Result, ◌==◌, slice_index_or}
use Rattle.algebra.specs.Ops.{Ops}
use Rattle.netlist.specs.declared.line.Line.{Line}
use Rattle.netlist.specs.declared.finding.Finding.TheVariants.{Clean}
use Rattle.netlist.specs.Parts.{part_count}
use Rattle.netlist.specs.Lines.{line_signals, out_count}
use Rattle.netlist.specs.Findings.{findings}
use Rattle.netlist.specs.Verdicts.{Verdict, out_signal}
use Rattle.text.specs.declared.header.Pair.{Pair}
use Rattle.text.specs.declared.writer.Summary.TheVariants.{Report}
use Rattle.text.specs.Pairs.{PairAccepted}
use Rattle.text.specs.Reports.{fault_row, summary_row, findings_text, Written}
use Rattle.text.specs.Answers.{algebra_of, blank_lines, Prints}
use Rattle.faults.specs.Faults.{LineRefusal, line_reason_number}
use Rattle.report.specs.declared.fault.ReportFault.{ReportFault}
use Rattle.report.specs.declared.fault.ReportFault.TheVariants.{ShortReport}
use Rattle.report.specs.Refusals.{all_signals, refused_line, refused_pair}

abbrev pub report_fault_number : ReportFault → ℕ
report_fault_number ShortReport = 44

-- the row of a refused line of a netlist, or else something else; of a refused pair
abbrev pub unless_line : ℕ → Option LineRefusal → List ℕ → List ℕ
unless_line netlist None text = text
unless_line netlist (Some e) text = fault_row (line_reason_number e.fault) netlist (Some e.line)

abbrev pub unless_pair : Option ℕ → List ℕ → List ℕ
unless_pair None text = text
unless_pair (Some k) text = fault_row 31 0 (Some k)

-- how many pairs there are and how many different parts, then each pair's finding
abbrev pub findings_report : Ops → ℕ → List Line → List Line → List ℕ
findings_report o n ls ms = summary_row (out_count ls) Report (part_count o n (all_signals o n ls ms)) ++ findings_text o.letter n 0 (findings o n ls ms)

-- what is reported of two netlists where there is room for so many parts: the counts of OUT lines are tested first, then
-- the lines of the first netlist, then those of the second, then the pairs
abbrev pub compared : ℕ → Ops → ℕ → List Line → List Line → List ℕ
compared room o n ls ms =
    cond (out_count ms == out_count ls)
    (unless_line 1 (refused_line o n room [] ls)
    (unless_line 2 (refused_line o n room (line_signals o n ls) ms)
    (unless_pair (refused_pair o n room ls ms)
    (findings_report o n ls ms))))
    (fault_row 42 0 None)

-- so many bytes are enough for every report on netlists of at most so many lines, and no fewer are taken
abbrev pub bytes_needed : ℕ → ℕ
bytes_needed lines = max 40000 (19 + 73 * lines)

-- the text is the report on these bytes, and no other text would be
abbrev pub IsReport : ℕ → ℕ → List ℕ → List ℕ → Type 0
IsReport lines room bytes text = Prints lines (compared room) bytes text × ((t : List ℕ) → Prints lines (compared room) bytes t → t ≡ text)

-- the report stands in front, no other text would be the report on these bytes, and the rest is as before
pub record Printed (lines room : ℕ) (bytes before after : List ℕ) (end : ℕ) : Type 0 where
  pub text : List ℕ
  pub prints : Prints lines (compared room) bytes text
  pub only : (t : List ℕ) → Prints lines (compared room) bytes t → t ≡ text
  pub written : Written text 0 before after end

-- what a report on bytes answers and leaves, with room for so many lines in each netlist and for so many parts
abbrev pub Answers : ℕ → ℕ → List ℕ → List ℕ → List ℕ → Result ℕ ReportFault → Type 0
Answers lines room bytes before after (Ok end) = (bytes_needed lines ≤ length before) × Printed lines room bytes before after end
Answers lines room bytes before after (Err ShortReport) = (length before < bytes_needed lines) × (after ≡ before)

-- of two netlists that the bytes hold, each pair's finding tells what the patterns do: a pair is clean exactly when no
-- pattern grades it other than 0
abbrev pub Tells : ℕ → List ℕ → Type 0
Tells lines bytes =
    (x y : List Line) (pair : Pair) (a : PairAccepted bytes (blank_lines lines) x (blank_lines lines) y pair)
    → out_count a.both.second.lines ≡ out_count a.both.first.lines
    → (k : ℕ) → k < out_count a.both.first.lines
    → Verdict (algebra_of pair.first.values) pair.first.inputs
    (out_signal (algebra_of pair.first.values) pair.first.inputs a.both.first.lines k)
    (out_signal (algebra_of pair.first.values) pair.first.inputs a.both.second.lines k)
    (slice_index_or (findings (algebra_of pair.first.values) pair.first.inputs a.both.first.lines a.both.second.lines) k Clean)
