-- What an answer of compare is to print. Only the contracts of inner functions cite this. Assumes nothing.
use Rattle.std.specs.Prelude.{◌≡◌, ℕ, List, ◌++◌, take, Some, None, Ok, Err, Option, Result}
use Rattle.algebra.specs.Ops.{Ops}
use Rattle.netlist.specs.declared.line.Line.{Line}
use Rattle.netlist.specs.Lines.{out_count}
use Rattle.text.specs.declared.writer.Summary.TheVariants.{Report}
use Rattle.text.specs.Reports.{fault_row, summary_row, findings_text}
use Rattle.checking.specs.declared.checking.Checked.{Checked}
use Rattle.faults.specs.declared.fault.CompareFault.{CompareFault}
use Rattle.faults.specs.declared.fault.CompareFault.TheVariants.{Counts, Table, First, Second, Pair}
use Rattle.faults.specs.Faults.{lay_fault_line, compare_fault_number, compare_fault_netlist}
use Rattle.comparison.specs.Compares.{row_findings}
use Rattle.report.specs.Reports.{compared}

-- the line or the pair that is refused
abbrev pub fault_place : CompareFault → Option ℕ
fault_place (Counts f) = None
fault_place (Table f) = None
fault_place (First f) = lay_fault_line f
fault_place (Second f) = lay_fault_line f
fault_place (Pair e) = Some e.pair

-- what compare answered, the places then in use and the rows cs that it left are what is reported of the two netlists
abbrev pub ComesTo : Ops → ℕ → ℕ → List Line → List Line → ℕ → List Checked → Result ℕ CompareFault → Type 0
ComesTo o n room ls ms used cs (Ok pairs) = (pairs ≡ out_count ls) × (compared room o n ls ms ≡ summary_row pairs Report used ++ findings_text o.letter n 0 (row_findings (take pairs cs)))
ComesTo o n room ls ms used cs (Err f) = compared room o n ls ms ≡ fault_row (compare_fault_number f) (compare_fault_netlist f) (fault_place f)
