-- The numbers of the refusals of netlists. Assumes nothing.
use Rattle.std.specs.Prelude.{ℕ, Some, None, Option}
use Rattle.netlist.specs.declared.fault.LineFault.{LineFault}
use Rattle.netlist.specs.declared.fault.LineFault.TheVariants.{NoSuchKind, NoSuchInput, NoSuchCode, NotEarlier}
use Rattle.netlist.specs.declared.fault.EvaluationFault.{EvaluationFault}
use Rattle.netlist.specs.declared.fault.EvaluationFault.TheVariants.{ShortList as ShortValues, Line}
use Rattle.netlist.specs.declared.fault.CountFault.{CountFault}
use Rattle.netlist.specs.declared.fault.CountFault.TheVariants.{ShortList, FewFindings, OutCounts}
use Rattle.netlist.specs.declared.fault.ComparisonFault.{ComparisonFault}
use Rattle.netlist.specs.declared.fault.ComparisonFault.TheVariants.{TooManyInputs, Counts, First, Second}

abbrev pub line_fault_number : LineFault → ℕ
line_fault_number NoSuchInput = 24
line_fault_number NoSuchCode = 25
line_fault_number NoSuchKind = 26
line_fault_number NotEarlier = 28

abbrev pub evaluation_fault_number : EvaluationFault → ℕ
evaluation_fault_number ShortValues = 27
evaluation_fault_number (Line f) = line_fault_number f.fault

abbrev pub count_fault_number : CountFault → ℕ
count_fault_number ShortList = 27
count_fault_number FewFindings = 43
count_fault_number OutCounts = 42

abbrev pub comparison_fault_number : ComparisonFault → ℕ
comparison_fault_number TooManyInputs = 21
comparison_fault_number (Counts f) = count_fault_number f
comparison_fault_number (First f) = line_fault_number f.fault
comparison_fault_number (Second f) = line_fault_number f.fault

-- the netlist that a comparison refuses, or 0 for neither, and the line
abbrev pub comparison_fault_netlist : ComparisonFault → ℕ
comparison_fault_netlist TooManyInputs = 0
comparison_fault_netlist (Counts f) = 0
comparison_fault_netlist (First f) = 1
comparison_fault_netlist (Second f) = 2

abbrev pub comparison_fault_line : ComparisonFault → Option ℕ
comparison_fault_line TooManyInputs = None
comparison_fault_line (Counts f) = None
comparison_fault_line (First f) = Some f.line
comparison_fault_line (Second f) = Some f.line
