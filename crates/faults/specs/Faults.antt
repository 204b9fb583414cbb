-- The numbers of the refusals of lay and compare, and the netlist and the line that are refused. Assumes nothing.
use Rattle.std.specs.Prelude.{ℕ, Some, None, Option}
use Rattle.netlist.specs.FaultNumbers.{line_fault_number, count_fault_number}
use Rattle.netlist.specs.declared.fault.Located.{Located}
use Rattle.records.specs.Faults.{table_fault_number}
use Rattle.faults.specs.declared.fault.LineReason.{LineReason}
use Rattle.faults.specs.declared.fault.LineReason.TheVariants.{Line as OfLine, Table as OfTable}
use Rattle.faults.specs.declared.fault.LayFault.{LayFault}
use Rattle.faults.specs.declared.fault.LayFault.TheVariants.{ShortList, Table, Line}
use Rattle.faults.specs.declared.fault.CompareFault.{CompareFault}
use Rattle.faults.specs.declared.fault.CompareFault.TheVariants.{Counts, Table as Untabled, First, Second, Pair}

-- the line that is refused, and why
abbrev pub LineRefusal : Type 0
LineRefusal = Located LineReason

abbrev pub line_reason_number : LineReason → ℕ
line_reason_number (OfLine f) = line_fault_number f
line_reason_number (OfTable f) = table_fault_number f

abbrev pub lay_fault_number : LayFault → ℕ
lay_fault_number ShortList = 27
lay_fault_number (Table f) = table_fault_number f
lay_fault_number (Line e) = line_reason_number e.fault

abbrev pub lay_fault_line : LayFault → Option ℕ
lay_fault_line ShortList = None
lay_fault_line (Table f) = None
lay_fault_line (Line e) = Some e.line

abbrev pub compare_fault_number : CompareFault → ℕ
compare_fault_number (Counts f) = count_fault_number f
compare_fault_number (Untabled f) = table_fault_number f
compare_fault_number (First f) = lay_fault_number f
compare_fault_number (Second f) = lay_fault_number f
compare_fault_number (Pair e) = table_fault_number e.fault

-- the netlist that is refused, or 0 for neither, and its line
abbrev pub compare_fault_netlist : CompareFault → ℕ
compare_fault_netlist (Counts f) = 0
compare_fault_netlist (Untabled f) = 0
compare_fault_netlist (First f) = 1
compare_fault_netlist (Second f) = 2
compare_fault_netlist (Pair e) = 0

abbrev pub compare_fault_line : CompareFault → Option ℕ
compare_fault_line (Counts f) = None
compare_fault_line (Untabled f) = None
compare_fault_line (First f) = lay_fault_line f
compare_fault_line (Second f) = lay_fault_line f
compare_fault_line (Pair e) = None
