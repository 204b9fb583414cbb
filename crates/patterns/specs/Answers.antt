-- What the program prints for its input. Assumes nothing.
use Rattle.std.specs.Prelude.{ℕ, ◌^◌, ◌<◌, cond, List, ◌++◌, Some, None, codes, Option, ◌==◌, nat_lt}
use Rattle.algebra.specs.Ops.{Ops}
use Rattle.netlist.specs.declared.line.Line.{Line}
use Rattle.netlist.specs.declared.fault.ComparisonFault.{ComparisonFault}
use Rattle.netlist.specs.declared.fault.ComparisonFault.TheVariants.{TooManyInputs, Counts, First, Second}
use Rattle.netlist.specs.Lines.{out_count}
use Rattle.netlist.specs.Faults.{NetlistFault, first_fault}
use Rattle.netlist.specs.FaultNumbers.{line_fault_number}
use Rattle.netlist.specs.Findings.{findings}
use Rattle.text.specs.declared.writer.Summary.TheVariants.{Tried}
use Rattle.text.specs.Reports.{fault_row, summary_row, findings_text}
use Rattle.text.specs.Answers as texts

abbrev pub too_many_inputs : List ℕ
too_many_inputs = codes "more than 16 inputs: too many patterns to try\n"

-- a refused line of a netlist, or else something else
abbrev pub unless_refused : ℕ → Option NetlistFault → List ℕ → List ℕ
unless_refused netlist None text = text
unless_refused netlist (Some f) text = fault_row (line_fault_number f.fault) netlist (Some f.line)

-- the report on two netlists: how many pairs there are and how many patterns were tried, then each pair's finding
abbrev pub report : Ops → ℕ → List Line → List Line → List ℕ
report o n ls ms = summary_row (out_count ls) Tried (2 ^ n) ++ findings_text o.letter n 0 (findings o n ls ms)

-- what is printed of two netlists: the counts of OUT lines are tested first, then the lines of the first netlist, then
-- those of the second, then whether there are patterns to try
abbrev pub compared : Ops → ℕ → List Line → List Line → List ℕ
compared o n ls ms =
    cond (out_count ms == out_count ls)
    (unless_refused 1 (first_fault o n 0 ls)
    (unless_refused 2 (first_fault o n 0 ms)
    (cond (nat_lt 16 n) too_many_inputs (report o n ls ms))))
    (fault_row 42 0 None)

-- the lists of lines at the start
abbrev pub blank_lines : List Line
blank_lines = texts.blank_lines 512

-- what is printed for bytes: the fault of their reading, or what two netlists come to
abbrev pub Prints : List ℕ → List ℕ → Type 0
Prints = texts.Prints 512 compared

-- the refused line, if there is one, is one of a netlist of at most 512
abbrev pub SmallLine : ComparisonFault → Type 0
SmallLine TooManyInputs = Unit {0}
SmallLine (Counts f) = Unit {0}
SmallLine (First f) = f.line < 512
SmallLine (Second f) = f.line < 512
