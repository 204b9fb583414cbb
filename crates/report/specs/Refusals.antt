-- Which line or pair of two netlists is the first to be refused where there is room for so many different parts, in words of
-- signals alone. Assumes nothing.
use Rattle.std.specs.Prelude.{ℕ, suc, cond, ltb, List, ◌++◌, length, take, Some, None, Option, nat_lt}
use Rattle.algebra.specs.Ops.{Ops}
use Rattle.netlist.specs.declared.line.Line.{Line}
use Rattle.netlist.specs.Signals.{Signal, joined}
use Rattle.netlist.specs.Parts.{part_count}
use Rattle.netlist.specs.Lines.{line_signals, outs}
use Rattle.netlist.specs.Faults.{NetlistFault, first_fault}
use Rattle.netlist.specs.Findings.{first_from, zipped}
use Rattle.records.specs.declared.fault.TableFault.TheVariants.{Full}
use Rattle.faults.specs.declared.fault.LineReason.TheVariants.{Line as OfLine, Table as OfTable}
use Rattle.faults.specs.Faults.{LineRefusal}

-- GRADE of each pair of OUT lines
abbrev pub grade_signals : Ops → ℕ → List Line → List Line → List Signal
grade_signals o n ls ms = zipped (joined o 9) (outs ls (line_signals o n ls)) (outs ms (line_signals o n ms))

-- the lines of both netlists and then the pairs, in the order in which they are made
abbrev pub all_signals : Ops → ℕ → List Line → List Line → List Signal
all_signals o n ls ms = line_signals o n ls ++ (line_signals o n ms ++ grade_signals o n ls ms)

-- the first of the signals ss with which, after those of `before`, there are more different parts than room
abbrev pub first_over : Ops → ℕ → ℕ → List Signal → List Signal → Option ℕ
first_over o n room before ss = first_from (λ k. ltb room (part_count o n (before ++ take (suc k) ss))) 0 (length ss)

abbrev pub by_itself : NetlistFault → LineRefusal
by_itself f = record { line = f.line; fault = OfLine f.fault }

abbrev pub for_room : ℕ → LineRefusal
for_room k = record { line = k; fault = OfTable Full }

-- the earlier line of the two; the tests of a line itself come first
abbrev pub earlier : Option NetlistFault → Option ℕ → Option LineRefusal
earlier None None = None
earlier None (Some k) = Some (for_room k)
earlier (Some f) None = Some (by_itself f)
earlier (Some f) (Some k) = Some (cond (nat_lt k f.line) (for_room k) (by_itself f))

-- the first line of ls, after the signals of `before`, that is refused: by its own tests, or for want of room
abbrev pub refused_line : Ops → ℕ → ℕ → List Signal → List Line → Option LineRefusal
refused_line o n room before ls = earlier (first_fault o n 0 ls) (first_over o n room before (line_signals o n ls))

-- the first pair that is refused for want of room
abbrev pub refused_pair : Ops → ℕ → ℕ → List Line → List Line → Option ℕ
refused_pair o n room ls ms = first_over o n room (line_signals o n ls ++ line_signals o n ms) (grade_signals o n ls ms)
