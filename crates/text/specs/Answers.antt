-- What a program prints for bytes that are to be two netlists in a row: the row of the first refusal in reading them, or
-- what is to be printed of the two. Assumes nothing.
use Rattle.std.specs.Prelude.{ℕ, List, replicate, Err}
use Rattle.algebra.specs.Ops.{Ops}
use Rattle.algebra.specs.Five.{five}
use Rattle.algebra.specs.Two.{two}
use Rattle.netlist.specs.declared.line.Line.{Line}
use Rattle.text.specs.declared.header.Pair.{Pair}
use Rattle.text.specs.declared.header.Values.{Values}
use Rattle.text.specs.declared.header.Values.TheVariants.{Two, Five}
use Rattle.text.specs.declared.fault.PairFault.{PairFault}
use Rattle.text.specs.Faults.{pair_fault_number, pair_fault_netlist, pair_fault_line}
use Rattle.text.specs.Pairs.{PairReading, PairAccepted}
use Rattle.text.specs.Reports.{fault_row}

-- the algebra of so many values
abbrev pub algebra_of : Values → Ops
algebra_of Two = two
algebra_of Five = five

-- a list with room for so many lines
abbrev pub blank_lines : ℕ → List Line
blank_lines room = replicate room (record { kind = 0; first = 0; second = 0 })

-- what is to be printed of two netlists of an algebra and a number of inputs
abbrev pub Printer : Type 0
Printer = Ops → ℕ → List Line → List Line → List ℕ

-- the row of a refused reading
abbrev pub misreading : PairFault → List ℕ
misreading f = fault_row (pair_fault_number f) (pair_fault_netlist f) (pair_fault_line f)

-- what is printed for the bytes, read into lists with room for so many lines
pub data Prints (room : ℕ) (print : Printer) (bytes : List ℕ) : List ℕ → Type 0 where
  misread : (x y : List Line) (f : PairFault) → PairReading bytes (blank_lines room) x (blank_lines room) y (Err f) → Prints room print bytes (misreading f)
  read : (x y : List Line) (pair : Pair) (a : PairAccepted bytes (blank_lines room) x (blank_lines room) y pair) → Prints room print bytes (print (algebra_of pair.first.values) pair.first.inputs a.both.first.lines a.both.second.lines)
