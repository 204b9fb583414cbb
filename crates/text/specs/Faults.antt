-- The numbers of the reader's refusals with where they are, and which test of a row is the first to fail. Assumes nothing.
use Rattle.std.specs.Prelude.{ℕ, ◌<◌, Some, None, Option}
use Rattle.text.specs.declared.fault.RowFault.{RowFault}
use Rattle.text.specs.declared.fault.RowFault.TheVariants.{Incomplete, Word, Field, OutOfTurn, Limits}
use Rattle.text.specs.declared.fault.ReadFault.{ReadFault}
use Rattle.text.specs.declared.fault.ReadFault.TheVariants.{Head, TooManyLines, AtLine}
use Rattle.text.specs.declared.fault.PairFault.{PairFault}
use Rattle.text.specs.declared.fault.PairFault.TheVariants.{First, Second, Trailing, Heads}

abbrev pub row_fault_number : RowFault → ℕ
row_fault_number Incomplete = 11
row_fault_number Word = 13
row_fault_number Field = 12
row_fault_number OutOfTurn = 14
row_fault_number Limits = 15

abbrev pub read_fault_number : ReadFault → ℕ
read_fault_number (Head fault) = row_fault_number fault
read_fault_number TooManyLines = 17
read_fault_number (AtLine due fault) = row_fault_number fault

abbrev pub pair_fault_number : PairFault → ℕ
pair_fault_number (First fault) = read_fault_number fault
pair_fault_number (Second fault) = read_fault_number fault
pair_fault_number Trailing = 16
pair_fault_number Heads = 41

-- the netlist that is refused, 1 or 2, or 0 for neither
abbrev pub pair_fault_netlist : PairFault → ℕ
pair_fault_netlist (First fault) = 1
pair_fault_netlist (Second fault) = 2
pair_fault_netlist Trailing = 0
pair_fault_netlist Heads = 0

-- the due number of the line whose row is refused
abbrev pub read_fault_line : ReadFault → Option ℕ
read_fault_line (Head fault) = None
read_fault_line TooManyLines = None
read_fault_line (AtLine due fault) = Some due

abbrev pub pair_fault_line : PairFault → Option ℕ
pair_fault_line (First fault) = read_fault_line fault
pair_fault_line (Second fault) = read_fault_line fault
pair_fault_line Trailing = None
pair_fault_line Heads = None

-- the order of the tests
abbrev pub order : RowFault → ℕ
order Incomplete = 0
order Word = 1
order Field = 2
order OutOfTurn = 3
order Limits = 4

-- of the tests of a row, the earlier ones pass and this one fails
pub record FirstFailed (passes : RowFault → Type 0) (fault : RowFault) : Type 0 where
  pub before : (test : RowFault) → order test < order fault → passes test
  pub here : passes fault → ⊥
