-- The number of the refusal of a pattern. Assumes nothing.
use Rattle.std.specs.Prelude.{ℕ}
use Rattle.netlist.specs.declared.pattern.PatternFault.{PatternFault}
use Rattle.netlist.specs.declared.pattern.PatternFault.TheVariants.{OutOfBounds}

abbrev pub pattern_fault_number : PatternFault → ℕ
pattern_fault_number OutOfBounds = 29
