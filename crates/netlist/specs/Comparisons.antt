-- Which comparisons by trying every pattern are refused, and why. Assumes nothing.
use Rattle.std.specs.Prelude.{◌≡◌, ℕ, ◌+◌, ◌<◌, ◌≤◌, List, length, Some, None}
use Rattle.algebra.specs.Ops.{Ops}
use Rattle.netlist.specs.declared.line.Line.{Line}
use Rattle.netlist.specs.declared.fault.ComparisonFault.{ComparisonFault}
use Rattle.netlist.specs.declared.fault.ComparisonFault.TheVariants.{TooManyInputs, Counts, First, Second}
use Rattle.netlist.specs.Lines.{out_count}
use Rattle.netlist.specs.Counts.{CountsRefused}
use Rattle.netlist.specs.Faults.{first_fault}

-- all tests pass: n inputs, the lines ls and ms, room for so many values and rows for so many findings
pub record Accepted (o : Ops) (n : ℕ) (ls ms : List Line) (room rows : ℕ) : Type 0 where
  pub inputs : n ≤ 60
  pub values : length ls + length ms ≤ room
  pub findings : out_count ls ≤ rows
  pub pairs : out_count ms ≡ out_count ls
  pub first : first_fault o n 0 ls ≡ None
  pub second : first_fault o n 0 ms ≡ None

-- the first test that fails
abbrev pub Refused : Ops → ℕ → List Line → List Line → ℕ → ℕ → ComparisonFault → Type 0
Refused o n ls ms room rows TooManyInputs = 60 < n
Refused o n ls ms room rows (Counts f) = (n ≤ 60) × CountsRefused ls ms room rows f
Refused o n ls ms room rows (First f) = (n ≤ 60) × (length ls + length ms ≤ room) × (out_count ls ≤ rows) × (out_count ms ≡ out_count ls) × (first_fault o n 0 ls ≡ Some f)
Refused o n ls ms room rows (Second f) = (n ≤ 60) × (length ls + length ms ≤ room) × (out_count ls ≤ rows) × (out_count ms ≡ out_count ls) × (first_fault o n 0 ls ≡ None) × (first_fault o n 0 ms ≡ Some f)
