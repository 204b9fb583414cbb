-- The values of signals on one pattern, and what refuses an evaluation. Assumes nothing.
use Rattle.std.specs.Prelude.{◌≡◌, ℕ, ◌<◌, ◌≤◌, List, map, length, Some, slice_index}
use Rattle.algebra.specs.Ops.{Ops}
use Rattle.netlist.specs.declared.line.Line.{Line}
use Rattle.netlist.specs.declared.fault.EvaluationFault.{EvaluationFault}
use Rattle.netlist.specs.declared.fault.EvaluationFault.TheVariants.{ShortList, Line as Lines}
use Rattle.netlist.specs.Signals.{Signal}
use Rattle.netlist.specs.Lines.{signal_at}
use Rattle.netlist.specs.Faults.{first_fault}

-- the values of signals on the pattern p
abbrev pub values_at : ℕ → List Signal → List ℕ
values_at p ss = map (λ s. s p) ss

-- the values begin with those of the signals on the pattern p
abbrev pub Valued : ℕ → List Signal → List ℕ → Type 0
Valued p ss vs = (k : ℕ) → k < length ss → slice_index vs k ≡ signal_at ss k p

-- why `room` entries for the values of these lines are refused: the list is tested first
abbrev pub Refused : Ops → ℕ → List Line → ℕ → EvaluationFault → Type 0
Refused o n ls room ShortList = room < length ls
Refused o n ls room (Lines f) = (length ls ≤ room) × (first_fault o n 0 ls ≡ Some f)
