-- Whether two netlists can be compared pair by pair, with so much room. Assumes nothing.
use Rattle.std.specs.Prelude.{◌≡◌, ℕ, ◌+◌, ◌<◌, ◌≤◌, List, length, ◌≢◌}
use Rattle.netlist.specs.declared.line.Line.{Line}
use Rattle.netlist.specs.declared.fault.CountFault.{CountFault}
use Rattle.netlist.specs.declared.fault.CountFault.TheVariants.{ShortList, FewFindings, OutCounts}
use Rattle.netlist.specs.Lines.{out_count}

-- all tests pass: room for a value of each line, a row for each pair, and an OUT line of the second netlist for each of the first
pub record Counts (ls ms : List Line) (room rows : ℕ) : Type 0 where
  pub values : length ls + length ms ≤ room
  pub findings : out_count ls ≤ rows
  pub pairs : out_count ms ≡ out_count ls

-- the first test that fails
abbrev pub CountsRefused : List Line → List Line → ℕ → ℕ → CountFault → Type 0
CountsRefused ls ms room rows ShortList = room < length ls + length ms
CountsRefused ls ms room rows FewFindings = (length ls + length ms ≤ room) × (rows < out_count ls)
CountsRefused ls ms room rows OutCounts = (length ls + length ms ≤ room) × (out_count ls ≤ rows) × (out_count ms ≢ out_count ls)
