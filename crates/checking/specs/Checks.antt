-- What a check answered: its handle, its finding, and its event. Assumes nothing.
use Rattle.std.specs.Prelude.{ℕ, List, [], ◌∷◌, Ok, Err, Result}
use Rattle.algebra.specs.Ops.{Ops}
use Rattle.netlist.specs.declared.finding.Finding.{Finding}
use Rattle.records.specs.declared.fault.TableFault.{TableFault}
use Rattle.records.specs.Stores.{Store}
use Rattle.records.specs.Runs as runs
use Rattle.records.specs.Runs.{Event, answer_of, given}
use Rattle.checking.specs.declared.checking.Checked.{Checked}

-- the handle of GRADE
abbrev pub handle_of : Result Checked TableFault → Result ℕ TableFault
handle_of (Ok c) = Ok c.handle
handle_of (Err f) = Err f

-- the finding of an accepted check
abbrev pub finding_of : Result Checked TableFault → List Finding
finding_of (Ok c) = c.finding ∷ []
finding_of (Err f) = []

-- a check of x and y in the table s
abbrev pub check_event : Ops → Store → ℕ → ℕ → Result Checked TableFault → Event
check_event o s x y r = runs.check (given o s x) (given o s y) (answer_of (handle_of r)) (finding_of r)
