use Rattle.report.proofs.Telling.{tells}
use Rattle.report.proofs.workspace.Workspace.report.Goals as goal

pub returns-then-out-bytes_needed-clause-tells : goal.returns-then-out-bytes_needed-clause-tells
returns-then-out-bytes_needed-clause-tells c = tells _ _

pub returns-clause-tells : goal.returns-clause-tells
returns-clause-tells c = tells _ _
