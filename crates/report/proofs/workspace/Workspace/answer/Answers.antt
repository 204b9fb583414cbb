use Rattle.report.proofs.Telling.{tells}
use Rattle.report.proofs.workspace.Workspace.answer.Goals as goal

pub returns-in_err-out-clause-tells : goal.returns-in_err-out-clause-tells
returns-in_err-out-clause-tells c = tells _ _

pub returns-clause-tells : goal.returns-clause-tells
returns-clause-tells c = tells _ _
