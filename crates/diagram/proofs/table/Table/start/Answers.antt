use Rattle.std.proofs.Common.{ap}
use Rattle.diagram.specs.Views.{view, room}
use Rattle.records.proofs.Events.{kept_start}
use Rattle.diagram.proofs.table.Table.start.Goals as goal

pub returns-clause-kept : goal.returns-clause-kept
returns-clause-kept g c =
    λ o. kept_start o (room c.args.self.now) (view c.restart.new.self) _ (ap (λ s. s.used) c.restart.ensures.empty) c.clear.ensures
