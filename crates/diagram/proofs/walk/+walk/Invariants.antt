use Rattle.std.proofs.Common.{length}
use Rattle.diagram.proofs.walk.+walk.Given as goal

abbrev pub decreases-walk : goal.decreases-walk
decreases-walk g l = length l.rows.now
