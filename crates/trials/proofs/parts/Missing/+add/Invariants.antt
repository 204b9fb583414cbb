use Rattle.std.proofs.Common.{length}
use Rattle.trials.proofs.parts.Missing.+add.Given as goal

abbrev pub decreases-add : goal.decreases-add
decreases-add g l = length l.block.now
