use Rattle.std.proofs.Common.{◌-◌, vec_len}
use Rattle.diagram.specs.Chains.{rank}
use Rattle.diagram.specs.Uses.{in_use}
use Rattle.diagram.proofs.Links.{Sought}
use Rattle.diagram.proofs.places.Places.seek.Given as goal

abbrev pub invariant-loop-p : goal.invariant-loop-p
invariant-loop-p l = Sought (vec_len l.self.heads - 1) (in_use l.self) l.r.input l.r.low l.r.high (rank l.link)

abbrev pub decreases-loop-p : goal.decreases-loop-p
decreases-loop-p l = rank l.link
