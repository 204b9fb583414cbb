use Rattle.diagram.proofs.Passes.{settled_test}
use Rattle.diagram.proofs.codes.Codes.settled.Goals as goal

pub returns : goal.returns
returns g c = settled_test g.G.Algebra.ops c.args.mask c.args.self.now.loose c.args.self.now.loose_is
