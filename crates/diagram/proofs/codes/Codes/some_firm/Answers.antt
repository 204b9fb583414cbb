use Rattle.diagram.proofs.Passes.{firm_test}
use Rattle.diagram.proofs.codes.Codes.some_firm.Goals as goal

pub returns : goal.returns
returns g c = firm_test g.G.Algebra.ops c.args.mask c.args.self.now.firm c.args.self.now.firm_is
