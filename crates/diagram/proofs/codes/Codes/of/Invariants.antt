use Rattle.std.proofs.Common.{◌≡◌, not}
use Rattle.records.specs.Supports.{mask_below}
use Rattle.records.specs.Rules.{settled_code, firm_code}
use Rattle.diagram.proofs.codes.Codes.of.Given as goal

abbrev pub invariant-loop-v : goal.invariant-loop-v
invariant-loop-v g l =
    (l.loose ≡ mask_below (λ v. not (settled_code g.G.Algebra.ops v)) l.v)
    × (l.firm ≡ mask_below (firm_code g.G.Algebra.ops) l.v)
