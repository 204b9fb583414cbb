use Rattle.std.proofs.Common.{refl}
use Rattle.records.proofs.Counting.{counted}
use Rattle.records.proofs.theorems.counting_stands.Goals as goal

pub returns : goal.returns
returns c = (refl, counted)
