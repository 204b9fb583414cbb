use Rattle.std.proofs.Common.{refl}
use Rattle.records.proofs.Canon.{canonical}
use Rattle.records.proofs.theorems.one_number_stands.Goals as goal

pub returns : goal.returns
returns c = (refl, canonical)
