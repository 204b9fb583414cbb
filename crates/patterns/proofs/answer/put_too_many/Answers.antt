use Rattle.std.proofs.Common.{length, ap, ◌∙◌}
use Rattle.std.proofs.lemmas.List.{take_at}
use Rattle.patterns.proofs.answer.put_too_many.Goals as goal

pub returns : goal.returns
returns c = take_at c.copy_from_slice.new.self _ 46 (ap length c.copy_from_slice.ensures.after) ∙ c.copy_from_slice.ensures.after
