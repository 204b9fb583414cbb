use Rattle.std.proofs.Common.{arith}
use Rattle.memo.proofs.Epochs.{fresh}
use Rattle.memo.proofs.rows.RowMemo.sweep.Goals as goal

pub invariant_of-self : goal.invariant_of-self
invariant_of-self c =
    record { some = omega arith; past = (fresh 0 _ _ _ c.default.ensures.1.1 (c.fill.ensures.items (λ y e. e))).0 }

pub returns : goal.returns
returns c = (fresh _ _ _ _ c.default.ensures.1.1 (c.fill.ensures.items (λ y e. e))).1
