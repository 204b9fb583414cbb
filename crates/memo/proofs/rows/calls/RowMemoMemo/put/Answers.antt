use Rattle.std.proofs.Common.{◌-◌, vec_items, vec_len, refl, arith}
use Rattle.memo.proofs.Epochs.{puts_set, past_set}
use Rattle.memo.proofs.rows.calls.RowMemoMemo.put.Goals as goal

pub invariant_of-self : goal.invariant_of-self
invariant_of-self c =
    let m = c.args.self.now in
    record { some = omega arith; past = past_set m.epoch c.row_of-i.result (vec_items m.rows) _ (omega arith) (omega arith) m.past }

pub returns : goal.returns
returns c =
    let m = c.args.self.now in
    puts_set m.epoch (vec_len m.rows - 1) c.row_of-i.result (vec_items m.rows)
    record { key = c.args.key; h = c.args.h; epoch = m.epoch }
    c.row_of-i.ensures.value (omega arith) refl
