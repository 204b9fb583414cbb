use Rattle.std.proofs.Common.{◌≡◌, ◌*◌, ◌%◌, ◌^◌, min, ap, ◌∙◌, arith}
use Rattle.std.proofs.lemmas.Nat.{one_shl, pow_pos}
use Rattle.memo.proofs.Epochs.{fresh}
use Rattle.memo.proofs.rows.RowMemo.new.Goals as goal

pub invariant_of-result : goal.invariant_of-result
invariant_of-result c =
    let power : (1 * 2 ^ c.min.result) % 2 ^ 64 ≡ 2 ^ c.min.result = one_shl c.min.result 64 (omega arith) in
    record { some = omega (arith, power, pow_pos c.min.result, c.in_ok-rows.ensures.len); past = (fresh 0 _ _ _ c.default.ensures.1.1 (c.in_ok-rows.ensures.items_if_clones_equal (λ y e. e))).0 }

pub returns : goal.returns
returns c =
    let bits : c.min.result ≡ min c.args.bits 22 = omega arith in (
      c.in_ok-rows.ensures.len ∙ one_shl c.min.result 64 (omega arith) ∙ ap (λ z. 2 ^ z) bits,
      (fresh _ _ _ _ c.default.ensures.1.1 (c.in_ok-rows.ensures.items_if_clones_equal (λ y e. e))).1,
    )
