use Rattle.std.proofs.Common.{◌+◌, ◌-◌, ◌<◌, ◌%◌, ◌/◌, ◌^◌, ap, ◌∙◌, subst, arith}
use Rattle.std.specs.Option.{SomeIff}
use Rattle.text.proofs.Found.{shifted}
use Rattle.text.proofs.writer.bit_digit.Goals as goal

pub returns : goal.returns
returns c =
    let k = c.args.width - 1 - c.args.input in
    let s = subst (λ n. SomeIff c.checked_shr.result (n < 64) (c.args.pattern / 2 ^ n)) c.from.ensures c.checked_shr.ensures in
    ap (λ b. 48 + b % 2) (c.unwrap_or-bit.ensures ∙ shifted c.args.pattern k c.checked_shr.result (omega arith) s)
