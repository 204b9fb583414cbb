use Rattle.std.proofs.Common.{◌≡◌, ℕ, ◌+◌, ◌≤◌, ◌∷◌, [], ◌++◌, ◌∙◌, ap, sym, map, length, take, arith}
use Rattle.std.specs.List.{range_with_len}
use Rattle.std.proofs.lemmas.List.{take_more_set, take_all}
use Rattle.std.proofs.lemmas.List.FromFn.{map-range_with_len_more}
use Rattle.netlist.specs.Signals.{bit}
use Rattle.text.proofs.writer.fill_bits.Goals as goal

pub loop-input-preserved : goal.loop-input-preserved
loop-input-preserved c =
    let f : ℕ → ℕ = λ i. 48 + bit c.args.width c.args.pattern i in
    let i = c.loop-input.input in
    let t = take_more_set c.loop-input.digits i c.bit_digit.result (omega arith) in
    let m = map-range_with_len_more f 0 i i (omega arith) in
    let k : take i c.loop-input.digits ≡ map f (range_with_len 0 i) = c.loop-input.invariant in
    let e : c.bit_digit.result ≡ f i = c.bit_digit.ensures in
    t ∙ ap (λ z. z ++ c.bit_digit.result ∷ []) k ∙ ap (λ z. map f (range_with_len 0 i) ++ z ∷ []) e ∙ sym m

pub returns : goal.returns
returns c =
    let i = c.loop-input.input in
    let d = c.loop-input.digits in
    let n : length d ≤ i = omega arith in
    let e : i ≡ c.args.width = omega arith in
    sym (take_all i d n) ∙ c.loop-input.invariant ∙ ap (λ n. map (λ i. 48 + bit c.args.width c.args.pattern i) (range_with_len 0 n)) e
