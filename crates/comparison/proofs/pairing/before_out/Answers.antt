use Rattle.std.proofs.Common.{◌≡◌, true, false, sym, refl, ◌∙◌, rules, tests}
use Rattle.std.proofs.lemmas.Iterator.{YieldsList-from_slice, IsFirst-from_position, index_from_first}
use Rattle.std.specs.List.{position_or_len}
use Rattle.netlist.specs.Lines.{is_out}
use Rattle.comparison.proofs.Pairings.{before_hit, before_miss}
use Rattle.comparison.proofs.pairing.before_out.Goals as goal

pub returns : goal.returns
returns c =
    c.unwrap_or.ensures
    ∙ sym (index_from_first (position_or_len is_out) (λ l. is_out l ≡ true) (λ l. is_out l ≡ false) refl before_hit before_miss c.args.lines.now c.position.result
    (IsFirst-from_position _ _ c.position.result (λ l. is_out l ≡ true) (λ l. is_out l ≡ false) c.position.ensures.ran (YieldsList-from_slice c.args.lines.now cc) (λ x q k. search (rules, tests)) (λ x q k. search (rules, tests))))
