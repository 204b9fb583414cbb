use Rattle.std.proofs.Common.{◌≡◌, drop, ap, ◌∙◌, arith, length-drop}
use Rattle.std.specs.List.{position_or_len}
use Rattle.std.proofs.lemmas.List.{take_rest}
use Rattle.netlist.specs.Lines.{is_out}
use Rattle.comparison.proofs.Pairings.{before_within, before_found, before_skips}
use Rattle.comparison.proofs.pairing.next_out.Goals as goal

pub overflow_add-result : goal.overflow_add-result
overflow_add-result c =
    let ls = c.args.lines.now in
    let is : c.before_out.result ≡ position_or_len is_out (drop c.args.from ls) = c.before_out.ensures ∙ ap (position_or_len is_out) (take_rest ls c.args.from) in
    let long = length-drop c.args.from ls in
    let within = before_within (drop c.args.from ls) c.requires.due in
    omega arith

pub returns : goal.returns
returns c =
    let ls = c.args.lines.now in
    let from = c.args.from in
    let k = c.before_out.result in
    let is : k ≡ position_or_len is_out (drop from ls) = c.before_out.ensures ∙ ap (position_or_len is_out) (take_rest ls from) in
    let long = length-drop from ls in
    let within = before_within (drop from ls) c.requires.due in
    record {
      within = omega arith;
      found = before_found ls from k is (omega arith);
      skipped = λ xs e. before_skips ls from k is xs e;
    }
