use Rattle.std.proofs.Common.{◌*◌, ◌/◌, ◌^◌, ◌<◌, arith}
use Rattle.std.proofs.lemmas.Nat.{div_below, pow_pos}
use Rattle.netlist.proofs.pattern.Pattern.new.Goals as goal
use Rattle.netlist.proofs.pattern.Pattern.new.Goals.{then-width-gt-MOST_INPUTS-via-then-width-gt-MOST_INPUTS, then-width-gt-MOST_INPUTS-via-else-width-gt-MOST_INPUTS+then-number-width-ne0}

pub returns-then-width-gt-MOST_INPUTS : goal.returns-then-width-gt-MOST_INPUTS
returns-then-width-gt-MOST_INPUTS c narrow within =
    let w = c.args.width in
    let small : c.args.number < 1 * 2 ^ w = omega arith in
    let none : c.args.number / 2 ^ w < 1 = div_below c.args.number (2 ^ w) 1 (pow_pos w) small in
    elim c.then-width-gt-MOST_INPUTS.branch
    [ then-width-gt-MOST_INPUTS-via-then-width-gt-MOST_INPUTS w ↦ omega arith | then-width-gt-MOST_INPUTS-via-else-width-gt-MOST_INPUTS+then-number-width-ne0 w ↦ omega arith ]
