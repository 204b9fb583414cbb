use Rattle.std.proofs.Common.{◌<◌, length, take, drop, arith, length-drop, length-take}
use Rattle.text.proofs.Steps.{none_is}
use Rattle.text.proofs.row.row_at.Goals as goal

pub returns-in_err-row : goal.returns-in_err-row
returns-in_err-row c =
    none_is _ _ c.from_residual-in_err-row.ensures
    (λ f.
    let h = c.in_ok-get.ensures.lookup.0 in
    let k = c.in_err-row.ensures.lookup.0 in
    let l : length (take 25 (drop c.args.at c.args.bytes.now)) < 25 = simp (length-take, length-drop) (omega arith) in
    let w = f.whole in
    omega arith)
