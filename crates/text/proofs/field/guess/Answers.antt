use Rattle.std.proofs.Common.{ap, take, get_or, arith}
use Rattle.std.proofs.lemmas.List.{take_more}
use Rattle.text.specs.Guesses.{guessed}
use Rattle.text.proofs.Guessing.{guess_small, guess_more, guessed_push}
use Rattle.text.proofs.field.guess.Goals as goal

pub overflow_mul-n : goal.overflow_mul-n
overflow_mul-n c = let s = guess_small c.loop-b.n _ _ c.loop-b.invariant.1 c.loop-b-test.true c.requires in omega arith

pub overflow_add-n : goal.overflow_add-n
overflow_add-n c =
    let s = guess_small c.loop-b.n _ _ c.loop-b.invariant.1 c.loop-b-test.true c.requires in
    let d = c.digit_value.ensures.1 in
    omega arith

pub loop-b-preserved : goal.loop-b-preserved
loop-b-preserved c =
    let i = c.loop-b.invariant in
    let d = c.digit_value.ensures in
    let p = guessed_push (take c.loop-b.b-index c.args.s.now) (get_or c.args.s.now c.loop-b.b-index 0) in
    let t = ap guessed (take_more c.args.s.now c.loop-b.b-index 0 c.loop-b-test.true) in
    (omega arith, guess_more c.loop-b.n c.loop-b.b-index c.digit_value.result i.1 d.1)
