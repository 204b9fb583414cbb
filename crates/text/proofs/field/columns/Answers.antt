use Rattle.std.proofs.Common.{◌≡◌, ◌-◌, ◌/◌, ◌^◌, suc, ◌++◌, replicate, sym, ap, ◌∙◌, arith, append-nil}
use Rattle.std.proofs.Math.Nat.{pow-suc, div-div-eq-div-mul}
use Rattle.text.specs.Guesses.{columns}
use Rattle.text.proofs.Guessing.{put_next, keep_next}
use Rattle.text.proofs.field.columns.Goals.{then-rest-gt0, then-rest-gt0-via-then-rest-gt0, then-rest-gt0-via-else-rest-gt0+then-i, else-rest-gt0+else-i}
use Rattle.text.proofs.field.columns.Goals as goal

pub loop-i-init : goal.loop-i-init
loop-i-init g c =
    let N = g.row.N in
    let n = c.args.n in
    let z : 0 ≡ N - N = omega arith in
    let w : n ≡ n / 10 ^ 0 = omega arith in
    (omega arith, sym (append-nil (replicate N 32)) ∙ ap (λ k. replicate N 32 ++ columns k n) z, w ∙ ap (λ k. n / 10 ^ k) z)

pub loop-i-preserved : goal.loop-i-preserved
loop-i-preserved g c =
    let n = c.args.n in
    let r = c.loop-i.rest in
    let i = c.loop-i.i - 1 in
    let j = g.row.N - c.loop-i.i in
    let v = c.loop-i.invariant in
    let l : c.loop-i.i ≡ suc i = omega arith in
    let m : suc j ≡ g.row.N - i = omega arith in
    let x = v.1 ∙ ap (λ k. replicate k 32 ++ columns j n) l in
    let t = ap (λ k. replicate i 32 ++ columns k n) m in (
      omega arith,
      (elim c.if-rest-gt0.branch [
        | then-rest-gt0 w ↦ w.field-is
            ∙ put_next i j n r c.loop-i.field x v.2
            (elim w.then-rest-gt0.branch [
              | then-rest-gt0-via-then-rest-gt0 w' ↦ λ z. absurd (omega arith)
              | then-rest-gt0-via-else-rest-gt0+then-i w' ↦ λ z. omega arith
            ])
        | else-rest-gt0+else-i w ↦ w.field-is ∙ keep_next i j n r c.loop-i.field x v.2 (omega arith) (λ z. omega arith)
      ]) ∙ t,
      ap (λ k. k / 10) v.2 ∙ div-div-eq-div-mul n (10 ^ j) 10 ∙ ap (λ k. n / k) (sym (pow-suc 10 j)) ∙ ap (λ k. n / 10 ^ k) m,
    )

pub returns : goal.returns
returns g c =
    let z : c.loop-i.i ≡ 0 = omega arith in
    let m : g.row.N - 0 ≡ g.row.N = omega arith in
    c.loop-i.invariant.1 ∙ ap (λ k. replicate k 32 ++ columns (g.row.N - k) c.args.n) z ∙ ap (λ k. columns k c.args.n) m
