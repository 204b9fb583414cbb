use Rattle.std.proofs.Common.{◌≡◌, ◌+◌, ◌++◌, length, take, drop, sym, ap, ◌∙◌, arith}
use Rattle.std.proofs.lemmas.List.{drop_at, drop-drop}
use Rattle.netlist.specs.Lines.{line_signals, outs, out_count}
use Rattle.netlist.specs.Evaluations.{values_at}
use Rattle.netlist.specs.Findings.{zipped, finding_below}
use Rattle.netlist.proofs.OutLines.{few_outs}
use Rattle.netlist.proofs.OutValues.{out_signals_length}
use Rattle.evaluation.proofs.comparison.try_pattern.Goals as goal

pub regrade_pairs-requires : goal.regrade_pairs-requires
regrade_pairs-requires g c =
    let f = few_outs c.args.first.now in
    let s = few_outs c.args.second.now in
    let p = c.requires.pairs in
    let q = c.requires.accepted in
    let split = c.split_at_mut-left.ensures in
    record {
      left = omega (arith, p, c.out_values.auto.values, split.front_len);
      right = omega (arith, p, q.pairs, q.values, c.out_values-2.auto.values, split.back_len);
    }

pub returns : goal.returns
returns g c =
    let o = g.G.Algebra.ops in
    let n = c.args.pattern.width in
    let ls = c.args.first.now in
    let ms = c.args.second.now in
    let a = length ls in
    let b = length ms in
    let u = c.out_values.new.values in
    let v = c.out_values-2.new.values in
    let xs = c.split_at_mut-left.result.0.now in
    let ys = c.split_at_mut-left.result.1.now in
    let split = c.split_at_mut-left.ensures in
    let ss = outs ls (line_signals o n ls) in
    let ts = outs ms (line_signals o n ms) in
    let es : length ss ≡ out_count ls = out_signals_length o n ls in
    let et : length ts ≡ out_count ms = out_signals_length o n ms in
    let even = c.requires.accepted.pairs in
    let e = c.number.ensures in
    record {
      rest =
          sym (drop-drop b a (u ++ v)) ∙ ap (drop b) (drop_at u v a (c.out_values.auto.values ∙ split.front_len))
          ∙ c.out_values-2.ensures.rest
          ∙ sym (ap (drop (a + b)) split.value ∙ sym (drop-drop b a (xs ++ ys)) ∙ ap (drop b) (drop_at xs ys a split.front_len));
      graded = λ known.
          c.regrade_pairs.ensures ss ts (es ∙ sym c.requires.pairs) (et ∙ even ∙ sym es)
          (ap (λ k. take k u) es ∙ c.out_values.ensures.told ∙ ap (λ k. values_at k ss) (sym e))
          (ap (λ k. take k v) (es ∙ sym even) ∙ c.out_values-2.ensures.told ∙ ap (λ k. values_at k ts) (sym e))
          (known ∙ ap (λ k. zipped (finding_below o k) ss ts) (sym e))
          ∙ ap (λ k. zipped (finding_below o (k + 1)) ss ts) e;
    }
