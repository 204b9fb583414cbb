use Rattle.std.proofs.Common.{◌≡◌, length, drop, ap, ◌∙◌}
use Rattle.std.proofs.lemmas.List.{drop_at}
use lib.ListN.{length-map}
use Rattle.netlist.specs.Lines.{line_signals, outs}
use Rattle.netlist.specs.Evaluations.{values_at}
use Rattle.netlist.proofs.LineSignals.{signals_length}
use Rattle.netlist.proofs.OutValues.{outs_append, outs_map}
use Rattle.evaluation.proofs.comparison.out_values.Goals as goal

pub returns : goal.returns
returns g c =
    let ls = c.args.lines.now in
    let p = c.args.pattern.number in
    let ss = line_signals g.G.Algebra.ops c.args.pattern.width ls in
    let long : length (values_at p ss) ≡ length ls = length-map ss (λ s. s p) ∙ signals_length g.G.Algebra.ops c.args.pattern.width ls in
    record {
      told = c.keep_outs.ensures.kept ∙ ap (outs ls) c.fill_values.ensures ∙ outs_append ls _ _ long ∙ outs_map (λ s. s p) ls ss;
      rest = c.keep_outs.ensures.rest ∙ ap (drop (length ls)) c.fill_values.ensures ∙ drop_at (values_at p ss) _ (length ls) long;
    }
