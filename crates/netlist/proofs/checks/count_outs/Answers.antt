use Rattle.std.proofs.Common.{◌≡◌, suc, ◌+◌, refl, ap, cond, arith, List}
use Rattle.std.specs.Prelude.{count_by}
use Rattle.std.proofs.lemmas.Grind.{common_steps}
use Rattle.std.proofs.lemmas.List.Recursion.{is_count_by}
use Rattle.netlist.specs.declared.line.Line.{Line}
use Rattle.netlist.specs.Lines.{out_count, is_out}
use Rattle.netlist.proofs.checks.count_outs.Goals as goal

counted : (ls : List Line) → out_count ls ≡ count_by is_out ls
unfolding out_count
counted = is_count_by out_count is_out refl (λ l ls. ap (λ n. cond (is_out l) n (out_count ls)) (let same : suc (out_count ls) ≡ 1 + out_count ls = omega arith in same))

pub returns-clause-value : goal.returns-clause-value
returns-clause-value c = grind (arith, common_steps, counted)
