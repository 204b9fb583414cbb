use Rattle.std.proofs.Common.{◌≡◌, ℕ, Bool, not, ◌==◌, List, sym, ap, ◌∙◌}
use Rattle.std.specs.List.{list_any, take_while}
use Rattle.netlist.specs.declared.finding.Finding.TheVariants.{Differs}
use Rattle.netlist.specs.Orders.{before}
use Rattle.netlist.proofs.BeforeOrders.{before_any}
use Rattle.netlist.proofs.Grading.{still_clean, first_differs, graver, not_graver}
use Rattle.evaluation.proofs.comparison.regrade.Goals as goal

-- what `is_before` told, in words of the grave order and of GRADE
ranked : (order grave : List ℕ) (grade op known : ℕ) (r b : Bool) → order ≡ grave → grade ≡ op → r ≡ list_any (λ v. v == grade) (take_while (λ v. not (v == known)) order) → r ≡ b → before grave op known ≡ b
ranked order grave grade op known r b s t e f =
    ap (λ v. before grave v known) (sym t) ∙ ap (λ l. before l grade known) (sym s) ∙ before_any grade known order ∙ sym e ∙ f

pub returns-then-grade-eq0 : goal.returns-then-grade-eq0
returns-then-grade-eq0 g c s t left right known =
    c.in-Clean.is ∙ still_clean g.G.Algebra.ops g.G.Algebra.laws c.args.number _ _ s t left right c.args.old known c.in-Clean.is (sym c.operate-grade.ensures ∙ c.if-grade-eq0.true)

pub returns-else-grade-eq0 : goal.returns-else-grade-eq0
returns-else-grade-eq0 g c s t left right known =
    ap (λ v. Differs (record { grade = v; pattern = c.args.number; left = c.args.left; right = c.args.right })) c.operate-grade.ensures
    ∙ first_differs g.G.Algebra.ops g.G.Algebra.laws c.args.number _ _ s t left right c.args.old known c.in-Clean.is (λ e. c.if-grade-eq0.false (c.operate-grade.ensures ∙ e))

pub returns-then-is_before : goal.returns-then-is_before
returns-then-is_before g c s t left right known =
    ap (λ v. Differs (record { grade = v; pattern = c.args.number; left = c.args.left; right = c.args.right })) c.operate-grade.ensures
    ∙ graver g.G.Algebra.ops g.G.Algebra.laws c.args.number _ _ s t left right c.args.old known c.in-Differs.known c.in-Differs.is
    (ranked _ _ _ _ c.in-Differs.known.grade _ _ c.grave_order.ensures c.operate-grade.ensures c.is_before.ensures c.if-is_before.true)

pub returns-else-is_before : goal.returns-else-is_before
returns-else-is_before g c s t left right known =
    not_graver g.G.Algebra.ops g.G.Algebra.laws c.args.number _ _ s t left right c.args.old known c.in-Differs.known c.in-Differs.is
    (ranked _ _ _ _ c.in-Differs.known.grade _ _ c.grave_order.ensures c.operate-grade.ensures c.is_before.ensures c.if-is_before.false)
