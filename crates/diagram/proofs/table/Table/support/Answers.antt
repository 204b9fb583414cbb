use Rattle.std.proofs.Common.{◌≡◌, ◌<◌, true, ltb, length, None, Ok, sym, refl, ap, ◌∙◌, arith}
use Rattle.std.proofs.lemmas.Bool.{lt-ltb}
use Rattle.records.specs.declared.fault.TableFault.TheVariants.{FewRows, NoSuchHandle}
use Rattle.records.specs.Rules.{lawful}
use Rattle.records.specs.Faults.{test, support_refusal, unless_refused}
use Rattle.records.specs.Stores.{value}
use Rattle.records.specs.Supports.{support_of}
use Rattle.diagram.specs.Views.{view}
use Rattle.records.proofs.Shapes.{well}
use Rattle.records.proofs.Matter.{no_row, done_cleared, support_is}
use Rattle.records.proofs.Lookups.{passed}
use Rattle.diagram.proofs.table.Table.support.Goals as goal

pub collect-requires-clause-done : goal.collect-requires-clause-done
collect-requires-clause-done g c =
    let o = g.G.Algebra.ops in
    let s = view c.args.self.now in
    let h = c.args.h in
    let l = c.in_ok-check_lawful.ensures in
    done_cleared s 0 c.fill.new.self (λ k l.
    let less : k < length c.args.rows.now = omega (arith, c.fill.ensures.len) in
    ap (λ x. x.low) (c.fill.ensures.clones k no_row less refl) ∙ c.default.ensures.1.0)

pub returns-clause-meaning : goal.returns-clause-meaning
returns-clause-meaning g c =
    let o = g.G.Algebra.ops in
    let s = view c.args.self.now in
    let h = c.args.h in
    let n = length c.args.rows.now in
    let l = c.in_ok-check_lawful.ensures in
    let enough : ltb s.inputs n ≡ true = lt-ltb s.inputs n c.in_ok-check_rows.ensures in
    let passes : support_refusal o s n h ≡ None = passed (ltb s.inputs n) FewRows (test (lawful o s h) NoSuchHandle None) enough ∙ passed (lawful o s h) NoSuchHandle None l in
    λ sound.
    ap Ok (support_is g.G.Algebra.laws (well c.args.self.now.well) sound h c.collect.result l c.collect.type_inv c.collect.ensures.collected)
    ∙ sym (ap (λ k. unless_refused k (support_of s.inputs (value o s h))) passes)
