use Rattle.std.proofs.Common.{◌≡◌, ◌-◌, ◌≤◌, true, false, ltb, Some, None, Ok, sym, ap, ◌∙◌, arith, pow_mono}
use Rattle.std.proofs.lemmas.Bool.{lt-ltb, le-ltb}
use Rattle.netlist.specs.Findings.{first}
use Rattle.records.specs.declared.fault.TableFault.TheVariants.{NoSuchHandle, NoSuchCode}
use Rattle.records.specs.Stores.{level, value, up}
use Rattle.records.specs.Rules.{lawful}
use Rattle.records.specs.Marks.{reach_of}
use Rattle.records.specs.Faults.{test, find_refusal, unless_refused}
use Rattle.diagram.specs.Views.{view}
use Rattle.records.proofs.Shapes.{well}
use Rattle.records.proofs.Finds.{reach_lacks, reach_has}
use Rattle.records.proofs.Lookups.{passed}
use Rattle.diagram.proofs.table.Table.find.Goals as goal

pub returns-then-wanted-COUNT-clause-meaning : goal.returns-then-wanted-COUNT-clause-meaning
returns-then-wanted-COUNT-clause-meaning g c sound =
    let o = g.G.Algebra.ops in
    let s = view c.args.self.now in
    let h = c.args.h in
    let v = c.args.wanted in
    let code : ltb v o.count ≡ false = le-ltb v o.count (omega (arith, g.G.Algebra.counts)) in
    let fails : find_refusal o s h v ≡ Some NoSuchCode = passed (lawful o s h) NoSuchHandle (test (ltb v o.count) NoSuchCode None) c.in_ok-check_lawful.ensures ∙ ap (λ b. test b NoSuchCode None) code in
    sym (ap (λ k. unless_refused k (first s.inputs (value o s h) v)) fails)

pub returns-then-not-is_up : goal.returns-then-not-is_up
returns-then-not-is_up g c =
    let o = g.G.Algebra.ops in
    let s = view c.args.self.now in
    let h = c.args.h in
    let v = c.args.wanted in
    let l = c.in_ok-check_lawful.ensures in
    let code : ltb v o.count ≡ true = lt-ltb v o.count (omega (arith, g.G.Algebra.counts)) in
    let passes : find_refusal o s h v ≡ None = passed (lawful o s h) NoSuchHandle (test (ltb v o.count) NoSuchCode None) l ∙ passed (ltb v o.count) NoSuchCode None code in
    let down : up (reach_of o s h) v ≡ false = ap (λ m. up m v) (sym c.reach_of.ensures) ∙ sym c.is_up.ensures ∙ c.if-not-is_up.true in
    record {
      refusal = sym passes;
      shape = down;
      meaning = λ sound.
          sym (ap (λ k. unless_refused k (first s.inputs (value o s h) v)) passes ∙ ap Ok (reach_lacks g.G.Algebra.laws (well c.args.self.now.well) sound h v l down));
    }

pub returns : goal.returns
returns g c =
    let o = g.G.Algebra.ops in
    let s = view c.args.self.now in
    let h = c.args.h in
    let v = c.args.wanted in
    let l = c.in_ok-check_lawful.ensures in
    let code : ltb v o.count ≡ true = lt-ltb v o.count (omega (arith, g.G.Algebra.counts)) in
    let passes : find_refusal o s h v ≡ None = passed (lawful o s h) NoSuchHandle (test (ltb v o.count) NoSuchCode None) l ∙ passed (ltb v o.count) NoSuchCode None code in
    let set : up (reach_of o s h) v ≡ true = ap (λ m. up m v) (sym c.reach_of.ensures) ∙ sym c.is_up.ensures ∙ c.if-not-is_up.false in
    let k : s.inputs - level s h ≤ s.inputs = omega arith in
    record {
      refusal = sym passes;
      shape = (set, omega (arith, pow_mono k, c.first_in_use.ensures.small));
      meaning = λ sound.
          sym
          (ap (λ k. unless_refused k (first s.inputs (value o s h) v)) passes
          ∙ ap Ok (c.first_in_use.ensures.first sound l (reach_has g.G.Algebra.laws (well c.args.self.now.well) sound h v l set)));
    }
