-- A handle split at an input that it tests first or not at all. Assumes nothing.
use Rattle.std.proofs.Common.{◌≡◌, ℕ, ◌+◌, ◌^◌, ◌<◌, ◌≤◌, min, eqb, sym, refl, ap, ◌∙◌, subst, ⊎_elim, arith}
use Rattle.std.proofs.lemmas.Bool.{cases_lt, cases_Bool, cond-true, cond-false, eqb-true, eqb-false}
use Rattle.algebra.specs.Ops.{Ops}
use Rattle.algebra.specs.Laws.{Laws}
use Rattle.netlist.specs.Signals.{bit}
use Rattle.records.specs.declared.row.Row.{Row}
use Rattle.records.specs.Stores.{Store, level, value}
use Rattle.records.specs.Rules.{Well, Sound, Lawful}
use Rattle.records.specs.Changes.{Within}
use Rattle.records.specs.Marks.{cofactor}
use Rattle.records.specs.Makings.{Beyond}
use Rattle.records.specs.Walks.{cofactor_at, Cut}
use Rattle.records.proofs.Bits.{fixed}
use Rattle.records.proofs.Values.{level_constant, level_inside}
use Rattle.records.proofs.Firsts.{side_same}
use Rattle.records.proofs.Cofactors.{cofactor_within, cofactor_deeper, cofactor_lawful, cofactor_value, cofactor_means}

-- a handle that tests an input is no constant
pub tests_large : (s : Store) (h i : ℕ) → level s h ≡ i → i < s.inputs → 16 ≤ h
tests_large s h i e l = ⊎_elim (λ c. absurd (omega (arith, level_constant s h c))) (λ c. c) (cases_lt h 16)

-- g is what is left of h when the bit of input i is b
pub record Half (o : Ops) (s : Store) (i b h g : ℕ) : Type 0 where
  pub beyond : Beyond s i g
  pub lawful : Sound o s → Lawful o s h → Lawful o s g
  pub value_is : Sound o s → Lawful o s h → (p : ℕ) → p < 2 ^ s.inputs → value o s g p ≡ value o s h (fixed s.inputs (i + 1) b p)
  pub means : Sound o s → Lawful o s h → (p : ℕ) → p < 2 ^ s.inputs → bit s.inputs p i ≡ b → value o s g p ≡ value o s h p

half : {o : Ops} → Laws o → {s : Store} (w : Well s) (i b h : ℕ) → b < 2 → Within s h → i ≤ level s h → i < s.inputs → Half o s i b h (cofactor_at o s h i b)
half {o} laws {s} w i b h few u above inside =
    ⊎_elim
    (λ t.
    let l = eqb-true (level s h) i t in
    let g = tests_large s h i l inside in
    subst (Half o s i b h) (sym (cond-true (eqb (level s h) i) (cofactor o s h b) h t))
    (record {
      beyond = record { within = cofactor_within laws w h b g u; deeper = omega (arith, cofactor_deeper laws w h b g u) };
      lawful = λ sound lawful. cofactor_lawful laws w sound h b lawful g;
      value_is = λ sound lawful p k. cofactor_value laws w sound h b lawful g p few k ∙ ap (λ j. value o s h (fixed s.inputs (j + 1) b p)) l;
      means = λ sound lawful p k e. cofactor_means laws w sound h b lawful g p k (ap (bit s.inputs p) l ∙ e);
    }))
    (λ t.
    let ne = eqb-false (level s h) i t in
    let deeper : i < level s h = ⊎_elim (λ c. c) (λ c. absurd (ne (omega arith))) (cases_lt i (level s h)) in
    subst (Half o s i b h) (sym (cond-false (eqb (level s h) i) (cofactor o s h b) h t))
    (record {
      beyond = record { within = u; deeper = deeper };
      lawful = λ sound lawful. lawful;
      value_is = λ sound lawful p k. sym (side_same o w i h b p u deeper);
      means = λ sound lawful p k e. refl;
    }))
    (cases_Bool (eqb (level s h) i))

-- the four of a cut
pub record Halved (o : Ops) (s : Store) (x y i x0 x1 y0 y1 : ℕ) : Type 0 where
  pub input_is : i ≡ min (level s x) (level s y)
  pub inside : i < s.inputs
  pub low : Half o s i 0 x x0
  pub high : Half o s i 1 x x1
  pub low_other : Half o s i 0 y y0
  pub high_other : Half o s i 1 y y1

pub halved : {o : Ops} → Laws o → {s : Store} (w : Well s) (x y : ℕ) (r : Row) → Within s x → Within s y → Cut o s x y r → Halved o s x y r.input r.low r.high r.low_other r.high_other
halved {o} laws {s} w x y r u v c =
    let i = r.input in
    let e = c.input_is in
    record {
      input_is = e;
      inside = c.inside;
      low = subst (Half o s i 0 x) (sym c.low_is) (half laws w i 0 x (omega arith) u (omega arith) c.inside);
      high = subst (Half o s i 1 x) (sym c.high_is) (half laws w i 1 x (omega arith) u (omega arith) c.inside);
      low_other = subst (Half o s i 0 y) (sym c.low_other_is) (half laws w i 0 y (omega arith) v (omega arith) c.inside);
      high_other = subst (Half o s i 1 y) (sym c.high_other_is) (half laws w i 1 y (omega arith) v (omega arith) c.inside);
    }

-- of two handles that are not both constants one tests an input
pub cut_inside : {s : Store} (w : Well s) (x y : ℕ) → Within s x → Within s y → (x < 16 → y < 16 → ⊥) → min (level s x) (level s y) < s.inputs
cut_inside {s} w x y u v places =
    ⊎_elim
    (λ c. ⊎_elim (λ d. absurd (places c d)) (λ d. omega (arith, level_inside w y d v)) (cases_lt y 16))
    (λ c. omega (arith, level_inside w x c u))
    (cases_lt x 16)
