-- Each part of the signal of a lawful handle has a lawful handle in the same table. Assumes nothing.
use Rattle.std.proofs.Common.{◌≡◌, ℕ, zero, suc, ◌+◌, ◌/◌, ◌%◌, ◌^◌, ◌<◌, ◌≤◌, sym, ap, ◌∙◌, subst, ⊎_elim, arith, pow-add}
use Rattle.std.proofs.lemmas.Bool.{cases_lt}
use Rattle.algebra.specs.Ops.{Ops}
use Rattle.algebra.specs.Laws.{Laws}
use Rattle.netlist.specs.Signals.{bit, Agree}
use Rattle.netlist.specs.Parts.{part}
use Rattle.records.specs.Stores.{Store, level, value}
use Rattle.records.specs.Rules.{Well, Sound, Lawful}
use Rattle.records.specs.Marks.{cofactor}
use Rattle.records.proofs.Bits.{fixed, fixed_below, fixed_after, fixed_last, fixed_none, fixed_fixed}
use Rattle.records.proofs.Values.{level_constant, lawful_within, ignores}
use Rattle.records.proofs.Cofactors.{cofactor_lawful, cofactor_deeper, cofactor_value}

-- a lawful handle for the part of h with the first k bits fixed to a
pub record Subhandle (o : Ops) (s : Store) (h k a g : ℕ) : Type 0 where
  pub lawful : Lawful o s g
  pub deep : k ≤ level s g
  pub means : Agree s.inputs (value o s g) (part s.inputs (value o s h) k a)

module _ {o : Ops} (laws : Laws o) {s : Store} (w : Well s) (sound : Sound o s) (h : ℕ) (l : Lawful o s h) where
  -- one bit more: the same handle, or a side of it
  next : (k a g : ℕ) → k < s.inputs → a < 2 ^ (k + 1) → Subhandle o s h k (a / 2) g → (x : ℕ) × Subhandle o s h (k + 1) a x
  next k a g inside below sub =
      let n = s.inputs in
      let p' = fixed n (k + 1) a in
      let few : (p : ℕ) → p' p < 2 ^ n = λ p. fixed_below n (k + 1) a p (omega arith) below in
      let there : (p : ℕ) → value o s g (p' p) ≡ value o s h (p' p) = λ p. sub.means (p' p) (few p) ∙ ap (value o s h) (fixed_fixed n k a p inside) in
      let u = lawful_within o s g sub.lawful in
      ⊎_elim
      (λ deeper. (
        g,
        record {
          lawful = sub.lawful;
          deep = omega arith;
          means = λ p m. ignores o w g p (p' p) u (λ j c d. sym (fixed_after n (k + 1) a p j (omega arith) d)) ∙ there p;
        },
      ))
      (λ here.
      let at : level s g ≡ k = omega (arith, sub.deep) in
      let large : 16 ≤ g = ⊎_elim (λ c. absurd (omega (arith, level_constant s g c))) (λ c. c) (cases_lt g 16) in
      let b = a % 2 in (
        cofactor o s g b,
        record {
          lawful = cofactor_lawful laws w sound g b sub.lawful large;
          deep = omega (arith, cofactor_deeper laws w g b large u);
          means = λ p m.
              cofactor_value laws w sound g b sub.lawful large p (omega arith) m
              ∙ ap (λ i. value o s g (fixed n (i + 1) b p)) at
              ∙ ignores o w g (fixed n (k + 1) b p) (p' p) u
              (λ j c d. ⊎_elim
              (λ later. fixed_after n (k + 1) b p j (omega arith) d ∙ sym (fixed_after n (k + 1) a p j (omega arith) d))
              (λ now.
              let same : j ≡ k = omega (arith, sub.deep) in
              ap (bit n (fixed n (k + 1) b p)) same ∙ fixed_last n k b p inside ∙ omega arith ∙ sym (fixed_last n k a p inside) ∙ ap (bit n (p' p)) (sym same))
              (cases_lt k j))
              ∙ there p;
        },
      ))
      (cases_lt k (level s g))

  pub subhandle : (k a : ℕ) → k ≤ s.inputs → a < 2 ^ k → (g : ℕ) × Subhandle o s h k a g
  subhandle zero a inside below =
      (h, record { lawful = l; deep = omega arith; means = λ p m. ap (value o s h) (sym (fixed_none s.inputs a p below m)) })
  subhandle (suc k) a inside below =
      let more : suc k ≡ k + 1 = omega arith in
      let below' : a < 2 ^ (k + 1) = subst (λ x. a < 2 ^ x) more below in
      let sub = subhandle k (a / 2) (omega arith) (omega (arith, pow-add 2 k 1)) in
      let r = next k a sub.0 (omega arith) below' sub.1 in
      (r.0, subst (λ x. Subhandle o s h x a r.0) (sym more) r.1)
