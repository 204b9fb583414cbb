-- The places of a sound table are different parts: none is constant, no two are one or each other's NOT, and a lawful handle
-- is a constant, a place or its NOT. Assumes nothing.
use Rattle.std.proofs.Common.{◌≡◌, ℕ, ◌<◌, ◌⊎◌, sym, ap, ◌∙◌, inl, inr, ⊎_elim, arith, pow_pos}
use Rattle.std.proofs.lemmas.Bool.{cases_lt, cases_Bool}
use Rattle.algebra.specs.Ops.{Ops}
use Rattle.algebra.specs.Laws.{Laws}
use Rattle.netlist.specs.Signals.{Agree, constant, turned}
use Rattle.records.specs.Stores.{Store, handle, place, marked, value}
use Rattle.records.specs.Rules.{Well, Sound, Lawful, SettledAlone}
use Rattle.records.specs.Marks.{negate}
use Rattle.records.proofs.Values.{place_handle, unmarked_handle, lawful_constant, lawful_place, lawful_within, constant_lawful, handle_lawful, value_constant, value_under, under_marked, codes}
use Rattle.records.proofs.Canon.{one_number, marked_settled}
use Rattle.records.proofs.Negates.{negate_place, negate_lawful, negate_value}

module _ {o : Ops} (laws : Laws o) {s : Store} (w : Well s) (sound : Sound o s) where
  pub places_agree : (p q : ℕ) → p < s.used → q < s.used → Agree s.inputs (value o s (handle p)) (value o s (handle q)) → p ≡ q
  places_agree p q u v same =
      let e = one_number laws w sound (handle p) (handle q) (handle_lawful o s p u) (handle_lawful o s q v) same in
      omega arith

  pub places_opposite : (p q : ℕ) → p < s.used → q < s.used → SettledAlone o s (handle q)
      → Agree s.inputs (value o s (handle p)) (turned o (value o s (handle q))) → p ≡ q
  places_opposite p q u v alone same =
      let lawful = handle_lawful o s q v in
      let e = one_number laws w sound (handle p) (negate o s (handle q)) (handle_lawful o s p u) (negate_lawful laws w sound (handle q) lawful)
      (λ r k. same r k ∙ sym (negate_value laws w sound (handle q) r lawful alone k)) in
      sym (place_handle p) ∙ ap place e ∙ negate_place laws s (handle q) (omega arith) ∙ place_handle q

  pub place_varies : (p v : ℕ) → p < s.used → Agree s.inputs (value o s (handle p)) (constant v) → ⊥
  place_varies p v u same =
      let here = same 0 (pow_pos s.inputs) in
      let few = codes laws w sound (handle p) 0 (handle_lawful o s p u) in
      let small : v < 16 = omega (arith, laws.sixteen_at_most) in
      let e = one_number laws w sound (handle p) v (handle_lawful o s p u) (constant_lawful o s v small (omega arith)) (λ r k. same r k ∙ sym (value_constant o s v r small)) in
      omega arith

  -- what a lawful handle can be
  pub lawful_cases : (h : ℕ) → Lawful o s h
      → (h < o.count)
      ⊎ ((p : ℕ) × (p < s.used)
      × (Agree s.inputs (value o s h) (value o s (handle p)) ⊎ (SettledAlone o s (handle p) × Agree s.inputs (value o s h) (turned o (value o s (handle p))))))
  lawful_cases h l =
      ⊎_elim
      (λ c. inl (lawful_constant o s h l c))
      (λ g. inr (
        place h,
        lawful_place o s h l g,
        ⊎_elim
            (λ e. inr (marked_settled laws w sound h l g e, λ q k. value_under o w h q g (lawful_within o s h l) ∙ under_marked o h _ e))
            (λ e. inl (λ q k. ap (λ x. value o s x q) (unmarked_handle h g e)))
            (cases_Bool (marked h)),
      ))
      (cases_lt h 16)
