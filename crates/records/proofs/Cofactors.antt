-- A handle split at its input: a side, under NOT where the handle is marked. Assumes nothing.
use Rattle.std.proofs.Common.{◌≡◌, ℕ, ◌+◌, ◌^◌, ◌<◌, ◌≤◌, T, sym, ap, ◌∙◌, subst, ⊎_elim, arith}
use Rattle.std.proofs.lemmas.Bool.{cases_lt, cases_Bool, cond-true, cond-false, cond_both}
use Rattle.algebra.specs.Ops.{Ops}
use Rattle.algebra.specs.Laws.{Laws}
use Rattle.netlist.specs.Signals.{bit}
use Rattle.records.specs.Stores.{Store, handle, place, marked, level, side, value}
use Rattle.records.specs.Rules.{Well, Sound, Lawful, SettledAlone}
use Rattle.records.specs.Changes.{Within}
use Rattle.records.specs.Marks.{negate, cofactor}
use Rattle.records.proofs.Bits.{fixed, fixed_after, chosen_below, chosen_bit}
use Rattle.records.proofs.Values.{level_place, side_before, side_deeper, side_lawful, unmarked_handle, lawful_place, lawful_within, value_under, under_marked, ignores}
use Rattle.records.proofs.Negates.{negate_before, negate_level, negate_lawful, negate_value}
use Rattle.records.proofs.Canon.{side_value, marked_settled}

-- the shape, which needs no rule
pub cofactor_before : {o : Ops} → Laws o → {s : Store} (w : Well s) (h b : ℕ) → 16 ≤ h → Within s h → cofactor o s h b < handle (place h)
cofactor_before {o} laws {s} w h b g u =
    let k = side (s.at (place h)) b in
    let before = side_before w (place h) b (omega arith) in
    cond_both (marked h) (negate o s k) k (λ x. x < handle (place h)) (λ _. negate_before laws s k (place h) before) (λ _. before)

pub cofactor_within : {o : Ops} → Laws o → {s : Store} (w : Well s) (h b : ℕ) → 16 ≤ h → Within s h → Within s (cofactor o s h b)
cofactor_within laws w h b g u = omega (arith, cofactor_before laws w h b g u)

pub cofactor_deeper : {o : Ops} → Laws o → {s : Store} (w : Well s) (h b : ℕ) → 16 ≤ h → Within s h → level s h < level s (cofactor o s h b)
cofactor_deeper {o} laws {s} w h b g u =
    let k = side (s.at (place h)) b in
    let deeper = side_deeper w (place h) b (omega arith) in
    let e = level_place s h g in
    cond_both (marked h) (negate o s k) k (λ x. level s h < level s x) (λ _. omega (arith, negate_level laws s k)) (λ _. omega arith)

module _ {o : Ops} (laws : Laws o) {s : Store} (w : Well s) (sound : Sound o s) (h b : ℕ) (l : Lawful o s h) (g : 16 ≤ h) where
  pub cofactor_lawful : Lawful o s (cofactor o s h b)
  cofactor_lawful =
      let k = side (s.at (place h)) b in
      let k-lawful = side_lawful sound (place h) b (lawful_place o s h l g) in
      cond_both (marked h) (negate o s k) k (Lawful o s) (λ _. negate_lawful laws w sound k k-lawful) (λ _. k-lawful)

  -- it has the handle's values where the input's bit is b
  pub cofactor_value : (p : ℕ) → b < 2 → p < 2 ^ s.inputs → value o s (cofactor o s h b) p ≡ value o s h (fixed s.inputs (level s h + 1) b p)
  cofactor_value p c m =
      let n = s.inputs in
      let q = place h in
      let u = lawful_place o s h l g in
      let i = (s.at q).input in
      let k = side (s.at q) b in
      let inside = (w.placed q u).within in
      let x = fixed n (i + 1) b in
      let k-lawful = side_lawful sound q b u in
      let here : value o s h (x p) ≡ value o s h (fixed n (level s h + 1) b p) = ap (λ j. value o s h (fixed n (j + 1) b p)) (sym (level_place s h g)) in
      ⊎_elim
      (λ e.
      let settled : SettledAlone o s k = λ r d. subst (λ v. T (o.settled v)) (sym (side_value o w q b r u c)) (marked_settled laws w sound h l g e (x r) (chosen_below n i b r inside c)) in
      ap (λ y. value o s y p) (cond-true (marked h) (negate o s k) k e)
      ∙ negate_value laws w sound k p k-lawful settled m
      ∙ ap o.turn (side_value o w q b p u c)
      ∙ sym (value_under o w h (x p) g (lawful_within o s h l) ∙ under_marked o h (value o s (handle q) (x p)) e)
      ∙ here)
      (λ e.
      ap (λ y. value o s y p) (cond-false (marked h) (negate o s k) k e)
      ∙ side_value o w q b p u c
      ∙ ap (λ y. value o s y (x p)) (sym (unmarked_handle h g e))
      ∙ here)
      (cases_Bool (marked h))

  pub cofactor_means : (p : ℕ) → p < 2 ^ s.inputs → bit s.inputs p (level s h) ≡ b → value o s (cofactor o s h b) p ≡ value o s h p
  cofactor_means p m e =
      let n = s.inputs in
      let i = level s h in
      let inside = (w.placed (place h) (lawful_place o s h l g)).within in
      let d = level_place s h g in
      let c : b < 2 = omega arith in
      cofactor_value p c m
      ∙ ignores o w h (fixed n (i + 1) b p) p (lawful_within o s h l)
      (λ j k t. ⊎_elim
      (λ later. fixed_after n (i + 1) b p j (omega arith) t)
      (λ now. let same : j ≡ i = omega arith in ap (bit n (fixed n (i + 1) b p)) same ∙ chosen_bit n i b p (omega arith) c ∙ sym e ∙ ap (bit n p) (sym same))
      (cases_lt i j))
