-- Results of an operator by the values of one operand. Assumes nothing.
use Rattle.std.proofs.Common.{◌≡◌, ℕ, ◌^◌, ◌<◌, ◌≤◌, true, ◌⊎◌, Some, sym, ap, ◌∙◌, subst, ⊎_elim, arith}
use Rattle.std.proofs.lemmas.Bool.{cases_lt, cond-true, cond-false, lt-ltb, le-ltb}
use Rattle.algebra.specs.Ops.{Ops}
use Rattle.algebra.specs.Laws.{Laws}
use Rattle.records.specs.Stores.{Store, level, value, up}
use Rattle.records.specs.Rules.{Well, Sound, Lawful, settled_mask}
use Rattle.records.specs.Changes.{Within}
use Rattle.records.specs.Marks.{negate, reach_of}
use Rattle.records.specs.Outcomes.{ResultOf, TruePairs}
use Rattle.records.specs.Walks.{combine, combined}
use Rattle.memo.specs.Memos.{Pairs, none_kept}
use Rattle.records.proofs.Values.{constant_lawful, value_constant, codes, level_constant, level_within}
use Rattle.records.proofs.Reaches.{reach_right}
use Rattle.records.proofs.Walking.{combine_below, leaf_result, negated_result}
use Rattle.records.proofs.Descents.{leaf_from, negated_from}
use Rattle.diagram.specs.Shortcuts.{operand, Leads, Short}

operand_value : (o : Ops) (s : Store) (h t p : ℕ) → (h < 16) ⊎ (h ≡ t) → value o s h p ≡ operand h (value o s t p)
operand_value o s h t p e =
    ⊎_elim
    (λ c. value_constant o s h p c ∙ sym (cond-true _ _ _ (lt-ltb h 16 c)))
    (λ far. ⊎_elim (λ c. absurd (omega arith)) (λ same. ap (λ z. value o s z p) same ∙ sym (cond-false _ _ _ (le-ltb h 16 far))) e)
    (cases_lt h 16)

-- the operator k gives f v for each value v of a mask
abbrev pub Gives : Ops → ℕ → ℕ → ℕ → ℕ → (ℕ → ℕ) → Type 0
Gives o k x y mask f = (v : ℕ) → v < o.count → up mask v ≡ true → combine o k (operand x v) (operand y v) ≡ f v

module _ {o : Ops} (laws : Laws o) {s : Store} (w : Well s) (k x y t : ℕ) (leads : Leads x y t) (within : Within s t) where
  lead_lawful : Lawful o s x → Lawful o s y → Lawful o s t
  lead_lawful lx ly = ⊎_elim (λ e. subst (Lawful o s) (sym e) lx) (λ e. subst (Lawful o s) (sym e) ly) leads.either

  -- the operator on a pattern, by the value of t there
  told : (f : ℕ → ℕ) → Gives o k x y (reach_of o s t) f → Sound o s → Lawful o s x → Lawful o s y → (p : ℕ) → p < 2 ^ s.inputs → combined o s k x y p ≡ f (value o s t p)
  told f gives sound lx ly p h =
      let lt = lead_lawful lx ly in
      ap (λ z. combine o k z (value o s y p)) (operand_value o s x t p leads.left)
      ∙ ap (λ z. combine o k (operand x (value o s t p)) z) (operand_value o s y t p leads.right)
      ∙ gives (value o s t p) (codes laws w sound t p lt) ((reach_right laws w sound t lt).reaches p h)

  pub short_same : Gives o k x y (reach_of o s t) (λ v. v) → Short o s k x y t
  short_same gives =
      record {
        from = record { within = within; deep = ⊎_elim (λ e. let q = ap (level s) e in omega arith) (λ e. let q = ap (level s) e in omega arith) leads.either };
        lawful = λ sound lx ly. lead_lawful lx ly;
        means = λ sound lx ly p h. sym (told (λ v. v) gives sound lx ly p h);
      }

  pub short_constant : (u h : ℕ) → h ≡ combine o k (operand x u) (operand y u) → Gives o k x y (reach_of o s t) (λ _. h) → Short o s k x y h
  short_constant u h e gives =
      let below : h < o.count = omega (arith, combine_below laws k (operand x u) (operand y u)) in
      let small : h < 16 = omega (arith, laws.sixteen_at_most) in
      let deep : level s t ≤ s.inputs = level_within w t within in
      record {
        from = record { within = omega arith; deep = ⊎_elim (λ q. let r = ap (level s) q in omega (arith, level_constant s h small)) (λ q. let r = ap (level s) q in omega (arith, level_constant s h small)) leads.either };
        lawful = λ sound lx ly. constant_lawful o s h small below;
        means = λ sound lx ly p l. value_constant o s h p small ∙ sym (told (λ _. h) gives sound lx ly p l);
      }

-- a shortcut's results rest on no memo
no_pairs : (o : Ops) (s : Store) → TruePairs o s none_kept
no_pairs o s k x y h e = absurd (some_none h e)
  where
    some_none : (h : ℕ) → none_kept k x y ≡ Some h → ⊥
    some_none h e = let z : ◌≡◌ {A = ℕ} 0 1 = cc in omega arith

pub short_leaf : {o : Ops} → Laws o → (s : Store) (k x y h : ℕ) → x < 16 → y < 16 → h ≡ combine o k x y → Short o s k x y h
short_leaf {o} laws s k x y h cx cy e =
    record {
      from = leaf_from laws s k x y h cx e;
      lawful = λ sound lx ly. (leaf_result laws s none_kept k x y h cx cy e sound (no_pairs o s)).lawful;
      means = λ sound lx ly. (leaf_result laws s none_kept k x y h cx cy e sound (no_pairs o s)).means;
    }

pub short_negated : {o : Ops} → Laws o → {s : Store} (w : Well s) (k x y h : ℕ) → k ≡ 2 → Within s x → h ≡ negate o s x → settled_mask o (reach_of o s x) ≡ true → Short o s k x y h
short_negated {o} laws {s} w k x y h two within e settled =
    record {
      from = negated_from laws s x y h within e;
      lawful = λ sound lx ly. (negated_result laws w none_kept k x y h two e settled sound (no_pairs o s) lx).lawful;
      means = λ sound lx ly. (negated_result laws w none_kept k x y h two e settled sound (no_pairs o s) lx).means;
    }
