-- What a search from number to number finds. Assumes nothing.
use Rattle.std.proofs.Common.{◌≡◌, ℕ, zero, suc, ◌+◌, ◌<◌, ◌≤◌, Bool, true, false, cond, Some, None, Option, sym, refl, ap, ◌∙◌, subst, ⊎_elim, add-zero, arith}
use Rattle.std.proofs.lemmas.Bool.{cond-true, cond-false, cases_Bool, cases_eq}
use Rattle.netlist.specs.Findings.{first_from}

-- a found number stays; else one more is tried
abbrev pub or_at : Option ℕ → Bool → ℕ → Option ℕ
or_at (Some q) b k = Some q
or_at None b k = cond b (Some k) None

module _ (f : ℕ → Bool) where
  from_true : (p m : ℕ) → f p ≡ true → first_from f p (suc m) ≡ Some p
  unfolding first_from
  from_true p m e = cond-true (f p) _ _ e

  from_false : (p m : ℕ) → f p ≡ false → first_from f p (suc m) ≡ first_from f (suc p) m
  unfolding first_from
  from_false p m e = cond-false (f p) _ _ e

  from_none : (p : ℕ) → first_from f p 0 ≡ None
  unfolding first_from
  from_none p = refl

  -- one number more at the end
  pub first_last : (m p : ℕ) → first_from f p (suc m) ≡ or_at (first_from f p m) (f (p + m)) (p + m)
  first_last zero p =
      let same : p + 0 ≡ p = add-zero p in
      ⊎_elim
      (λ e. from_true p 0 e ∙ rw (from_none p, same, e) refl)
      (λ e. from_false p 0 e ∙ from_none (suc p) ∙ rw (from_none p, same, e) refl)
      (cases_Bool (f p))
  first_last (suc m) p =
      let same : suc p + m ≡ p + suc m = omega arith in
      ⊎_elim
      (λ e. from_true p (suc m) e ∙ rw (from_true p m e) refl)
      (λ e. from_false p (suc m) e ∙ first_last m (suc p) ∙ rw (from_false p m e) (ap (λ k. or_at (first_from f (suc p) m) (f k) k) same))
      (cases_Bool (f p))

  -- what is found passes, and lies among the numbers tried
  pub first_found : (m p q : ℕ) → first_from f p m ≡ Some q → (p ≤ q) × (q < p + m) × (f q ≡ true)
  first_found zero p q e = absurd (let z : ◌≡◌ {A = ℕ} 0 1 = (let n = from_none p in cc) in omega arith)
  first_found (suc m) p q e =
      ⊎_elim
      (λ t. let same : p ≡ q = (let h = from_true p m t in cc) in (omega arith, omega arith, subst (λ k. f k ≡ true) same t))
      (λ t. let r = first_found m (suc p) q (sym (from_false p m t) ∙ e) in (let a = r.0 in omega arith, let b = r.1 in omega arith, r.2))
      (cases_Bool (f p))

  -- nothing before it passes
  pub first_least : (m p q : ℕ) → first_from f p m ≡ Some q → (k : ℕ) → p ≤ k → k < q → f k ≡ false
  first_least zero p q e k low high = absurd (let z : ◌≡◌ {A = ℕ} 0 1 = (let n = from_none p in cc) in omega arith)
  first_least (suc m) p q e k low high =
      ⊎_elim
      (λ t. absurd (let same : p ≡ q = (let h = from_true p m t in cc) in omega arith))
      (λ t.
      ⊎_elim
      (λ here. subst (λ j. f j ≡ false) here t)
      (λ past. first_least m (suc p) q (sym (from_false p m t) ∙ e) k (omega arith) high)
      (cases_eq p k))
      (cases_Bool (f p))

  -- where nothing is found, nothing passes
  pub first_none : (m p : ℕ) → first_from f p m ≡ None → (k : ℕ) → p ≤ k → k < p + m → f k ≡ false
  first_none zero p e k low high = absurd (omega arith)
  first_none (suc m) p e k low high =
      ⊎_elim
      (λ t. absurd (let z : ◌≡◌ {A = ℕ} 0 1 = (let h = from_true p m t in cc) in omega arith))
      (λ t.
      ⊎_elim
      (λ here. subst (λ j. f j ≡ false) here t)
      (λ past. first_none m (suc p) (sym (from_false p m t) ∙ e) k (omega arith) (omega arith))
      (cases_eq p k))
      (cases_Bool (f p))
