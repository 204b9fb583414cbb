-- The gravest grade over one pattern more. Assumes nothing.
use Rattle.std.proofs.Common.{◌≡◌, ℕ, zero, suc, ◌+◌, ◌<◌, Bool, true, false, cond, ◌||◌, eqb, List, [], ◌∷◌, length, get_or, Some, None, Option, sym, refl, ap, ◌∙◌, ⊎_elim, zero-add, add-one, arith}
use Rattle.std.proofs.lemmas.Bool.{cond-true, cond-false, cases_eq, eqb-true, eqb-false, eq-eqb, ne_eqb, or_left, or_right, or_from}
use Rattle.netlist.specs.declared.finding.Finding.{Finding}
use Rattle.netlist.specs.declared.finding.Difference.{Difference}
use Rattle.netlist.specs.declared.finding.Finding.TheVariants.{Clean, Differs}
use Rattle.algebra.specs.Ops.{Ops, read}
use Rattle.algebra.specs.Laws.{Laws}
use Rattle.algebra.specs.Lawful.{read_below}
use Rattle.netlist.specs.Signals.{Signal, joined}
use Rattle.netlist.specs.Findings.{first_below, differs_at, gravest, finding_below}
use Rattle.netlist.specs.Orders.{before}
use Rattle.netlist.proofs.Searches.{or_at, first_last, first_found, first_none}

-- whether w stands in an order
unfoldable pub listed : List ℕ → ℕ → Bool
listed [] w = false
listed (v ∷ vs) w = eqb v w || listed vs w

-- the finding after a pattern that is graded w
abbrev pub regraded : List ℕ → ℕ → Finding → Finding → Finding
regraded vs w new Clean = cond (listed vs w) new Clean
regraded vs w new (Differs d) = cond (before vs w d.grade) new (Differs d)

module _ (g s t : Signal) (m : ℕ) where
  -- the pattern m, graded
  abbrev pub new : Finding
  new = Differs (record { grade = g m; pattern = m; left = s m; right = t m })

  below_last : (v : ℕ) → first_below (suc m) g v ≡ or_at (first_below m g v) (eqb (g m) v) m
  below_last v = first_last (λ p. eqb (g p) v) m 0 ∙ ap (λ k. or_at (first_below m g v) (eqb (g k) v) k) (zero-add m)

  -- what differs has its grade at its pattern
  occurs_at : (v : ℕ) (vs : List ℕ) (d : Difference) (x : Option ℕ) → first_below m g v ≡ x → (gravest m g s t vs ≡ Differs d → (d.pattern < m) × (g d.pattern ≡ d.grade)) → differs_at s t v x (gravest m g s t vs) ≡ Differs d → (d.pattern < m) × (g d.pattern ≡ d.grade)
  occurs_at v vs d None e below h = below h
  occurs_at v vs d (Some p) e below h =
      let f = first_found (λ p. eqb (g p) v) m 0 p e in
      let at : p ≡ d.pattern = cc in
      let grade : v ≡ d.grade = cc in
      (let k = f.1 in omega arith, ap g (sym at) ∙ eqb-true (g p) v f.2 ∙ grade)

  pub occurs : (vs : List ℕ) (d : Difference) → gravest m g s t vs ≡ Differs d → (d.pattern < m) × (g d.pattern ≡ d.grade)
  unfolding gravest
  occurs [] d e = absurd (let z : ◌≡◌ {A = ℕ} 0 1 = cc in omega arith)
  occurs (v ∷ vs) d e = occurs_at v vs d (first_below m g v) refl (occurs vs d) e

  -- one grade of the order: f is what the later ones come to
  step_some : (v p : ℕ) (vs : List ℕ) → regraded (v ∷ vs) (g m) new (Differs (record { grade = v; pattern = p; left = s p; right = t p })) ≡ Differs (record { grade = v; pattern = p; left = s p; right = t p })
  unfolding before
  step_some v p vs = cond-false _ _ _ (cond-true (eqb v v) false _ (eq-eqb v v refl))

  step_new : (v : ℕ) (vs : List ℕ) (f : Finding) → ((d : Difference) → f ≡ Differs d → v ≡ d.grade → ⊥) → g m ≡ v → regraded (v ∷ vs) (g m) new f ≡ new
  unfolding before listed
  step_new v vs Clean other e = cond-true _ _ _ (or_left (eqb v (g m)) _ (eq-eqb v (g m) (sym e)))
  step_new v vs (Differs d) other e = cond-true _ _ _ (cond-false (eqb v d.grade) false _ (ne_eqb v d.grade (other d refl)) ∙ cond-true (eqb v (g m)) true _ (eq-eqb v (g m) (sym e)))

  step_old : (v : ℕ) (vs : List ℕ) (f : Finding) → ((d : Difference) → f ≡ Differs d → v ≡ d.grade → ⊥) → (g m ≡ v → ⊥) → regraded (v ∷ vs) (g m) new f ≡ regraded vs (g m) new f
  unfolding before listed
  step_old v vs Clean other e = ap (λ b. cond (b || listed vs (g m)) new Clean) (ne_eqb v (g m) (λ q. e (sym q)))
  step_old v vs (Differs d) other e = ap (λ b. cond b new (Differs d)) (cond-false (eqb v d.grade) false _ (ne_eqb v d.grade (other d refl)) ∙ cond-false (eqb v (g m)) true _ (ne_eqb v (g m) (λ q. e (sym q))))

  step_at : (v : ℕ) (vs : List ℕ) (x : Option ℕ) → first_below m g v ≡ x → gravest (suc m) g s t vs ≡ regraded vs (g m) new (gravest m g s t vs)
      → differs_at s t v (or_at x (eqb (g m) v) m) (gravest (suc m) g s t vs) ≡ regraded (v ∷ vs) (g m) new (differs_at s t v x (gravest m g s t vs))
  step_at v vs (Some p) e ih = sym (step_some v p vs)
  step_at v vs None e ih =
      let other : (d : Difference) → gravest m g s t vs ≡ Differs d → v ≡ d.grade → ⊥ =
      λ d h same.
      (let o = occurs vs d h in
      let no = first_none (λ p. eqb (g p) v) m 0 e d.pattern (omega arith) (let k = o.0 in omega arith) in
      eqb-false (g d.pattern) v no (o.1 ∙ sym same))
      in
      ⊎_elim
      (λ here.
      ap (λ b. differs_at s t v (cond b (Some m) None) (gravest (suc m) g s t vs)) (eq-eqb (g m) v here)
      ∙ ap (λ w. Differs (record { grade = w; pattern = m; left = s m; right = t m })) (sym here)
      ∙ sym (step_new v vs (gravest m g s t vs) other here))
      (λ not.
      ap (λ b. differs_at s t v (cond b (Some m) None) (gravest (suc m) g s t vs)) (ne_eqb (g m) v not)
      ∙ ih
      ∙ sym (step_old v vs (gravest m g s t vs) other not))
      (cases_eq (g m) v)

  -- the finding over one pattern more
  pub gravest_more : (vs : List ℕ) → gravest (suc m) g s t vs ≡ regraded vs (g m) new (gravest m g s t vs)
  unfolding gravest listed
  gravest_more [] = refl
  gravest_more (v ∷ vs) = ap (λ x. differs_at s t v x (gravest (suc m) g s t vs)) (below_last v) ∙ step_at v vs (first_below m g v) refl (gravest_more vs)

listed_at : (vs : List ℕ) (w k : ℕ) → k < length vs → get_or vs k 0 ≡ w → listed vs w ≡ true
unfolding listed
listed_at [] w k h e = absurd (omega arith)
listed_at (v ∷ vs) w zero h e = or_left (eqb v w) _ (eq-eqb v w e)
listed_at (v ∷ vs) w (suc k) h e = or_right (eqb v w) _ (listed_at vs w k (omega arith) e)

listed_not : (vs : List ℕ) (w : ℕ) → ((k : ℕ) → k < length vs → get_or vs k 0 ≡ w → ⊥) → listed vs w ≡ false
unfolding listed
listed_not [] w h = refl
listed_not (v ∷ vs) w h = or_from (eqb v w) _ (ne_eqb v w (h 0 (omega arith))) (listed_not vs w (λ k l. h (suc k) (omega arith)))

module _ (o : Ops) (laws : Laws o) where
  zero_not_listed : listed o.grave 0 ≡ false
  zero_not_listed = listed_not o.grave 0 laws.grave_heavy

  pub grade_listed : (a b : ℕ) → (o.op 9 a b ≡ 0 → ⊥) → listed o.grave (o.op 9 a b) ≡ true
  grade_listed a b h =
      let x = read o.count a in
      let y = read o.count b in
      let pos : 0 < o.count = (let p = laws.two_or_more in omega arith) in
      let same : o.op 9 a b ≡ o.op 9 x y = laws.total.op 9 a b in
      let p = laws.grave_all x y (read_below o.count a pos) (read_below o.count b pos) (λ e. h (same ∙ e)) in
      listed_at o.grave (o.op 9 a b) p.0 p.1 (p.2 ∙ sym same)

  module _ (m l r : ℕ) (s t : Signal) (left : s m ≡ l) (right : t m ≡ r) (old : Finding) (known : old ≡ finding_below o m s t) where
    -- the pattern m, graded
    abbrev here : Finding
    here = Differs (record { grade = o.op 9 l r; pattern = m; left = l; right = r })

    more : finding_below o (m + 1) s t ≡ regraded o.grave (o.op 9 l r) here old
    more =
        ap (λ k. finding_below o k s t) (add-one m)
        ∙ gravest_more (joined o 9 s t) s t m o.grave
        ∙ ap (regraded o.grave (o.op 9 (s m) (t m)) (new (joined o 9 s t) s t m)) (sym known)
        ∙ ap (λ x. regraded o.grave (o.op 9 x (t m)) (Differs (record { grade = o.op 9 x (t m); pattern = m; left = x; right = t m })) old) left
        ∙ ap (λ x. regraded o.grave (o.op 9 l x) (Differs (record { grade = o.op 9 l x; pattern = m; left = l; right = x })) old) right

    pub still_clean : old ≡ Clean → o.op 9 l r ≡ 0 → Clean ≡ finding_below o (m + 1) s t
    still_clean e z = sym (more ∙ ap (regraded o.grave (o.op 9 l r) here) e ∙ cond-false _ _ _ (ap (listed o.grave) z ∙ zero_not_listed))

    pub first_differs : old ≡ Clean → (o.op 9 l r ≡ 0 → ⊥) → here ≡ finding_below o (m + 1) s t
    first_differs e z = sym (more ∙ ap (regraded o.grave (o.op 9 l r) here) e ∙ cond-true _ _ _ (grade_listed l r z))

    pub graver : (d : Difference) → old ≡ Differs d → before o.grave (o.op 9 l r) d.grade ≡ true → here ≡ finding_below o (m + 1) s t
    graver d e b = sym (more ∙ ap (regraded o.grave (o.op 9 l r) here) e ∙ cond-true _ _ _ b)

    pub not_graver : (d : Difference) → old ≡ Differs d → before o.grave (o.op 9 l r) d.grade ≡ false → Differs d ≡ finding_below o (m + 1) s t
    not_graver d e b = sym (more ∙ ap (regraded o.grave (o.op 9 l r) here) e ∙ cond-false _ _ _ b)
