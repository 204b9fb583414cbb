-- What the finding of two signals says. Assumes nothing.
use Rattle.std.proofs.Common.{◌≡◌, ℕ, suc, ◌^◌, ◌<◌, true, false, ◌||◌, eqb, List, [], ◌∷◌, ◌++◌, length, get_or, Some, None, Option, sym, refl, ap, ◌∙◌, subst, ⊎_elim, arith}
use Rattle.std.proofs.lemmas.Bool.{cond-true, cond-false, cases_Bool, cases_eq, eqb-true, eqb-false, eq-eqb, ne_eqb, both_ways}
use Rattle.algebra.specs.Ops.{Ops}
use Rattle.algebra.specs.Laws.{Laws}
use Rattle.netlist.specs.declared.finding.Finding.{Finding}
use Rattle.netlist.specs.declared.finding.Difference.{Difference}
use Rattle.netlist.specs.declared.finding.Finding.TheVariants.{Clean, Differs}
use Rattle.netlist.specs.Signals.{Signal, constant, joined}
use Rattle.netlist.specs.Lines.{signal_at}
use Rattle.netlist.specs.Findings.{first_below, differs_at, gravest, finding, zipped}
use Rattle.std.proofs.lemmas.List.{get_or_append_left}
use Rattle.netlist.proofs.Zips.{zipped_length, zipped_at}
use Rattle.netlist.specs.Orders.{before}
use Rattle.netlist.specs.Verdicts.{Verdict, grade_at}
use Rattle.netlist.proofs.Searches.{first_found, first_least, first_none}
use Rattle.netlist.proofs.Grading.{listed, grade_listed}

module _ (m : ℕ) (g s t : Signal) where
  absent : (v p : ℕ) → first_below m g v ≡ None → p < m → g p ≡ v → ⊥
  absent v p e h same = eqb-false (g p) v (first_none (λ p. eqb (g p) v) m 0 e p (omega arith) (omega arith)) same

  -- clean: no grade of the order occurs
  clean_at : (v : ℕ) (vs : List ℕ) (x : Option ℕ) → first_below m g v ≡ x → (gravest m g s t vs ≡ Clean → (p : ℕ) → p < m → listed vs (g p) ≡ false) → differs_at s t v x (gravest m g s t vs) ≡ Clean → (p : ℕ) → p < m → listed (v ∷ vs) (g p) ≡ false
  unfolding listed
  clean_at v vs (Some q) e below h p k = absurd (let z : ◌≡◌ {A = ℕ} 0 1 = cc in omega arith)
  clean_at v vs None e below h p k = ap (λ b. b || listed vs (g p)) (ne_eqb v (g p) (λ same. absent v p e k (sym same))) ∙ below h p k

  none_listed : (vs : List ℕ) → gravest m g s t vs ≡ Clean → (p : ℕ) → p < m → listed vs (g p) ≡ false
  unfolding gravest listed
  none_listed [] e p h = refl
  none_listed (v ∷ vs) e p h = clean_at v vs (first_below m g v) refl (none_listed vs) e p h

  -- what differs: the grade's first pattern, and nothing before it in the order occurs
  record Told (vs : List ℕ) (d : Difference) : Type 0 where
    pub searched : first_below m g d.grade ≡ Some d.pattern
    pub left : d.left ≡ s d.pattern
    pub right : d.right ≡ t d.pattern
    pub place : ℕ
    pub inside : place < length vs
    pub listed_at : get_or vs place 0 ≡ d.grade
    pub none_before : (p : ℕ) → p < m → before vs (g p) d.grade ≡ false

  told_at : (v : ℕ) (vs : List ℕ) (d : Difference) (x : Option ℕ) → first_below m g v ≡ x → (gravest m g s t vs ≡ Differs d → Told vs d) → differs_at s t v x (gravest m g s t vs) ≡ Differs d → Told (v ∷ vs) d
  unfolding before
  told_at v vs d (Some q) e below h =
      let grade : v ≡ d.grade = cc in
      let pattern : q ≡ d.pattern = cc in
      let left : s q ≡ d.left = cc in
      let right : t q ≡ d.right = cc in
      record {
        searched = ap (first_below m g) (sym grade) ∙ e ∙ ap Some pattern;
        left = sym left ∙ ap s pattern;
        right = sym right ∙ ap t pattern;
        place = 0;
        inside = omega arith;
        listed_at = grade;
        none_before = λ p k. cond-true (eqb v d.grade) false _ (eq-eqb v d.grade grade);
      }
  told_at v vs d None e below h =
      let b = below h in
      record {
        searched = b.searched;
        left = b.left;
        right = b.right;
        place = suc b.place;
        inside = (let i = b.inside in omega arith);
        listed_at = b.listed_at;
        none_before = λ p k.
            ⊎_elim
            (λ is. cond-true (eqb v d.grade) false _ is)
            (λ not. cond-false (eqb v d.grade) false _ not ∙ cond-false (eqb v (g p)) true _ (ne_eqb v (g p) (λ same. absent v p e k (sym same))) ∙ b.none_before p k)
            (cases_Bool (eqb v d.grade));
      }

  told : (vs : List ℕ) (d : Difference) → gravest m g s t vs ≡ Differs d → Told vs d
  unfolding gravest
  told [] d e = absurd (let z : ◌≡◌ {A = ℕ} 0 1 = cc in omega arith)
  told (v ∷ vs) d e = told_at v vs d (first_below m g v) refl (told vs d) e

module _ (o : Ops) (laws : Laws o) (n : ℕ) (s t : Signal) where
  verdict_of : (f : Finding) → finding o n s t ≡ f → Verdict o n s t f
  verdict_of Clean e =
      λ p h.
      ⊎_elim (λ zero. zero) (λ not. absurd (both_ways (listed o.grave (grade_at o s t p)) (none_listed (2 ^ n) (joined o 9 s t) s t o.grave e p h) (grade_listed o laws (s p) (t p) not))) (cases_eq (grade_at o s t p) 0)
  verdict_of (Differs d) e =
      let w = told (2 ^ n) (joined o 9 s t) s t o.grave d e in
      let f = first_found (λ p. eqb (grade_at o s t p) d.grade) (2 ^ n) 0 d.pattern w.searched in
      record {
        within = (let k = f.1 in omega arith);
        graded = eqb-true (grade_at o s t d.pattern) d.grade f.2;
        heavy = λ z. laws.grave_heavy w.place w.inside (w.listed_at ∙ z);
        left = w.left;
        right = w.right;
        first = λ p k same. eqb-false (grade_at o s t p) d.grade (first_least (λ p. eqb (grade_at o s t p) d.grade) (2 ^ n) 0 d.pattern w.searched p (omega arith) k) same;
        gravest = w.none_before;
      }

  -- the finding of two signals is what it says
  pub verdict : Verdict o n s t (finding o n s t)
  verdict = verdict_of (finding o n s t) refl

-- each pair's finding says what it says
pub verdicts : (o : Ops) → Laws o → (n : ℕ) (ss ts : List Signal) (fs rest : List Finding) → length ts ≡ length ss → fs ≡ zipped (finding o n) ss ts ++ rest → (k : ℕ) → k < length ss → Verdict o n (signal_at ss k) (signal_at ts k) (get_or fs k Clean)
verdicts o laws n ss ts fs rest et e k h =
    let z = zipped_length (finding o n) ss ts (omega arith) in
    let same : get_or fs k Clean ≡ finding o n (signal_at ss k) (signal_at ts k) =
    ap (λ l. get_or l k Clean) e
    ∙ get_or_append_left (zipped (finding o n) ss ts) rest Clean k (omega arith)
    ∙ zipped_at (finding o n) ss ts k (constant 0) (constant 0) Clean (omega arith) h
    in
    subst (Verdict o n (signal_at ss k) (signal_at ts k)) (sym same) (verdict o laws n (signal_at ss k) (signal_at ts k))
