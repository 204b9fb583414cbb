-- Masks of values against the values that occur, firm values and their NOT, and the first pattern that passes a test.
-- Assumes nothing.
use Rattle.std.proofs.Common.{◌≡◌, ℕ, zero, suc, ◌^◌, ◌<◌, Bool, true, false, not, ◌||◌, T, eqb, ltb, ◌⊎◌, sym, refl, ap, ◌∙◌, subst, inl, inr, ⊎_elim, arith}
use Rattle.std.proofs.lemmas.Bool.{lt-ltb, ne_eqb, eqb-false, cases_lt, cases_Bool, and_parts, and_from, and_cases, or_cases, or_parts, or_left, or_right, not-true, not-false, not_from_false, both_ways}
use Rattle.algebra.specs.Ops.{Ops}
use Rattle.algebra.specs.Laws.{Laws, Firm}
use Rattle.netlist.specs.Parts.{all_below}
use Rattle.records.specs.Stores.{Store, handle, value, up}
use Rattle.records.specs.Rules.{Sound, settled_code, firm_code, settled_mask, firm_mask, Occurs, SettledAlone, FirstFirm}

pub from_true : (b : Bool) → b ≡ true → T b
from_true b e = subst T (sym e) tt

pub to_true : (b : Bool) → T b → b ≡ true
to_true true t = refl
to_true false t = absurd t

-- tests of every number below m
pub all_at : (m : ℕ) (f : ℕ → Bool) → all_below m f ≡ true → (k : ℕ) → k < m → f k ≡ true
unfolding all_below
all_at zero f e k l = absurd (omega arith)
all_at (suc m) f e k l =
    let parts = and_parts (f m) (all_below m f) e in
    ⊎_elim (λ c. all_at m f parts.1 k c) (λ c. let last : k ≡ m = omega arith in ap f last ∙ parts.0) (cases_lt k m)

pub all_from : (m : ℕ) (f : ℕ → Bool) → ((k : ℕ) → k < m → f k ≡ true) → all_below m f ≡ true
unfolding all_below
all_from zero f h = refl
all_from (suc m) f h = and_from (f m) (all_below m f) (h m (omega arith)) (all_from m f (λ k l. h k (omega arith)))

pub all_fails : (m : ℕ) (f : ℕ → Bool) → all_below m f ≡ false → (k : ℕ) × (k < m) × (f k ≡ false)
unfolding all_below
all_fails zero f e = absurd (both_ways true e refl)
all_fails (suc m) f e =
    ⊎_elim
    (λ c. (m, omega arith, c))
    (λ c. let r = all_fails m f c in (r.0, (let l = r.1 in omega arith), r.2))
    (and_cases (f m) (all_below m f) e)

-- the first number below m that passes a test, or none
abbrev pub First : ℕ → (ℕ → Bool) → Type 0
First m f = (k : ℕ) × (k < m) × (f k ≡ true) × ((j : ℕ) → j < k → f j ≡ false)

pub seek : (m : ℕ) (f : ℕ → Bool) → ((k : ℕ) → k < m → f k ≡ false) ⊎ First m f
seek zero f = inl (λ k l. absurd (omega arith))
seek (suc m) f =
    ⊎_elim
    (λ none. ⊎_elim
    (λ e. inr (m, omega arith, e, none))
    (λ e. inl (λ k l. ⊎_elim (λ c. none k c) (λ c. let last : k ≡ m = omega arith in ap f last ∙ e) (cases_lt k m)))
    (cases_Bool (f m)))
    (λ r. inr (r.0, (let l = r.1 in omega arith), r.2, r.3))
    (seek m f)

-- codes
module _ (o : Ops) (v : ℕ) where
  pub settled_code_settled : settled_code o v ≡ true → T (o.settled v)
  settled_code_settled e = from_true (o.settled v) (and_parts (ltb v o.count) (o.settled v) e).1

  pub settled_settled_code : v < o.count → T (o.settled v) → settled_code o v ≡ true
  settled_settled_code l t = and_from (ltb v o.count) (o.settled v) (lt-ltb v o.count l) (to_true (o.settled v) t)

  pub firm_code_firm : firm_code o v ≡ true → Firm o v
  firm_code_firm e =
      let parts = and_parts (settled_code o v) (not (eqb (o.turn v) v)) e in
      (settled_code_settled parts.0, eqb-false (o.turn v) v (not-true (eqb (o.turn v) v) parts.1))

  pub firm_firm_code : v < o.count → Firm o v → firm_code o v ≡ true
  firm_firm_code l f =
      and_from (settled_code o v) (not (eqb (o.turn v) v)) (settled_settled_code l f.0)
      (not_from_false (eqb (o.turn v) v) (ne_eqb (o.turn v) v f.1))

-- the NOT of a settled value is firm exactly where the value is
pub firm_turned : {o : Ops} → Laws o → (v : ℕ) → v < o.count → Firm o v → Firm o (o.turn v)
firm_turned {o} laws v l f = (laws.turn_settled v l f.0, λ e. f.1 (sym e ∙ laws.turn_back v l f.0))

pub firm_unturned : {o : Ops} → Laws o → (v : ℕ) → v < o.count → T (o.settled v) → Firm o (o.turn v) → Firm o v
firm_unturned {o} laws v l t f = (t, λ e. f.1 (ap o.turn e))

-- what a mask that passes a test holds
pub mask_code : (o : Ops) (m v : ℕ) → settled_mask o m ≡ true → v < 16 → up m v ≡ true → settled_code o v ≡ true
mask_code o m v e l b =
    ⊎_elim (λ no-bit. absurd (both_ways (up m v) (not-true (up m v) no-bit) b)) (λ d. d)
    (or_cases (not (up m v)) (settled_code o v) (all_at 16 (λ v. not (up m v) || settled_code o v) e v l))

pub mask_some : (o : Ops) (m : ℕ) → firm_mask o m ≡ true → (v : ℕ) × (up m v ≡ true) × Firm o v
mask_some o m e =
    let f : ℕ → Bool = λ v. not (up m v) || not (firm_code o v) in
    let r = all_fails 16 f (not-true (all_below 16 f) e) in
    let v = r.0 in
    let parts = or_parts (not (up m v)) (not (firm_code o v)) r.2 in
    (v, not-false (up m v) parts.0, firm_code_firm o v (not-false (firm_code o v) parts.1))

-- bit v of m is up exactly when h has the value v on some pattern
pub record Reach (o : Ops) (s : Store) (h m : ℕ) : Type 0 where
  pub reached : (v : ℕ) → up m v ≡ true → Occurs o s h v
  pub reaches : (q : ℕ) → q < 2 ^ s.inputs → up m (value o s h q) ≡ true

pub reach_place : {o : Ops} {s : Store} → Sound o s → (p : ℕ) → p < s.used → Reach o s (handle p) (s.at p).reach
reach_place sound p l = record { reached = λ v. sound.reached p v l; reaches = λ q. sound.reaches p q l }

abbrev pub SomeFirm : Ops → Store → ℕ → Type 0
SomeFirm o s h = (q : ℕ) × (q < 2 ^ s.inputs) × Firm o (value o s h q)

-- what a mask says of the values of a handle that has only codes
module _ {o : Ops} (laws : Laws o) (s : Store) (h m : ℕ) (codes : (q : ℕ) → value o s h q < o.count) (reach : Reach o s h m) where
  pub mask_settled : settled_mask o m ≡ true → SettledAlone o s h
  mask_settled e q l =
      let v = value o s h q in
      settled_code_settled o v (mask_code o m v e (omega (arith, codes q, laws.sixteen_at_most)) (reach.reaches q l))

  pub settled_is_mask : SettledAlone o s h → settled_mask o m ≡ true
  settled_is_mask alone =
      all_from 16 (λ v. not (up m v) || settled_code o v)
      (λ v l. ⊎_elim
      (λ e.
      let r = reach.reached v e in
      or_right (not (up m v)) (settled_code o v)
      (ap (settled_code o) (sym r.2) ∙ settled_settled_code o (value o s h r.0) (codes r.0) (alone r.0 r.1)))
      (λ e. or_left (not (up m v)) (settled_code o v) (not_from_false (up m v) e))
      (cases_Bool (up m v)))

  pub mask_firm : firm_mask o m ≡ true → SomeFirm o s h
  mask_firm e =
      let r = mask_some o m e in
      let at = reach.reached r.0 r.1 in
      (at.0, at.1, subst (Firm o) (sym at.2) r.2)

  pub firm_is_mask : SomeFirm o s h → firm_mask o m ≡ true
  firm_is_mask r =
      let f : ℕ → Bool = λ v. not (up m v) || not (firm_code o v) in
      let v = value o s h r.0 in
      let few = codes r.0 in
      not_from_false (all_below 16 f)
      (⊎_elim
      (λ e. absurd
      (⊎_elim
      (λ no-bit. both_ways (up m v) (not-true (up m v) no-bit) (reach.reaches r.0 r.1))
      (λ soft. both_ways (firm_code o v) (not-true (firm_code o v) soft) (firm_firm_code o v few r.2))
      (or_cases (not (up m v)) (not (firm_code o v)) (all_at 16 f e v (omega (arith, laws.sixteen_at_most))))))
      (λ e. e)
      (cases_Bool (all_below 16 f)))

-- a handle with a firm value has a first one
pub first_firm : {o : Ops} (s : Store) (h : ℕ) → ((q : ℕ) → value o s h q < o.count) → SomeFirm o s h → (q : ℕ) × FirstFirm o s h q
first_firm {o} s h codes r =
    ⊎_elim
    (λ none. absurd (both_ways (firm_code o (value o s h r.0)) (none r.0 r.1) (firm_firm_code o (value o s h r.0) (codes r.0) r.2)))
    (λ f. (
      f.0,
      record {
        within = f.1;
        firm = firm_code_firm o (value o s h f.0) f.2;
        first = λ q l firm. both_ways (firm_code o (value o s h q)) (f.3 q l) (firm_firm_code o (value o s h q) (codes q) firm);
      },
    ))
    (seek (2 ^ s.inputs) (λ q. firm_code o (value o s h q)))
