-- The reach of a handle says which values it has. Assumes nothing.
use Rattle.std.proofs.lemmas.Nat.{pow_below}
use Rattle.std.proofs.Common.{◌≡◌, ℕ, zero, suc, ◌+◌, ◌-◌, ◌*◌, ◌/◌, ◌%◌, ◌^◌, ◌<◌, true, false, ◌||◌, eqb, ◌⊎◌, sym, ap, ◌∙◌, subst, inl, inr, ⊎_elim, arith, pow_pos, pow-add}
use native.Mathlib.Nat.{zero-div, div-eq_of_lt, div_self}
use lib.Bits.{bit_or, or_shr, or_mod, or_lt}
use lib.Pow.{pow-lt, shl-shr}
use Rattle.std.proofs.lemmas.Bool.{cases_lt, cases_Bool, cases_order, cond-true, cond-false, eqb-true, or_cases, or_left, or_right, both_ways, cond_both}
use Rattle.algebra.specs.Ops.{Ops}
use Rattle.algebra.specs.Laws.{Laws}
use Rattle.records.specs.Stores.{Store, handle, place, marked, value, up}
use Rattle.records.specs.Rules.{Well, Sound, Lawful, Occurs}
use Rattle.records.specs.Marks.{turn_below, turn_mask, reach_of, union}
use Rattle.records.proofs.Values.{at_constant, at_place, unmarked_handle, lawful_place, lawful_within, handle_lawful, value_constant, value_under, under_marked, codes}
use Rattle.records.proofs.Masks.{Reach, reach_place}

-- bits of a union
or_digits : (x y : ℕ) → x < 2 → y < 2 → eqb (bit_or x y) 1 ≡ (eqb x 1 || eqb y 1)
or_digits x y l m =
    ⊎_elim
    (λ c. let e : x ≡ 0 = omega arith in
    ⊎_elim
    (λ d. let f : y ≡ 0 = omega arith in rw (e, f))
    (λ d. let f : y ≡ 1 = omega arith in rw (e, f))
    (cases_lt y 1))
    (λ c. let e : x ≡ 1 = omega arith in
    ⊎_elim
    (λ d. let f : y ≡ 0 = omega arith in rw (e, f))
    (λ d. let f : y ≡ 1 = omega arith in rw (e, f))
    (cases_lt y 1))
    (cases_lt x 1)

pub up_union : (a b v : ℕ) → up (bit_or a b) v ≡ (up a v || up b v)
up_union a b v =
    let x = a / 2 ^ v in
    let y = b / 2 ^ v in
    ap (λ z. eqb (z % 2) 1) (or_shr a b v)
    ∙ ap (λ z. eqb z 1) (or_mod x y 1)
    ∙ or_digits (x % 2) (y % 2) (omega arith) (omega arith)

pub up_union_left : (a b v : ℕ) → up a v ≡ true → up (bit_or a b) v ≡ true
up_union_left a b v e = up_union a b v ∙ or_left (up a v) (up b v) e

pub up_union_right : (a b v : ℕ) → up b v ≡ true → up (bit_or a b) v ≡ true
up_union_right a b v e = up_union a b v ∙ or_right (up a v) (up b v) e

pub up_union_cases : (a b v : ℕ) → up (bit_or a b) v ≡ true → (up a v ≡ true) ⊎ (up b v ≡ true)
up_union_cases a b v e = or_cases (up a v) (up b v) (sym (up_union a b v) ∙ e)

-- bits of one value alone, and of none
pub up_none : (v : ℕ) → up 0 v ≡ false
up_none v = ap (λ z. eqb (z % 2) 1) (zero-div (2 ^ v))

pub up_one : (h : ℕ) → up (2 ^ h) h ≡ true
up_one h = ap (λ z. eqb (z % 2) 1) (div_self (pow_pos h))

pub up_only : (h v : ℕ) → up (2 ^ h) v ≡ true → v ≡ h
up_only h v e =
    ⊎_elim (λ same. same)
    (⊎_elim
    (λ below. absurd (even (2 ^ (h - v - 1)) (ap (λ z. z % 2) (sym (halves below)) ∙ eqb-true ((2 ^ h / 2 ^ v) % 2) 1 e)))
    (λ above. absurd (none (ap (λ z. z % 2) (sym (div-eq_of_lt {n = 2 ^ h} {m = 2 ^ v} (pow-lt above))) ∙ eqb-true ((2 ^ h / 2 ^ v) % 2) 1 e))))
    (cases_order v h)
  where
    even : (x : ℕ) → (x * 2) % 2 ≡ 1 → ⊥
    even x d = omega arith

    none : ◌≡◌ {A = ℕ} (0 % 2) 1 → ⊥
    none d = omega arith

    halves : v < h → 2 ^ h / 2 ^ v ≡ 2 ^ (h - v - 1) * 2
    halves l =
        let j : h ≡ ((h - v - 1) + 1) + v = omega arith in
        ap (λ z. 2 ^ z / 2 ^ v) j
        ∙ ap (λ z. z / 2 ^ v) (pow-add 2 ((h - v - 1) + 1) v)
        ∙ shl-shr (2 ^ ((h - v - 1) + 1)) v
        ∙ pow-add 2 (h - v - 1) 1

-- bits of the NOT of a mask
pub up_turned : (o : Ops) (m k u : ℕ) → u < k → up m u ≡ true → up (turn_below o m k) (o.turn u) ≡ true
unfolding turn_below
up_turned o m zero u l e = absurd (omega arith)
up_turned o m (suc k) u l e =
    let rest = turn_below o m k in
    ⊎_elim
    (λ c.
    let earlier = up_turned o m k u c e in
    ⊎_elim
    (λ d. ap (λ z. up z (o.turn u)) (cond-true (up m k) (bit_or rest (2 ^ o.turn k)) rest d) ∙ up_union_left rest (2 ^ o.turn k) (o.turn u) earlier)
    (λ d. ap (λ z. up z (o.turn u)) (cond-false (up m k) (bit_or rest (2 ^ o.turn k)) rest d) ∙ earlier)
    (cases_Bool (up m k)))
    (λ c.
    let last : u ≡ k = omega arith in
    ap (λ z. up z (o.turn u)) (cond-true (up m k) (bit_or rest (2 ^ o.turn k)) rest (ap (up m) (sym last) ∙ e))
    ∙ up_union_right rest (2 ^ o.turn k) (o.turn u) (ap (λ z. up (2 ^ o.turn k) (o.turn z)) last ∙ up_one (o.turn k)))
    (cases_lt u k)

pub up_turned_from : (o : Ops) (m k v : ℕ) → up (turn_below o m k) v ≡ true → (u : ℕ) × (up m u ≡ true) × (o.turn u ≡ v)
unfolding turn_below
up_turned_from o m zero v e = absurd (both_ways (up 0 v) (up_none v) e)
up_turned_from o m (suc k) v e =
    let rest = turn_below o m k in
    ⊎_elim
    (λ d. ⊎_elim
    (up_turned_from o m k v)
    (λ f. (k, d, sym (up_only (o.turn k) v f)))
    (up_union_cases rest (2 ^ o.turn k) v (ap (λ z. up z v) (sym (cond-true (up m k) (bit_or rest (2 ^ o.turn k)) rest d)) ∙ e)))
    (λ d. up_turned_from o m k v (ap (λ z. up z v) (sym (cond-false (up m k) (bit_or rest (2 ^ o.turn k)) rest d)) ∙ e))
    (cases_Bool (up m k))

-- no mask has a bit past the last code
pub turn_mask_fits : {o : Ops} → Laws o → (m : ℕ) → turn_mask o m < 2 ^ 16
unfolding turn_below
turn_mask_fits {o} laws m = fits 16
  where
    fits : (k : ℕ) → turn_below o m k < 2 ^ 16
    fits zero = pow_pos 16
    fits (suc k) =
        cond_both (up m k) (bit_or (turn_below o m k) (2 ^ o.turn k)) (turn_below o m k) (λ x. x < 2 ^ 16)
        (λ _. or_lt 16 (turn_below o m k) (2 ^ o.turn k) (fits k) (pow_below (o.turn k) 16 (omega (arith, laws.turn_below k, laws.sixteen_at_most))))
        (λ _. fits k)

-- a handle that is the NOT of another reaches the NOT of its values
pub reach_turned : {o : Ops} → Laws o → (s : Store) (g h m : ℕ) → ((q : ℕ) → value o s g q < o.count)
    → ((q : ℕ) → q < 2 ^ s.inputs → value o s h q ≡ o.turn (value o s g q)) → Reach o s g m → Reach o s h (turn_mask o m)
reach_turned {o} laws s g h m few turned reach =
    record {
      reached = λ v e.
          let u = up_turned_from o m 16 v e in
          let at = reach.reached u.0 u.1 in
          (at.0, at.1, turned at.0 at.1 ∙ ap o.turn at.2 ∙ u.2);
      reaches = λ q k.
          let x = value o s g q in
          ap (up (turn_mask o m)) (turned q k) ∙ up_turned o m 16 x (omega (arith, few q, laws.sixteen_at_most)) (reach.reaches q k);
    }

-- reach_of is right
pub reach_right : {o : Ops} → Laws o → {s : Store} (w : Well s) → Sound o s → (h : ℕ) → Lawful o s h → Reach o s h (reach_of o s h)
reach_right {o} laws {s} w sound h l =
    ⊎_elim
    (λ c.
    subst (Reach o s h) (sym (at_constant h (2 ^ h) _ c))
    (record {
      reached = λ v e. (0, pow_pos s.inputs, value_constant o s h 0 c ∙ sym (up_only h v e));
      reaches = λ q k. ap (up (2 ^ h)) (value_constant o s h q c) ∙ up_one h;
    }))
    (λ g.
    let p = place h in
    let m = (s.at p).reach in
    let u = lawful_place o s h l g in
    ⊎_elim
    (λ e.
    subst (Reach o s h) (sym (at_place h (2 ^ h) _ g ∙ cond-true (marked h) (turn_mask o m) m e))
    (reach_turned laws s (handle p) h m (λ q. codes laws w sound (handle p) q (handle_lawful o s p u))
    (λ q k. value_under o w h q g (lawful_within o s h l) ∙ under_marked o h _ e)
    (reach_place sound p u)))
    (λ e.
    subst (Reach o s h) (sym (at_place h (2 ^ h) _ g ∙ cond-false (marked h) (turn_mask o m) m e))
    (subst (λ x. Reach o s x m) (sym (unmarked_handle h g e)) (reach_place sound p u)))
    (cases_Bool (marked h)))
    (cases_lt h 16)

-- what a mask says of two sides
pub record Union (o : Ops) (s : Store) (low high m : ℕ) : Type 0 where
  pub reached : (v : ℕ) → up m v ≡ true → Occurs o s low v ⊎ Occurs o s high v
  pub low_reaches : (q : ℕ) → q < 2 ^ s.inputs → up m (value o s low q) ≡ true
  pub high_reaches : (q : ℕ) → q < 2 ^ s.inputs → up m (value o s high q) ≡ true

pub union_of : {o : Ops} {s : Store} {low high a b : ℕ} → Reach o s low a → Reach o s high b → Union o s low high (bit_or a b)
union_of {o} {s} {low} {high} {a} {b} x y =
    record {
      reached = λ v e. ⊎_elim (λ d. inl (x.reached v d)) (λ d. inr (y.reached v d)) (up_union_cases a b v e);
      low_reaches = λ q k. up_union_left a b (value o s low q) (x.reaches q k);
      high_reaches = λ q k. up_union_right a b (value o s high q) (y.reaches q k);
    }

pub union_right : {o : Ops} → Laws o → {s : Store} (w : Well s) → Sound o s → (low high : ℕ) → Lawful o s low → Lawful o s high → Union o s low high (union o s low high)
union_right laws w sound low high l m = union_of (reach_right laws w sound low l) (reach_right laws w sound high m)

-- the NOT of both sides
pub union_turned : {o : Ops} → Laws o → (s : Store) (low high low' high' m : ℕ) → ((q : ℕ) → value o s low q < o.count) → ((q : ℕ) → value o s high q < o.count)
    → ((q : ℕ) → q < 2 ^ s.inputs → value o s low' q ≡ o.turn (value o s low q)) → ((q : ℕ) → q < 2 ^ s.inputs → value o s high' q ≡ o.turn (value o s high q))
    → Union o s low high m → Union o s low' high' (turn_mask o m)
union_turned {o} laws s low high low' high' m few few' turned turned' x =
    record {
      reached = λ v e.
          let u = up_turned_from o m 16 v e in
          ⊎_elim
          (λ at. inl (at.0, at.1, turned at.0 at.1 ∙ ap o.turn at.2 ∙ u.2))
          (λ at. inr (at.0, at.1, turned' at.0 at.1 ∙ ap o.turn at.2 ∙ u.2))
          (x.reached u.0 u.1);
      low_reaches = λ q k. ap (up (turn_mask o m)) (turned q k) ∙ up_turned o m 16 (value o s low q) (omega (arith, few q, laws.sixteen_at_most)) (x.low_reaches q k);
      high_reaches = λ q k. ap (up (turn_mask o m)) (turned' q k) ∙ up_turned o m 16 (value o s high q) (omega (arith, few' q, laws.sixteen_at_most)) (x.high_reaches q k);
    }
