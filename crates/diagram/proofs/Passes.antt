-- Tests of a mask by one operation on bits. Assumes nothing.
use Rattle.std.proofs.Common.{◌≡◌, ℕ, zero, suc, ◌+◌, ◌-◌, ◌/◌, ◌%◌, ◌^◌, ◌<◌, ◌≤◌, Bool, true, false, cond, not, ◌&&◌, ◌||◌, eqb, sym, refl, ap, ◌∙◌, ⊎_elim, add-one, arith, pow_pos}
use native.Mathlib.Nat.{zero-div}
use lib.Bits.{bit_and, bit_or, and_shr, and_mod, and_le_r, or_lt}
use Rattle.std.proofs.lemmas.Nat.{pow_below}
use Rattle.std.proofs.lemmas.Bool.{cases_lt, cases_Bool, cond-true, cond-false, cond_both, eqb-true, eqb-false, eq-eqb, and_cases, or_cases, or_left, or_right, not-true, not_from_false}
use Rattle.std.proofs.lemmas.Bool.Decides.{same_from_decides}
use Rattle.algebra.specs.Ops.{Ops}
use Rattle.netlist.specs.Parts.{all_below}
use Rattle.records.specs.Stores.{up}
use Rattle.records.specs.Rules.{settled_code, firm_code, settled_mask, firm_mask}
use Rattle.records.specs.Marks.{turn_below}
use Rattle.records.specs.Supports.{mask_below}
use Rattle.diagram.specs.Codes.{loose_codes, firm_codes}
use Rattle.records.proofs.Bits.{same_bits}
use Rattle.records.proofs.Masks.{all_at, all_from}
use Rattle.records.proofs.Reaches.{up_none, up_one, up_only, up_union, up_union_right}

and_digits : (x y : ℕ) → x < 2 → y < 2 → eqb (bit_and x y) 1 ≡ (eqb x 1 && eqb y 1)
and_digits x y l m =
    ⊎_elim
    (λ c. let e : x ≡ 0 = omega arith in rw e)
    (λ c. let e : x ≡ 1 = omega arith in
    ⊎_elim
    (λ d. let f : y ≡ 0 = omega arith in rw (e, f))
    (λ d. let f : y ≡ 1 = omega arith in rw (e, f))
    (cases_lt y 1))
    (cases_lt x 1)

up_both : (a b v : ℕ) → up (bit_and a b) v ≡ (up a v && up b v)
up_both a b v =
    let x = a / 2 ^ v in
    let y = b / 2 ^ v in
    ap (λ z. eqb (z % 2) 1) (and_shr a b v)
    ∙ ap (λ z. eqb z 1) (and_mod x y 1)
    ∙ and_digits (x % 2) (y % 2) (omega arith) (omega arith)

-- the bits of a mask of a test
up_below : (f : ℕ → Bool) (m v : ℕ) → v < m → up (mask_below f m) v ≡ f v
unfolding mask_below
up_below f zero v l = absurd (omega arith)
up_below f (suc m) v l =
    let rest = mask_below f m in
    ⊎_elim
    (λ c.
    let earlier = up_below f m v c in
    ⊎_elim
    (λ e.
    ap (λ z. up z v) (cond-true (f m) (bit_or rest (2 ^ m)) rest e)
    ∙ up_union rest (2 ^ m) v
    ∙ ap (λ z. up rest v || z) (other m v (λ same. omega arith))
    ∙ or_none (up rest v)
    ∙ earlier)
    (λ e. ap (λ z. up z v) (cond-false (f m) (bit_or rest (2 ^ m)) rest e) ∙ earlier)
    (cases_Bool (f m)))
    (λ c.
    let last : v ≡ m = omega arith in
    ⊎_elim
    (λ e.
    ap (λ z. up z v) (cond-true (f m) (bit_or rest (2 ^ m)) rest e)
    ∙ up_union_right rest (2 ^ m) v (ap (up (2 ^ m)) last ∙ up_one m)
    ∙ sym (ap f last ∙ e))
    (λ e.
    ap (λ z. up z v) (cond-false (f m) (bit_or rest (2 ^ m)) rest e)
    ∙ past f m v (omega arith)
    ∙ sym (ap f last ∙ e))
    (cases_Bool (f m)))
    (cases_lt v m)
  where
    or_none : (b : Bool) → (b || false) ≡ b
    or_none true = refl
    or_none false = refl

    other : (h v : ℕ) → (v ≡ h → ⊥) → up (2 ^ h) v ≡ false
    other h v ne = ⊎_elim (λ e. absurd (ne (up_only h v e))) (λ e. e) (cases_Bool (up (2 ^ h) v))

    past : (f : ℕ → Bool) (m v : ℕ) → m ≤ v → up (mask_below f m) v ≡ false
    past f zero v l = up_none v
    past f (suc m) v l =
        cond_both (f m) (bit_or (mask_below f m) (2 ^ m)) (mask_below f m) (λ z. up z v ≡ false)
        (λ _. up_union (mask_below f m) (2 ^ m) v ∙ ap (λ z. z || up (2 ^ m) v) (past f m v (omega arith)) ∙ other m v (λ same. omega arith))
        (λ _. past f m v (omega arith))

pub mask_fits : (f : ℕ → Bool) (m : ℕ) → m ≤ 16 → mask_below f m < 2 ^ 16
unfolding mask_below
mask_fits f zero l = pow_pos 16
mask_fits f (suc m) l =
    cond_both (f m) (bit_or (mask_below f m) (2 ^ m)) (mask_below f m) (λ x. x < 2 ^ 16)
    (λ _. or_lt 16 (mask_below f m) (2 ^ m) (mask_fits f m (omega arith)) (pow_below m 16 (omega arith)))
    (λ _. mask_fits f m (omega arith))

-- a number of 16 bits, all of them down
no_bits : (x : ℕ) → x < 2 ^ 16 → ((v : ℕ) → v < 16 → up x v ≡ false) → x ≡ 0
no_bits x l none =
    same_bits 16 x 0 l (pow_pos 16)
    (λ i d.
    let v = 16 - 1 - i in
    let down = eqb-false ((x / 2 ^ v) % 2) 1 (none v (omega arith)) in
    let zeroes : (0 / 2 ^ v) % 2 ≡ 0 = ap (λ z. z % 2) (zero-div (2 ^ v)) in
    let few : (x / 2 ^ v) % 2 ≡ 0 = ⊎_elim (λ c. omega arith) (λ c. absurd (down (omega arith))) (cases_lt ((x / 2 ^ v) % 2) 1) in
    few ∙ sym zeroes)

-- no value of m passes f exactly where m and the mask of f have no bit in common
meets_none : (f : ℕ → Bool) (m : ℕ) → eqb (bit_and m (mask_below f 16)) 0 ≡ all_below 16 (λ v. not (up m v) || not (f v))
meets_none f m =
    let k = mask_below f 16 in
    let g : ℕ → Bool = λ v. not (up m v) || not (f v) in
    same_from_decides {P = (v : ℕ) → v < 16 → g v ≡ true} (eqb (bit_and m k) 0) (all_below 16 g) (
      λ e v l. apart_at v l (ap (λ z. up z v) (eqb-true (bit_and m k) 0 e) ∙ up_none v),
      λ h. eq-eqb (bit_and m k) 0 (no_bits (bit_and m k) (omega (arith, and_le_r m k, mask_fits f 16 (omega arith))) (λ v l. down_at v l (h v l))),
    )
    (λ e v l. all_at 16 g e v l, all_from 16 g)
  where
    apart_at : (v : ℕ) → v < 16 → up (bit_and m (mask_below f 16)) v ≡ false → (not (up m v) || not (f v)) ≡ true
    apart_at v l e =
        ⊎_elim
        (λ d. or_left (not (up m v)) (not (f v)) (not_from_false (up m v) d))
        (λ d. or_right (not (up m v)) (not (f v)) (not_from_false (f v) (sym (up_below f 16 v l) ∙ d)))
        (and_cases (up m v) (up (mask_below f 16) v) (sym (up_both m (mask_below f 16) v) ∙ e))

    down_at : (v : ℕ) → v < 16 → (not (up m v) || not (f v)) ≡ true → up (bit_and m (mask_below f 16)) v ≡ false
    down_at v l e =
        up_both m (mask_below f 16) v
        ∙ ⊎_elim
        (λ d. ap (λ z. z && up (mask_below f 16) v) (not-true (up m v) d))
        (λ d. ap (λ z. up m v && z) (up_below f 16 v l ∙ not-true (f v) d) ∙ and_none (up m v))
        (or_cases (not (up m v)) (not (f v)) e)
      where
        and_none : (b : Bool) → (b && false) ≡ false
        and_none true = refl
        and_none false = refl

not_not : (b : Bool) → not (not b) ≡ b
not_not true = refl
not_not false = refl

all_like : (m : ℕ) (f g : ℕ → Bool) → ((v : ℕ) → f v ≡ g v) → all_below m f ≡ all_below m g
unfolding all_below
all_like zero f g e = refl
all_like (suc m) f g e = ap (λ z. z && all_below m f) (e m) ∙ ap (λ z. g m && z) (all_like m f g e)

pub settled_test : (o : Ops) (m k : ℕ) → k ≡ loose_codes o → eqb (bit_and m k) 0 ≡ settled_mask o m
settled_test o m k e =
    ap (λ z. eqb (bit_and m z) 0) e
    ∙ meets_none (λ v. not (settled_code o v)) m
    ∙ all_like 16 (λ v. not (up m v) || not (not (settled_code o v))) (λ v. not (up m v) || settled_code o v) (λ v. ap (λ z. not (up m v) || z) (not_not (settled_code o v)))

pub firm_test : (o : Ops) (m k : ℕ) → k ≡ firm_codes o → not (eqb (bit_and m k) 0) ≡ firm_mask o m
firm_test o m k e = ap (λ z. not (eqb (bit_and m z) 0)) e ∙ ap not (meets_none (firm_code o) m)

-- one number more
pub mask_more : (f : ℕ → Bool) (v rest r : ℕ) (b : Bool) → rest ≡ mask_below f v → b ≡ f v → r ≡ cond b (bit_or rest (2 ^ v)) rest → r ≡ mask_below f (v + 1)
unfolding mask_below
mask_more f v rest r b e t d =
    d ∙ ap (λ x. cond b (bit_or x (2 ^ v)) x) e ∙ ap (λ z. cond z (bit_or (mask_below f v) (2 ^ v)) (mask_below f v)) t ∙ ap (mask_below f) (sym (add-one v))

pub turn_more : (o : Ops) (m v u rest r : ℕ) → rest ≡ turn_below o m v → u ≡ o.turn v → r ≡ cond (up m v) (bit_or rest (2 ^ u)) rest → r ≡ turn_below o m (v + 1)
unfolding turn_below
turn_more o m v u rest r e t d =
    d
    ∙ ap (λ x. cond (up m v) (bit_or x (2 ^ u)) x) e
    ∙ ap (λ z. cond (up m v) (bit_or (turn_below o m v) (2 ^ z)) (turn_below o m v)) t
    ∙ ap (turn_below o m) (sym (add-one v))
