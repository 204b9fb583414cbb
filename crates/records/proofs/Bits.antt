-- Bits of pattern numbers, and patterns whose first bits are fixed. Assumes nothing.
use Rattle.std.proofs.Common.{◌≡◌, ℕ, zero, suc, ◌+◌, ◌-◌, ◌*◌, ◌/◌, ◌%◌, ◌^◌, ◌<◌, ◌≤◌, sym, ap, ◌∙◌, subst, ⊎_elim, mod-eq_of_lt, div-one, arith, add-mul, one-mul, pow_mono}
use native.Mathlib.Nat.{div-eq_of_lt, mod-le}
use lib.Pow.{mod-mod-pow}
use Rattle.std.proofs.lemmas.Nat.{pow_pos, pow-add, shr-shr, shr_split, field_of, shr_high, mod_low, mod_below, div_below, mul-add-lt, mul-le}
use Rattle.std.proofs.lemmas.Bool.{cases_lt}
use Rattle.netlist.specs.Signals.{bit}

-- a low digit does not see what stands above it
digit_low : (p f e : ℕ) → f < e → ((p % 2 ^ e) / 2 ^ f) % 2 ≡ (p / 2 ^ f) % 2
digit_low p f e l =
    let j : e ≡ ((e - f - 1) + 1) + f = omega arith in
    ap (λ x. ((p % 2 ^ x) / 2 ^ f) % 2) j
    ∙ ap (λ x. x % 2) (field_of p ((e - f - 1) + 1) f)
    ∙ mod-mod-pow (p / 2 ^ f) (e - f - 1) 1

-- a high digit does not see what stands below it
shifted_high : (a r f e : ℕ) → e ≤ f → r < 2 ^ e → (a * 2 ^ e + r) / 2 ^ f ≡ a / 2 ^ (f - e)
shifted_high a r f e l h =
    let j : f ≡ e + (f - e) = omega arith in
    ap (λ x. (a * 2 ^ e + r) / 2 ^ x) j
    ∙ sym (shr-shr (a * 2 ^ e + r) e (f - e))
    ∙ ap (λ x. x / 2 ^ (f - e)) (shr_high a e r h)

shifted_low : (a r f e : ℕ) → f < e → r < 2 ^ e → ((a * 2 ^ e + r) / 2 ^ f) % 2 ≡ (r / 2 ^ f) % 2
shifted_low a r f e l h =
    sym (digit_low (a * 2 ^ e + r) f e l) ∙ ap (λ x. (x / 2 ^ f) % 2) (mod_low a e r h)

-- the pattern p with its first k bits fixed to those of the number a
abbrev pub fixed : ℕ → ℕ → ℕ → ℕ → ℕ
fixed n k a p = a * 2 ^ (n - k) + p % 2 ^ (n - k)

rest_below : (n k p : ℕ) → p % 2 ^ (n - k) < 2 ^ (n - k)
rest_below n k p = mod_below p (2 ^ (n - k)) (pow_pos (n - k))

pub fixed_below : (n k a p : ℕ) → k ≤ n → a < 2 ^ k → fixed n k a p < 2 ^ n
fixed_below n k a p l h =
    let e : 2 ^ (n - k) * 2 ^ k ≡ 2 ^ n = sym (pow-add 2 (n - k) k) ∙ ap (λ x. 2 ^ x) (omega arith) in
    omega (arith, mul-add-lt a (2 ^ (n - k)) (p % 2 ^ (n - k)) (2 ^ k) h (rest_below n k p))

-- from bit k on it has the bits of p
pub fixed_after : (n k a p i : ℕ) → k ≤ i → i < n → bit n (fixed n k a p) i ≡ bit n p i
fixed_after n k a p i l h =
    shifted_low a (p % 2 ^ (n - k)) (n - 1 - i) (n - k) (omega arith) (rest_below n k p)
    ∙ digit_low p (n - 1 - i) (n - k) (omega arith)

-- before it the bits of a
pub fixed_before : (n k a p i : ℕ) → k ≤ n → i < k → bit n (fixed n k a p) i ≡ bit k a i
fixed_before n k a p i l h =
    let e : (n - 1 - i) - (n - k) ≡ k - 1 - i = omega arith in
    ap (λ x. x % 2) (shifted_high a (p % 2 ^ (n - k)) (n - 1 - i) (n - k) (omega arith) (rest_below n k p))
    ∙ ap (λ x. (a / 2 ^ x) % 2) e

-- the last fixed bit is the last of a
pub fixed_last : (n i a p : ℕ) → i < n → bit n (fixed n (i + 1) a p) i ≡ a % 2
fixed_last n i a p l =
    fixed_before n (i + 1) a p i (omega arith) (omega arith)
    ∙ ap (λ x. (a / 2 ^ x) % 2) (zeroth i)
    ∙ ap (λ x. x % 2) (div-one a)
  where
    zeroth : (i : ℕ) → i + 1 - 1 - i ≡ 0
    zeroth i = omega arith

-- bit i set to b, the bits before it cleared
pub chosen_below : (n i b p : ℕ) → i < n → b < 2 → fixed n (i + 1) b p < 2 ^ n
chosen_below n i b p l h = fixed_below n (i + 1) b p (omega arith) (omega (arith, pow-add 2 i 1, pow_pos i))

pub chosen_bit : (n i b p : ℕ) → i < n → b < 2 → bit n (fixed n (i + 1) b p) i ≡ b
chosen_bit n i b p l h = fixed_last n i b p l ∙ omega arith

-- the first k bits cleared
pub rest_after : (n k p i : ℕ) → k ≤ i → i < n → bit n (p % 2 ^ (n - k)) i ≡ bit n p i
rest_after n k p i l h = digit_low p (n - 1 - i) (n - k) (omega arith)

pub rest_before : (n k p i : ℕ) → k ≤ n → i < k → bit n (p % 2 ^ (n - k)) i ≡ 0
rest_before n k p i l h =
    let e : 2 ^ (n - k) ≤ 2 ^ (n - 1 - i) = pow_mono (omega arith) in
    let d = rest_below n k p in
    ap (λ x. x % 2) (div-eq_of_lt {n = p % 2 ^ (n - k)} {m = 2 ^ (n - 1 - i)} (omega arith))

-- no bit fixed
pub fixed_none : (n a p : ℕ) → a < 1 → p < 2 ^ n → fixed n 0 a p ≡ p
fixed_none n a p l h =
    let e : n - 0 ≡ n = omega arith in
    let z : a ≡ 0 = omega arith in
    ap (λ x. a * 2 ^ x + p % 2 ^ x) e ∙ ap (λ x. x * 2 ^ n + p % 2 ^ n) z ∙ omega (arith, mod-eq_of_lt h)

-- fixing one bit more, and then the same bits again, changes nothing
pub fixed_fixed : (n k a p : ℕ) → k < n → fixed n k (a / 2) (fixed n (k + 1) a p) ≡ fixed n (k + 1) a p
fixed_fixed n k a p l =
    let x = fixed n (k + 1) a p in
    let e : (n - k) - (n - (k + 1)) ≡ 1 = omega arith in
    let d : x / 2 ^ (n - k) ≡ a / 2 = shifted_high a (p % 2 ^ (n - (k + 1))) (n - k) (n - (k + 1)) (omega arith) (rest_below n (k + 1) p) ∙ ap (λ y. a / 2 ^ y) e in
    ap (λ y. y * 2 ^ (n - k) + x % 2 ^ (n - k)) (sym d) ∙ shr_split x (n - k)

-- a pattern that has bit i up is not small, and one that has it down is
pub up_large : (n p i : ℕ) → bit n p i ≡ 1 → 2 ^ (n - 1 - i) + p % 2 ^ (n - 1 - i) ≤ p
up_large n p i e =
    let k = n - 1 - i in
    let one : 1 ≤ p / 2 ^ k = ⊎_elim (λ h. absurd (none (p / 2 ^ k) h e)) (λ h. h) (cases_lt (p / 2 ^ k) 1) in
    let whole = shr_split p k in
    let more = mul-le 1 (2 ^ k) (p / 2 ^ k) (2 ^ k) one (omega arith) in
    omega arith
  where
    none : (x : ℕ) → x < 1 → x % 2 ≡ 1 → ⊥
    none x h e = omega arith

pub small_down : (n p i : ℕ) → p < 2 ^ (n - 1 - i) → bit n p i ≡ 0
small_down n p i h = ap (λ x. x % 2) (div-eq_of_lt {n = p} {m = 2 ^ (n - 1 - i)} h)

-- bit i and those before it cleared: what is left is small
pub cleared_small : (n i p : ℕ) → i < n → fixed n (i + 1) 0 p < 2 ^ (n - 1 - i)
cleared_small n i p l =
    let same : n - (i + 1) ≡ n - 1 - i = omega arith in
    subst (λ x. 0 * 2 ^ x + p % 2 ^ x < 2 ^ (n - 1 - i)) (sym same) (omega (arith, mod_below p (2 ^ (n - 1 - i)) (pow_pos (n - 1 - i))))

-- what is below q without its bit i comes, with that bit, below q
pub raised_before : (n i r q : ℕ) → i < n → bit n q i ≡ 1 → r < fixed n (i + 1) 0 q → fixed n (i + 1) 1 r < q
raised_before n i r q l e h =
    let k = n - (i + 1) in
    let same : n - 1 - i ≡ k = omega arith in
    let large : 2 ^ k + q % 2 ^ k ≤ q = subst (λ x. 2 ^ x + q % 2 ^ x ≤ q) same (up_large n q i e) in
    omega (arith, mod-le r (2 ^ k))

-- bit i set to b, and every other bit as it was
abbrev pub with_bit : ℕ → ℕ → ℕ → ℕ → ℕ
with_bit n p i b = fixed n (i + 1) (p / 2 ^ (n - i) * 2 + b) p

pub with_bit_below : (n p i b : ℕ) → p < 2 ^ n → i < n → b < 2 → with_bit n p i b < 2 ^ n
with_bit_below n p i b h l s =
    let e : 2 ^ n ≡ 2 ^ i * 2 ^ (n - i) = ap (λ x. 2 ^ x) (omega arith) ∙ pow-add 2 i (n - i) in
    let d = div_below p (2 ^ (n - i)) (2 ^ i) (pow_pos (n - i)) (omega arith) in
    fixed_below n (i + 1) (p / 2 ^ (n - i) * 2 + b) p (omega arith) (omega (arith, pow-add 2 i 1))

pub with_bit_here : (n p i b : ℕ) → i < n → b < 2 → bit n (with_bit n p i b) i ≡ b
with_bit_here n p i b l s =
    let a = p / 2 ^ (n - i) * 2 + b in
    let e : i + 1 - 1 - i ≡ 0 = omega arith in
    fixed_before n (i + 1) a p i (omega arith) (omega arith)
    ∙ ap (λ x. (a / 2 ^ x) % 2) e
    ∙ ap (λ x. x % 2) (div-one a)
    ∙ omega arith

pub with_bit_other : (n p i b j : ℕ) → i < n → j < n → b < 2 → (j ≡ i → ⊥) → bit n (with_bit n p i b) j ≡ bit n p j
with_bit_other n p i b j l m s ne =
    ⊎_elim
    (λ h.
    let a = p / 2 ^ (n - i) * 2 + b in
    let e : i + 1 - 1 - j ≡ (i - j - 1) + 1 = omega arith in
    let d : (i - j - 1) + 1 - 1 ≡ i - j - 1 = omega arith in
    let c : (n - i) + (i - j - 1) ≡ n - 1 - j = omega arith in
    fixed_before n (i + 1) a p j (omega arith) (omega arith)
    ∙ ap (λ x. (a / 2 ^ x) % 2) e
    ∙ ap (λ x. x % 2) (shifted_high (p / 2 ^ (n - i)) b ((i - j - 1) + 1) 1 (omega arith) s)
    ∙ ap (λ x. (p / 2 ^ (n - i) / 2 ^ x) % 2) d
    ∙ ap (λ x. x % 2) (shr-shr p (n - i) (i - j - 1))
    ∙ ap (λ x. (p / 2 ^ x) % 2) c)
    (λ h. fixed_after n (i + 1) (p / 2 ^ (n - i) * 2 + b) p j (omega arith) m)
    (cases_lt j i)

-- clearing a bit that is up makes the pattern smaller
pub cleared_smaller : (n p i : ℕ) → i < n → bit n p i ≡ 1 → with_bit n p i 0 < p
cleared_smaller n p i l e =
    let k = n - (i + 1) in
    let same : n - 1 - i ≡ k = omega arith in
    let x = p / 2 ^ k in
    let up : x % 2 ≡ 1 = ap (λ y. (p / 2 ^ y) % 2) (sym same) ∙ e in
    let half : p / 2 ^ (n - i) ≡ x / 2 = ap (λ y. p / 2 ^ y) (omega arith) ∙ sym (shr-shr p k 1) in
    let whole = shr_split p k in
    let fewer : (p / 2 ^ (n - i) * 2 + 0) + 1 ≡ x = omega arith in
    let split : x * 2 ^ k ≡ (p / 2 ^ (n - i) * 2 + 0) * 2 ^ k + 2 ^ k = ap (λ y. y * 2 ^ k) (sym fewer) ∙ add-mul (p / 2 ^ (n - i) * 2 + 0) 1 (2 ^ k) ∙ ap (λ y. (p / 2 ^ (n - i) * 2 + 0) * 2 ^ k + y) (one-mul (2 ^ k)) in
    omega (arith, pow_pos k)

-- two patterns with the same bits are one
pub same_bits : (n p q : ℕ) → p < 2 ^ n → q < 2 ^ n → ((i : ℕ) → i < n → bit n p i ≡ bit n q i) → p ≡ q
same_bits zero p q h k same = omega arith
same_bits (suc n) p q h k same =
    let halves : p / 2 ≡ q / 2 = same_bits n (p / 2) (q / 2) (omega (arith, pow-add 2 n 1, plus_one n)) (omega (arith, pow-add 2 n 1, plus_one n)) (λ i l. half p i l ∙ same i (omega arith) ∙ sym (half q i l)) in
    let zeroth : suc n - 1 - n ≡ 0 = omega arith in
    let last : p % 2 ≡ q % 2 = sym (lowest p zeroth) ∙ same n (omega arith) ∙ lowest q zeroth in
    omega arith
  where
    plus_one : (m : ℕ) → 2 ^ suc m ≡ 2 ^ (m + 1)
    plus_one m = ap (λ x. 2 ^ x) (omega arith)

    half : (x i : ℕ) → i < n → bit n (x / 2) i ≡ bit (suc n) x i
    half x i l = ap (λ y. y % 2) (shr-shr x 1 (n - 1 - i)) ∙ ap (λ y. (x / 2 ^ y) % 2) (omega arith)

    lowest : (x : ℕ) → suc n - 1 - n ≡ 0 → bit (suc n) x n ≡ x % 2
    lowest x e = ap (λ y. (x / 2 ^ y) % 2) e ∙ ap (λ y. y % 2) (div-one x)
