-- A number in columns from its digits, and that what is guessed of it is that number. Assumes nothing.
use Rattle.std.proofs.Common.{◌≡◌, ℕ, zero, suc, ◌+◌, ◌*◌, ◌/◌, ◌%◌, ◌^◌, ◌<◌, ◌≤◌, Bool, true, false, ltb, List, [], ◌∷◌, ◌++◌, length, set, replicate, Option, Decides, MatchOption, sym, refl, ap, ◌∙◌, subst, arith, add-one}
use Rattle.std.specs.Bool.{then_some}
use Rattle.std.proofs.Math.Arith.{mod-mul}
use Rattle.std.proofs.Math.Nat.{mod-eq_of_lt, div-eq_of_lt, div-lt_iff_lt-mul, pow-succ', pow-le-pow_right, one-le-pow}
use Rattle.std.proofs.lemmas.Bool.{cond_both, cond-true, lt-ltb, ltb-true, and_from, le-leb}
use Rattle.std.proofs.lemmas.List.{length_push}
use Rattle.std.proofs.lemmas.Nat.{div_below}
use Rattle.text.specs.Rows.{shown}
use Rattle.text.specs.Guesses.{columns, digit_value, guessed}

power : (k : ℕ) → 0 < 10 ^ k
power k = one-le-pow k 10 (omega arith)

power_more : (k : ℕ) → 10 ^ (k + 1) ≡ 10 * 10 ^ k
power_more k = rw add-one (pow-succ' 10 k)

-- ---- columns from the right; r is what the columns that are written leave of n

digit : (j n r : ℕ) → r ≡ n / 10 ^ j → (r ≡ 0 → j ≡ 0) → columns (suc j) n ≡ (48 + r % 10) ∷ columns j n
digit zero n r e h = let q : n % 10 ≡ r % 10 = omega arith in ap (λ d. (48 + d) ∷ []) q
digit (suc k) n r e h =
    let c = 10 ^ suc k in
    ap (λ d. d ∷ columns (suc k) n)
    (cond_both (ltb n c) 32 (48 + n / c % 10) (λ d. d ≡ 48 + r % 10)
    (λ t. absurd (let z = h (e ∙ div-eq_of_lt (ltb-true n c t)) in omega arith))
    (λ t. ap (λ d. 48 + d % 10) (sym e)))

space : (j n r : ℕ) → r ≡ n / 10 ^ j → r ≡ 0 → (j ≡ 0 → ⊥) → columns (suc j) n ≡ 32 ∷ columns j n
space zero n r e z h = absurd (h refl)
space (suc k) n r e z h =
    let c = 10 ^ suc k in
    let q : n / c < 1 = omega arith in
    let l : n < c = (let m = (div-lt_iff_lt-mul (power (suc k))).0 q in omega arith) in
    ap (λ d. d ∷ columns (suc k) n) (cond-true _ _ _ (lt-ltb n c l))

put_digit : (i v : ℕ) (xs ys : List ℕ) → ys ≡ v ∷ xs → set (replicate (suc i) 32 ++ xs) i v ≡ replicate i 32 ++ ys
put_digit zero v xs ys e = sym e
put_digit (suc i) v xs ys e = ap (λ zs. 32 ∷ zs) (put_digit i v xs ys e)

keep_space : (i : ℕ) (xs ys : List ℕ) → ys ≡ 32 ∷ xs → replicate (suc i) 32 ++ xs ≡ replicate i 32 ++ ys
keep_space zero xs ys e = sym e
keep_space (suc i) xs ys e = ap (λ zs. 32 ∷ zs) (keep_space i xs ys e)

pub put_next : (i j n r : ℕ) (xs : List ℕ) → xs ≡ replicate (suc i) 32 ++ columns j n → r ≡ n / 10 ^ j → (r ≡ 0 → j ≡ 0)
    → set xs i (48 + r % 10) ≡ replicate i 32 ++ columns (suc j) n
put_next i j n r xs x e h = ap (λ zs. set zs i (48 + r % 10)) x ∙ put_digit i (48 + r % 10) (columns j n) (columns (suc j) n) (digit j n r e h)

pub keep_next : (i j n r : ℕ) (xs : List ℕ) → xs ≡ replicate (suc i) 32 ++ columns j n → r ≡ n / 10 ^ j → r ≡ 0 → (j ≡ 0 → ⊥)
    → xs ≡ replicate i 32 ++ columns (suc j) n
keep_next i j n r xs x e z h = x ∙ keep_space i (columns j n) (columns (suc j) n) (space j n r e z h)

-- ---- the guess

value_digit : (d : ℕ) → d < 10 → digit_value (48 + d) ≡ d
value_digit d h = cond-true _ _ _ (and_from _ _ (le-leb 48 (48 + d) (omega arith)) (le-leb (48 + d) 57 (omega arith))) ∙ omega arith

value_shown : (n k : ℕ) → 0 < k → digit_value (shown n k) ≡ n / k % 10
value_shown n k p =
    cond_both (ltb n k) 32 (48 + n / k % 10) (λ b. digit_value b ≡ n / k % 10)
    (λ e. let l = ltb-true n k e in let q = div_below n k 1 p (omega arith) in omega arith)
    (λ e. value_digit (n / k % 10) (omega arith))

columns_length : (k n : ℕ) → length (columns k n) ≡ k
columns_length zero n = refl
columns_length (suc zero) n = refl
columns_length (suc (suc k)) n = ap suc (columns_length (suc k) n)

guessed_columns : (k n : ℕ) → guessed (columns k n) ≡ n % 10 ^ k
guessed_columns zero n = omega arith
guessed_columns (suc zero) n = rw (value_digit (n % 10) (omega arith)) (omega arith)
guessed_columns (suc (suc k)) n =
    rw (value_shown n (10 ^ suc k) (power (suc k)), columns_length (suc k) n, guessed_columns (suc k) n, pow-succ' 10 (suc k)) (sym (mod-mul n (omega arith) (power (suc k))))

guessed_number : (k n : ℕ) → n < 10 ^ k → guessed (columns k n) ≡ n
guessed_number k n h = guessed_columns k n ∙ mod-eq_of_lt h

pub guessed_push : (xs : List ℕ) (b : ℕ) → guessed (xs ++ (b ∷ [])) ≡ guessed xs * 10 + digit_value b
guessed_push [] b = omega arith
guessed_push (x ∷ xs) b = rw (length_push xs b, guessed_push xs b, power_more (length xs)) (omega arith)

-- what is guessed of few bytes is small
pub guess_small : (n i k : ℕ) → n < 10 ^ i → i < k → k < 10 → n < 10 ^ 8
guess_small n i k h l m = let p : 10 ^ i ≤ 10 ^ 8 = pow-le-pow_right {n = 10} (omega arith) {i = i} {j = 8} (omega arith) in omega arith

pub guess_more : (n i d : ℕ) → n < 10 ^ i → d < 10 → n * 10 + d < 10 ^ (i + 1)
guess_more n i d h l = let p = power_more i in omega arith

-- so columns hold one number at most
pub same_number : (k m n : ℕ) → m < 10 ^ k → n < 10 ^ k → columns k m ≡ columns k n → m ≡ n
same_number k m n h l e = sym (guessed_number k m h) ∙ ap guessed e ∙ guessed_number k n l

-- and a guess that is written again and compared tells which
pub read_back : (k : ℕ) (s t : List ℕ) (g : ℕ) (b : Bool) (r : Option ℕ) → Decides b (s ≡ t) → t ≡ columns k g → g ≡ guessed s → g < 10 ^ k → r ≡ then_some b g
    → MatchOption r ((n : ℕ) → n < 10 ^ k → s ≡ columns k n → ⊥) (λ n. (n < 10 ^ k) × (s ≡ columns k n))
read_back k s t g true r d e f l q = subst (λ o. MatchOption o ((n : ℕ) → n < 10 ^ k → s ≡ columns k n → ⊥) (λ n. (n < 10 ^ k) × (s ≡ columns k n))) (sym q) (l, d.0 refl ∙ e)
read_back k s t g false r d e f l q =
    subst (λ o. MatchOption o ((n : ℕ) → n < 10 ^ k → s ≡ columns k n → ⊥) (λ n. (n < 10 ^ k) × (s ≡ columns k n))) (sym q)
    (λ n h p. let w : n ≡ g = sym (f ∙ ap guessed p ∙ guessed_number k n h) in let x = d.1 (p ∙ ap (columns k) w ∙ sym e) in absurd (cc))
