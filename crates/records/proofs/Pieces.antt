-- The listed parts of a signal are its parts, and a part of a part is a part.
use Rattle.std.proofs.Common.{◌≡◌, ℕ, suc, ◌+◌, ◌-◌, ◌*◌, ◌%◌, ◌^◌, ◌<◌, ◌≤◌, map, length, sym, ap, ◌∙◌, inl, inr, ⊎_elim, add_assoc, mod-lt, mod-eq_of_lt, mul_assoc, add-mul, arith, pow_pos, pow-add}
use lib.Arith.{digits_lt}
use lib.Pow.{high, low, mod-pow-add, mod-mod-pow}
use Rattle.std.proofs.lemmas.Bool.{cases_lt}
use Rattle.algebra.specs.Ops.{Ops}
use Rattle.netlist.specs.Signals.{Signal, Agree, constant}
use Rattle.netlist.specs.Parts.{below, part, parts}
use Rattle.records.specs.Counts.{Coded, OnePart, PartOf, nth}
use Rattle.records.proofs.Alike.{agree_trans, agree_sym, agree_refl}
use Rattle.records.proofs.Anys.{Any, any_at, any_place, any_map, any_from_map, any_concat, any_from_concat, any_below, any_from_below}

-- ---- the list of parts

pub in_parts : (P : Signal → Type 0) (n : ℕ) (s : Signal) (k a : ℕ) → k ≤ n → a < 2 ^ k → P (part n s k a) → Any P (parts n s)
unfolding parts
in_parts P n s k a hk ha p =
    any_concat P (map (λ k. map (part n s k) (below (2 ^ k))) (below (suc n)))
    (any_map (Any P) (λ k. map (part n s k) (below (2 ^ k))) (below (suc n))
    (any_below (λ k. Any P (map (part n s k) (below (2 ^ k)))) (suc n) k (omega arith)
    (any_map P (part n s k) (below (2 ^ k)) (any_below (λ a. P (part n s k a)) (2 ^ k) a ha p))))

pub from_parts : (P : Signal → Type 0) (n : ℕ) (s : Signal) → Any P (parts n s) → (k : ℕ) × (a : ℕ) × (k ≤ n) × (a < 2 ^ k) × P (part n s k a)
unfolding parts
from_parts P n s x =
    let f = any_from_below (λ k. Any P (map (part n s k) (below (2 ^ k)))) (suc n)
    (any_from_map (Any P) (λ k. map (part n s k) (below (2 ^ k))) (below (suc n))
    (any_from_concat P (map (λ k. map (part n s k) (below (2 ^ k))) (below (suc n))) x)) in
    let g = any_from_below (λ a. P (part n s f.0 a)) (2 ^ f.0) (any_from_map P (part n s f.0) (below (2 ^ f.0)) f.2) in
    let h : f.0 < suc n = f.1 in
    (f.0, g.0, omega arith, g.1, g.2)

-- each listed part is a part, and each part agrees with a listed one
pub listed_is_part : (n : ℕ) (s : Signal) (i : ℕ) → i < length (parts n s) → PartOf n (nth (parts n s) i) s
listed_is_part n s i h =
    from_parts (Agree n (nth (parts n s) i)) n s
    (any_at (Agree n (nth (parts n s) i)) (constant 0) (parts n s) i h (agree_refl n (nth (parts n s) i)))

pub part_is_listed : (n : ℕ) (t s : Signal) → PartOf n t s → (i : ℕ) × (i < length (parts n s)) × Agree n t (nth (parts n s) i)
part_is_listed n t s r = any_place (Agree n t) (constant 0) (parts n s) (in_parts (Agree n t) n s r.0 r.1 r.2 r.3 r.4)

-- ---- parts of parts

-- a part reads patterns alone
pub part_pattern : (n k a p : ℕ) → k ≤ n → a < 2 ^ k → a * 2 ^ (n - k) + p % 2 ^ (n - k) < 2 ^ n
part_pattern n k a p hk ha =
    let e : k + (n - k) ≡ n = omega arith in
    let f : 2 ^ n ≡ 2 ^ k * 2 ^ (n - k) = ap (λ x. 2 ^ x) (sym e) ∙ pow-add 2 k (n - k) in
    rw f (digits_lt ha (mod-lt p (pow_pos (n - k))))

pub part_agree : (n : ℕ) (s t : Signal) (k a : ℕ) → k ≤ n → a < 2 ^ k → Agree n s t → Agree n (part n s k a) (part n t k a)
part_agree n s t k a hk ha e p h = e (a * 2 ^ (n - k) + p % 2 ^ (n - k)) (part_pattern n k a p hk ha)

pub part_of_itself : (n : ℕ) (s : Signal) → PartOf n s s
part_of_itself n s = (0, 0, omega arith, omega arith, λ p h. ap s (itself p h))
  where
    itself : (p : ℕ) → p < 2 ^ n → p ≡ 0 * 2 ^ (n - 0) + p % 2 ^ (n - 0)
    itself p h =
        let e : n - 0 ≡ n = omega arith in
        let f : p % 2 ^ (n - 0) ≡ p = rw e (mod-eq_of_lt h) in
        omega arith

pub part_of_agree : (n : ℕ) (t t' s s' : Signal) → Agree n t t' → Agree n s s' → PartOf n t s → PartOf n t' s'
part_of_agree n t t' s s' e f r = (
  r.0,
  r.1,
  r.2,
  r.3,
  agree_trans n t' t (part n s' r.0 r.1) (agree_sym n t t' e)
      (agree_trans n t (part n s r.0 r.1) (part n s' r.0 r.1) r.4 (part_agree n s s' r.0 r.1 r.2 r.3 f)),
)

-- fewer bits fixed once more: the part stays. The low l bits of a pattern whose low j + l bits are those of p
again : (m c p j l : ℕ) → m ≡ j + l → (c * 2 ^ m + p % 2 ^ m) % 2 ^ l ≡ p % 2 ^ l
again m c p j l e =
    rw e
    (sym (mod-mod-pow (c * 2 ^ (j + l) + p % 2 ^ (j + l)) j l)
    ∙ ap (λ x. x % 2 ^ l) (low c (j + l) (mod-lt p (pow_pos (j + l))))
    ∙ mod-mod-pow p j l)

regroup : (a x y c r : ℕ) → a * (x * y) + (c * y + r) ≡ (a * x + c) * y + r
regroup a x y c r = sym (add_assoc (a * (x * y)) (c * y) r) ∙ ap (λ z. z + r) (ap (λ z. z + c * y) (sym (mul_assoc a x y)) ∙ sym (add-mul (a * x) c y))

-- j bits more fixed, of which l are left
further : (m a b p j l : ℕ) → m ≡ j + l → a * 2 ^ m + (b * 2 ^ l + p % 2 ^ l) % 2 ^ m ≡ (a * 2 ^ j + b % 2 ^ j) * 2 ^ l + p % 2 ^ l
further m a b p j l e =
    rw e
    (ap (λ x. a * 2 ^ (j + l) + x)
    (mod-pow-add (b * 2 ^ l + p % 2 ^ l) j l
    ∙ ap (λ x. (x % 2 ^ j) * 2 ^ l + (b * 2 ^ l + p % 2 ^ l) % 2 ^ l) (high b l (mod-lt p (pow_pos l)))
    ∙ ap (λ x. (b % 2 ^ j) * 2 ^ l + x) (low b l (mod-lt p (pow_pos l))))
    ∙ ap (λ x. a * x + ((b % 2 ^ j) * 2 ^ l + p % 2 ^ l)) (pow-add 2 j l)
    ∙ regroup a (2 ^ j) (2 ^ l) (b % 2 ^ j) (p % 2 ^ l))

further_below : (m k a b j : ℕ) → m ≡ k + j → a < 2 ^ k → a * 2 ^ j + b % 2 ^ j < 2 ^ m
further_below m k a b j e h = rw (e, pow-add 2 k j) (digits_lt h (mod-lt b (pow_pos j)))

part_of_part : (n : ℕ) (s : Signal) (k a k' a' : ℕ) → k ≤ n → a < 2 ^ k → k' ≤ n → a' < 2 ^ k' → PartOf n (part n (part n s k a) k' a') s
part_of_part n s k a k' a' hk ha hk' ha' = ⊎_elim more fewer (cases_lt k k')
  where
    more : k < k' → PartOf n (part n (part n s k a) k' a') s
    more h =
        let j = k' - k in
        let e : n - k ≡ j + (n - k') = omega arith in
        let f : k' ≡ k + j = omega arith in
        let b = a * 2 ^ j + a' % 2 ^ j in
        (k', b, hk', further_below k' k a a' j f ha, λ p _. ap s (further (n - k) a a' p j (n - k') e))

    fewer : k' ≤ k → PartOf n (part n (part n s k a) k' a') s
    fewer h =
        let e : n - k' ≡ (k - k') + (n - k) = omega arith in
        (k, a, hk, ha, λ p _. ap (λ x. s (a * 2 ^ (n - k) + x)) (again (n - k') a' p (k - k') (n - k) e))

pub part_trans : (n : ℕ) (u t s : Signal) → PartOf n u t → PartOf n t s → PartOf n u s
part_trans n u t s r q =
    part_of_agree n (part n (part n s q.0 q.1) r.0 r.1) u s s
    (agree_sym n u (part n (part n s q.0 q.1) r.0 r.1)
    (agree_trans n u (part n t r.0 r.1) (part n (part n s q.0 q.1) r.0 r.1) r.4
    (part_agree n t (part n s q.0 q.1) r.0 r.1 r.2 r.3 q.4)))
    (agree_refl n s)
    (part_of_part n s q.0 q.1 r.0 r.1 q.2 q.3 r.2 r.3)

-- equal parts of what is one part are one part
pub one_of_parts : (o : Ops) (n : ℕ) (s t : Signal) (k a : ℕ) → k ≤ n → a < 2 ^ k → OnePart o n s t → OnePart o n (part n s k a) (part n t k a)
one_of_parts o n s t k a hk ha (inl e) = inl (part_agree n s t k a hk ha e)
one_of_parts o n s t k a hk ha (inr r) =
    inr (record {
      left_settled = λ p _. r.left_settled (read p) (part_pattern n k a p hk ha);
      right_settled = λ p _. r.right_settled (read p) (part_pattern n k a p hk ha);
      left_turned = λ p _. r.left_turned (read p) (part_pattern n k a p hk ha);
      right_turned = λ p _. r.right_turned (read p) (part_pattern n k a p hk ha);
    })
  where
    read : ℕ → ℕ
    read p = a * 2 ^ (n - k) + p % 2 ^ (n - k)

-- a part of a signal of codes has codes for its values
pub part_coded : (o : Ops) (n : ℕ) (t s : Signal) → PartOf n t s → Coded o n s → Coded o n t
part_coded o n t s r coded p h =
    let e = r.4 p h in
    rw e (coded (r.1 * 2 ^ (n - r.0) + p % 2 ^ (n - r.0)) (part_pattern n r.0 r.1 p r.2 r.3))
