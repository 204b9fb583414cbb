-- The laws of an algebra as one computed test, and that an algebra that passes it keeps them. Assumes nothing.
use Rattle.std.specs.Prelude.{◌≡◌, ℕ, ◌<◌, ◌≤◌, Bool, true, false, cond, not, ◌&&◌, ◌||◌, T, ltb, ◌≢◌, length, ◌==◌, nat_eq, nat_le, nat_lt, slice_index, refl}
use Rattle.std.proofs.Common.{sym, ap, subst, ⊎_elim, arith, ltb→lt, eqb→eq, T_not, leb→le, lit<}
use Rattle.std.proofs.Math.Dec.{eqb_refl, not_T}
use Rattle.std.proofs.lemmas.Bool.{cond_both, cond-true, cond-false, ltb-true, lt-ltb, eqb-true, cases_Bool, or_cases, and_parts}
use Rattle.algebra.specs.Below.{every, some, left, right, every_at, some_at}
use Rattle.algebra.specs.Ops.{Ops, read, total, known}
use Rattle.algebra.specs.Laws.{Laws, Total}

abbrev implies : Bool → Bool → Bool
implies true b = b
implies false b = true

so : (a b : Bool) → T (implies a b) → T a → T b
so true b t h = t
so false b t h = absurd h

abbrev same : Bool → Bool → Bool
same true b = b
same false b = not b

same→eq : (a b : Bool) → T (same a b) → a ≡ b
same→eq true true t = refl
same→eq true false t = absurd t
same→eq false true t = absurd t
same→eq false false t = refl

ne→not : (a b : ℕ) → a ≢ b → T (not (a == b))
ne→not a b h = not_T (a == b) (λ t. h (eqb→eq a b t))

eq→T : (a b : ℕ) → a ≡ b → T (a == b)
eq→T a b e = subst (λ m. T (a == m)) e (eqb_refl a)

zero_either_way : (b : Bool) → ◌≡◌ {A = ℕ} (cond b 0 0) 0
zero_either_way true = refl
zero_either_way false = refl

read_read : (n v : ℕ) → read n (read n v) ≡ read n v
read_read n v = cond_both (nat_lt v n) v 0 (λ x. read n x ≡ x) (λ e. cond-true (nat_lt v n) v 0 e) (λ e. zero_either_way (nat_lt 0 n))

pub read_below : (n v : ℕ) → 0 < n → read n v < n
read_below n v h = cond_both (nat_lt v n) v 0 (λ x. x < n) (λ e. ltb-true v n e) (λ e. h)

pub read_code : (n v : ℕ) → v < n → read n v ≡ v
read_code n v h = cond-true (nat_lt v n) v 0 (lt-ltb v n h)

pub total_is_total : (o : Ops) → Total (total o)
total_is_total o = record {
  turn = λ v. ap o.turn (sym (read_read o.count v));
  settled = λ v. ap o.settled (sym (read_read o.count v));
  plain = λ v. ap o.plain (sym (read_read o.count v));
  op = λ k a b. rw (read_read o.count a, read_read o.count b);
  unknown = λ k a b e. cond-false (known o k) _ 0 e;
}

-- every operator's number is below 10
number_below : (k m : ℕ) (b : Bool) → m < 10 → (b ≡ true → k < 10) → (k == m || b) ≡ true → k < 10
number_below k m b h f e = ⊎_elim (λ x. rw (eqb-true k m x) h) f (or_cases (k == m) b e)

known_below : (k : ℕ) (w : Bool) → (k == 3 || (k == 4 || (k == 5 || (k == 6 || (k == 9 || (k == 7 && w)))))) ≡ true → k < 10
known_below k w =
    number_below k 3 _ (lit< tt)
    (number_below k 4 _ (lit< tt)
    (number_below k 5 _ (lit< tt)
    (number_below k 6 _ (lit< tt)
    (number_below k 9 _ (lit< tt)
    (λ e. rw (eqb-true k 7 (and_parts (k == 7) w e).0) (lit< tt))))))

module _ (o : Ops) where
  -- the tests: at one code
  abbrev turn_ranged : ℕ → Bool
  turn_ranged v = nat_lt (o.turn v) o.count

  abbrev turns_back : ℕ → Bool
  turns_back v = implies (o.settled v) (o.settled (o.turn v) && o.turn (o.turn v) == v)

  abbrev plain_once : ℕ → Bool
  plain_once v = implies (o.settled v) (implies (not (o.turn v == v)) (same (o.plain (o.turn v)) (not (o.plain v))))

  abbrev same_not_one : ℕ → Bool
  same_not_one a = not (o.op 9 a a == 1)

  abbrev at_one : ℕ → Bool
  at_one v = turn_ranged v && (turns_back v && (plain_once v && same_not_one v))

  -- at two codes
  abbrev ranged : ℕ → ℕ → Bool
  ranged a b = every 10 (λ k. ltb (o.op k a b) o.count)

  abbrev zero_equal : ℕ → ℕ → Bool
  zero_equal a b = implies (o.op 9 a b == 0) (a == b)

  abbrev listed : ℕ → ℕ → Bool
  listed a b = implies (not (o.op 9 a b == 0)) (some (length o.grave) (λ k. nat_eq (slice_index o.grave k) (o.op 9 a b)))

  abbrev at_two : ℕ → ℕ → Bool
  at_two a b = ranged a b && (zero_equal a b && listed a b)

  -- at a place, and at two places, of the grave order
  abbrev occurs : ℕ → Bool
  occurs k = some o.count (λ a. some o.count (λ b. nat_eq (o.op 9 a b) (slice_index o.grave k)))

  abbrev heavy : ℕ → Bool
  heavy k = not (slice_index o.grave k == 0)

  abbrev at_grave : ℕ → Bool
  at_grave k = occurs k && heavy k

  abbrev apart : ℕ → ℕ → Bool
  apart j k = implies (slice_index o.grave j == slice_index o.grave k) (j == k)

  abbrev pub passes : Bool
  passes =
      (nat_le 2 o.count && nat_le o.count 16)
      && (every o.count at_one
      && (every o.count (λ a. every o.count (at_two a))
      && (every (length o.grave) at_grave
      && every (length o.grave) (λ j. every (length o.grave) (apart j)))))

  module _ (all : Total o) (t : T passes) where
    t1 : T (every o.count at_one && (every o.count (λ a. every o.count (at_two a)) && (every (length o.grave) at_grave && every (length o.grave) (λ j. every (length o.grave) (apart j)))))
    t1 = right (nat_le 2 o.count && nat_le o.count 16) _ t

    t2 : T (every o.count (λ a. every o.count (at_two a)) && (every (length o.grave) at_grave && every (length o.grave) (λ j. every (length o.grave) (apart j))))
    t2 = right (every o.count at_one) _ t1

    t3 : T (every (length o.grave) at_grave && every (length o.grave) (λ j. every (length o.grave) (apart j)))
    t3 = right (every o.count (λ a. every o.count (at_two a))) _ t2

    two : 2 ≤ o.count
    two = ltb→lt 1 o.count (left (nat_le 2 o.count) _ (left (nat_le 2 o.count && nat_le o.count 16) _ t))

    sixteen : o.count ≤ 16
    sixteen = leb→le o.count 16 (right (nat_le 2 o.count) _ (left (nat_le 2 o.count && nat_le o.count 16) _ t))

    pos : 0 < o.count
    pos = let h = two in omega arith

    one_at : (v : ℕ) → v < o.count → T (at_one v)
    one_at v h = every_at o.count at_one (left (every o.count at_one) _ t1) v h

    two_at : (a b : ℕ) → a < o.count → b < o.count → T (at_two a b)
    two_at a b h k = every_at o.count (at_two a) (every_at o.count (λ a. every o.count (at_two a)) (left (every o.count (λ a. every o.count (at_two a))) _ t2) a h) b k

    grave_at : (k : ℕ) → k < length o.grave → T (at_grave k)
    grave_at k h = every_at (length o.grave) at_grave (left (every (length o.grave) at_grave) _ t3) k h

    apart_at : (j k : ℕ) → j < length o.grave → k < length o.grave → T (apart j k)
    apart_at j k h i = every_at (length o.grave) (apart j) (every_at (length o.grave) (λ j. every (length o.grave) (apart j)) (right (every (length o.grave) at_grave) _ t3) j h) k i

    op_ranged : (k a b : ℕ) → o.op k a b < o.count
    op_ranged k a b =
        ⊎_elim
        (λ e.
        rw (all.op k a b)
        (let x = read o.count a in
        let y = read o.count b in
        ltb→lt (o.op k x y) o.count (every_at 10 (λ k. ltb (o.op k x y) o.count) (left (ranged x y) _ (two_at x y (read_below o.count a pos) (read_below o.count b pos))) k (known_below k o.wired e))))
        (λ e. rw (all.unknown k a b e) pos)
        (cases_Bool (known o k))

    pub lawful : Laws o
    lawful = record {
      two_or_more = two;
      sixteen_at_most = sixteen;
      total = all;
      turn_below = λ v. rw (all.turn v) (ltb→lt _ o.count (left (turn_ranged (read o.count v)) _ (one_at (read o.count v) (read_below o.count v pos))));
      op_below = op_ranged;
      turn_settled = λ v h s. left (o.settled (o.turn v)) _ (so (o.settled v) _ (left (turns_back v) _ (right (turn_ranged v) _ (one_at v h))) s);
      turn_back = λ v h s. eqb→eq (o.turn (o.turn v)) v (right (o.settled (o.turn v)) _ (so (o.settled v) _ (left (turns_back v) _ (right (turn_ranged v) _ (one_at v h))) s));
      one_plain = λ v h f. same→eq (o.plain (o.turn v)) (not (o.plain v)) (so (not (o.turn v == v)) _ (so (o.settled v) _ (left (plain_once v) _ (right (turns_back v) _ (right (turn_ranged v) _ (one_at v h)))) f.0) (ne→not (o.turn v) v f.1));
      grade_zero = λ a b h k e. eqb→eq a b (so (o.op 9 a b == 0) _ (left (zero_equal a b) _ (right (ranged a b) _ (two_at a b h k))) (eq→T (o.op 9 a b) 0 e));
      grade_same = λ a h e. T_not (o.op 9 a a == 1) (right (plain_once a) _ (right (turns_back a) _ (right (turn_ranged a) _ (one_at a h)))) (eq→T (o.op 9 a a) 1 e);
      grave_all = λ a b h k e.
          let p = some_at (length o.grave) (λ k. nat_eq (slice_index o.grave k) (o.op 9 a b)) (so (not (o.op 9 a b == 0)) _ (right (zero_equal a b) _ (right (ranged a b) _ (two_at a b h k))) (ne→not (o.op 9 a b) 0 e)) in
          (p.0, p.1, eqb→eq (slice_index o.grave p.0) (o.op 9 a b) p.2);
      grave_some = λ k h.
          let p = some_at o.count (λ a. some o.count (λ b. nat_eq (o.op 9 a b) (slice_index o.grave k))) (left (occurs k) _ (grave_at k h)) in
          let q = some_at o.count (λ b. nat_eq (o.op 9 p.0 b) (slice_index o.grave k)) p.2 in
          (p.0, q.0, p.1, q.1, eqb→eq (o.op 9 p.0 q.0) (slice_index o.grave k) q.2);
      grave_heavy = λ k h e. T_not (slice_index o.grave k == 0) (right (occurs k) _ (grave_at k h)) (eq→T (slice_index o.grave k) 0 e);
      grave_once = λ j k h i e. eqb→eq j k (so (slice_index o.grave j == slice_index o.grave k) _ (apart_at j k h i) (eq→T (slice_index o.grave j) (slice_index o.grave k) e));
    }
