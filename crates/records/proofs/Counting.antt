-- The number of different parts of signals: how it is told from a family of parts, and when two lists have the same.
use Rattle.std.proofs.Common.{◌≡◌, ℕ, zero, suc, ◌<◌, ◌≤◌, false, List, ◌∷◌, map, length, refl, ap, inl, suc-le-suc, le_of_suc-le-suc, arith}
use Rattle.std.proofs.ByRecursion.{All-get_or}
use Rattle.algebra.specs.Ops.{Ops}
use Rattle.netlist.specs.Signals.{Signal, Agree, constant}
use Rattle.netlist.specs.Parts.{part, parts, concat, is_constant, different, part_count}
use Rattle.records.specs.Counts.{OnePart, PartOf, PartIn, nth, DifferentParts, AllParts, Counted}
use Rattle.records.proofs.Pigeons.{pigeonhole_by}
use Rattle.records.proofs.Alike.{agree_refl, one_refl, one_sym, one_trans, one_varies}
use Rattle.records.proofs.Anys.{Any, any_at, any_place, any_map, any_from_map, any_concat, any_from_concat}
use Rattle.records.proofs.Pieces.{in_parts, from_parts, part_of_agree, part_trans, one_of_parts}
use Rattle.records.proofs.Sieve.{apart_places, different_among, different_vary, different_apart, different_covers}

-- all parts of the signals, and the different ones
abbrev pub all_parts : ℕ → List Signal → List Signal
all_parts n ss = concat (map (parts n) ss)

abbrev pub kept : Ops → ℕ → List Signal → List Signal
kept o n ss = different o n (all_parts n ss)

-- ---- parts of the signals of a list

part_listed : (o : Ops) (n : ℕ) (ss : List Signal) (t : Signal) → PartIn o n ss t → Any (OnePart o n t) (all_parts n ss)
part_listed o n ss t (k, h, u, r, e) =
    any_concat (OnePart o n t) (map (parts n) ss)
    (any_map (Any (OnePart o n t)) (parts n) ss
    (any_at (λ s. Any (OnePart o n t) (parts n s)) (constant 0) ss k h
    (in_parts (OnePart o n t) n (nth ss k) r.0 r.1 r.2 r.3 (one_trans o n t u (part n (nth ss k) r.0 r.1) e (inl r.4)))))

listed_part : (o : Ops) (n : ℕ) (ss : List Signal) (t : Signal) → Any (OnePart o n t) (all_parts n ss) → PartIn o n ss t
listed_part o n ss t a =
    let p = any_place (λ s. Any (OnePart o n t) (parts n s)) (constant 0) ss
    (any_from_map (Any (OnePart o n t)) (parts n) ss (any_from_concat (OnePart o n t) (map (parts n) ss) a)) in
    let q = from_parts (OnePart o n t) n (nth ss p.0) p.2 in
    (p.0, p.1, part n (nth ss p.0) q.0 q.1, (q.0, q.1, q.2, q.3, agree_refl n (part n (nth ss p.0) q.0 q.1)), q.4)

-- a part is one with itself; what is one with a part of a signal of the list is in it
pub part_in : (o : Ops) (n : ℕ) (ss : List Signal) (k : ℕ) (t : Signal) → k < length ss → PartOf n t (nth ss k) → PartIn o n ss t
part_in o n ss k t h r = (k, h, t, r, one_refl o n t)

pub part_in_one : (o : Ops) (n : ℕ) (ss : List Signal) (t u : Signal) → OnePart o n t u → PartIn o n ss u → PartIn o n ss t
part_in_one o n ss t u e (k, h, v, r, q) = (k, h, v, r, one_trans o n t u v e q)

-- a part of what is in the list is in it
pub part_in_part : (o : Ops) (n : ℕ) (ss : List Signal) (t u : Signal) → PartOf n u t → PartIn o n ss t → PartIn o n ss u
part_in_part o n ss t u r (k, h, v, q, e) =
    let w = part n v r.0 r.1 in
    let p = part n t r.0 r.1 in (
      k,
      h,
      w,
      part_trans n w v (nth ss k) (r.0, r.1, r.2, r.3, agree_refl n w) q,
      one_trans o n u p w (inl r.4) (one_of_parts o n t v r.0 r.1 r.2 r.3 e),
    )

-- ---- the count

-- the different parts themselves
kept_part : (o : Ops) (n : ℕ) (ss : List Signal) (j : ℕ) → j < length (kept o n ss) → PartIn o n ss (nth (kept o n ss) j)
kept_part o n ss j h =
    let t = nth (kept o n ss) j in
    listed_part o n ss t (different_among o n (OnePart o n t) (all_parts n ss) (any_at (OnePart o n t) (constant 0) (kept o n ss) j h (one_refl o n t)))

kept_varies : (o : Ops) (n : ℕ) (ss : List Signal) (j : ℕ) → j < length (kept o n ss) → is_constant n (nth (kept o n ss) j) ≡ false
kept_varies o n ss j h = All-get_or (λ t. is_constant n t ≡ false) (kept o n ss) j (constant 0) h (different_vary o n (all_parts n ss))

pub different_parts : (o : Ops) (n : ℕ) (ss : List Signal) → DifferentParts o n ss (part_count o n ss) (nth (kept o n ss))
unfolding part_count
different_parts o n ss = record {
  apart = apart_places o n (kept o n ss) (different_apart o n (all_parts n ss));
  vary = kept_varies o n ss;
  from = kept_part o n ss;
}

-- different parts are no more than the number of them
pub at_least : (o : Ops) (n : ℕ) (ss : List Signal) (used : ℕ) (f : ℕ → Signal) → DifferentParts o n ss used f → used ≤ part_count o n ss
unfolding part_count
at_least o n ss used f d =
    pigeonhole_by used (length (kept o n ss)) (λ i j. OnePart o n (f i) (nth (kept o n ss) j))
    (λ i h. any_place (OnePart o n (f i)) (constant 0) (kept o n ss)
    (different_covers o n (f i) (d.vary i h) (all_parts n ss) (part_listed o n ss (f i) (d.from i h))))
    (λ i i' j h h' _ r q. d.apart i i' h h' (one_trans o n (f i) (nth (kept o n ss) j) (f i') r (one_sym o n (f i') (nth (kept o n ss) j) q)))

-- parts among which all are found are no fewer
pub at_most : (o : Ops) (n : ℕ) (ss : List Signal) (used : ℕ) (f : ℕ → Signal) → AllParts o n ss used f → part_count o n ss ≤ used
unfolding part_count
at_most o n ss used f all =
    pigeonhole_by (length (kept o n ss)) used (λ j i. OnePart o n (nth (kept o n ss) j) (f i))
    (λ j h. met (nth (kept o n ss) j) (kept_varies o n ss j h) (kept_part o n ss j h))
    (λ j j' i h h' _ r q. apart_places o n (kept o n ss) (different_apart o n (all_parts n ss)) j j' h h'
    (one_trans o n (nth (kept o n ss) j) (f i) (nth (kept o n ss) j') r (one_sym o n (nth (kept o n ss) j') (f i) q)))
  where
    met : (t : Signal) → is_constant n t ≡ false → PartIn o n ss t → (i : ℕ) × (i < used) × OnePart o n t (f i)
    met t v (k, h, u, r, e) =
        let m = all k u h r (one_varies o n t u e v) in
        (m.0, m.1, one_trans o n t u (f m.0) e m.2)

pub exactly : (o : Ops) (n : ℕ) (ss : List Signal) (used : ℕ) (f : ℕ → Signal) → DifferentParts o n ss used f → AllParts o n ss used f → part_count o n ss ≡ used
exactly o n ss used f d all = let h = at_least o n ss used f d in let l = at_most o n ss used f all in omega arith

-- the different parts themselves are all of them
pub all_found : (o : Ops) (n : ℕ) (ss : List Signal) → AllParts o n ss (part_count o n ss) (nth (kept o n ss))
unfolding part_count
all_found o n ss k t h r v =
    any_place (OnePart o n t) (constant 0) (kept o n ss)
    (different_covers o n t v (all_parts n ss) (part_listed o n ss t (part_in o n ss k t h r)))

pub counted : Counted
counted o n ss = record {
  listed = (nth (kept o n ss), different_parts o n ss, all_found o n ss);
  most = at_least o n ss;
  exact = exactly o n ss;
}

-- one part more than those of a family
first : Signal → (ℕ → Signal) → ℕ → Signal
first t f zero = t
first t f (suc i) = f i

pub one_more : (o : Ops) (n : ℕ) (ss : List Signal) (used : ℕ) (f : ℕ → Signal) (t : Signal) → DifferentParts o n ss used f → PartIn o n ss t → is_constant n t ≡ false → ((i : ℕ) → i < used → OnePart o n (f i) t → ⊥) → used < part_count o n ss
unfolding first
one_more o n ss used f t d r v new = at_least o n ss (suc used) (first t f) (record { apart = apart; vary = vary; from = from })
  where
    apart : (i j : ℕ) → i < suc used → j < suc used → OnePart o n (first t f i) (first t f j) → i ≡ j
    apart zero zero h l q = refl
    apart zero (suc j) h l q = absurd (new j (le_of_suc-le-suc l) (one_sym o n t (f j) q))
    apart (suc i) zero h l q = absurd (new i (le_of_suc-le-suc h) q)
    apart (suc i) (suc j) h l q = ap suc (d.apart i j (le_of_suc-le-suc h) (le_of_suc-le-suc l) q)

    vary : (i : ℕ) → i < suc used → is_constant n (first t f i) ≡ false
    vary zero h = v
    vary (suc i) h = d.vary i (le_of_suc-le-suc h)

    from : (i : ℕ) → i < suc used → PartIn o n ss (first t f i)
    from zero h = r
    from (suc i) h = d.from i (le_of_suc-le-suc h)

-- ---- two lists

-- where each part of ss that is not constant is a part of ts, ss has no more of them
pub fewer_parts : (o : Ops) (n : ℕ) (ss ts : List Signal) → ((k : ℕ) (t : Signal) → k < length ss → PartOf n t (nth ss k) → is_constant n t ≡ false → PartIn o n ts t) → part_count o n ss ≤ part_count o n ts
fewer_parts o n ss ts inside =
    let d = different_parts o n ss in
    at_least o n ts (part_count o n ss) (nth (kept o n ss))
    (record { apart = d.apart; vary = d.vary; from = λ i h. moved (nth (kept o n ss) i) (d.vary i h) (d.from i h) })
  where
    moved : (t : Signal) → is_constant n t ≡ false → PartIn o n ss t → PartIn o n ts t
    moved t v (k, h, u, r, e) = part_in_one o n ts t u e (inside k u h r (one_varies o n t u e v))

-- each signal of ss agrees with one of ts
abbrev pub FoundIn : ℕ → List Signal → List Signal → Type 0
FoundIn n ss ts = (k : ℕ) → k < length ss → (j : ℕ) × (j < length ts) × Agree n (nth ss k) (nth ts j)

pub part_found : (o : Ops) (n : ℕ) (ss ts : List Signal) → FoundIn n ss ts → (t : Signal) → PartIn o n ss t → PartIn o n ts t
part_found o n ss ts found t (k, h, u, r, e) =
    let m = found k h in
    (m.0, m.1, u, part_of_agree n u u (nth ss k) (nth ts m.0) (agree_refl n u) m.2 r, e)

pub fewer_signals : (o : Ops) (n : ℕ) (ss ts : List Signal) → FoundIn n ss ts → part_count o n ss ≤ part_count o n ts
fewer_signals o n ss ts found = fewer_parts o n ss ts (λ k t h r _. part_found o n ss ts found t (part_in o n ss k t h r))

pub same_signals : (o : Ops) (n : ℕ) (ss ts : List Signal) → FoundIn n ss ts → FoundIn n ts ss → part_count o n ss ≡ part_count o n ts
same_signals o n ss ts there back = let h = fewer_signals o n ss ts there in let l = fewer_signals o n ts ss back in omega arith

-- a signal more
pub found_later : (n : ℕ) (s : Signal) (ss : List Signal) → FoundIn n ss (s ∷ ss)
found_later n s ss k h = (suc k, suc-le-suc h, agree_refl n (nth ss k))

pub nothing_new : (o : Ops) (n : ℕ) (s : Signal) (ss : List Signal) → ((t : Signal) → PartOf n t s → is_constant n t ≡ false → PartIn o n ss t) → part_count o n (s ∷ ss) ≡ part_count o n ss
nothing_new o n s ss old =
    let h = fewer_parts o n (s ∷ ss) ss inside in
    let l = fewer_signals o n ss (s ∷ ss) (found_later n s ss) in
    omega arith
  where
    inside : (k : ℕ) (t : Signal) → k < length (s ∷ ss) → PartOf n t (nth (s ∷ ss) k) → is_constant n t ≡ false → PartIn o n ss t
    inside zero t h r v = old t r v
    inside (suc k) t h r v = part_in o n ss k t (le_of_suc-le-suc h) r

-- that holds of a signal that is itself one with a part of the list
pub part_adds_nothing : (o : Ops) (n : ℕ) (s : Signal) (ss : List Signal) → PartIn o n ss s → part_count o n (s ∷ ss) ≡ part_count o n ss
part_adds_nothing o n s ss p = nothing_new o n s ss (λ t r _. part_in_part o n ss s t r p)
