-- What is left of a list of signals when constants and repetitions are dropped.
use Rattle.std.proofs.Common.{◌≡◌, ℕ, zero, suc, ◌<◌, Bool, true, false, ◌||◌, List, [], ◌∷◌, length, Decides, refl, ap, inl, inr, ⊎_elim, le_of_suc-le-suc, not-suc-le-zero}
use Rattle.std.specs.List.{AllByRecursion}
use Rattle.std.proofs.lemmas.Bool.{false≢true, both_ways, or_cases, or_parts, cond_both}
use Rattle.std.proofs.lemmas.Bool.Decides.{Decides-or}
use Rattle.algebra.specs.Ops.{Ops}
use Rattle.netlist.specs.Signals.{Signal, constant}
use Rattle.netlist.specs.Parts.{is_constant, one_part, among, different}
use Rattle.records.specs.Counts.{OnePart, nth}
use Rattle.records.proofs.Alike.{one_part_decides, one_sym, one_trans, one_constant}
use Rattle.records.proofs.Anys.{Any, any_at, any_weaker}

pub among_decides : (f : Signal → Bool) (P : Signal → Type 0) → ((t : Signal) → Decides (f t) (P t)) → (ts : List Signal) → Decides (among f ts) (Any P ts)
unfolding among
among_decides f P each [] = (λ e. absurd (false≢true e), λ a. absurd a)
among_decides f P each (t ∷ ts) = Decides-or (f t) (among f ts) (each t) (among_decides f P each ts)

-- a member is dropped that is constant, or one with a later member
abbrev dropped : Ops → ℕ → Signal → List Signal → Bool
dropped o n t ts = is_constant n t || among (one_part o n t) ts

-- no member is one with a later one
abbrev pub Apart : Ops → ℕ → List Signal → Type 0
Apart o n [] = Unit {0}
Apart o n (t ∷ ts) = (Any (OnePart o n t) ts → ⊥) × Apart o n ts

pub apart_places : (o : Ops) (n : ℕ) (ts : List Signal) → Apart o n ts → (i j : ℕ) → i < length ts → j < length ts → OnePart o n (nth ts i) (nth ts j) → i ≡ j
apart_places o n [] a i j h l r = absurd (not-suc-le-zero h)
apart_places o n (t ∷ ts) a zero zero h l r = refl
apart_places o n (t ∷ ts) a zero (suc j) h l r = absurd (a.0 (any_at (OnePart o n t) (constant 0) ts j (le_of_suc-le-suc l) r))
apart_places o n (t ∷ ts) a (suc i) zero h l r = absurd (a.0 (any_at (OnePart o n t) (constant 0) ts i (le_of_suc-le-suc h) (one_sym o n (nth ts i) t r)))
apart_places o n (t ∷ ts) a (suc i) (suc j) h l r = ap suc (apart_places o n ts a.1 i j (le_of_suc-le-suc h) (le_of_suc-le-suc l) r)

-- what is left stood there
pub different_among : (o : Ops) (n : ℕ) (P : Signal → Type 0) (ts : List Signal) → Any P (different o n ts) → Any P ts
unfolding different
different_among o n P [] = λ a. a
different_among o n P (t ∷ ts) =
    cond_both (dropped o n t ts) (different o n ts) (t ∷ different o n ts) (λ l. Any P l → Any P (t ∷ ts))
    (λ _ a. inr (different_among o n P ts a))
    (λ _. ⊎_elim inl (λ a. inr (different_among o n P ts a)))

-- none is constant
pub different_vary : (o : Ops) (n : ℕ) (ts : List Signal) → AllByRecursion (λ t. is_constant n t ≡ false) (different o n ts)
unfolding different
different_vary o n [] = tt
different_vary o n (t ∷ ts) =
    cond_both (dropped o n t ts) (different o n ts) (t ∷ different o n ts) (AllByRecursion (λ t. is_constant n t ≡ false))
    (λ _. different_vary o n ts)
    (λ e. ((or_parts (is_constant n t) (among (one_part o n t) ts) e).0, different_vary o n ts))

-- no two are one part
pub different_apart : (o : Ops) (n : ℕ) (ts : List Signal) → Apart o n (different o n ts)
unfolding different
different_apart o n [] = tt
different_apart o n (t ∷ ts) =
    cond_both (dropped o n t ts) (different o n ts) (t ∷ different o n ts) (Apart o n)
    (λ _. different_apart o n ts)
    (λ e. (
      λ a. both_ways (among (one_part o n t) ts) (or_parts (is_constant n t) (among (one_part o n t) ts) e).1
          ((among_decides (one_part o n t) (OnePart o n t) (one_part_decides o n t) ts).1 (different_among o n (OnePart o n t) ts a)),
      different_apart o n ts,
    ))

-- a member that is dropped, and is one with t, which is not constant, is one with a later member
met_later : (o : Ops) (n : ℕ) (t x : Signal) (xs : List Signal) → is_constant n t ≡ false → dropped o n x xs ≡ true → OnePart o n t x → Any (OnePart o n t) xs
met_later o n t x xs v e r =
    ⊎_elim
    (λ c. absurd (both_ways (is_constant n t) v (one_constant o n x t (one_sym o n t x r) c)))
    (λ m. any_weaker (OnePart o n x) (OnePart o n t) (λ y q. one_trans o n t x y r q) xs
    ((among_decides (one_part o n x) (OnePart o n x) (one_part_decides o n x) xs).0 m))
    (or_cases (is_constant n x) (among (one_part o n x) xs) e)

-- what is not constant, and is one with a member, is one with a member that is left
pub different_covers : (o : Ops) (n : ℕ) (t : Signal) → is_constant n t ≡ false → (ts : List Signal) → Any (OnePart o n t) ts → Any (OnePart o n t) (different o n ts)
unfolding different
different_covers o n t v [] a = a
different_covers o n t v (x ∷ xs) a =
    cond_both (dropped o n x xs) (different o n xs) (x ∷ different o n xs) (Any (OnePart o n t))
    (λ e. different_covers o n t v xs (⊎_elim (met_later o n t x xs v e) (λ b. b) a))
    (λ _. ⊎_elim inl (λ b. inr (different_covers o n t v xs b)) a)
