-- Which of two grades stands first in an order, in words of lists. Assumes nothing.
use Rattle.std.proofs.Common.{◌≡◌, ℕ, ◌+◌, suc, Bool, true, false, cond, not, ◌||◌, ◌==◌, List, [], ◌∷◌, take, refl, sym, ap, ◌∙◌, arith}
use Rattle.std.specs.List.{list_any, take_while}
use Rattle.netlist.specs.Orders.{before}

either : (a r : Bool) → (a || r) ≡ cond a true r
either true r = refl
either false r = refl

one_more : (f : ℕ → Bool) (b : Bool) (n x : ℕ) (xs : List ℕ) → list_any f (take (cond (not b) (1 + n) 0) (x ∷ xs)) ≡ cond b false (cond (f x) true (list_any f (take n xs)))
one_more f true n x xs = refl
one_more f false n x xs = let more : 1 + n ≡ suc n = omega arith in ap (λ k. list_any f (take k (x ∷ xs))) more ∙ either (f x) _

-- v stands before w exactly where v is among what comes before the first w
pub before_any : (v w : ℕ) (xs : List ℕ) → before xs v w ≡ list_any (λ x. x == v) (take_while (λ x. not (x == w)) xs)
unfolding before
before_any v w [] = refl
before_any v w (x ∷ xs) = ap (λ r. cond (x == w) false (cond (x == v) true r)) (before_any v w xs) ∙ sym (one_more (λ x. x == v) (x == w) _ x xs)
