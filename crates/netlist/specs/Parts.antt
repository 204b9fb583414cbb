-- The parts of signals, and how many different ones there are. Assumes nothing.
use Rattle.std.specs.Prelude.{ℕ, zero, suc, ◌+◌, ◌-◌, ◌*◌, ◌%◌, ◌^◌, Bool, true, false, cond, ◌&&◌, ◌||◌, List, [], ◌∷◌, ◌++◌, map, length, nat_eq}
use Rattle.algebra.specs.Ops.{Ops}
use Rattle.netlist.specs.Signals.{Signal, constant, turned}

-- whether f holds of every number below m
unfoldable pub all_below : ℕ → (ℕ → Bool) → Bool
all_below zero f = true
all_below (suc m) f = f m && all_below m f

-- the numbers below m
unfoldable pub below : ℕ → List ℕ
below zero = []
below (suc m) = m ∷ below m

-- what remains of s when its first k input bits are fixed to those of the number a: a signal over all inputs that ignores
-- the fixed ones
abbrev pub part : ℕ → Signal → ℕ → ℕ → Signal
part n s k a = λ p. s (a * 2 ^ (n - k) + p % 2 ^ (n - k))

-- equal on every pattern
abbrev pub same : ℕ → Signal → Signal → Bool
same n s t = all_below (2 ^ n) (λ p. nat_eq (s p) (t p))

abbrev pub is_constant : ℕ → Signal → Bool
is_constant n s = same n s (constant (s 0))

-- takes settled values alone
abbrev pub settled_alone : Ops → ℕ → Signal → Bool
settled_alone o n s = all_below (2 ^ n) (λ p. o.settled (s p))

-- two parts are one if they are equal, or if both take settled values alone and each is the other's NOT
abbrev pub one_part : Ops → ℕ → Signal → Signal → Bool
one_part o n s t =
    same n s t || (settled_alone o n s && (settled_alone o n t && (same n (turned o s) t && same n s (turned o t))))

unfoldable pub concat : List (List Signal) → List Signal
concat [] = []
concat (x ∷ xs) = x ++ concat xs

-- the parts of s: its first k bits fixed, k from 0 to all of them
unfoldable pub parts : ℕ → Signal → List Signal
parts n s = concat (map (λ k. map (part n s k) (below (2 ^ k))) (below (suc n)))

unfoldable pub among : (Signal → Bool) → List Signal → Bool
among f [] = false
among f (t ∷ ts) = f t || among f ts

-- the different ones of a list; constants are left out
unfoldable pub different : Ops → ℕ → List Signal → List Signal
different o n [] = []
different o n (s ∷ ss) = cond (is_constant n s || among (one_part o n s) ss) (different o n ss) (s ∷ different o n ss)

-- how many different parts the signals have
unfoldable pub part_count : Ops → ℕ → List Signal → ℕ
part_count o n ss = length (different o n (concat (map (parts n) ss)))
