-- Which of two grades stands first in an order. Assumes nothing.
use Rattle.std.specs.Prelude.{ℕ, Bool, true, false, cond, List, [], ◌∷◌, ◌==◌}

-- whether v stands in the order before w
unfoldable pub before : List ℕ → ℕ → ℕ → Bool
before [] v w = false
before (x ∷ xs) v w = cond (x == w) false (cond (x == v) true (before xs v w))
