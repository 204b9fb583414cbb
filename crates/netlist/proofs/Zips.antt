-- Two lists joined item by item. Assumes nothing.
use Rattle.std.proofs.Common.{◌≡◌, ℕ, zero, suc, ◌<◌, List, [], ◌∷◌, length, get_or, take, sym, refl, ap, ◌∙◌, arith}
use Rattle.std.proofs.lemmas.List.{get_or-take, get_or-map}
use Rattle.netlist.specs.Signals.{Signal, constant}
use Rattle.netlist.specs.Lines.{signal_at}
use Rattle.netlist.specs.Findings.{zipped}
use Rattle.netlist.specs.Evaluations.{values_at}

pub zipped_length : {X Y Z : Type 0} (f : X → Y → Z) (xs : List X) (ys : List Y) → length xs ≡ length ys → length (zipped f xs ys) ≡ length xs
unfolding zipped
zipped_length f [] ys e = refl
zipped_length f (x ∷ xs) [] e = sym e
zipped_length f (x ∷ xs) (y ∷ ys) e = ap suc (zipped_length f xs ys (omega arith))

pub zipped_at : {X Y Z : Type 0} (f : X → Y → Z) (xs : List X) (ys : List Y) (k : ℕ) (x : X) (y : Y) (z : Z) → length xs ≡ length ys → k < length xs → get_or (zipped f xs ys) k z ≡ f (get_or xs k x) (get_or ys k y)
unfolding zipped
zipped_at f [] ys k x y z e h = absurd (omega arith)
zipped_at f (a ∷ xs) [] k x y z e h = absurd (omega arith)
zipped_at f (a ∷ xs) (b ∷ ys) zero x y z e h = refl
zipped_at f (a ∷ xs) (b ∷ ys) (suc k) x y z e h = zipped_at f xs ys k x y z (omega arith) (omega arith)

-- the value of the k-th signal, from the list of the values
pub value_read : (p k : ℕ) (ss : List Signal) (vs : List ℕ) → k < length ss → take (length ss) vs ≡ values_at p ss → signal_at ss k p ≡ get_or vs k 0
value_read p k ss vs h e = sym (get_or-map (λ s. s p) ss k (constant 0) 0 h) ∙ ap (λ l. get_or l k 0) (sym e) ∙ get_or-take (length ss) vs k 0 h
