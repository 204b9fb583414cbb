-- The values of the OUT lines. Assumes nothing.
use Rattle.std.proofs.Common.{◌≡◌, ℕ, suc, Bool, true, false, cond, eqb, List, [], ◌∷◌, ◌++◌, map, length, sym, refl, ap, ◌∙◌, arith}
use Rattle.netlist.specs.declared.line.Line.{Line}
use Rattle.algebra.specs.Ops.{Ops}
use Rattle.netlist.specs.Lines.{line_signals, outs, out_count}
use Rattle.netlist.proofs.LineSignals.{signals_length}

either : {X : Type 0} (b : Bool) (x y x' y' : X) → x ≡ x' → y ≡ y' → cond b x y ≡ cond b x' y'
either b x y x' y' e f = cc

-- of a list as long as the lines, and of a longer one, the OUT lines' items are the same
pub outs_append : {X : Type 0} (ls : List Line) (xs ys : List X) → length xs ≡ length ls → outs ls (xs ++ ys) ≡ outs ls xs
unfolding outs
outs_append [] xs ys e = refl
outs_append (l ∷ ls) [] ys e = absurd (omega arith)
outs_append (l ∷ ls) (x ∷ xs) ys e = let h = outs_append ls xs ys (omega arith) in either (eqb l.kind 8) _ _ _ _ (ap (λ v. x ∷ v) h) h

map_either : {X Y : Type 0} (f : X → Y) (b : Bool) (xs ys : List X) → map f (cond b xs ys) ≡ cond b (map f xs) (map f ys)
map_either f true xs ys = refl
map_either f false xs ys = refl

pub outs_map : {X Y : Type 0} (f : X → Y) (ls : List Line) (xs : List X) → outs ls (map f xs) ≡ map f (outs ls xs)
unfolding outs
outs_map f [] xs = refl
outs_map f (l ∷ ls) [] = refl
outs_map f (l ∷ ls) (x ∷ xs) = let h = outs_map f ls xs in either (eqb l.kind 8) _ _ _ _ (ap (λ v. f x ∷ v) h) h ∙ sym (map_either f (eqb l.kind 8) (x ∷ outs ls xs) (outs ls xs))

length_either : {X : Type 0} (b : Bool) (xs ys : List X) (m n : ℕ) → length xs ≡ m → length ys ≡ n → length (cond b xs ys) ≡ cond b m n
length_either true xs ys m n e f = e
length_either false xs ys m n e f = f

pub outs_length : {X : Type 0} (ls : List Line) (xs : List X) → length xs ≡ length ls → length (outs ls xs) ≡ out_count ls
unfolding outs out_count
outs_length [] xs e = refl
outs_length (l ∷ ls) [] e = absurd (omega arith)
outs_length (l ∷ ls) (x ∷ xs) e = let h = outs_length ls xs (omega arith) in length_either (eqb l.kind 8) (x ∷ outs ls xs) (outs ls xs) _ _ (ap suc h) h

-- a signal for each OUT line
pub out_signals_length : (o : Ops) (n : ℕ) (ls : List Line) → length (outs ls (line_signals o n ls)) ≡ out_count ls
out_signals_length o n ls = outs_length ls (line_signals o n ls) (signals_length o n ls)
