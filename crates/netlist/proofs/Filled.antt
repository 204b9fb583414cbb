-- A list of the values of the first lines, one line on. Assumes nothing.
use Rattle.std.proofs.Common.{◌≡◌, ℕ, ◌+◌, ◌-◌, ◌<◌, List, [], ◌∷◌, ◌++◌, length, get_or, take, drop, set, sym, ap, ◌∙◌, append_assoc, arith}
use lib.ListN.{length-map}
use Rattle.std.proofs.lemmas.List.{set-append_right, get_or_append_left, drop_more, map_push, get_or-map, length-take-le, take_all}
use Rattle.algebra.specs.Ops.{Ops}
use Rattle.netlist.specs.declared.line.Line.{Line}
use Rattle.netlist.specs.Signals.{Signal, constant}
use Rattle.netlist.specs.Lines.{line_signal, line_signals}
use Rattle.netlist.specs.Evaluations.{values_at, Valued}
use Rattle.netlist.proofs.LineSignals.{signals_length, signals_more}

pub valued : (p : ℕ) (ss : List Signal) (rest ys : List ℕ) → ys ≡ values_at p ss ++ rest → Valued p ss ys
valued p ss rest ys e k h =
    ap (λ l. get_or l k 0) e
    ∙ get_or_append_left (values_at p ss) rest 0 k (let q = length-map ss (λ s. s p) in omega arith)
    ∙ get_or-map (λ s. s p) ss k (constant 0) 0 h

put : (ys xs : List ℕ) (i x : ℕ) → length ys ≡ i → i < length xs → set (ys ++ drop i xs) i x ≡ ys ++ x ∷ drop (i + 1) xs
put ys xs i x e h =
    set-append_right ys (drop i xs) i i x e (omega arith)
    ∙ (let z : i - i ≡ 0 = omega arith in ap (λ k. ys ++ set (drop i xs) k x) z)
    ∙ ap (λ l. ys ++ set l 0 x) (drop_more xs i 0 h)

module _ (o : Ops) (n p : ℕ) (ls : List Line) (i : ℕ) (l : Line) where
  pub filled_more : (xs ys : List ℕ) (r : ℕ) → i < length ls → i < length xs → l ≡ get_or ls i l → ys ≡ values_at p (line_signals o n (take i ls)) ++ drop i xs → r ≡ line_signal o n (line_signals o n (take i ls)) l p → set ys i r ≡ values_at p (line_signals o n (take (i + 1) ls)) ++ drop (i + 1) xs
  filled_more xs ys r h k read e f =
      let ss = line_signals o n (take i ls) in
      let long : length (values_at p ss) ≡ i = length-map ss (λ s. s p) ∙ signals_length o n (take i ls) ∙ length-take-le i ls (omega arith) in
      ap (λ v. set v i r) e
      ∙ put (values_at p ss) xs i r long k
      ∙ ap (λ x. values_at p ss ++ x ∷ drop (i + 1) xs) f
      ∙ sym (append_assoc (values_at p ss) (line_signal o n ss l p ∷ []) (drop (i + 1) xs))
      ∙ ap (λ v. v ++ drop (i + 1) xs) (sym (map_push (λ s. s p) ss (line_signal o n ss l)))
      ∙ ap (λ v. values_at p v ++ drop (i + 1) xs) (sym (signals_more o n ls i l h read))

pub filled_all : (o : Ops) (n p : ℕ) (ls : List Line) (i : ℕ) (xs ys : List ℕ) → i ≡ length ls → ys ≡ values_at p (line_signals o n (take i ls)) ++ drop i xs → ys ≡ values_at p (line_signals o n ls) ++ drop (length ls) xs
filled_all o n p ls i xs ys e f =
    f ∙ ap (λ v. values_at p (line_signals o n v) ++ drop i xs) (take_all i ls (omega arith)) ∙ ap (λ k. values_at p (line_signals o n ls) ++ drop k xs) e
