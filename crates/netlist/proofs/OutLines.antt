-- The OUT lines of what is left of a netlist, one line on. Assumes nothing.
use Rattle.std.proofs.Common.{◌≡◌, ℕ, suc, ◌+◌, ◌<◌, ◌≤◌, cond, eqb, List, [], ◌∷◌, ◌++◌, length, get_or, take, drop, set, sym, refl, ap, ◌∙◌, append_assoc, append-nil, arith}
use Rattle.std.proofs.lemmas.List.{drop_more, drop_all, drop-drop, take_more_set, drop-set-lt}
use Rattle.std.proofs.lemmas.Bool.{cond-true, cond-false, cond_both, eq-eqb, ne_eqb}
use Rattle.netlist.specs.declared.line.Line.{Line}
use Rattle.netlist.specs.Lines.{outs, out_count}

module _ (ls : List Line) (i : ℕ) (d : Line) (h : i < length ls) where
  count_here : out_count (drop i ls) ≡ cond (eqb (get_or ls i d).kind 8) (suc (out_count (drop (i + 1) ls))) (out_count (drop (i + 1) ls))
  unfolding out_count
  count_here = ap out_count (drop_more ls i d h)

  pub count_out : (get_or ls i d).kind ≡ 8 → out_count (drop i ls) ≡ suc (out_count (drop (i + 1) ls))
  count_out e = count_here ∙ cond-true _ _ _ (eq-eqb _ 8 e)

  pub count_other : ((get_or ls i d).kind ≡ 8 → ⊥) → out_count (drop i ls) ≡ out_count (drop (i + 1) ls)
  count_other e = count_here ∙ cond-false _ _ _ (ne_eqb _ 8 e)

  outs_here : {X : Type 0} (xs : List X) (x : X) → i < length xs → outs (drop i ls) (drop i xs) ≡ cond (eqb (get_or ls i d).kind 8) (get_or xs i x ∷ outs (drop (i + 1) ls) (drop (i + 1) xs)) (outs (drop (i + 1) ls) (drop (i + 1) xs))
  unfolding outs
  outs_here xs x k = ap (λ l. outs l (drop i xs)) (drop_more ls i d h) ∙ ap (λ l. outs (get_or ls i d ∷ drop (i + 1) ls) l) (drop_more xs i x k)

  pub outs_out : {X : Type 0} (xs : List X) (x : X) → i < length xs → (get_or ls i d).kind ≡ 8 → outs (drop i ls) (drop i xs) ≡ get_or xs i x ∷ outs (drop (i + 1) ls) (drop (i + 1) xs)
  outs_out xs x k e = outs_here xs x k ∙ cond-true _ _ _ (eq-eqb _ 8 e)

  pub outs_other : {X : Type 0} (xs : List X) (x : X) → i < length xs → ((get_or ls i d).kind ≡ 8 → ⊥) → outs (drop i ls) (drop i xs) ≡ outs (drop (i + 1) ls) (drop (i + 1) xs)
  outs_other xs x k e = outs_here xs x k ∙ cond-false _ _ _ (ne_eqb _ 8 e)

pub count_all : (ls : List Line) (i : ℕ) → length ls ≤ i → out_count (drop i ls) ≡ 0
unfolding out_count
count_all ls i h = ap out_count (drop_all i ls h)

pub outs_all : {X : Type 0} (ls : List Line) (xs : List X) (i : ℕ) → length ls ≤ i → outs (drop i ls) xs ≡ []
unfolding outs
outs_all ls xs i h = ap (λ l. outs l xs) (drop_all i ls h)

-- the values of the OUT lines so far stand in front, and nothing from line i on has changed
pub record Kept (ls : List Line) (old now : List ℕ) (i count : ℕ) : Type 0 where
  pub front : outs ls old ≡ take count now ++ outs (drop i ls) (drop i now)
  pub counted : count + out_count (drop i ls) ≡ out_count ls
  pub low : count ≤ i
  pub rest : drop i now ≡ drop i old

pub kept_none : (ls : List Line) (old : List ℕ) → Kept ls old old 0 0
kept_none ls old = record { front = refl; counted = omega arith; low = omega arith; rest = refl }

rest_more : (old now : List ℕ) (i : ℕ) → drop i now ≡ drop i old → drop (i + 1) now ≡ drop (i + 1) old
rest_more old now i e = sym (drop-drop 1 i now) ∙ ap (drop 1) e ∙ drop-drop 1 i old

module _ (ls : List Line) (old now : List ℕ) (i count : ℕ) (k : Kept ls old now i count) (d : Line) (h : i < length ls) (r : length ls ≤ length now) where
  pub kept_other : ((get_or ls i d).kind ≡ 8 → ⊥) → Kept ls old now (i + 1) count
  kept_other e =
      let c = count_other ls i d h e in
      let f = k.counted in
      record {
        front = k.front ∙ ap (λ l. take count now ++ l) (outs_other ls i d h now 0 (omega arith) e);
        counted = omega arith;
        low = let l = k.low in omega arith;
        rest = rest_more old now i k.rest;
      }

  pub kept_out : (x : ℕ) → x ≡ get_or now i 0 → (get_or ls i d).kind ≡ 8 → Kept ls old (set now count x) (i + 1) (count + 1)
  kept_out x v e =
      let c = count_out ls i d h e in
      let f = k.counted in
      let l = k.low in
      let same : drop (i + 1) (set now count x) ≡ drop (i + 1) now = drop-set-lt (i + 1) now count x (omega arith) in
      record {
        front =
            k.front
            ∙ ap (λ l. take count now ++ l) (outs_out ls i d h now 0 (omega arith) e)
            ∙ ap (λ y. take count now ++ y ∷ outs (drop (i + 1) ls) (drop (i + 1) now)) (sym v)
            ∙ sym (append_assoc (take count now) (x ∷ []) (outs (drop (i + 1) ls) (drop (i + 1) now)))
            ∙ ap (λ l. l ++ outs (drop (i + 1) ls) (drop (i + 1) now)) (sym (take_more_set now count x (omega arith)))
            ∙ ap (λ l. take (count + 1) (set now count x) ++ outs (drop (i + 1) ls) l) (sym same);
        counted = omega arith;
        low = omega arith;
        rest = same ∙ rest_more old now i k.rest;
      }

module _ (ls : List Line) (old now : List ℕ) (i count : ℕ) (k : Kept ls old now i count) (h : length ls ≤ i) where
  pub kept_all : take (out_count ls) now ≡ outs ls old
  kept_all =
      let c = count_all ls i h in
      let f = k.counted in
      let e : out_count ls ≡ count = omega arith in
      ap (λ m. take m now) e
      ∙ sym (append-nil (take count now))
      ∙ ap (λ l. take count now ++ l) (sym (outs_all ls (drop i now) i h))
      ∙ sym k.front

pub few_outs : (ls : List Line) → out_count ls ≤ length ls
unfolding out_count
few_outs [] = omega arith
few_outs (l ∷ ls) = cond_both (eqb l.kind 8) (suc (out_count ls)) (out_count ls) (λ n. n ≤ suc (length ls)) (λ e. let h = few_outs ls in omega arith) (λ e. let h = few_outs ls in omega arith)
