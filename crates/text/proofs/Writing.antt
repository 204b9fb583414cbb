-- Texts written one after the other. Assumes nothing.
use Rattle.std.proofs.Common.{◌≡◌, ℕ, ◌+◌, ◌≤◌, List, [], ◌++◌, length, take, drop, sym, ap, ◌∙◌, subst, append_assoc, arith, length-drop, drop-drop, take_at, drop_at, suc, ◌<◌, ◌∷◌, set, refl}
use Rattle.std.proofs.lemmas.List.{length-append, length-take-le, take-append-drop, set_split}
use Rattle.text.specs.Reports.{Written}

-- nothing is written
pub written_none : (at : ℕ) (xs : List ℕ) → at ≤ length xs → Written [] at xs xs at
written_none at xs h =
    let e : at + 0 ≡ at = omega arith in
    record { fits = omega arith; after_is = sym (ap (λ n. take at xs ++ drop n xs) e ∙ take-append-drop at xs); end_is = sym e }

-- one byte
pub written_set : (at v : ℕ) (xs : List ℕ) → at < length xs → Written (v ∷ []) at xs (set xs at v) (at + 1)
written_set at v xs h =
    let e : suc at ≡ at + 1 = omega arith in
    record { fits = omega arith; after_is = set_split xs at v h ∙ ap (λ n. take at xs ++ (v ∷ drop n xs)) e; end_is = refl }

module _ (s : List ℕ) (at : ℕ) (x y : List ℕ) (e : ℕ) (w : Written s at x y e) where
  -- the bytes keep their length
  pub same_length : length y ≡ length x
  same_length =
      let f = w.fits in
      let a = length-take-le at x (omega arith) in
      let d = length-drop (at + length s) x in
      let b = length-append (take at x) (s ++ drop (at + length s) x) in
      let c = length-append s (drop (at + length s) x) in
      let q = ap length w.after_is in
      omega arith

  -- and one text more
  pub written_more : (t : List ℕ) (z : List ℕ) (f : ℕ) → Written t e y z f → Written (s ++ t) at x z f
  written_more t z f v =
      let m = w.fits in
      let a : length (take at x) ≡ at = length-take-le at x (omega arith) in
      let p : length (take at x ++ s) ≡ e = length-append (take at x) s ∙ (let k = w.end_is in omega arith) in
      let r = drop (at + length s) x in
      let y' : y ≡ (take at x ++ s) ++ r = w.after_is ∙ sym (append_assoc (take at x) s r) in
      let front : take e y ≡ take at x ++ s = ap (take e) y' ∙ take_at (take at x ++ s) r e p in
      let back : drop e y ≡ r = ap (drop e) y' ∙ drop_at (take at x ++ s) r e p in
      let n : length (s ++ t) ≡ length s + length t = length-append s t in
      let k : at + length s + length t ≡ at + length (s ++ t) = omega arith in
      let rest : drop (e + length t) y ≡ drop (at + length (s ++ t)) x = sym (drop-drop (length t) e y) ∙ ap (drop (length t)) back ∙ drop-drop (length t) (at + length s) x ∙ ap (λ j. drop j x) k in
      let l = same_length in
      let g = v.fits in
      let h = w.end_is in
      let i = v.end_is in
      record {
        fits = omega arith;
        after_is = v.after_is ∙ ap (λ u. u ++ (t ++ drop (e + length t) y)) front ∙ ap (λ u. (take at x ++ s) ++ (t ++ u)) rest
            ∙ append_assoc (take at x) s (t ++ drop (at + length (s ++ t)) x) ∙ ap (λ u. take at x ++ u) (sym (append_assoc s t (drop (at + length (s ++ t)) x)));
        end_is = omega arith;
      }

pub written_as : (s t : List ℕ) (at : ℕ) (x y : List ℕ) (e : ℕ) → s ≡ t → Written s at x y e → Written t at x y e
written_as s t at x y e q w = subst (λ u. Written u at x y e) q w
