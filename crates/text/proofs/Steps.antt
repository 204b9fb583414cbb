-- What a `?` after `ok_or` or `map_err` passes on, and what bytes are where `!=` is false. Assumes nothing.
use Rattle.std.proofs.Common.{◌≡◌, ℕ, Bool, true, false, not, List, Some, None, Option, Ok, Err, Result, sym, refl, ap, ◌∙◌, subst, MatchOption, MatchResult}
use Rattle.std.proofs.lemmas.Bool.Decides.{Decides-eqb}
use Rattle.std.proofs.lemmas.Slice.Eq.{slice_eq-Decides}
use Rattle.std.specs.Option.{ok_or}
use Rattle.std.specs.Result.{IsErrAnd}
use Rattle.std.specs.Str.{bytes_eq}

pub none_is : {A N : Type 0} (S : A → Type 0) (o : Option A) → o ≡ None → N → MatchOption o N S
none_is S None e n = n
none_is S (Some a) e n = absurd (cc)

-- a value that is missing is refused with the error f
pub missing : {A B E N : Type 0} (S : A → Type 0) (P : B → Type 0) (F : E → Type 0) (o : Option A) (f d : E) (r : Result B E)
    → Err d ≡ ok_or o f → IsErrAnd r (λ e. e ≡ d) → MatchOption o N S → (N → F f) → MatchResult r P F
missing S P F (Some a) f d r v q m k = absurd (cc)
missing S P F None f d (Ok x) v q m k = absurd q
missing S P F None f d (Err e) v q m k = let s : e ≡ f = cc in subst F (sym s) (k m)

-- what a value or an error was before its error was mapped
pub mapped_ok : {A E : Type 0} (D : Type 0) (r : Result A E) (x : A) → MatchResult r (λ y. ◌≡◌ {A = Result A D} (Ok x) (Ok y)) (λ e. ⊥) → r ≡ Ok x
mapped_ok D (Ok y) x m = let e : x ≡ y = cc in sym (ap Ok e)
mapped_ok D (Err e) x m = absurd m

pub mapped_err : {A E D : Type 0} (Q : E → D → Type 0) (r : Result A E) (d : D) → MatchResult r (λ y. ◌≡◌ {A = Result A D} (Err d) (Ok y)) (λ e. Q e d) → (e : E) × (r ≡ Err e) × Q e d
mapped_err Q (Ok y) d m = absurd (cc)
mapped_err Q (Err e) d m = (e, refl, m)

not_false : (b : Bool) → not b ≡ false → b ≡ true
not_false true e = refl
not_false false e = absurd (cc)

pub not_unlike : (xs ys : List ℕ) (r : Bool) → r ≡ not (bytes_eq xs ys) → r ≡ false → xs ≡ ys
not_unlike xs ys r e f = (slice_eq-Decides Decides-eqb xs ys (bytes_eq xs ys) refl).0 (not_false (bytes_eq xs ys) (sym e ∙ f))
