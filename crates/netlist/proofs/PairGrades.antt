-- The findings of all pairs over one pattern more. Assumes nothing.
use Rattle.std.proofs.Common.{◌≡◌, ℕ, ◌+◌, ◌<◌, ◌≤◌, List, [], ◌∷◌, length, get_or, take, set, sym, refl, ap, ◌∙◌, ⊎_elim, arith}
use Rattle.std.proofs.lemmas.List.{get_or-set_same, get_or-set_other, ext_get_or}
use Rattle.std.proofs.lemmas.Bool.{cases_eq}
use Rattle.algebra.specs.Ops.{Ops}
use Rattle.netlist.specs.declared.finding.Finding.{Finding}
use Rattle.netlist.specs.declared.finding.Finding.TheVariants.{Clean}
use Rattle.netlist.specs.Signals.{Signal, constant, joined}
use Rattle.netlist.specs.Lines.{signal_at}
use Rattle.netlist.specs.Findings.{finding_below, gravest, first_from, zipped}
use Rattle.netlist.specs.Evaluations.{values_at}
use Rattle.netlist.proofs.Zips.{zipped_length, zipped_at, value_read}

abbrev pub Regraded : Ops → ℕ → ℕ → ℕ → Finding → Finding → Type 0
Regraded o m l r old new = (s t : Signal) → s m ≡ l → t m ≡ r → old ≡ finding_below o m s t → new ≡ finding_below o (m + 1) s t

-- the pairs below i are graded over pattern m too, the others are as they were
pub record Upto (o : Ops) (m : ℕ) (left right : List ℕ) (old new : List Finding) (i : ℕ) : Type 0 where
  pub done : (k : ℕ) → k < i → Regraded o m (get_or left k 0) (get_or right k 0) (get_or old k Clean) (get_or new k Clean)
  pub rest : (k : ℕ) → i ≤ k → get_or new k Clean ≡ get_or old k Clean

pub upto_none : (o : Ops) (m : ℕ) (left right : List ℕ) (old : List Finding) → Upto o m left right old old 0
upto_none o m left right old = record { done = λ k h. absurd (omega arith); rest = λ k h. refl }

module _ (o : Ops) (m : ℕ) (left right : List ℕ) (old new : List Finding) (i : ℕ) (u : Upto o m left right old new i) where
  pub upto_more : (x y : Finding) → i < length new → x ≡ get_or new i Clean → Regraded o m (get_or left i 0) (get_or right i 0) x y → Upto o m left right old (set new i y) (i + 1)
  upto_more x y h e r = record {
    done = λ k l.
        ⊎_elim
        (λ same. rw same (rw (get_or-set_same new i y Clean h) (λ s t a b q. r s t a b (e ∙ u.rest i (omega arith) ∙ q))))
        (λ other. rw (get_or-set_other new i k y Clean other) (u.done k (omega arith)))
        (cases_eq k i);
    rest = λ k l. get_or-set_other new i k y Clean (omega arith) ∙ u.rest k (omega arith);
  }

  pub upto_all : length new ≡ length old → length old ≤ i → (ss ts : List Signal) → length ss ≡ length old → length ts ≡ length ss → take (length ss) left ≡ values_at m ss → take (length ss) right ≡ values_at m ts → old ≡ zipped (finding_below o m) ss ts → new ≡ zipped (finding_below o (m + 1)) ss ts
  upto_all long far ss ts es et el er known =
      let z = zipped_length (finding_below o (m + 1)) ss ts (omega arith) in
      ext_get_or Clean new (zipped (finding_below o (m + 1)) ss ts) (omega arith)
      (λ k h.
      let ks : k < length ss = omega arith in
      u.done k (omega arith) (signal_at ss k) (signal_at ts k)
      (value_read m k ss left ks el)
      (value_read m k ts right (omega arith) (ap (λ n. take n right) et ∙ er))
      (ap (λ l. get_or l k Clean) known ∙ zipped_at (finding_below o m) ss ts k (constant 0) (constant 0) Clean (omega arith) ks)
      ∙ sym (zipped_at (finding_below o (m + 1)) ss ts k (constant 0) (constant 0) Clean (omega arith) ks))

-- before the first pattern every pair is clean
pub none_clean : (g s t : Signal) (vs : List ℕ) → gravest 0 g s t vs ≡ Clean
unfolding gravest first_from
none_clean g s t [] = refl
none_clean g s t (v ∷ vs) = none_clean g s t vs

pub all_clean : (o : Ops) (fs : List Finding) (ss ts : List Signal) → length fs ≡ length ss → length ts ≡ length ss → ((k : ℕ) → k < length fs → get_or fs k Clean ≡ Clean) → fs ≡ zipped (finding_below o 0) ss ts
all_clean o fs ss ts es et clean =
    let z = zipped_length (finding_below o 0) ss ts (omega arith) in
    ext_get_or Clean fs (zipped (finding_below o 0) ss ts) (omega arith)
    (λ k h.
    clean k h
    ∙ sym (none_clean (joined o 9 (signal_at ss k) (signal_at ts k)) (signal_at ss k) (signal_at ts k) o.grave)
    ∙ sym (zipped_at (finding_below o 0) ss ts k (constant 0) (constant 0) Clean (omega arith) (omega arith)))
