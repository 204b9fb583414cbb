-- The finding of two signals is that of any two that agree with them. Assumes nothing.
use Rattle.std.proofs.Common.{◌≡◌, ℕ, zero, suc, ◌+◌, ◌^◌, ◌<◌, ◌≤◌, Bool, cond, eqb, List, [], ◌∷◌, Some, None, Option, refl, ap, ◌∙◌, ap₂, arith}
use Rattle.algebra.specs.Ops.{Ops}
use Rattle.netlist.specs.declared.finding.Finding.{Finding}
use Rattle.netlist.specs.declared.finding.Finding.TheVariants.{Differs}
use Rattle.netlist.specs.Signals.{Signal, Agree, joined}
use Rattle.netlist.specs.Findings.{first_from, first_below, differs_at, gravest, finding}
use Rattle.netlist.proofs.Searches.{first_found}

-- tests that answer alike find the same number
first_alike : (f g : ℕ → Bool) (p m : ℕ) → ((k : ℕ) → p ≤ k → k < p + m → f k ≡ g k) → first_from f p m ≡ first_from g p m
unfolding first_from
first_alike f g p zero alike = refl
first_alike f g p (suc m) alike =
    ap₂ (λ b r. cond b (Some p) r) (alike p (omega arith) (omega arith)) (first_alike f g (suc p) m (λ k low high. alike k (omega arith) (omega arith)))

module _ (m : ℕ) (g g' s s' t t' : Signal) (grades : (p : ℕ) → p < m → g p ≡ g' p) (left : (p : ℕ) → p < m → s p ≡ s' p) (right : (p : ℕ) → p < m → t p ≡ t' p) where
  differs_alike : (v : ℕ) (x : Option ℕ) (a b : Finding) → ((p : ℕ) → x ≡ Some p → p < m) → a ≡ b → differs_at s t v x a ≡ differs_at s' t' v x b
  differs_alike v None a b below same = same
  differs_alike v (Some p) a b below same =
      ap₂ (λ y z. Differs (record { grade = v; pattern = p; left = y; right = z })) (left p (below p refl)) (right p (below p refl))

  pub gravest_alike : (vs : List ℕ) → gravest m g s t vs ≡ gravest m g' s' t' vs
  unfolding gravest
  gravest_alike [] = refl
  gravest_alike (v ∷ vs) =
      let first = first_alike (λ p. eqb (g p) v) (λ p. eqb (g' p) v) 0 m (λ k low high. ap (λ x. eqb x v) (grades k (omega arith))) in
      differs_alike v (first_below m g v) (gravest m g s t vs) (gravest m g' s' t' vs)
      (λ p e. let r = (first_found (λ p. eqb (g p) v) m 0 p e).1 in omega arith)
      (gravest_alike vs)
      ∙ ap (λ x. differs_at s' t' v x (gravest m g' s' t' vs)) first

pub finding_agrees : (o : Ops) (n : ℕ) (s s' t t' : Signal) → Agree n s s' → Agree n t t' → finding o n s t ≡ finding o n s' t'
finding_agrees o n s s' t t' left right =
    gravest_alike (2 ^ n) (joined o 9 s t) (joined o 9 s' t') s s' t t' (λ p k. ap₂ (o.op 9) (left p k) (right p k)) left right o.grave
