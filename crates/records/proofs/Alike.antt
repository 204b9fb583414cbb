-- The tests on signals say what they mean, and to be one part is an equivalence.
use Rattle.std.proofs.Common.{◌≡◌, ℕ, ◌^◌, ◌<◌, Bool, true, false, ◌&&◌, T, eqb, Decides, sym, refl, ap, ◌∙◌, subst, inl, inr, pow_pos}
use Rattle.std.proofs.lemmas.Bool.{false≢true, both_ways}
use Rattle.std.proofs.lemmas.Bool.Decides.{Decides-eqb, Decides-and, Decides-or, Decides-like, Decides-below_and}
use Rattle.algebra.specs.Ops.{Ops}
use Rattle.algebra.specs.Laws.{Laws}
use Rattle.netlist.specs.Signals.{Signal, Agree, constant, turned}
use Rattle.netlist.specs.Parts.{all_below, same, is_constant, settled_alone, one_part}
use Rattle.records.specs.Counts.{Coded, Settled, Opposite, OnePart}

-- ---- what each test decides

pub all_below_decides : (m : ℕ) (f : ℕ → Bool) (P : ℕ → Type 0) → ((k : ℕ) → Decides (f k) (P k)) → Decides (all_below m f) ((k : ℕ) → k < m → P k)
unfolding all_below
all_below_decides m f P each = Decides-below_and f P (λ x. all_below x f) each refl (λ _. refl) m

pub decides_T : (b : Bool) → Decides b (T b)
decides_T true = (λ _. tt, λ _. refl)
decides_T false = (λ e. absurd (false≢true e), λ x. absurd x)

pub same_decides : (n : ℕ) (s t : Signal) → Decides (same n s t) (Agree n s t)
same_decides n s t = all_below_decides (2 ^ n) (λ p. eqb (s p) (t p)) (λ p. s p ≡ t p) (λ p. Decides-eqb (s p) (t p))

pub is_constant_decides : (n : ℕ) (s : Signal) → Decides (is_constant n s) (Agree n s (constant (s 0)))
is_constant_decides n s = same_decides n s (constant (s 0))

pub settled_alone_decides : (o : Ops) (n : ℕ) (s : Signal) → Decides (settled_alone o n s) (Settled o n s)
settled_alone_decides o n s = all_below_decides (2 ^ n) (λ p. o.settled (s p)) (λ p. T (o.settled (s p))) (λ p. decides_T (o.settled (s p)))

pub one_part_decides : (o : Ops) (n : ℕ) (s t : Signal) → Decides (one_part o n s t) (OnePart o n s t)
one_part_decides o n s t =
    Decides-or (same n s t) opposite (same_decides n s t)
    (Decides-like opposite
    (λ q. record { left_settled = q.0; right_settled = q.1.0; left_turned = q.1.1.0; right_turned = q.1.1.1 })
    (λ r. (r.left_settled, (r.right_settled, (r.left_turned, r.right_turned))))
    (Decides-and (settled_alone o n s) rest (settled_alone_decides o n s)
    (Decides-and (settled_alone o n t) turns (settled_alone_decides o n t)
    (Decides-and (same n (turned o s) t) (same n s (turned o t)) (same_decides n (turned o s) t) (same_decides n s (turned o t))))))
  where
    turns : Bool
    turns = same n (turned o s) t && same n s (turned o t)

    rest : Bool
    rest = settled_alone o n t && turns

    opposite : Bool
    opposite = settled_alone o n s && rest

-- ---- equal on every pattern

pub agree_refl : (n : ℕ) (s : Signal) → Agree n s s
agree_refl n s p h = refl

pub agree_sym : (n : ℕ) (s t : Signal) → Agree n s t → Agree n t s
agree_sym n s t e p h = sym (e p h)

pub agree_trans : (n : ℕ) (s t u : Signal) → Agree n s t → Agree n t u → Agree n s u
agree_trans n s t u e f p h = e p h ∙ f p h

pub agree_turned : (o : Ops) (n : ℕ) (s t : Signal) → Agree n s t → Agree n (turned o s) (turned o t)
agree_turned o n s t e p h = ap o.turn (e p h)

pub agree_settled : (o : Ops) (n : ℕ) (s t : Signal) → Agree n s t → Settled o n s → Settled o n t
agree_settled o n s t e f p h = subst (λ v. T (o.settled v)) (e p h) (f p h)

-- ---- one part

pub one_refl : (o : Ops) (n : ℕ) (s : Signal) → OnePart o n s s
one_refl o n s = inl (agree_refl n s)

pub one_sym : (o : Ops) (n : ℕ) (s t : Signal) → OnePart o n s t → OnePart o n t s
one_sym o n s t (inl e) = inl (agree_sym n s t e)
one_sym o n s t (inr r) =
    inr (record {
      left_settled = r.right_settled;
      right_settled = r.left_settled;
      left_turned = agree_sym n s (turned o t) r.right_turned;
      right_turned = agree_sym n (turned o s) t r.left_turned;
    })

opposite_agree : (o : Ops) (n : ℕ) (s t u : Signal) → Opposite o n s t → Agree n t u → Opposite o n s u
opposite_agree o n s t u r e = record {
  left_settled = r.left_settled;
  right_settled = agree_settled o n t u e r.right_settled;
  left_turned = agree_trans n (turned o s) t u r.left_turned e;
  right_turned = agree_trans n s (turned o t) (turned o u) r.right_turned (agree_turned o n t u e);
}

agree_opposite : (o : Ops) (n : ℕ) (s t u : Signal) → Agree n s t → Opposite o n t u → Opposite o n s u
agree_opposite o n s t u e r = record {
  left_settled = agree_settled o n t s (agree_sym n s t e) r.left_settled;
  right_settled = r.right_settled;
  left_turned = agree_trans n (turned o s) (turned o t) u (agree_turned o n s t e) r.left_turned;
  right_turned = agree_trans n s t (turned o u) e r.right_turned;
}

pub one_trans : (o : Ops) (n : ℕ) (s t u : Signal) → OnePart o n s t → OnePart o n t u → OnePart o n s u
one_trans o n s t u (inl e) (inl f) = inl (agree_trans n s t u e f)
one_trans o n s t u (inl e) (inr r) = inr (agree_opposite o n s t u e r)
one_trans o n s t u (inr r) (inl f) = inr (opposite_agree o n s t u r f)
one_trans o n s t u (inr r) (inr q) = inl (agree_trans n s (turned o t) u r.right_turned q.left_turned)

-- what agrees may stand on either side
pub one_agree : (o : Ops) (n : ℕ) (s s' t t' : Signal) → Agree n s s' → Agree n t t' → OnePart o n s t → OnePart o n s' t'
one_agree o n s s' t t' e f r = one_trans o n s' s t' (inl (agree_sym n s s' e)) (one_trans o n s t t' r (inl f))

-- a settled signal and its NOT are one part
pub one_turned : (o : Ops) (n : ℕ) (s t : Signal) → Laws o → Coded o n s → Settled o n s → Agree n (turned o s) t → OnePart o n s t
one_turned o n s t laws coded settled e = inr (record {
  left_settled = settled;
  right_settled = agree_settled o n (turned o s) t e (λ p h. laws.turn_settled (s p) (coded p h) (settled p h));
  left_turned = e;
  right_turned = λ p h. sym (laws.turn_back (s p) (coded p h) (settled p h)) ∙ ap o.turn (e p h);
})

-- what is one with a constant is constant
one_constant_agree : (o : Ops) (n : ℕ) (s t : Signal) → OnePart o n s t → Agree n s (constant (s 0)) → Agree n t (constant (t 0))
one_constant_agree o n s t (inl e) c p h = sym (e p h) ∙ c p h ∙ e 0 (pow_pos n)
one_constant_agree o n s t (inr r) c p h = sym (r.left_turned p h) ∙ ap o.turn (c p h) ∙ r.left_turned 0 (pow_pos n)

pub one_constant : (o : Ops) (n : ℕ) (s t : Signal) → OnePart o n s t → is_constant n s ≡ true → is_constant n t ≡ true
one_constant o n s t r e = (is_constant_decides n t).1 (one_constant_agree o n s t r ((is_constant_decides n s).0 e))

pub one_varies : (o : Ops) (n : ℕ) (s t : Signal) → OnePart o n s t → is_constant n s ≡ false → is_constant n t ≡ false
one_varies o n s t r e = not_true_false (is_constant n t) (λ y. both_ways (is_constant n s) e (one_constant o n t s (one_sym o n s t r) y))
  where
    not_true_false : (b : Bool) → (b ≡ true → ⊥) → b ≡ false
    not_true_false true d = absurd (d refl)
    not_true_false false d = refl
