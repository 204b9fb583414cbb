-- A table cut back to its first places keeps the shape and the rules: a record stands behind its sides. Assumes nothing.
use Rattle.std.proofs.Common.{◌≡◌, ℕ, ◌<◌, sym, ap, ◌∙◌, subst, ⊎_elim, arith}
use Rattle.std.proofs.lemmas.Bool.{cases_lt}
use Rattle.algebra.specs.Ops.{Ops}
use Rattle.records.specs.Stores.{Store, handle, place, value, up}
use Rattle.records.specs.Rules.{Placed, Well, Sound, Lawful, may_mark}
use Rattle.records.specs.Changes.{Within, Grows}
use Rattle.records.proofs.Values.{level_grows, lawful_constant, lawful_marked, constant_lawful, place_lawful, value_grows}
use Rattle.records.proofs.Moves.{pattern_moved, placed_moved, occurs_moved, settled_moved, first_moved}

pub well_back : {s t : Store} → Grows s t → Well t → Well s
well_back {s} {t} grows v =
    record {
      few = omega (arith, grows.inputs, v.few);
      placed = λ p l. placed_moved p (sym grows.inputs) (λ h k. sym (level_grows grows h (omega arith))) (subst (Placed t p) (grows.same p l) (v.placed p (omega (arith, grows.more))));
      apart = λ p q k l i x y.
          let a = grows.same p k in
          let b = sym (grows.same q l) in
          v.apart p q (omega (arith, grows.more)) (omega (arith, grows.more))
          (ap (λ z. z.input) a ∙ i ∙ ap (λ z. z.input) b) (ap (λ z. z.low) a ∙ x ∙ ap (λ z. z.low) b) (ap (λ z. z.high) a ∙ y ∙ ap (λ z. z.high) b);
    }

pub lawful_back : (o : Ops) {s t : Store} → Grows s t → (h : ℕ) → Within s h → Lawful o t h → Lawful o s h
lawful_back o {s} {t} grows h u l =
    ⊎_elim
    (λ c. constant_lawful o s h c (lawful_constant o t h l c))
    (λ g.
    let v : place h < s.used = omega arith in
    place_lawful o s h g v (λ m. ap (λ r. may_mark o r.reach) (sym (grows.same (place h) v)) ∙ lawful_marked o t h l g m))
    (cases_lt h 16)

pub sound_back : {o : Ops} {s t : Store} → Grows s t → Well t → Sound o t → Sound o s
sound_back {o} {s} {t} grows v sound =
    record {
      low = λ p l.
          lawful_back o grows (s.at p).low (omega (arith, (w.placed p l).low_before))
          (subst (λ r. Lawful o t r.low) (grows.same p l) (sound.low p (in_t p l)));
      high = λ p l.
          lawful_back o grows (s.at p).high (omega (arith, (w.placed p l).high_before))
          (subst (λ r. Lawful o t r.high) (grows.same p l) (sound.high p (in_t p l)));
      reached = λ p x l e.
          occurs_moved o t s (handle p) (sym grows.inputs) (λ r. sym (same p l r)) x
          (sound.reached p x (in_t p l) (ap (λ r. up r.reach x) (grows.same p l) ∙ e));
      reaches = λ p q l k.
          ap (λ r. up r.reach (value o s (handle p) q)) (sym (grows.same p l))
          ∙ ap (up (t.at p).reach) (sym (same p l q))
          ∙ sound.reaches p q (in_t p l) (pattern_moved q (sym grows.inputs) k);
      plain = λ p q l alone f.
          ap o.plain (sym (same p l q))
          ∙ sound.plain p q (in_t p l)
          (settled_moved o s t (handle p) grows.inputs (same p l) alone)
          (first_moved o s t (handle p) grows.inputs (same p l) q f);
    }
  where
    w : Well s
    w = well_back grows v

    in_t : (p : ℕ) → p < s.used → p < t.used
    in_t p l = omega (arith, grows.more)

    same : (p : ℕ) → p < s.used → (q : ℕ) → value o t (handle p) q ≡ value o s (handle p) q
    same p l q = value_grows o w grows (handle p) q (omega arith)
