-- A record added behind the last place in use: the shape and the rules stand. Assumes nothing.
use Rattle.std.proofs.Common.{◌≡◌, ℕ, ◌+◌, ◌^◌, ◌<◌, ◌≤◌, true, cond, eqb, ◌⊎◌, sym, refl, ap, ◌∙◌, subst, inl, inr, ⊎_elim, arith}
use Rattle.std.proofs.lemmas.Bool.{cases_lt, cond_both}
use Rattle.algebra.specs.Ops.{Ops}
use Rattle.netlist.specs.Signals.{bit}
use Rattle.records.specs.declared.record.Record.{Record}
use Rattle.records.specs.Stores.{Store, handle, side, value, up}
use Rattle.records.specs.Rules.{Placed, Well, Sound, Lawful, Occurs, SettledAlone, FirstFirm}
use Rattle.records.specs.Changes.{Within, Grows, Added}
use Rattle.records.specs.Steps.{Fits}
use Rattle.records.specs.Marks.{choice}
use Rattle.records.proofs.Bits.{fixed, chosen_below}
use Rattle.records.proofs.Values.{level_grows, lawful_grows, value_handle, value_grows}
use Rattle.records.proofs.Moves.{pattern_moved, placed_moved, occurs_moved, settled_moved, first_moved}
use Rattle.records.proofs.Masks.{Reach}
use Rattle.records.proofs.Reaches.{Union}
use Rattle.records.proofs.Firsts.{choice_down, choice_up, choice_low, choice_high, bit_cases}

pub grows_refl : (s : Store) → Grows s s
grows_refl s = record { inputs = refl; more = omega arith; same = λ p l. refl }

pub grows_trans : {s t u : Store} → Grows s t → Grows t u → Grows s u
grows_trans g h = record { inputs = h.inputs ∙ g.inputs; more = omega (arith, g.more, h.more); same = λ p l. h.same p (omega (arith, g.more)) ∙ g.same p l }

pub added_grows : {s t : Store} {r : Record} → Added s t r → Grows s t
added_grows d = record { inputs = d.inputs; more = omega (arith, d.used); same = d.same }

-- a place of t is one of s, or the new one
added_places : {s t : Store} {r : Record} → Added s t r → (p : ℕ) → p < t.used → (p < s.used) ⊎ (p ≡ s.used)
added_places {s} d p l = ⊎_elim inl (λ k. inr (omega (arith, d.used))) (cases_lt p s.used)

added_at : {s t : Store} {r : Record} → Added s t r → (p : ℕ) → p ≡ s.used → t.at p ≡ r
added_at {s} {t} d p e = ap t.at e ∙ d.new

-- no place in use holds that input and those sides
abbrev pub Absent : Store → ℕ → ℕ → ℕ → Type 0
Absent s i low high = (p : ℕ) → p < s.used → (s.at p).input ≡ i → (s.at p).low ≡ low → (s.at p).high ≡ high → ⊥

pub well_added : {s t : Store} {r : Record} (w : Well s) → Fits s r.input r.low r.high → Absent s r.input r.low r.high → Added s t r → Well t
well_added {s} {t} {r} w sides absent d =
    record {
      few = omega (arith, d.inputs, w.few);
      placed = λ p l. ⊎_elim
          (λ k. subst (Placed t p) (sym (d.same p k)) (moved p (omega arith) (w.placed p k)))
          (λ e. subst (Placed t p) (sym (added_at d p e)) (moved p (omega arith) (subst (λ x. Placed s x r) (sym e) here)))
          (added_places d p l);
      apart = λ p q k l i x y. ⊎_elim
          (λ m. ⊎_elim
          (λ n.
          let a = sym (d.same p m) in
          let b = d.same q n in
          w.apart p q m n (ap (λ z. z.input) a ∙ i ∙ ap (λ z. z.input) b) (ap (λ z. z.low) a ∙ x ∙ ap (λ z. z.low) b) (ap (λ z. z.high) a ∙ y ∙ ap (λ z. z.high) b))
          (λ n. absurd (clash p q m n i x y))
          (added_places d q l))
          (λ m. ⊎_elim
          (λ n. absurd (clash q p n m (sym i) (sym x) (sym y)))
          (λ n. m ∙ sym n)
          (added_places d q l))
          (added_places d p k);
    }
  where
    moved : {x : Record} (p : ℕ) → p ≤ s.used → Placed s p x → Placed t p x
    moved p l = placed_moved p d.inputs (λ h k. level_grows (added_grows d) h (omega arith))

    here : Placed s s.used r
    here = record {
      within = sides.inside;
      low_before = sides.low_within;
      high_before = sides.high_within;
      low_deeper = sides.low_deeper;
      high_deeper = sides.high_deeper;
      sides_differ = sides.differ;
    }

    clash : (p q : ℕ) → p < s.used → q ≡ s.used → (t.at p).input ≡ (t.at q).input → (t.at p).low ≡ (t.at q).low → (t.at p).high ≡ (t.at q).high → ⊥
    clash p q m e i x y =
        let a = sym (d.same p m) in
        let b = added_at d q e in
        absent p m (ap (λ z. z.input) a ∙ i ∙ ap (λ z. z.input) b) (ap (λ z. z.low) a ∙ x ∙ ap (λ z. z.low) b) (ap (λ z. z.high) a ∙ y ∙ ap (λ z. z.high) b)

-- a place that holds an input and two sides has the values of its sides
pub value_at : (o : Ops) {s t : Store} (w : Well s) (v : Well t) (grows : Grows s t) (i low high p q : ℕ) → p < t.used → Within s low → Within s high
    → (t.at p).input ≡ i → (t.at p).low ≡ low → (t.at p).high ≡ high → value o t (handle p) q ≡ choice o s i low high q
value_at o {s} {t} w v grows i low high p q u a b ei el eh =
    let c = eqb (bit s.inputs q i) 1 in
    value_handle o v p q u
    ∙ ap (λ n. value o t (side (t.at p) (bit n q (t.at p).input)) q) grows.inputs
    ∙ ap (λ x. value o t (side (t.at p) (bit s.inputs q x)) q) ei
    ∙ ap (λ x. value o t (cond c x (t.at p).low) q) eh
    ∙ ap (λ x. value o t (cond c high x) q) el
    ∙ value_grows o w grows (cond c high low) q (cond_both c high low (Within s) (λ _. b) (λ _. a))

-- the rules stand if the new record's sides are lawful, its reach is right and its first firm value is plain
module _ {o : Ops} {s t : Store} {r : Record} (w : Well s) (v : Well t) (sound : Sound o s) (d : Added s t r) (sides : Fits s r.input r.low r.high)
    (low : Lawful o s r.low) (high : Lawful o s r.high) (mask : Union o s r.low r.high r.reach) where
  grows : Grows s t
  grows = added_grows d

  -- the places in use have the values that they had
  old : (p : ℕ) → p < s.used → (q : ℕ) → value o t (handle p) q ≡ value o s (handle p) q
  old p l q = value_grows o w (added_grows d) (handle p) q (omega arith)

  pub value_new : (q : ℕ) → value o t (handle s.used) q ≡ choice o s r.input r.low r.high q
  value_new q =
      value_at o w v (added_grows d) r.input r.low r.high s.used q (omega (arith, d.used)) sides.low_within sides.high_within
      (ap (λ z. z.input) d.new) (ap (λ z. z.low) d.new) (ap (λ z. z.high) d.new)

  pub reach_new : Reach o t (handle s.used) r.reach
  reach_new =
      let n = s.inputs in
      let i = r.input in
      let inside = sides.inside in
      let wide : (q : ℕ) → q < 2 ^ s.inputs → q < 2 ^ t.inputs = λ q. pattern_moved q (sym d.inputs) in
      record {
        reached = λ x e. ⊎_elim
            (λ at.
            let q = fixed n (i + 1) 0 at.0 in (
              q,
              wide q (chosen_below n i 0 at.0 inside (omega arith)),
              value_new q ∙ choice_low o w i r.low r.high at.0 inside sides.low_within sides.low_deeper ∙ at.2,
            ))
            (λ at.
            let q = fixed n (i + 1) 1 at.0 in (
              q,
              wide q (chosen_below n i 1 at.0 inside (omega arith)),
              value_new q ∙ choice_high o w i r.low r.high at.0 inside sides.high_within sides.high_deeper ∙ at.2,
            ))
            (mask.reached x e);
        reaches = λ q k.
            let l = pattern_moved q d.inputs k in
            ⊎_elim
            (λ e. ap (up r.reach) (value_new q ∙ choice_down o s i r.low r.high q e) ∙ mask.low_reaches q l)
            (λ e. ap (up r.reach) (value_new q ∙ choice_up o s i r.low r.high q e) ∙ mask.high_reaches q l)
            (bit_cases n q i);
      }

  pub sound_added : ((q : ℕ) → SettledAlone o t (handle s.used) → FirstFirm o t (handle s.used) q → o.plain (value o t (handle s.used) q) ≡ true) → Sound o t
  unfolding grows
  sound_added plain =
      record {
        low = λ p l. ⊎_elim
            (λ k. subst (λ x. Lawful o t x.low) (sym (d.same p k)) (lawful_grows o grows (s.at p).low (sound.low p k)))
            (λ e. subst (λ x. Lawful o t x.low) (sym (added_at d p e)) (lawful_grows o grows r.low low))
            (added_places d p l);
        high = λ p l. ⊎_elim
            (λ k. subst (λ x. Lawful o t x.high) (sym (d.same p k)) (lawful_grows o grows (s.at p).high (sound.high p k)))
            (λ e. subst (λ x. Lawful o t x.high) (sym (added_at d p e)) (lawful_grows o grows r.high high))
            (added_places d p l);
        reached = λ p x l e. ⊎_elim
            (λ k. occurs_moved o s t (handle p) d.inputs (old p k) x (sound.reached p x k (ap (λ z. up z.reach x) (sym (d.same p k)) ∙ e)))
            (λ j. subst (λ z. Occurs o t (handle z) x) (sym j) (reach_new.reached x (ap (λ z. up z.reach x) (sym (added_at d p j)) ∙ e)))
            (added_places d p l);
        reaches = λ p q l k. ⊎_elim
            (λ m.
            ap (λ z. up z.reach (value o t (handle p) q)) (d.same p m)
            ∙ ap (up (s.at p).reach) (old p m q)
            ∙ sound.reaches p q m (pattern_moved q d.inputs k))
            (λ j.
            ap (λ z. up z.reach (value o t (handle p) q)) (added_at d p j)
            ∙ ap (λ z. up r.reach (value o t (handle z) q)) j
            ∙ reach_new.reaches q k)
            (added_places d p l);
        plain = λ p q l alone f. ⊎_elim
            (λ m.
            ap o.plain (old p m q)
            ∙ sound.plain p q m (settled_moved o t s (handle p) (sym d.inputs) (λ r. sym (old p m r)) alone) (first_moved o t s (handle p) (sym d.inputs) (λ r. sym (old p m r)) q f))
            (λ j.
            ap (λ z. o.plain (value o t (handle z) q)) j
            ∙ plain q (subst (λ z. SettledAlone o t (handle z)) j alone) (subst (λ z. FirstFirm o t (handle z) q) j f))
            (added_places d p l);
      }
