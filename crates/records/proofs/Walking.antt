-- One step of the walk over two handles, by what its two halves and the record made of them come to. Assumes nothing.
use Rattle.std.proofs.Common.{◌≡◌, ℕ, zero, suc, ◌+◌, ◌^◌, ◌<◌, ◌≤◌, true, eqb, [], ◌∷◌, is_err, Some, None, Ok, Err, Result, sym, ap, ◌∙◌, subst, inl, ⊎_elim, arith, pow_pos, pow-add}
use Rattle.std.proofs.lemmas.Bool.{cases_lt, cases_eq, cond-true, cond-false, cond_both, eq-eqb, ne_eqb, false≢true}
use Rattle.algebra.specs.Ops.{Ops}
use Rattle.algebra.specs.Laws.{Laws}
use Rattle.netlist.specs.Signals.{Signal, Agree, bit}
use Rattle.netlist.specs.Parts.{part}
use Rattle.records.specs.Stores.{Store, handle, value}
use Rattle.records.specs.Rules.{Well, Sound, Lawful, settled_mask}
use Rattle.records.specs.Changes.{Grows}
use Rattle.records.specs.Marks.{choice, negate, reach_of}
use Rattle.records.specs.Makings.{Chosen, Crowded}
use Rattle.memo.specs.Memos.{Pairs, Puts}
use Rattle.records.specs.Counts.{OnePart, PartOf, PartIn}
use Rattle.records.specs.Outcomes.{TruePair, TruePairs, ResultOf}
use Rattle.records.specs.declared.fault.Full.{Full}
use Rattle.records.specs.Walks.{combine, combined, RanOut, WalkShape, WalkMeans, Walked}
use Rattle.records.proofs.Alike.{agree_refl}
use Rattle.records.proofs.Pieces.{part_trans, part_of_itself, part_of_agree}
use Rattle.records.proofs.Counting.{part_in_one}
use Rattle.records.proofs.Values.{lawful_within, lawful_grows, constant_lawful, value_constant, value_grows, codes}
use Rattle.records.proofs.Moves.{pattern_moved}
use Rattle.records.proofs.Masks.{mask_settled}
use Rattle.records.proofs.Reaches.{reach_right}
use Rattle.records.proofs.Negates.{negate_lawful, negate_value}
use Rattle.records.proofs.Firsts.{choice_down, choice_up, bit_cases}
use Rattle.records.proofs.Adds.{grows_refl, grows_trans}
use Rattle.records.proofs.Halves.{Half, Halved}

-- ---- what is combined

pub combine_below : {o : Ops} → Laws o → (k a b : ℕ) → combine o k a b < o.count
combine_below {o} laws k a b = cond_both (eqb k 2) (o.turn a) (o.op k a b) (λ v. v < o.count) (λ _. laws.turn_below a) (λ _. laws.op_below k a b)

combine_same : (o : Ops) (k a b c d : ℕ) → a ≡ c → b ≡ d → combine o k a b ≡ combine o k c d
combine_same o k a b c d e f = ap (λ z. combine o k z b) e ∙ ap (combine o k c) f

-- ---- memo pairs

pub pair_means : (o : Ops) (s : Store) (k x y h : ℕ) → TruePair o s k x y h → Agree s.inputs (value o s h) (combined o s k x y)
pair_means o s k x y h t p l =
    ⊎_elim
    (λ e. t.means.0 e p l ∙ sym (cond-true (eqb k 2) (o.turn (value o s x p)) _ (eq-eqb k 2 e)))
    (λ ne. t.means.1 ne p l ∙ sym (cond-false (eqb k 2) (o.turn (value o s x p)) _ (ne_eqb k 2 ne)))
    (cases_eq k 2)

pub pair_from : (o : Ops) (s : Store) (k x y h : ℕ) → Lawful o s x → Lawful o s y → Lawful o s h → Agree s.inputs (value o s h) (combined o s k x y) → TruePair o s k x y h
pair_from o s k x y h lx ly lh same =
    record {
      left = lx;
      right = ly;
      lawful = lh;
      means = (
        λ e p l. same p l ∙ cond-true (eqb k 2) (o.turn (value o s x p)) _ (eq-eqb k 2 e),
        λ ne p l. same p l ∙ cond-false (eqb k 2) (o.turn (value o s x p)) _ (ne_eqb k 2 ne),
      );
    }

pub pairs_grow : (o : Ops) {s t : Store} (w : Well s) (grows : Grows s t) (P : Pairs) → TruePairs o s P → TruePairs o t P
pairs_grow o {s} {t} w grows P true-pairs k x y h e =
    let a = true-pairs k x y h e in
    let same : (z : ℕ) → Lawful o s z → (p : ℕ) → value o t z p ≡ value o s z p = λ z l p. value_grows o w grows z p (lawful_within o s z l) in
    pair_from o t k x y h (lawful_grows o grows x a.left) (lawful_grows o grows y a.right) (lawful_grows o grows h a.lawful)
    (λ p l.
    same h a.lawful p
    ∙ pair_means o s k x y h a p (pattern_moved p grows.inputs l)
    ∙ sym (combine_same o k _ _ _ _ (same x a.left p) (same y a.right p)))

pub pairs_put : (o : Ops) (s : Store) (P Q : Pairs) (k x y h : ℕ) → TruePairs o s P → Puts P Q k x y h → TruePair o s k x y h → TruePairs o s Q
pairs_put o s P Q k x y h true-pairs puts new k' x' y' h' e =
    ⊎_elim
    (λ ek. ⊎_elim
    (λ ex. ⊎_elim
    (λ ey.
    let at : Q k' x' y' ≡ Q k x y = cc in
    ⊎_elim
    (λ own. let same : h ≡ h' = cc in
    subst (TruePair o s k' x' y') same
    (subst (λ z. TruePair o s z x' y' h) (sym ek) (subst (λ z. TruePair o s k z y' h) (sym ex) (subst (λ z. TruePair o s k x z h) (sym ey) new))))
    (λ none. let clash : Some h' ≡ None = sym e ∙ at ∙ none in absurd (some_none h' clash))
    puts.own)
    (λ ne. other (λ z. ne z.2))
    (cases_eq y' y))
    (λ ne. other (λ z. ne z.1))
    (cases_eq x' x))
    (λ ne. other (λ z. ne z.0))
    (cases_eq k' k)
  where
    some_none : (v : ℕ) → Some v ≡ None → ⊥
    some_none v d = let z : ◌≡◌ {A = ℕ} 0 1 = cc in omega arith

    other : ((k' ≡ k) × (x' ≡ x) × (y' ≡ y) → ⊥) → TruePair o s k' x' y' h'
    other ne =
        ⊎_elim
        (λ same. true-pairs k' x' y' h' (sym same ∙ e))
        (λ none. absurd (some_none h' (sym e ∙ none)))
        (puts.others k' x' y' ne)

-- ---- quick answers

pub leaf_result : {o : Ops} → Laws o → (s : Store) (P : Pairs) (k x y h : ℕ) → x < 16 → y < 16 → h ≡ combine o k x y → Sound o s → TruePairs o s P → ResultOf o s s P (combined o s k x y) h
leaf_result {o} laws s P k x y h cx cy e sound pairs =
    let few : h < o.count = omega (arith, combine_below laws k x y) in
    let small : h < 16 = omega (arith, laws.sixteen_at_most) in
    record {
      sound = sound;
      pairs = pairs;
      lawful = constant_lawful o s h small few;
      means = λ p l. value_constant o s h p small ∙ e ∙ sym (combine_same o k _ _ _ _ (value_constant o s x p cx) (value_constant o s y p cy));
      taken = λ p a b. absurd (omega arith);
    }

pub recalled_result : (o : Ops) (s : Store) (P : Pairs) (k x y h : ℕ) → P k x y ≡ Some h → Sound o s → TruePairs o s P → ResultOf o s s P (combined o s k x y) h
recalled_result o s P k x y h e sound pairs =
    let t = pairs k x y h e in
    record { sound = sound; pairs = pairs; lawful = t.lawful; means = pair_means o s k x y h t; taken = λ p a b. absurd (omega arith) }

pub negated_result : {o : Ops} → Laws o → {s : Store} (w : Well s) (P : Pairs) (k x y h : ℕ) → k ≡ 2 → h ≡ negate o s x → settled_mask o (reach_of o s x) ≡ true
    → Sound o s → TruePairs o s P → Lawful o s x → ResultOf o s s P (combined o s k x y) h
negated_result {o} laws {s} w P k x y h two e settled sound pairs lx =
    let alone = mask_settled laws s x (reach_of o s x) (λ q. codes laws w sound x q lx) (reach_right laws w sound x lx) settled in
    record {
      sound = sound;
      pairs = pairs;
      lawful = subst (Lawful o s) (sym e) (negate_lawful laws w sound x lx);
      means = λ p l.
          ap (λ z. value o s z p) e
          ∙ negate_value laws w sound x p lx alone l
          ∙ sym (cond-true (eqb k 2) (o.turn (value o s x p)) _ (eq-eqb k 2 two));
      taken = λ p a b. absurd (omega arith);
    }

-- ---- parts

-- what is in a part is in the whole
pub part_in_whole : (o : Ops) (n : ℕ) (u r t : Signal) → PartOf n u r → PartIn o n (u ∷ []) t → PartIn o n (r ∷ []) t
part_in_whole o n u r t part (zero, h, v, q, e) = (0, h, v, part_trans n v u r q part, e)
part_in_whole o n u r t part (suc k, h, v, q, e) = absurd (omega arith)

pub part_in_itself : (o : Ops) (n : ℕ) (t r : Signal) → OnePart o n t r → PartIn o n (r ∷ []) t
part_in_itself o n t r e = (0, omega arith, r, part_of_itself n r, e)

-- a place keeps its part as the table grows
later : (o : Ops) (n : ℕ) {t v : Store} (w : Well t) (grows : Grows t v) (u r : Signal) → PartOf n u r → (p : ℕ) → p < t.used → PartIn o n (u ∷ []) (value o t (handle p)) → PartIn o n (r ∷ []) (value o v (handle p))
later o n {t} {v} w grows u r part p l x =
    part_in_one o n (r ∷ []) (value o v (handle p)) (value o t (handle p)) (inl (λ q _. value_grows o w grows (handle p) q (omega arith))) (part_in_whole o n u r (value o t (handle p)) part x)

-- ---- a step

module _ {o : Ops} (laws : Laws o) {s : Store} (w : Well s) (k x y i x0 x1 y0 y1 : ℕ) (cut : Halved o s x y i x0 x1 y0 y1) (sound : Sound o s) (lx : Lawful o s x) (ly : Lawful o s y) where
  half_part : (b x' y' : ℕ) → b < 2 → Half o s i b x x' → Half o s i b y y' → PartOf s.inputs (combined o s k x' y') (combined o s k x y)
  half_part b x' y' few a c = (
    i + 1,
    b,
    (let l = cut.inside in omega arith),
    omega (arith, pow-add 2 i 1, pow_pos i),
    λ p l. combine_same o k _ _ _ _ (a.value_is sound lx p l) (c.value_is sound ly p l),
  )

  low_part : PartOf s.inputs (combined o s k x0 y0) (combined o s k x y)
  low_part = half_part 0 x0 y0 (omega arith) cut.low cut.low_other

  -- the 1 sides are combined in the table that the 0 sides left
  high_part : {t : Store} → Grows s t → PartOf s.inputs (combined o t k x1 y1) (combined o s k x y)
  high_part {t} grows =
      let r = combined o s k x y in
      part_of_agree s.inputs (combined o s k x1 y1) (combined o t k x1 y1) r r
      (λ p l. sym (combine_same o k _ _ _ _ (value_grows o w grows x1 p cut.high.beyond.within) (value_grows o w grows y1 p cut.high_other.beyond.within)))
      (agree_refl s.inputs r)
      (half_part 1 x1 y1 (omega arith) cut.high cut.high_other)

  pub low_lawful : Lawful o s x0 × Lawful o s y0
  low_lawful = (cut.low.lawful sound lx, cut.low_other.lawful sound ly)

  pub high_lawful : {t : Store} → Grows s t → Lawful o t x1 × Lawful o t y1
  high_lawful grows = (lawful_grows o grows x1 (cut.high.lawful sound lx), lawful_grows o grows y1 (cut.high_other.lawful sound ly))

  -- told full below
  pub out_low : {t : Store} (room : ℕ) → Grows s t → RanOut o room s t (combined o s k x0 y0) → RanOut o room s t (combined o s k x y)
  out_low {t} room grows r =
      let part = subst (λ n. PartOf n (combined o s k x0 y0) (combined o s k x y)) (sym grows.inputs) low_part in
      record {
        sound = r.sound;
        full = r.full;
        taken = λ p a b. part_in_whole o t.inputs (combined o s k x0 y0) (combined o s k x y) (value o t (handle p)) part (r.taken p a b);
        signal = r.signal;
        varies = r.varies;
        part = part_in_whole o t.inputs (combined o s k x0 y0) (combined o s k x y) r.signal part r.part;
        lacked = r.lacked;
      }

  module _ {t : Store} (wt : Well t) (first : Grows s t) (Q1 : Pairs) (h0 : ℕ) (low : ResultOf o s t Q1 (combined o s k x0 y0) h0) where
    -- the places that the 0 sides took, in any later table
    low_taken : {u : Store} → Grows t u → (p : ℕ) → s.used ≤ p → p < t.used → PartIn o s.inputs (combined o s k x y ∷ []) (value o u (handle p))
    low_taken more p a b =
        later o s.inputs wt more (combined o s k x0 y0) (combined o s k x y) low_part p b
        (subst (λ n. PartIn o n (combined o s k x0 y0 ∷ []) (value o t (handle p))) first.inputs (low.taken p a b))

    pub out_high : {u : Store} (room : ℕ) → Grows t u → RanOut o room t u (combined o t k x1 y1) → RanOut o room s u (combined o s k x y)
    out_high {u} room more r =
        let same : u.inputs ≡ s.inputs = more.inputs ∙ first.inputs in
        let part = subst (λ n. PartOf n (combined o t k x1 y1) (combined o s k x y)) (sym same) (high_part first) in
        record {
          sound = r.sound;
          full = r.full;
          taken = λ p a b.
              ⊎_elim
              (λ old. subst (λ n. PartIn o n (combined o s k x y ∷ []) (value o u (handle p))) (sym same) (low_taken more p a old))
              (λ new. part_in_whole o u.inputs (combined o t k x1 y1) (combined o s k x y) (value o u (handle p)) part (r.taken p new b))
              (cases_lt p t.used);
          signal = r.signal;
          varies = r.varies;
          part = part_in_whole o u.inputs (combined o t k x1 y1) (combined o s k x y) r.signal part r.part;
          lacked = r.lacked;
        }

    module _ {u : Store} (wu : Well u) (second : Grows t u) (Q2 : Pairs) (h1 : ℕ) (high : ResultOf o t u Q2 (combined o t k x1 y1) h1) where
      inputs : u.inputs ≡ s.inputs
      inputs = second.inputs ∙ first.inputs

      -- the choice between the two is the result
      chosen_agrees : Agree u.inputs (choice o u i h0 h1) (combined o s k x y)
      chosen_agrees q l =
          let ls : q < 2 ^ s.inputs = pattern_moved q (second.inputs ∙ first.inputs) l in
          let lt : q < 2 ^ t.inputs = pattern_moved q second.inputs l in
          let there : bit s.inputs q i ≡ bit u.inputs q i = ap (λ n. bit n q i) (sym (second.inputs ∙ first.inputs)) in
          ⊎_elim
          (λ d.
          choice_down o u i h0 h1 q d
          ∙ value_grows o wt second h0 q (lawful_within o t h0 low.lawful)
          ∙ low.means q lt
          ∙ combine_same o k _ _ _ _ (cut.low.means sound lx q ls (there ∙ d)) (cut.low_other.means sound ly q ls (there ∙ d)))
          (λ d.
          choice_up o u i h0 h1 q d
          ∙ high.means q l
          ∙ combine_same o k _ _ _ _
          (value_grows o w first x1 q cut.high.beyond.within ∙ cut.high.means sound lx q ls (there ∙ d))
          (value_grows o w first y1 q cut.high_other.beyond.within ∙ cut.high_other.means sound ly q ls (there ∙ d)))
          (bit_cases u.inputs q i)

      -- the places that both sides took, in any later table
      both_taken : {v : Store} → Grows u v → (p : ℕ) → s.used ≤ p → p < u.used → PartIn o s.inputs (combined o s k x y ∷ []) (value o v (handle p))
      both_taken more p a b =
          ⊎_elim
          (λ old. low_taken (grows_trans second more) p a old)
          (λ new.
          later o s.inputs wu more (combined o t k x1 y1) (combined o s k x y) (high_part first) p b
          (subst (λ n. PartIn o n (combined o t k x1 y1 ∷ []) (value o u (handle p))) (second.inputs ∙ first.inputs) (high.taken p new b)))
          (cases_lt p t.used)

      -- no place for the record
      pub out_made : (room : ℕ) → Crowded o room u (choice o u i h0 h1) → RanOut o room s u (combined o s k x y)
      out_made room r =
          record {
            sound = high.sound;
            full = r.full;
            taken = λ p a b. subst (λ n. PartIn o n (combined o s k x y ∷ []) (value o u (handle p))) (sym (second.inputs ∙ first.inputs)) (both_taken (grows_refl u) p a b);
            signal = choice o u i h0 h1;
            varies = r.varies;
            part = part_in_itself o u.inputs (choice o u i h0 h1) (combined o s k x y) (inl chosen_agrees);
            lacked = r.lacked;
          }

      -- the record is made, and the pair is laid
      pub made_result : {v : Store} (third : Grows u v) (Q : Pairs) (h : ℕ) → Chosen o u v i h0 h1 h → Puts Q2 Q k x y h → ResultOf o s v Q (combined o s k x y) h
      made_result {v} third Q h m puts =
          let all : v.inputs ≡ s.inputs = third.inputs ∙ (second.inputs ∙ first.inputs) in
          let grows = grows_trans first (grows_trans second third) in
          let r = combined o s k x y in
          let means : Agree v.inputs (value o v h) r = λ q l. let lu = pattern_moved q third.inputs l in m.made.means q lu ∙ chosen_agrees q lu in
          let here : Agree v.inputs (value o v h) (combined o v k x y) = λ q l.
          means q l ∙ sym (combine_same o k _ _ _ _ (value_grows o w grows x q (lawful_within o s x lx)) (value_grows o w grows y q (lawful_within o s y ly))) in
          record {
            sound = m.made.sound;
            pairs = pairs_put o v Q2 Q k x y h (pairs_grow o wu third Q2 high.pairs) puts
                (pair_from o v k x y h (lawful_grows o grows x lx) (lawful_grows o grows y ly) m.made.lawful here);
            lawful = m.made.lawful;
            means = means;
            taken = λ p a b.
                ⊎_elim
                (λ old. subst (λ n. PartIn o n (r ∷ []) (value o v (handle p))) (sym all) (both_taken third p a old))
                (λ new.
                part_in_one o v.inputs (r ∷ []) (value o v (handle p)) (value o v h)
                (subst (λ n. OnePart o n (value o v (handle p)) (value o v h)) (sym third.inputs) (m.taken p new b))
                (part_in_itself o v.inputs (value o v h) r (inl means)))
                (cases_lt p u.used);
          }

-- ---- what a `?` hands on

pub told_out : {o : Ops} {room : ℕ} {s t : Store} {result : Signal} (Q : Pairs) (r : Result ℕ Full) → is_err r ≡ true → RanOut o room s t result → WalkMeans o room s t Q result r
told_out Q (Ok h) e x = absurd (false≢true e)
told_out Q (Err f) e x = x

pub shape_out : (s t : Store) (x y : ℕ) (r : Result ℕ Full) → is_err r ≡ true → WalkShape s t x y r
shape_out s t x y (Ok h) e = absurd (false≢true e)
shape_out s t x y (Err f) e = tt

-- ---- the meaning of a walk, by that of what it calls

module _ {o : Ops} (laws : Laws o) (s : Store) (w : Well s) (P : Pairs) (k x y i x0 x1 y0 y1 : ℕ) (cut : Halved o s x y i x0 x1 y0 y1) where
  -- the walk down the 0 sides is told full ..
  pub walked_out_low : (t : Store) (room : ℕ) (Q : Pairs) (r : Result ℕ Full) → is_err r ≡ true → Grows s t
      → (Sound o s → TruePairs o s P → Lawful o s x0 → Lawful o s y0 → RanOut o room s t (combined o s k x0 y0))
      → Walked o room s t P Q k x y r
  walked_out_low t room Q r err grows out sound pairs lx ly =
      told_out Q r err
      (out_low laws w k x y i x0 x1 y0 y1 cut sound lx ly room grows (out sound pairs (cut.low.lawful sound lx) (cut.low_other.lawful sound ly)))

  module _ (t : Store) (wt : Well t) (first : Grows s t) (Q1 : Pairs) (h0 : ℕ)
      (low : Sound o s → TruePairs o s P → Lawful o s x0 → Lawful o s y0 → ResultOf o s t Q1 (combined o s k x0 y0) h0) where
    left : Sound o s → TruePairs o s P → Lawful o s x → Lawful o s y → ResultOf o s t Q1 (combined o s k x0 y0) h0
    left sound pairs lx ly = low sound pairs (cut.low.lawful sound lx) (cut.low_other.lawful sound ly)

    -- .. or that down the 1 sides ..
    pub walked_out_high : (u : Store) (room room' : ℕ) (Q : Pairs) (r : Result ℕ Full) → is_err r ≡ true → room' ≡ room → Grows t u
        → (Sound o t → TruePairs o t Q1 → Lawful o t x1 → Lawful o t y1 → RanOut o room' t u (combined o t k x1 y1))
        → Walked o room s u P Q k x y r
    walked_out_high u room room' Q r err same second out sound pairs lx ly =
        let l = left sound pairs lx ly in
        let m = high_lawful laws w k x y i x0 x1 y0 y1 cut sound lx ly first in
        told_out Q r err
        (subst (λ n. RanOut o n s u (combined o s k x y)) same
        (out_high laws w k x y i x0 x1 y0 y1 cut sound lx ly wt first Q1 h0 l room' second (out l.sound l.pairs m.0 m.1)))

    module _ (u : Store) (wu : Well u) (second : Grows t u) (Q2 : Pairs) (h1 : ℕ)
        (high : Sound o t → TruePairs o t Q1 → Lawful o t x1 → Lawful o t y1 → ResultOf o t u Q2 (combined o t k x1 y1) h1) where
      right : Sound o s → TruePairs o s P → Lawful o s x → Lawful o s y → ResultOf o t u Q2 (combined o t k x1 y1) h1
      right sound pairs lx ly =
          let l = left sound pairs lx ly in
          let m = high_lawful laws w k x y i x0 x1 y0 y1 cut sound lx ly first in
          high l.sound l.pairs m.0 m.1

      -- .. or there is no place for the record
      pub walked_out_made : (v : Store) (room room' : ℕ) (Q : Pairs) (r : Result ℕ Full) → is_err r ≡ true → room' ≡ room → v ≡ u
          → (Sound o u → Lawful o u h0 → Lawful o u h1 → Crowded o room' u (choice o u i h0 h1))
          → Walked o room s v P Q k x y r
      walked_out_made v room room' Q r err same stays out sound pairs lx ly =
          let l = left sound pairs lx ly in
          let h = right sound pairs lx ly in
          let crowded = out h.sound (lawful_grows o second h0 l.lawful) h.lawful in
          told_out Q r err
          (subst (λ z. RanOut o room s z (combined o s k x y)) (sym stays)
          (subst (λ n. RanOut o n s u (combined o s k x y)) same
          (out_made laws w k x y i x0 x1 y0 y1 cut sound lx ly wt first Q1 h0 l wu second Q2 h1 h room' crowded)))

      -- the record is made
      pub walked_made : (v : Store) (third : Grows u v) (Q : Pairs) (h : ℕ)
          → (Sound o u → Lawful o u h0 → Lawful o u h1 → Chosen o u v i h0 h1 h) → Puts Q2 Q k x y h
          → Sound o s → TruePairs o s P → Lawful o s x → Lawful o s y → ResultOf o s v Q (combined o s k x y) h
      walked_made v third Q h made puts sound pairs lx ly =
          let l = left sound pairs lx ly in
          let r = right sound pairs lx ly in
          let chosen = made r.sound (lawful_grows o second h0 l.lawful) r.lawful in
          made_result laws w k x y i x0 x1 y0 y1 cut sound lx ly wt first Q1 h0 l wu second Q2 h1 r third Q h chosen puts
