-- What making a record comes to: the shape and the rules stand, and the handle that is answered is the choice between the
-- two sides. Assumes nothing.
use Rattle.std.proofs.Common.{◌≡◌, ℕ, ◌+◌, ◌^◌, ◌<◌, ◌≤◌, Bool, true, false, cond, not, T, eqb, ltb, sym, refl, ap, ◌∙◌, subst, ⊎_elim, arith}
use Rattle.std.proofs.lemmas.Bool.{cases_lt, cases_Bool, cond-true, cond-false, cond_both, ltb-true, and_parts, and_from, and_cases, not-true, not-false, both_ways}
use Rattle.algebra.specs.Ops.{Ops}
use Rattle.algebra.specs.Laws.{Laws, Firm}
use Rattle.netlist.specs.Signals.{bit}
use Rattle.records.specs.Stores.{Store, handle, place, level, value, up}
use Rattle.records.specs.Rules.{Well, Sound, Lawful, settled_code, settled_mask, firm_mask, may_mark, SettledAlone, FirstFirm}
use Rattle.records.specs.Changes.{Within, Grows, Added}
use Rattle.records.specs.Steps.{Fits}
use Rattle.records.specs.Marks.{flipped, negate, turn_mask, reach_of, union, leads_plain, lead, turns, kept_low, kept_high, kept_reach, kept, made_handle, choice, Made}
use Rattle.records.proofs.Bits.{fixed, chosen_below}
use Rattle.records.proofs.Values.{at_constant, place_handle, place_marked, level_place, place_lawful, handle_lawful, value_marked, codes}
use Rattle.records.proofs.Moves.{pattern_moved}
use Rattle.records.proofs.Masks.{mask_code, mask_some, settled_code_settled, firm_turned, SomeFirm, Reach, settled_is_mask, firm_is_mask}
use Rattle.records.proofs.Negates.{negate_constant, negate_flips, negate_stays, negate_small, negate_large, negate_place, negate_before, negate_level, negate_lawful, negate_value, may_mark_bare, flipped_twice}
use Rattle.records.proofs.Reaches.{up_one, up_union_left, up_union_right, Union, union_right, union_turned}
use Rattle.records.proofs.Firsts.{choice_down, choice_up, choice_low, choice_high, bit_cases, Leads, first_leads, leads_agree, leads_unturned, lead_plain}
use Rattle.records.proofs.Adds.{Absent, grows_refl, added_grows, well_added, value_at, value_new, reach_new, sound_added}

-- The shape, which needs no rule.

turn_injective : {o : Ops} → Laws o → (a b : ℕ) → settled_code o a ≡ true → settled_code o b ≡ true → o.turn a ≡ o.turn b → a ≡ b
turn_injective {o} laws a b x y e =
    let l = ltb-true a o.count (and_parts (ltb a o.count) (o.settled a) x).0 in
    let m = ltb-true b o.count (and_parts (ltb b o.count) (o.settled b) y).0 in
    sym (laws.turn_back a l (settled_code_settled o a x)) ∙ ap o.turn e ∙ laws.turn_back b m (settled_code_settled o b y)

-- sides that differ have NOTs that differ, where both reach settled values alone
negate_differ : {o : Ops} → Laws o → (s : Store) (low high : ℕ) → settled_mask o (union o s low high) ≡ true → (low ≡ high → ⊥) → negate o s low ≡ negate o s high → ⊥
negate_differ {o} laws s low high settled differ e =
    let a = reach_of o s low in
    let b = reach_of o s high in
    ⊎_elim
    (λ c. ⊎_elim
    (λ d. differ (turn_injective laws low high
    (mask_code o (union o s low high) low settled c (up_union_left a b low (ap (λ z. up z low) (at_constant low (2 ^ low) _ c) ∙ up_one low)))
    (mask_code o (union o s low high) high settled d (up_union_right a b high (ap (λ z. up z high) (at_constant high (2 ^ high) _ d) ∙ up_one high)))
    (sym (negate_constant o s low c) ∙ e ∙ negate_constant o s high d)))
    (λ d. omega (arith, negate_small laws s low c, negate_large laws s high d))
    (cases_lt high 16))
    (λ c. ⊎_elim
    (λ d. omega (arith, negate_large laws s low c, negate_small laws s high d))
    (λ d.
    let same : place low ≡ place high = sym (negate_place laws s low c) ∙ ap place e ∙ negate_place laws s high d in
    let test = ap (λ p. may_mark o (s.at p).reach) same in
    ⊎_elim
    (λ t. differ (sym (flipped_twice low c) ∙ ap flipped (sym (negate_flips o s low c t) ∙ e ∙ negate_flips o s high d (sym test ∙ t)) ∙ flipped_twice high d))
    (λ t. differ (sym (negate_stays o s low c t) ∙ e ∙ negate_stays o s high d (sym test ∙ t)))
    (cases_Bool (may_mark o (s.at (place low)).reach)))
    (cases_lt high 16))
    (cases_lt low 16)

-- what it means that a record is kept under NOT
turns_parts : (o : Ops) (s : Store) (low high : ℕ) → turns o s low high ≡ true → (settled_mask o (union o s low high) ≡ true) × (firm_mask o (union o s low high) ≡ true) × (leads_plain o (lead o s low high) ≡ false)
turns_parts o s low high e =
    let m = union o s low high in
    let parts = and_parts (may_mark o m) (not (leads_plain o (lead o s low high))) e in
    let masks = and_parts (settled_mask o m) (firm_mask o m) parts.0 in
    (masks.0, masks.1, not-true (leads_plain o (lead o s low high)) parts.1)

pub kept_sides : {o : Ops} → Laws o → {s : Store} {i low high : ℕ} → Fits s i low high → Fits s i (kept_low o s low high) (kept_high o s low high)
kept_sides {o} laws {s} {i} {low} {high} sides =
    ⊎_elim
    (λ e. subst (λ b. Fits s i (cond b (negate o s low) low) (cond b (negate o s high) high)) (sym e)
    (record {
      inside = sides.inside;
      low_within = negate_before laws s low s.used sides.low_within;
      high_within = negate_before laws s high s.used sides.high_within;
      low_deeper = omega (arith, negate_level laws s low, sides.low_deeper);
      high_deeper = omega (arith, negate_level laws s high, sides.high_deeper);
      differ = negate_differ laws s low high (turns_parts o s low high e).0 sides.differ;
    }))
    (λ e. subst (λ b. Fits s i (cond b (negate o s low) low) (cond b (negate o s high) high)) (sym e) sides)
    (cases_Bool (turns o s low high))

pub well_made : {o : Ops} → Laws o → {s t : Store} (w : Well s) {i low high : ℕ} → Fits s i low high → Absent s i (kept_low o s low high) (kept_high o s low high)
    → Added s t (kept o s i low high) → Well t
well_made laws w sides absent d = well_added w (kept_sides laws sides) absent d

pub made_place : (o : Ops) (s : Store) (low high p : ℕ) → (16 ≤ made_handle o s low high p) × (made_handle o s low high p ≤ handle p + 1) × (place (made_handle o s low high p) ≡ p)
made_place o s low high p =
    cond_both (turns o s low high) (handle p + 1) (handle p) (λ h. (16 ≤ h) × (h ≤ handle p + 1) × (place h ≡ p))
    (λ _. (omega arith, omega arith, place_marked p)) (λ _. (omega arith, omega arith, place_handle p))

pub made_within : (o : Ops) (s t : Store) (low high p : ℕ) → p < t.used → Within t (made_handle o s low high p)
made_within o s t low high p u = let h = made_place o s low high p in omega arith

-- the handle that is answered tests input i
pub made_level : (o : Ops) (s t : Store) (i low high p : ℕ) → (t.at p).input ≡ i → level t (made_handle o s low high p) ≡ i
made_level o s t i low high p e =
    let h = made_place o s low high p in
    level_place t (made_handle o s low high p) h.0 ∙ ap (λ x. (t.at x).input) h.2 ∙ e

-- The rules and the values.

-- equal sides
pub made_same : (o : Ops) (s : Store) (i low high : ℕ) → Sound o s → Lawful o s low → low ≡ high → Made o s s i low high low
made_same o s i low high sound l e =
    record {
      sound = sound;
      lawful = l;
      means = λ q k. sym (cond_both (eqb (bit s.inputs q i) 1) high low (λ x. value o s x q ≡ value o s low q) (λ _. ap (λ x. value o s x q) (sym e)) (λ _. refl));
    }

module _ {o : Ops} (laws : Laws o) {s : Store} (w : Well s) (sound : Sound o s) {i low high : ℕ} (sides : Fits s i low high) (low_lawful : Lawful o s low) (high_lawful : Lawful o s high) where
  few_low : (q : ℕ) → value o s low q < o.count
  few_low q = codes laws w sound low q low_lawful

  few_high : (q : ℕ) → value o s high q < o.count
  few_high q = codes laws w sound high q high_lawful

  choice_code : (q : ℕ) → choice o s i low high q < o.count
  choice_code q = cond_both (eqb (bit s.inputs q i) 1) high low (λ x. value o s x q < o.count) (λ _. few_high q) (λ _. few_low q)

  mask : Union o s low high (union o s low high)
  mask = union_right laws w sound low high low_lawful high_lawful

  low_settled : settled_mask o (union o s low high) ≡ true → SettledAlone o s low
  low_settled e q k =
      let v = value o s low q in
      settled_code_settled o v (mask_code o (union o s low high) v e (omega (arith, few_low q, laws.sixteen_at_most)) (mask.low_reaches q k))

  high_settled : settled_mask o (union o s low high) ≡ true → SettledAlone o s high
  high_settled e q k =
      let v = value o s high q in
      settled_code_settled o v (mask_code o (union o s low high) v e (omega (arith, few_high q, laws.sixteen_at_most)) (mask.high_reaches q k))

  choice_settled : settled_mask o (union o s low high) ≡ true → (q : ℕ) → q < 2 ^ s.inputs → T (o.settled (choice o s i low high q))
  choice_settled e q k = cond_both (eqb (bit s.inputs q i) 1) high low (λ x. T (o.settled (value o s x q))) (λ _. high_settled e q k) (λ _. low_settled e q k)

  choice_firm : firm_mask o (union o s low high) ≡ true → (q : ℕ) × (q < 2 ^ s.inputs) × Firm o (choice o s i low high q)
  choice_firm e =
      let n = s.inputs in
      let r = mask_some o (union o s low high) e in
      let inside = sides.inside in
      ⊎_elim
      (λ at. (
        fixed n (i + 1) 0 at.0,
        chosen_below n i 0 at.0 inside (omega arith),
        subst (Firm o) (sym (choice_low o w i low high at.0 inside sides.low_within sides.low_deeper ∙ at.2)) r.2,
      ))
      (λ at. (
        fixed n (i + 1) 1 at.0,
        chosen_below n i 1 at.0 inside (omega arith),
        subst (Firm o) (sym (choice_high o w i low high at.0 inside sides.high_within sides.high_deeper ∙ at.2)) r.2,
      ))
      (mask.reached r.0 r.1)

  -- under NOT the record has the NOT of the choice, and else the choice
  kept_turned : turns o s low high ≡ true → (q : ℕ) → q < 2 ^ s.inputs → choice o s i (kept_low o s low high) (kept_high o s low high) q ≡ o.turn (choice o s i low high q)
  kept_turned e q k =
      let settled = (turns_parts o s low high e).0 in
      ap (λ b. choice o s i (cond b (negate o s low) low) (cond b (negate o s high) high) q) e
      ∙ ⊎_elim
      (λ d. choice_down o s i (negate o s low) (negate o s high) q d ∙ negate_value laws w sound low q low_lawful (low_settled settled) k ∙ ap o.turn (sym (choice_down o s i low high q d)))
      (λ d. choice_up o s i (negate o s low) (negate o s high) q d ∙ negate_value laws w sound high q high_lawful (high_settled settled) k ∙ ap o.turn (sym (choice_up o s i low high q d)))
      (bit_cases s.inputs q i)

  kept_same : turns o s low high ≡ false → (q : ℕ) → choice o s i (kept_low o s low high) (kept_high o s low high) q ≡ choice o s i low high q
  kept_same e q = ap (λ b. choice o s i (cond b (negate o s low) low) (cond b (negate o s high) high) q) e

  kept_low_lawful : Lawful o s (kept_low o s low high)
  kept_low_lawful = cond_both (turns o s low high) (negate o s low) low (Lawful o s) (λ _. negate_lawful laws w sound low low_lawful) (λ _. low_lawful)

  kept_high_lawful : Lawful o s (kept_high o s low high)
  kept_high_lawful = cond_both (turns o s low high) (negate o s high) high (Lawful o s) (λ _. negate_lawful laws w sound high high_lawful) (λ _. high_lawful)

  kept_mask : Union o s (kept_low o s low high) (kept_high o s low high) (kept_reach o s low high)
  kept_mask =
      let m = union o s low high in
      let P : Bool → Type 0 = λ b. Union o s (cond b (negate o s low) low) (cond b (negate o s high) high) (cond b (turn_mask o m) m) in
      ⊎_elim
      (λ e.
      let settled = (turns_parts o s low high e).0 in
      subst P (sym e)
      (union_turned laws s low high (negate o s low) (negate o s high) m few_low few_high
      (λ q k. negate_value laws w sound low q low_lawful (low_settled settled) k)
      (λ q k. negate_value laws w sound high q high_lawful (high_settled settled) k)
      mask))
      (λ e. subst P (sym e) mask)
      (cases_Bool (turns o s low high))

  -- a place of a sound table that has the values of the kept record: its handle, marked where that is kept under NOT
  made_at : {t : Store} (v : Well t) → Sound o t → Grows s t → (p : ℕ) → p < t.used
      → ((q : ℕ) → value o t (handle p) q ≡ choice o s i (kept_low o s low high) (kept_high o s low high) q) → Made o s t i low high (made_handle o s low high p)
  made_at {t} v sound-t grows p u values =
      ⊎_elim
      (λ e.
      let parts = turns_parts o s low high e in
      let f = choice o s i low high in
      let turned : (q : ℕ) → q < 2 ^ s.inputs → value o t (handle p) q ≡ o.turn (f q) = λ q k. values q ∙ kept_turned e q k in
      let alone : SettledAlone o t (handle p) = λ q k. let l = pattern_moved q grows.inputs k in subst (λ x. T (o.settled x)) (sym (turned q l)) (laws.turn_settled (f q) (choice_code q) (choice_settled parts.0 q l)) in
      let at = choice_firm parts.1 in
      let some : SomeFirm o t (handle p) = (at.0, pattern_moved at.0 (sym grows.inputs) at.1, subst (Firm o) (sym (turned at.0 at.1)) (firm_turned laws (f at.0) (choice_code at.0) at.2)) in
      let may = may_mark_bare laws v sound-t p u alone some in
      subst (Made o s t i low high) (sym (cond-true (turns o s low high) (handle p + 1) (handle p) e))
      (record {
        sound = sound-t;
        lawful = place_lawful o t (handle p + 1) (omega arith) (omega arith) (λ _. ap (λ x. may_mark o (t.at x).reach) (place_marked p) ∙ may);
        means = λ q k. value_marked o v p q u ∙ ap o.turn (turned q k) ∙ laws.turn_back (f q) (choice_code q) (choice_settled parts.0 q k);
      }))
      (λ e.
      subst (Made o s t i low high) (sym (cond-false (turns o s low high) (handle p + 1) (handle p) e))
      (record { sound = sound-t; lawful = handle_lawful o t p u; means = λ q k. values q ∙ kept_same e q }))
      (cases_Bool (turns o s low high))

  -- a place that holds the kept record's input and sides already
  pub made_found : (p : ℕ) → p < s.used → (s.at p).input ≡ i → (s.at p).low ≡ kept_low o s low high → (s.at p).high ≡ kept_high o s low high → Made o s s i low high (made_handle o s low high p)
  made_found p u ei el eh =
      let k = kept_sides laws sides in
      made_at w sound (grows_refl s) p u (λ q. value_at o w w (grows_refl s) i _ _ p q u k.low_within k.high_within ei el eh)

  -- the kept record at a new place
  pub made_added : {t : Store} (v : Well t) → Added s t (kept o s i low high) → Made o s t i low high (made_handle o s low high s.used)
  made_added {t} v d =
      let k = kept_sides laws sides in
      let p = handle s.used in
      let m = union o s low high in
      let values : (q : ℕ) → value o t p q ≡ choice o s i (kept_low o s low high) (kept_high o s low high) q = value_new w v sound d k kept_low_lawful kept_high_lawful kept_mask in
      let plain : (q : ℕ) → SettledAlone o t p → FirstFirm o t p q → o.plain (value o t p q) ≡ true = λ q alone f.
      let f' : Leads o s.inputs (value o t p) q = subst (λ n. Leads o n (value o t p) q) d.inputs (first_leads f) in
      ⊎_elim
      (λ e.
      let parts = turns_parts o s low high e in
      let turned : (q : ℕ) → q < 2 ^ s.inputs → value o t p q ≡ o.turn (choice o s i low high q) = λ q l. values q ∙ kept_turned e q l in
      let g = leads_unturned laws {f = choice o s i low high} choice_code (choice_settled parts.0) turned f' in
      ap o.plain (turned q g.within)
      ∙ laws.one_plain (choice o s i low high q) (choice_code q) g.firm
      ∙ ap not (lead_plain laws w sound i low high sides low_lawful high_lawful q (low_settled parts.0) (high_settled parts.0) g ∙ parts.2))
      (λ e.
      let same : (q : ℕ) → value o t p q ≡ choice o s i low high q = λ q. values q ∙ kept_same e q in
      let few : (q : ℕ) → value o t p q < o.count = λ q. subst (λ x. x < o.count) (sym (same q)) (choice_code q) in
      let reach = subst (λ b. Reaches b) e (reach_new w v sound d k kept_low_lawful kept_high_lawful kept_mask) in
      let settled : settled_mask o m ≡ true = settled_is_mask laws t p m few reach alone in
      let firm : firm_mask o m ≡ true = firm_is_mask laws t p m few reach (q, f.within, f.firm) in
      let g : Leads o s.inputs (choice o s i low high) q = leads_agree (λ r l. sym (same r)) f' in
      ap o.plain (same q)
      ∙ lead_plain laws w sound i low high sides low_lawful high_lawful q (low_settled settled) (high_settled settled) g
      ∙ ⊎_elim
      (λ not-both. absurd (both_ways (may_mark o m) not-both (and_from (settled_mask o m) (firm_mask o m) settled firm)))
      (λ led. not-false (leads_plain o (lead o s low high)) led)
      (and_cases (may_mark o m) (not (leads_plain o (lead o s low high))) e))
      (cases_Bool (turns o s low high)) in
      made_at v (sound_added w v sound d k kept_low_lawful kept_high_lawful kept_mask plain) (added_grows d) s.used (omega (arith, d.used)) values
    where
      Reaches : Bool → Type 0
      Reaches b = Reach o t (handle s.used) (cond b (turn_mask o (union o s low high)) (union o s low high))
