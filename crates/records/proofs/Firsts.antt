-- The first firm value of a record is that of its low side, or of its high side if the low side has none.
-- Assumes nothing.
use Rattle.std.proofs.Common.{◌≡◌, ℕ, ◌+◌, ◌-◌, ◌^◌, ◌<◌, ◌≤◌, not, T, eqb, ◌⊎◌, sym, ap, ◌∙◌, subst, inl, inr, ⊎_elim, arith}
use Rattle.std.proofs.lemmas.Bool.{cases_lt, cases_Bool, cond-true, cond-false, eq-eqb, ne_eqb, both_ways}
use Rattle.algebra.specs.Ops.{Ops}
use Rattle.algebra.specs.Laws.{Laws, Firm}
use Rattle.netlist.specs.Signals.{Signal, bit}
use Rattle.records.specs.Stores.{Store, handle, place, marked, level, value}
use Rattle.records.specs.Rules.{Well, Sound, Lawful, firm_mask, SettledAlone, FirstFirm}
use Rattle.records.specs.Changes.{Within}
use Rattle.records.specs.Steps.{Fits}
use Rattle.records.specs.Marks.{reach_of, leads_plain, lead, choice}
use Rattle.records.proofs.Bits.{fixed, fixed_after, chosen_below, chosen_bit, small_down, cleared_small, raised_before}
use Rattle.records.proofs.Values.{at_constant, at_place, unmarked_handle, lawful_place, lawful_within, handle_lawful, value_constant, value_under, under_marked, ignores, codes}
use Rattle.records.proofs.Masks.{SomeFirm, mask_firm, firm_is_mask, firm_turned, firm_unturned}
use Rattle.records.proofs.Canon.{marked_settled}
use Rattle.records.proofs.Reaches.{reach_right}

-- q is the first pattern on which the signal f has a firm value
pub record Leads (o : Ops) (n : ℕ) (f : Signal) (q : ℕ) : Type 0 where
  pub within : q < 2 ^ n
  pub firm : Firm o (f q)
  pub first : (r : ℕ) → r < q → Firm o (f r) → ⊥

pub leads_first : {o : Ops} {s : Store} {h q : ℕ} → Leads o s.inputs (value o s h) q → FirstFirm o s h q
leads_first l = record { within = l.within; firm = l.firm; first = l.first }

pub first_leads : {o : Ops} {s : Store} {h q : ℕ} → FirstFirm o s h q → Leads o s.inputs (value o s h) q
first_leads l = record { within = l.within; firm = l.firm; first = l.first }

-- the same of a signal that agrees, and of its NOT
pub leads_agree : {o : Ops} {n : ℕ} {f g : Signal} {q : ℕ} → ((r : ℕ) → r < 2 ^ n → g r ≡ f r) → Leads o n f q → Leads o n g q
leads_agree {o} {n} {f} {g} {q} same l =
    record {
      within = l.within;
      firm = subst (Firm o) (sym (same q l.within)) l.firm;
      first = λ r k firm. l.first r k (subst (Firm o) (same r (omega (arith, l.within))) firm);
    }

pub leads_unturned : {o : Ops} (laws : Laws o) {n : ℕ} {f g : Signal} {q : ℕ} → ((r : ℕ) → f r < o.count) → ((r : ℕ) → r < 2 ^ n → T (o.settled (f r)))
    → ((r : ℕ) → r < 2 ^ n → g r ≡ o.turn (f r)) → Leads o n g q → Leads o n f q
leads_unturned {o} laws {n} {f} {g} {q} few alone turned l =
    record {
      within = l.within;
      firm = firm_unturned laws (f q) (few q) (alone q l.within) (subst (Firm o) (turned q l.within) l.firm);
      first = λ r k firm. l.first r k (subst (Firm o) (sym (turned r (omega (arith, l.within)))) (firm_turned laws (f r) (few r) firm));
    }

-- the signal of a record that tests input i
pub choice_down : (o : Ops) (s : Store) (i low high q : ℕ) → bit s.inputs q i ≡ 0 → choice o s i low high q ≡ value o s low q
choice_down o s i low high q e = ap (λ h. value o s h q) (cond-false (eqb (bit s.inputs q i) 1) high low (ne_eqb (bit s.inputs q i) 1 (λ d. omega arith)))

pub choice_up : (o : Ops) (s : Store) (i low high q : ℕ) → bit s.inputs q i ≡ 1 → choice o s i low high q ≡ value o s high q
choice_up o s i low high q e = ap (λ h. value o s h q) (cond-true (eqb (bit s.inputs q i) 1) high low (eq-eqb (bit s.inputs q i) 1 e))

pub bit_cases : (n p i : ℕ) → (bit n p i ≡ 0) ⊎ (bit n p i ≡ 1)
bit_cases n p i = ⊎_elim (λ c. inl (omega arith)) (λ c. inr (omega arith)) (cases_lt (bit n p i) 1)

-- a side does not see its record's input, nor those before it
pub side_same : (o : Ops) {s : Store} (w : Well s) (i h b q : ℕ) → Within s h → i < level s h → value o s h (fixed s.inputs (i + 1) b q) ≡ value o s h q
side_same o {s} w i h b q u deeper = ignores o w h (fixed s.inputs (i + 1) b q) q u (λ j k m. fixed_after s.inputs (i + 1) b q j (omega arith) m)

-- each side is met where the bit is its own
pub choice_low : (o : Ops) {s : Store} (w : Well s) (i low high q : ℕ) → i < s.inputs → Within s low → i < level s low
    → choice o s i low high (fixed s.inputs (i + 1) 0 q) ≡ value o s low q
choice_low o {s} w i low high q inside u deeper =
    choice_down o s i low high (fixed s.inputs (i + 1) 0 q) (chosen_bit s.inputs i 0 q inside (omega arith)) ∙ side_same o w i low 0 q u deeper

pub choice_high : (o : Ops) {s : Store} (w : Well s) (i low high q : ℕ) → i < s.inputs → Within s high → i < level s high
    → choice o s i low high (fixed s.inputs (i + 1) 1 q) ≡ value o s high q
choice_high o {s} w i low high q inside u deeper =
    choice_up o s i low high (fixed s.inputs (i + 1) 1 q) (chosen_bit s.inputs i 1 q inside (omega arith)) ∙ side_same o w i high 1 q u deeper

module _ {o : Ops} (laws : Laws o) {s : Store} (w : Well s) (sound : Sound o s) where
  -- of one handle
  pub first_plain : (h q : ℕ) → Lawful o s h → SettledAlone o s h → Leads o s.inputs (value o s h) q → o.plain (value o s h q) ≡ leads_plain o h
  first_plain h q l alone f =
      ⊎_elim
      (λ c. ap o.plain (value_constant o s h q c) ∙ sym (at_constant h (o.plain h) (not (marked h)) c))
      (λ g.
      let p = place h in
      let u = lawful_place o s h l g in
      let v = value o s (handle p) in
      let few : (r : ℕ) → v r < o.count = λ r. codes laws w sound (handle p) r (handle_lawful o s p u) in
      let shape = at_place h (o.plain h) (not (marked h)) g in
      ⊎_elim
      (λ m.
      let settled = marked_settled laws w sound h l g m in
      let turned : (r : ℕ) → r < 2 ^ s.inputs → value o s h r ≡ o.turn (v r) = λ r k. value_under o w h r g (lawful_within o s h l) ∙ under_marked o h (v r) m in
      let bare = leads_unturned laws few settled turned f in
      ap o.plain (turned q f.within)
      ∙ laws.one_plain (v q) (few q) bare.firm
      ∙ ap not (sound.plain p q u settled (leads_first bare) ∙ sym m)
      ∙ sym shape)
      (λ m.
      let d = unmarked_handle h g m in
      ap (λ x. o.plain (value o s x q)) d
      ∙ sound.plain p q u (subst (SettledAlone o s) d alone) (leads_first (subst (λ x. Leads o s.inputs (value o s x) q) d f))
      ∙ ap not (sym m)
      ∙ sym shape)
      (cases_Bool (marked h)))
      (cases_lt h 16)

  module _ (i low high : ℕ) (sides : Fits s i low high) (low_lawful : Lawful o s low) (high_lawful : Lawful o s high) where
    low_leads : (q : ℕ) → SomeFirm o s low → Leads o s.inputs (choice o s i low high) q → Leads o s.inputs (value o s low) q × (choice o s i low high q ≡ value o s low q)
    low_leads q some f =
        let n = s.inputs in
        let inside = sides.inside in
        let r0 = fixed n (i + 1) 0 some.0 in
        let firm-there : Firm o (choice o s i low high r0) =
        subst (Firm o) (sym (choice_low o w i low high some.0 inside sides.low_within sides.low_deeper)) some.2 in
        let small : q < 2 ^ (n - 1 - i) = ⊎_elim (λ l. absurd (f.first r0 l firm-there)) (λ l. omega (arith, cleared_small n i some.0 inside)) (cases_lt r0 q) in
        let here : (r : ℕ) → r ≤ q → choice o s i low high r ≡ value o s low r = λ r l. choice_down o s i low high r (small_down n r i (omega arith)) in (
          record {
            within = f.within;
            firm = subst (Firm o) (here q (omega arith)) f.firm;
            first = λ r l firm. f.first r l (subst (Firm o) (sym (here r (omega arith))) firm);
          },
          here q (omega arith),
        )

    high_leads : (q : ℕ) → (SomeFirm o s low → ⊥) → Leads o s.inputs (choice o s i low high) q
        → Leads o s.inputs (value o s high) (fixed s.inputs (i + 1) 0 q) × (choice o s i low high q ≡ value o s high (fixed s.inputs (i + 1) 0 q))
    high_leads q none f =
        let n = s.inputs in
        let inside = sides.inside in
        let bit_up : bit n q i ≡ 1 = ⊎_elim (λ e. absurd (none (q, f.within, subst (Firm o) (choice_down o s i low high q e) f.firm))) (λ e. e) (bit_cases n q i) in
        let here : choice o s i low high q ≡ value o s high (fixed n (i + 1) 0 q) = choice_up o s i low high q bit_up ∙ sym (side_same o w i high 0 q sides.high_within sides.high_deeper) in (
          record {
            within = chosen_below n i 0 q inside (omega arith);
            firm = subst (Firm o) here f.firm;
            first = λ r l firm.
                f.first (fixed n (i + 1) 1 r) (raised_before n i r q inside bit_up l)
                (subst (Firm o) (sym (choice_high o w i low high r inside sides.high_within sides.high_deeper)) firm);
          },
          here,
        )

    -- of a record, by its sides
    pub lead_plain : (q : ℕ) → SettledAlone o s low → SettledAlone o s high → Leads o s.inputs (choice o s i low high) q
        → o.plain (choice o s i low high q) ≡ leads_plain o (lead o s low high)
    lead_plain q alone-low alone-high f =
        let m = reach_of o s low in
        let few : (r : ℕ) → value o s low r < o.count = λ r. codes laws w sound low r low_lawful in
        let reach = reach_right laws w sound low low_lawful in
        ⊎_elim
        (λ e.
        let r = low_leads q (mask_firm laws s low m few reach e) f in
        ap o.plain r.1
        ∙ first_plain low q low_lawful alone-low r.0
        ∙ ap (leads_plain o) (sym (cond-true (firm_mask o m) low high e)))
        (λ e.
        let r = high_leads q (λ some. both_ways (firm_mask o m) e (firm_is_mask laws s low m few reach some)) f in
        ap o.plain r.1
        ∙ first_plain high (fixed s.inputs (i + 1) 0 q) high_lawful alone-high r.0
        ∙ ap (leads_plain o) (sym (cond-false (firm_mask o m) low high e)))
        (cases_Bool (firm_mask o m))
