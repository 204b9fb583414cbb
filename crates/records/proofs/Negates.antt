-- NOT of a handle that reaches settled values alone takes no walk. Assumes nothing.
use Rattle.std.proofs.Common.{◌≡◌, ℕ, ◌+◌, ◌-◌, ◌^◌, ◌<◌, ◌≤◌, true, false, T, sym, ap, ◌∙◌, subst, ⊎_elim, arith}
use Rattle.std.proofs.lemmas.Bool.{cases_lt, cases_Bool, cases_eq, cond-true, cond-false, and_from, both_ways}
use Rattle.algebra.specs.Ops.{Ops}
use Rattle.algebra.specs.Laws.{Laws}
use Rattle.records.specs.Stores.{Store, handle, place, marked, level, value}
use Rattle.records.specs.Rules.{Well, Sound, Lawful, settled_mask, firm_mask, may_mark, SettledAlone}
use Rattle.records.specs.Marks.{flipped, negate}
use Rattle.records.proofs.Values.{at_constant, at_place, unmarked_handle, marked_handle, handle_unmarked, handle_marked, level_constant, level_place, lawful_place, lawful_within, lawful_marked, constant_lawful, place_lawful, handle_lawful, value_constant, value_under, value_marked, under_marked, codes}
use Rattle.records.proofs.Masks.{reach_place, settled_is_mask, firm_is_mask, SomeFirm}
use Rattle.records.proofs.Canon.{marked_settled, one_number}

-- the mark changed, the place kept
pub flipped_unmarked : (h : ℕ) → marked h ≡ false → flipped h ≡ h + 1
flipped_unmarked h e = cond-false (marked h) (h - 1) (h + 1) e

pub flipped_marked : (h : ℕ) → marked h ≡ true → flipped h ≡ h - 1
flipped_marked h e = cond-true (marked h) (h - 1) (h + 1) e

pub flipped_place : (h : ℕ) → 16 ≤ h → place (flipped h) ≡ place h
flipped_place h g =
    ⊎_elim
    (λ e. omega (arith, flipped_marked h e, marked_handle h g e))
    (λ e. omega (arith, flipped_unmarked h e, unmarked_handle h g e))
    (cases_Bool (marked h))

pub flipped_large : (h : ℕ) → 16 ≤ h → 16 ≤ flipped h
flipped_large h g =
    ⊎_elim
    (λ e. omega (arith, flipped_marked h e, marked_handle h g e))
    (λ e. omega (arith, flipped_unmarked h e))
    (cases_Bool (marked h))

pub flipped_twice : (h : ℕ) → 16 ≤ h → flipped (flipped h) ≡ h
flipped_twice h g =
    ⊎_elim
    (λ e.
    let d = marked_handle h g e in
    let c : flipped h ≡ handle (place h) = flipped_marked h e ∙ omega arith in
    ap flipped c ∙ flipped_unmarked (handle (place h)) (handle_unmarked (place h)) ∙ sym d)
    (λ e.
    let d = unmarked_handle h g e in
    let c : flipped h ≡ handle (place h) + 1 = flipped_unmarked h e ∙ omega arith in
    ap flipped c ∙ flipped_marked (handle (place h) + 1) (handle_marked (place h)) ∙ omega arith)
    (cases_Bool (marked h))

-- the three cases
pub negate_constant : (o : Ops) (s : Store) (h : ℕ) → h < 16 → negate o s h ≡ o.turn h
negate_constant o s h c = at_constant h (o.turn h) _ c

pub negate_flips : (o : Ops) (s : Store) (h : ℕ) → 16 ≤ h → may_mark o (s.at (place h)).reach ≡ true → negate o s h ≡ flipped h
negate_flips o s h g e = at_place h (o.turn h) _ g ∙ cond-true (may_mark o (s.at (place h)).reach) (flipped h) h e

pub negate_stays : (o : Ops) (s : Store) (h : ℕ) → 16 ≤ h → may_mark o (s.at (place h)).reach ≡ false → negate o s h ≡ h
negate_stays o s h g e = at_place h (o.turn h) _ g ∙ cond-false (may_mark o (s.at (place h)).reach) (flipped h) h e

-- a constant stays one, and a handle keeps its place: this needs no rule
module _ {o : Ops} (laws : Laws o) (s : Store) (h : ℕ) where
  pub negate_small : h < 16 → negate o s h < 16
  negate_small c = omega (arith, negate_constant o s h c, laws.turn_below h, laws.sixteen_at_most)

  pub negate_large : 16 ≤ h → 16 ≤ negate o s h
  negate_large g =
      ⊎_elim
      (λ e. omega (arith, negate_flips o s h g e, flipped_large h g))
      (λ e. omega (arith, negate_stays o s h g e))
      (cases_Bool (may_mark o (s.at (place h)).reach))

  pub negate_place : 16 ≤ h → place (negate o s h) ≡ place h
  negate_place g =
      ⊎_elim
      (λ e. ap place (negate_flips o s h g e) ∙ flipped_place h g)
      (λ e. ap place (negate_stays o s h g e))
      (cases_Bool (may_mark o (s.at (place h)).reach))

  pub negate_before : (p : ℕ) → h < handle p → negate o s h < handle p
  negate_before p l =
      ⊎_elim
      (λ c. omega (arith, negate_small c))
      (λ g. omega (arith, negate_large g, negate_place g))
      (cases_lt h 16)

  pub negate_level : level s (negate o s h) ≡ level s h
  negate_level =
      ⊎_elim
      (λ c. level_constant s (negate o s h) (negate_small c) ∙ sym (level_constant s h c))
      (λ g. level_place s (negate o s h) (negate_large g) ∙ ap (λ p. (s.at p).input) (negate_place g) ∙ sym (level_place s h g))
      (cases_lt h 16)

module _ {o : Ops} (laws : Laws o) {s : Store} (w : Well s) (sound : Sound o s) where
  -- a handle that is settled alone and has a firm value stands on a place that may be marked
  pub may_mark_bare : (p : ℕ) → p < s.used → SettledAlone o s (handle p) → SomeFirm o s (handle p) → may_mark o (s.at p).reach ≡ true
  may_mark_bare p u alone firm =
      let m = (s.at p).reach in
      let few : (q : ℕ) → value o s (handle p) q < o.count = λ q. codes laws w sound (handle p) q (handle_lawful o s p u) in
      and_from (settled_mask o m) (firm_mask o m)
      (settled_is_mask laws s (handle p) m few (reach_place sound p u) alone)
      (firm_is_mask laws s (handle p) m few (reach_place sound p u) firm)

  pub negate_lawful : (h : ℕ) → Lawful o s h → Lawful o s (negate o s h)
  negate_lawful h l =
      ⊎_elim
      (λ c. constant_lawful o s (negate o s h) (negate_small laws s h c) (omega (arith, negate_constant o s h c, laws.turn_below h)))
      (λ g. ⊎_elim
      (λ e.
      let kept = negate_place laws s h g in
      place_lawful o s (negate o s h) (negate_large laws s h g) (omega (arith, lawful_place o s h l g)) (λ _. ap (λ p. may_mark o (s.at p).reach) kept ∙ e))
      (λ e. subst (Lawful o s) (sym (negate_stays o s h g e)) l)
      (cases_Bool (may_mark o (s.at (place h)).reach)))
      (cases_lt h 16)

  -- its value is the NOT of the handle's
  pub negate_value : (h q : ℕ) → Lawful o s h → SettledAlone o s h → q < 2 ^ s.inputs → value o s (negate o s h) q ≡ o.turn (value o s h q)
  negate_value h q l alone k =
      ⊎_elim
      (λ c.
      ap (λ x. value o s x q) (negate_constant o s h c)
      ∙ value_constant o s (o.turn h) q (omega (arith, laws.turn_below h, laws.sixteen_at_most))
      ∙ ap o.turn (sym (value_constant o s h q c)))
      (λ g.
      let u = lawful_place o s h l g in
      let p = place h in
      let x = value o s (handle p) q in
      ⊎_elim
      (λ e. ⊎_elim
      (λ m.
      let d : h - 1 ≡ handle p = omega (arith, marked_handle h g m) in
      let few : x < o.count = codes laws w sound (handle p) q (handle_lawful o s p u) in
      ap (λ y. value o s y q) (negate_flips o s h g e ∙ flipped_marked h m ∙ d)
      ∙ sym (laws.turn_back x few (marked_settled laws w sound h l g m q k))
      ∙ ap o.turn (sym (value_under o w h q g (lawful_within o s h l) ∙ under_marked o h x m)))
      (λ m.
      let d = unmarked_handle h g m in
      let d1 : h + 1 ≡ handle p + 1 = ap (λ y. y + 1) d in
      ap (λ y. value o s y q) (negate_flips o s h g e ∙ flipped_unmarked h m ∙ d1)
      ∙ value_marked o w p q u
      ∙ ap (λ y. o.turn (value o s y q)) (sym d))
      (cases_Bool (marked h)))
      (λ e. ⊎_elim
      (λ m. absurd (both_ways (may_mark o (s.at p).reach) e (lawful_marked o s h l g m)))
      (λ m.
      let d = unmarked_handle h g m in
      let v = value o s h q in
      ap (λ y. value o s y q) (negate_stays o s h g e)
      ∙ ⊎_elim sym
      (λ ne. absurd
      (both_ways (may_mark o (s.at p).reach) e
      (may_mark_bare p u (subst (SettledAlone o s) d alone) (subst (SomeFirm o s) d (q, k, (alone q k, ne))))))
      (cases_eq (o.turn v) v))
      (cases_Bool (marked h)))
      (cases_Bool (may_mark o (s.at p).reach)))
      (cases_lt h 16)

  pub negate_settled : (h : ℕ) → Lawful o s h → SettledAlone o s h → SettledAlone o s (negate o s h)
  negate_settled h l alone q k =
      subst (λ v. T (o.settled v)) (sym (negate_value h q l alone k)) (laws.turn_settled (value o s h q) (codes laws w sound h q l) (alone q k))

  -- twice NOT is the handle
  pub negate_twice : (h : ℕ) → Lawful o s h → SettledAlone o s h → negate o s (negate o s h) ≡ h
  negate_twice h l alone =
      one_number laws w sound _ h (negate_lawful (negate o s h) (negate_lawful h l)) l
      (λ q k.
      negate_value (negate o s h) q (negate_lawful h l) (negate_settled h l alone) k
      ∙ ap o.turn (negate_value h q l alone k)
      ∙ laws.turn_back (value o s h q) (codes laws w sound h q l) (alone q k))
