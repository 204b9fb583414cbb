-- One number for one signal: two lawful handles that have the same value on every pattern are the same. Assumes nothing.
use Rattle.std.proofs.Common.{◌≡◌, ℕ, zero, suc, ◌+◌, ◌^◌, ◌<◌, ◌≤◌, true, false, cond, not, T, sym, ap, ◌∙◌, subst, ⊎_elim, arith, pow_pos}
use Rattle.std.proofs.lemmas.Bool.{cases_lt, cases_Bool, cases_order, and_parts, both_ways}
use Rattle.algebra.specs.Ops.{Ops}
use Rattle.algebra.specs.Laws.{Laws, Firm}
use Rattle.netlist.specs.Signals.{Agree}
use Rattle.records.specs.Stores.{Store, handle, place, marked, level, side, under_mark, value}
use Rattle.records.specs.Rules.{Well, Sound, Lawful, settled_mask, firm_mask, SettledAlone, FirstFirm}
use Rattle.records.specs.Canonical.{OneNumber}
use Rattle.records.proofs.Bits.{fixed, fixed_after, chosen_below, chosen_bit}
use Rattle.records.proofs.Values.{unmarked_handle, marked_handle, level_constant, level_place, level_inside, level_within, side_before, side_deeper, lawful_place, lawful_within, lawful_marked, handle_lawful, value_constant, value_handle, value_under, under_unmarked, under_marked, ignores, codes}
use Rattle.records.proofs.Masks.{reach_place, mask_settled, mask_firm, first_firm, firm_turned, firm_unturned, SomeFirm}

-- a side has the values of its place where the place's input has the side's bit
pub side_value : (o : Ops) {s : Store} (w : Well s) (q b p : ℕ) → q < s.used → b < 2
    → value o s (side (s.at q) b) p ≡ value o s (handle q) (fixed s.inputs ((s.at q).input + 1) b p)
side_value o {s} w q b p u l =
    let n = s.inputs in
    let r = s.at q in
    let i = r.input in
    let inside = (w.placed q u).within in
    let x = fixed n (i + 1) b p in
    let before = side_before w q b u in
    let deeper = side_deeper w q b u in
    ignores o w (side r b) p x (omega arith) (λ j k m. sym (fixed_after n (i + 1) b p j (omega arith) m))
    ∙ ap (λ c. value o s (side r c) x) (sym (chosen_bit n i b p inside l))
    ∙ sym (value_handle o w q x u)

module _ {o : Ops} (laws : Laws o) {s : Store} (w : Well s) (sound : Sound o s) where
  handle_codes : (p : ℕ) → p < s.used → (q : ℕ) → value o s (handle p) q < o.count
  handle_codes p u q = codes laws w sound (handle p) q (handle_lawful o s p u)

  -- a marked place takes settled values alone, and some firm one
  pub marked_settled : (h : ℕ) → Lawful o s h → 16 ≤ h → marked h ≡ true → SettledAlone o s (handle (place h))
  marked_settled h l g m =
      let p = place h in
      let u = lawful_place o s h l g in
      let x = (s.at p).reach in
      mask_settled laws s (handle p) x (handle_codes p u) (reach_place sound p u) (and_parts (settled_mask o x) (firm_mask o x) (lawful_marked o s h l g m)).0

  pub marked_firm : (h : ℕ) → Lawful o s h → 16 ≤ h → marked h ≡ true → SomeFirm o s (handle (place h))
  marked_firm h l g m =
      let p = place h in
      let u = lawful_place o s h l g in
      let x = (s.at p).reach in
      mask_firm laws s (handle p) x (handle_codes p u) (reach_place sound p u) (and_parts (settled_mask o x) (firm_mask o x) (lawful_marked o s h l g m)).1

  -- what the place of a handle comes to, from what the handle comes to
  pub bare_value : (h q : ℕ) → Lawful o s h → 16 ≤ h → q < 2 ^ s.inputs → value o s (handle (place h)) q ≡ under_mark o h (value o s h q)
  bare_value h q l g k =
      let u = lawful_place o s h l g in
      let x = value o s (handle (place h)) q in
      let e = value_under o w h q g (lawful_within o s h l) in
      ⊎_elim
      (λ m. sym
      (under_marked o h (value o s h q) m
      ∙ ap o.turn (e ∙ under_marked o h x m)
      ∙ laws.turn_back x (handle_codes (place h) u q) (marked_settled h l g m q k)))
      (λ m. sym (under_unmarked o h (value o s h q) m ∙ e ∙ under_unmarked o h x m))
      (cases_Bool (marked h))

  -- of two places that agree, one cannot be marked alone
  mark_clash : (x y : ℕ) → Lawful o s x → Lawful o s y → 16 ≤ x → 16 ≤ y → marked x ≡ true → marked y ≡ false → Agree s.inputs (value o s x) (value o s y) → ⊥
  mark_clash x y lx ly gx gy mx my same =
      let px = place x in
      let py = place y in
      let ux = lawful_place o s x lx gx in
      let uy = lawful_place o s y ly gy in
      let alone = marked_settled x lx gx mx in
      let other : (q : ℕ) → q < 2 ^ s.inputs → value o s (handle py) q ≡ o.turn (value o s (handle px) q) =
      λ q k. ap (λ z. value o s z q) (sym (unmarked_handle y gy my)) ∙ sym (same q k) ∙ value_under o w x q gx (lawful_within o s x lx) ∙ under_marked o x _ mx in
      let found = first_firm s (handle px) (handle_codes px ux) (marked_firm x lx gx mx) in
      let q = found.0 in
      let f = found.1 in
      let v = value o s (handle px) q in
      let few = handle_codes px ux q in
      let plain = sound.plain px q ux alone f in
      let alone-other : SettledAlone o s (handle py) = λ r k. subst (λ z. T (o.settled z)) (sym (other r k)) (laws.turn_settled (value o s (handle px) r) (handle_codes px ux r) (alone r k)) in
      let first-other : FirstFirm o s (handle py) q = record {
        within = f.within;
        firm = subst (Firm o) (sym (other q f.within)) (firm_turned laws v few f.firm);
        first = λ r k firm.
            let d : r < 2 ^ s.inputs = omega (arith, f.within) in
            f.first r k (firm_unturned laws (value o s (handle px) r) (handle_codes px ux r) (alone r d) (subst (Firm o) (other r d) firm));
      } in
      let plain_other = sound.plain py q uy alone-other first-other in
      both_ways (o.plain (o.turn v)) (laws.one_plain v few f.firm ∙ ap not plain) (sym (ap o.plain (other q f.within)) ∙ plain_other)

  -- all below b is canonical
  Below : ℕ → Type 0
  Below b = (x y : ℕ) → x < b → y < b → Lawful o s x → Lawful o s y → Agree s.inputs (value o s x) (value o s y) → x ≡ y

  -- a place whose value ignores its input would have equal sides
  pub sides_agree : (q : ℕ) → q < s.used
      → ((p : ℕ) → value o s (handle q) (fixed s.inputs ((s.at q).input + 1) 0 p) ≡ value o s (handle q) (fixed s.inputs ((s.at q).input + 1) 1 p))
      → (p : ℕ) → value o s (s.at q).low p ≡ value o s (s.at q).high p
  sides_agree q u same p = side_value o w q 0 p u (omega arith) ∙ same p ∙ sym (side_value o w q 1 p u (omega arith))

  clash : (b : ℕ) → Below b → (x y : ℕ) → x < suc b → Lawful o s x → Lawful o s y → level s x < level s y → Agree s.inputs (value o s x) (value o s y) → ⊥
  unfolding Below
  clash b ih x y l lx ly lower same =
      ⊎_elim
      (λ c. omega (arith, level_constant s x c, level_within w y (lawful_within o s y ly)))
      (λ c.
      let n = s.inputs in
      let q = place x in
      let u = lawful_place o s x lx c in
      let r = w.placed q u in
      let i = (s.at q).input in
      let e = level_place s x c in
      let inside = r.within in
      let flat : (p : ℕ) → value o s (handle q) (fixed n (i + 1) 0 p) ≡ value o s (handle q) (fixed n (i + 1) 1 p) = λ p.
      let p0 = fixed n (i + 1) 0 p in
      let p1 = fixed n (i + 1) 1 p in
      let k0 = chosen_below n i 0 p inside (omega arith) in
      let k1 = chosen_below n i 1 p inside (omega arith) in
      bare_value x p0 lx c k0
      ∙ ap (under_mark o x)
      (same p0 k0
      ∙ ignores o w y p0 p1 (lawful_within o s y ly) (λ j k m. fixed_after n (i + 1) 0 p j (omega arith) m ∙ sym (fixed_after n (i + 1) 1 p j (omega arith) m))
      ∙ sym (same p1 k1))
      ∙ sym (bare_value x p1 lx c k1) in
      r.sides_differ
      (ih _ _ (omega (arith, r.low_before)) (omega (arith, r.high_before)) (sound.low q u) (sound.high q u) (λ p _. sides_agree q u flat p)))
      (cases_lt x 16)

  -- two places with the same input and the same mark
  both : (b : ℕ) → Below b → (x y : ℕ) → x < suc b → y < suc b → Lawful o s x → Lawful o s y → 16 ≤ x → 16 ≤ y → marked x ≡ marked y → (s.at (place x)).input ≡ (s.at (place y)).input
      → Agree s.inputs (value o s x) (value o s y) → place x ≡ place y
  unfolding Below
  both b ih x y l m lx ly gx gy mark input same =
      let n = s.inputs in
      let px = place x in
      let py = place y in
      let ux = lawful_place o s x lx gx in
      let uy = lawful_place o s y ly gy in
      let rx = w.placed px ux in
      let ry = w.placed py uy in
      let bare : (q : ℕ) → q < 2 ^ n → value o s (handle px) q ≡ value o s (handle py) q = λ q k.
      bare_value x q lx gx k ∙ ap (under_mark o x) (same q k) ∙ ap (λ t. cond t (o.turn (value o s y q)) (value o s y q)) mark ∙ sym (bare_value y q ly gy k) in
      let sides : (c : ℕ) → c < 2 → (p : ℕ) → value o s (side (s.at px) c) p ≡ value o s (side (s.at py) c) p = λ c d p.
      side_value o w px c p ux d
      ∙ bare _ (chosen_below n (s.at px).input c p rx.within d)
      ∙ ap (λ i. value o s (handle py) (fixed n (i + 1) c p)) input
      ∙ sym (side_value o w py c p uy d) in
      w.apart px py ux uy input
      (ih _ _ (omega (arith, rx.low_before)) (omega (arith, ry.low_before)) (sound.low px ux) (sound.low py uy) (λ p _. sides 0 (omega arith) p))
      (ih _ _ (omega (arith, rx.high_before)) (omega (arith, ry.high_before)) (sound.high px ux) (sound.high py uy) (λ p _. sides 1 (omega arith) p))

  places : (b : ℕ) → Below b → (x y : ℕ) → x < suc b → y < suc b → Lawful o s x → Lawful o s y → 16 ≤ x → 16 ≤ y → (s.at (place x)).input ≡ (s.at (place y)).input
      → Agree s.inputs (value o s x) (value o s y) → x ≡ y
  places b ih x y l m lx ly gx gy input same =
      ⊎_elim
      (λ mx. ⊎_elim
      (λ my.
      let e = both b ih x y l m lx ly gx gy (mx ∙ sym my) input same in
      marked_handle x gx mx ∙ ap (λ p. handle p + 1) e ∙ sym (marked_handle y gy my))
      (λ my. absurd (mark_clash x y lx ly gx gy mx my same))
      (cases_Bool (marked y)))
      (λ mx. ⊎_elim
      (λ my. absurd (mark_clash y x ly lx gy gx my mx (λ p k. sym (same p k))))
      (λ my.
      let e = both b ih x y l m lx ly gx gy (mx ∙ sym my) input same in
      unmarked_handle x gx mx ∙ ap handle e ∙ sym (unmarked_handle y gy my))
      (cases_Bool (marked y)))
      (cases_Bool (marked x))

  canonical_below : (b : ℕ) → Below b
  unfolding Below
  canonical_below zero x y l m lx ly same = absurd (omega arith)
  canonical_below (suc b) x y l m lx ly same =
      ⊎_elim
      (λ e. ⊎_elim
      (λ c. ⊎_elim
      (λ d. sym (value_constant o s x 0 c) ∙ same 0 (pow_pos s.inputs) ∙ value_constant o s y 0 d)
      (λ d. absurd (omega (arith, level_constant s x c, level_inside w y d (lawful_within o s y ly))))
      (cases_lt y 16))
      (λ c. ⊎_elim
      (λ d. absurd (omega (arith, level_constant s y d, level_inside w x c (lawful_within o s x lx))))
      (λ d. places b (canonical_below b) x y l m lx ly c d (sym (level_place s x c) ∙ e ∙ level_place s y d) same)
      (cases_lt y 16))
      (cases_lt x 16))
      (⊎_elim
      (λ lower. absurd (clash b (canonical_below b) x y l lx ly lower same))
      (λ lower. absurd (clash b (canonical_below b) y x m ly lx lower (λ p k. sym (same p k)))))
      (cases_order (level s x) (level s y))

  pub one_number : (x y : ℕ) → Lawful o s x → Lawful o s y → Agree s.inputs (value o s x) (value o s y) → x ≡ y
  unfolding Below
  one_number x y lx ly same = canonical_below (suc (x + y)) x y (omega arith) (omega arith) lx ly same

pub canonical : OneNumber
canonical o s laws w sound = one_number laws w sound
