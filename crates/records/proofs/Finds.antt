-- The first pattern with a wanted value, found by one way down: the 0 side where it has the value, else the 1 side.
-- Assumes nothing.
use Rattle.std.proofs.Common.{◌≡◌, ℕ, ◌+◌, ◌-◌, ◌*◌, ◌%◌, ◌^◌, ◌<◌, ◌≤◌, true, false, eqb, Some, None, Option, sym, refl, ap, ◌∙◌, subst, ⊎_elim, mod-eq_of_lt, arith, pow_mono}
use Rattle.std.proofs.lemmas.Nat.{pow_pos, pow-add}
use Rattle.std.proofs.lemmas.Bool.{cases_lt, cases_order, eq-eqb, eqb-true, both_ways}
use Rattle.algebra.specs.Ops.{Ops}
use Rattle.algebra.specs.Laws.{Laws}
use Rattle.netlist.specs.Signals.{Signal, bit}
use Rattle.netlist.specs.Findings.{first}
use Rattle.netlist.proofs.Searches.{first_found, first_least, first_none}
use Rattle.records.specs.declared.record.Record.{Record}
use Rattle.records.specs.Stores.{Store, handle, place, level, under_mark, value, up}
use Rattle.records.specs.Rules.{Placed, Well, Sound, Lawful, Occurs}
use Rattle.records.specs.Changes.{Within}
use Rattle.records.specs.Marks.{reach_of}
use Rattle.records.proofs.Bits.{fixed, chosen_bit, chosen_below, fixed_after, rest_after, small_down, up_large}
use Rattle.records.proofs.Values.{side_up, side_down, level_place, lawful_place, lawful_within, value_constant, value_handle, value_under, ignores}
use Rattle.records.proofs.Canon.{bare_value}
use Rattle.records.proofs.Reaches.{reach_right}

-- p is the first pattern on which f has the value v
pub record FirstAt (n : ℕ) (f : Signal) (v p : ℕ) : Type 0 where
  pub within : p < 2 ^ n
  pub has : f p ≡ v
  pub none : (q : ℕ) → q < p → f q ≡ v → ⊥

pub first_at : (n : ℕ) (f : Signal) (v p : ℕ) → first n f v ≡ Some p → FirstAt n f v p
first_at n f v p e =
    let found = first_found (λ q. eqb (f q) v) (2 ^ n) 0 p e in
    record {
      within = omega (arith, found.1);
      has = eqb-true (f p) v found.2;
      none = λ q l d. both_ways (eqb (f q) v) (first_least (λ q. eqb (f q) v) (2 ^ n) 0 p e q (omega arith) l) (eq-eqb (f q) v d);
    }

pub at_first : (n : ℕ) (f : Signal) (v p : ℕ) → FirstAt n f v p → first n f v ≡ Some p
at_first n f v p x = go (first n f v) refl
  where
    go : (r : Option ℕ) → first n f v ≡ r → first n f v ≡ Some p
    go None e = absurd (both_ways (eqb (f p) v) (first_none (λ q. eqb (f q) v) (2 ^ n) 0 e p (omega arith) (omega (arith, x.within))) (eq-eqb (f p) v x.has))
    go (Some q) e =
        let y = first_at n f v q e in
        ⊎_elim
        (λ same. e ∙ ap Some same)
        (⊎_elim (λ less. absurd (x.none q less y.has)) (λ less. absurd (y.none p less x.has)))
        (cases_order q p)

-- where no pattern has the value, none is first
pub none_first : (n : ℕ) (f : Signal) (v : ℕ) → ((p : ℕ) → p < 2 ^ n → f p ≡ v → ⊥) → first n f v ≡ None
none_first n f v never = go (first n f v) refl
  where
    go : (r : Option ℕ) → first n f v ≡ r → first n f v ≡ None
    go None e = e
    go (Some q) e = let y = first_at n f v q e in absurd (never q y.within y.has)

-- sizes: a pattern with only bits from j on up
pub small_deeper : (n i j x : ℕ) → i < j → x < 2 ^ (n - j) → x < 2 ^ (n - 1 - i)
small_deeper n i j x l h = let k : n - j ≤ n - 1 - i = omega arith in omega (arith, pow_mono k)

pub small_later : (n i j x : ℕ) → i ≤ j → x < 2 ^ (n - j) → x < 2 ^ (n - i)
small_later n i j x l h = let k : n - j ≤ n - i = omega arith in omega (arith, pow_mono k)

pub small_raised : (n i j x : ℕ) → i < n → i < j → x < 2 ^ (n - j) → 2 ^ (n - 1 - i) + x < 2 ^ (n - i)
small_raised n i j x m l h =
    let e : 2 ^ (n - i) ≡ 2 ^ (n - 1 - i) * 2 ^ 1 = ap (λ k. 2 ^ k) (omega arith) ∙ pow-add 2 (n - 1 - i) 1 in
    omega (arith, small_deeper n i j x l h)

pub constant_first : (o : Ops) (s : Store) (h v : ℕ) → h < 16 → Occurs o s h v → first s.inputs (value o s h) v ≡ Some 0
constant_first o s h v c at =
    at_first s.inputs (value o s h) v 0
    record {
      within = pow_pos s.inputs;
      has = value_constant o s h 0 c ∙ sym (value_constant o s h at.0 c) ∙ at.2;
      none = λ q l. absurd (omega arith);
    }

module _ {o : Ops} (laws : Laws o) {s : Store} (w : Well s) (sound : Sound o s) (h v : ℕ) (l : Lawful o s h) (g : 16 ≤ h) (occurs : Occurs o s h v) where
  -- the value below the mark
  twice : under_mark o h (under_mark o h v) ≡ v
  twice =
      ap (under_mark o h) (ap (under_mark o h) (sym occurs.2) ∙ sym (bare_value laws w sound h occurs.0 l g occurs.1))
      ∙ sym (value_under o w h occurs.0 g (lawful_within o s h l))
      ∙ occurs.2

  below : (q : ℕ) → q < 2 ^ s.inputs → value o s h q ≡ v → value o s (handle (place h)) q ≡ under_mark o h v
  below q k e = bare_value laws w sound h q l g k ∙ ap (under_mark o h) e

  above : (q : ℕ) → value o s (handle (place h)) q ≡ under_mark o h v → value o s h q ≡ v
  above q e = value_under o w h q g (lawful_within o s h l) ∙ ap (under_mark o h) e ∙ twice

  -- by the bit of the place's input
  on_low : (q : ℕ) → bit s.inputs q (s.at (place h)).input ≡ 0 → value o s (handle (place h)) q ≡ value o s (s.at (place h)).low q
  on_low q e = value_handle o w (place h) q (lawful_place o s h l g) ∙ ap (λ k. value o s k q) (side_down (s.at (place h)) _ e)

  on_high : (q : ℕ) → bit s.inputs q (s.at (place h)).input ≡ 1 → value o s (handle (place h)) q ≡ value o s (s.at (place h)).high q
  on_high q e = value_handle o w (place h) q (lawful_place o s h l g) ∙ ap (λ k. value o s k q) (side_up (s.at (place h)) _ e)

  -- the 0 side has the value
  pub low_occurs : up (reach_of o s (s.at (place h)).low) (under_mark o h v) ≡ true → Occurs o s (s.at (place h)).low (under_mark o h v)
  low_occurs e = (reach_right laws w sound (s.at (place h)).low (sound.low (place h) (lawful_place o s h l g))).reached (under_mark o h v) e

  pub low_first : (x : ℕ) → x < 2 ^ (s.inputs - level s (s.at (place h)).low) → first s.inputs (value o s (s.at (place h)).low) (under_mark o h v) ≡ Some x → first s.inputs (value o s h) v ≡ Some x
  low_first x small e =
      let n = s.inputs in
      let i = (s.at (place h)).input in
      let deeper = (w.placed (place h) (lawful_place o s h l g)).low_deeper in
      let y = first_at n (value o s (s.at (place h)).low) (under_mark o h v) x e in
      let less : x < 2 ^ (n - 1 - i) = small_deeper n i (level s (s.at (place h)).low) x deeper small in
      at_first n (value o s h) v x
      record {
        within = y.within;
        has = above x (on_low x (small_down n x i less) ∙ y.has);
        none = λ q k d.
            y.none q k (sym (on_low q (small_down n q i (omega arith))) ∙ below q (omega (arith, y.within)) d);
      }

  -- it has not
  module _ (lacks : up (reach_of o s (s.at (place h)).low) (under_mark o h v) ≡ false) where
    never_low : (q : ℕ) → q < 2 ^ s.inputs → value o s (s.at (place h)).low q ≡ under_mark o h v → ⊥
    never_low q k e =
        both_ways (up (reach_of o s (s.at (place h)).low) (under_mark o h v)) lacks
        (ap (up (reach_of o s (s.at (place h)).low)) (sym e)
        ∙ (reach_right laws w sound (s.at (place h)).low (sound.low (place h) (lawful_place o s h l g))).reaches q k)

    must_high : (q : ℕ) → q < 2 ^ s.inputs → value o s h q ≡ v → bit s.inputs q (s.at (place h)).input ≡ 1
    must_high q k e =
        let b = bit s.inputs q (s.at (place h)).input in
        ⊎_elim
        (λ c. absurd (never_low q k (sym (on_low q (omega arith)) ∙ below q k e)))
        (λ c. omega arith)
        (cases_lt b 1)

    pub high_occurs : Occurs o s (s.at (place h)).high (under_mark o h v)
    high_occurs =
        let q = occurs.0 in
        (q, occurs.1, sym (on_high q (must_high q occurs.1 occurs.2)) ∙ below q occurs.1 occurs.2)

    pub high_first : (x : ℕ) → x < 2 ^ (s.inputs - level s (s.at (place h)).high) → first s.inputs (value o s (s.at (place h)).high) (under_mark o h v) ≡ Some x
        → first s.inputs (value o s h) v ≡ Some (2 ^ (s.inputs - 1 - (s.at (place h)).input) + x)
    high_first x small e =
        let n = s.inputs in
        let r = s.at (place h) in
        let i = r.input in
        let d = w.placed (place h) (lawful_place o s h l g) in
        let inside = d.within in
        let deeper = d.high_deeper in
        let before = d.high_before in
        let u = lawful_within o s h l in
        let y = first_at n (value o s r.high) (under_mark o h v) x e in
        let less : x < 2 ^ (n - 1 - i) = small_deeper n i (level s r.high) x deeper small in
        let same : n - (i + 1) ≡ n - 1 - i = omega arith in
        let z = 2 ^ (n - 1 - i) + x in
        let z-is : fixed n (i + 1) 1 x ≡ z = ap (λ k. 1 * 2 ^ k + x % 2 ^ k) same ∙ omega (arith, mod-eq_of_lt less) in
        let in_use : Within s r.high = omega arith in
        at_first n (value o s h) v z
        record {
          within = subst (λ k. k < 2 ^ n) z-is (chosen_below n i 1 x inside (omega arith));
          has = above z
              (on_high z (ap (λ k. bit n k i) (sym z-is) ∙ chosen_bit n i 1 x inside (omega arith))
              ∙ ignores o w r.high z x in_use
              (λ j k m. ap (λ a. bit n a j) (sym z-is) ∙ fixed_after n (i + 1) 1 x j (omega arith) m)
              ∙ y.has);
          none = λ q k f.
              let in_bounds : q < 2 ^ n = omega (arith, subst (λ k. k < 2 ^ n) z-is (chosen_below n i 1 x inside (omega arith))) in
              let b = must_high q in_bounds f in
              let large = up_large n q i b in
              let q-rest = q % 2 ^ (n - (i + 1)) in
              let rest-is : q-rest ≡ q % 2 ^ (n - 1 - i) = ap (λ a. q % 2 ^ a) same in
              y.none q-rest (omega arith)
              (ignores o w r.high q-rest q in_use (λ j a m. rest_after n (i + 1) q j (omega arith) m)
              ∙ sym (on_high q b) ∙ below q in_bounds f);
        }

-- the promise of one way down
abbrev pub Leads : Ops → Store → ℕ → ℕ → ℕ → Type 0
Leads o s h v x = Sound o s → Lawful o s h → Occurs o s h v → first s.inputs (value o s h) v ≡ Some x

-- the same at equal numbers
leads_same : {o : Ops} {s : Store} (g h u v x : ℕ) → g ≡ h → u ≡ v → Leads o s g u x → Leads o s h v x
leads_same {o} {s} g h u v x e d l = subst (λ k. Leads o s h k x) d (subst (λ k. Leads o s k u x) e l)

-- one step of it: of a place whose record is r, with the value u wanted below its mark, and m the reach of its 0 side
module _ {o : Ops} (laws : Laws o) {s : Store} (w : Well s) (h v u m : ℕ) (r : Record) (large : 16 ≤ h) (within : Within s h) (read : r ≡ s.at (place h))
    (turned : u ≡ under_mark o h v) (reach : m ≡ reach_of o s r.low) where
  at_low : r.low ≡ (s.at (place h)).low
  at_low = ap (λ k. k.low) read

  at_high : r.high ≡ (s.at (place h)).high
  at_high = ap (λ k. k.high) read

  at_level : level s h ≡ r.input
  at_level = level_place s h large ∙ ap (λ k. k.input) (sym read)

  bit_is : up m u ≡ up (reach_of o s (s.at (place h)).low) (under_mark o h v)
  bit_is = ap (λ k. up k u) reach ∙ ap (λ k. up (reach_of o s k) u) at_low ∙ ap (up (reach_of o s (s.at (place h)).low)) turned

  pub low_small : (x : ℕ) → Placed s (place h) r → x < 2 ^ (s.inputs - level s r.low) → x < 2 ^ (s.inputs - level s h)
  low_small x p l = small_later s.inputs (level s h) (level s r.low) x (omega (arith, at_level, p.low_deeper)) l

  pub low_leads : (x : ℕ) → up m u ≡ true → x < 2 ^ (s.inputs - level s r.low) → Leads o s r.low u x → Leads o s h v x
  low_leads x e small ih sound l occurs =
      let small' : x < 2 ^ (s.inputs - level s (s.at (place h)).low) = subst (λ k. x < 2 ^ (s.inputs - level s k)) at_low small in
      low_first laws w sound h v l large occurs x small'
      (leads_same r.low (s.at (place h)).low u (under_mark o h v) x at_low turned ih sound (sound.low (place h) (lawful_place o s h l large))
      (low_occurs laws w sound h v l large occurs (sym bit_is ∙ e)))

  pub high_small : (x y : ℕ) → Placed s (place h) r → x < 2 ^ (s.inputs - level s r.high) → y ≡ 2 ^ (s.inputs - 1 - r.input) → y + x < 2 ^ (s.inputs - level s h)
  high_small x y p l e =
      let a = at_level in
      let d = small_raised s.inputs r.input (level s r.high) x p.within p.high_deeper l in
      rw (at_level, e) d

  pub high_leads : (x y : ℕ) → up m u ≡ false → x < 2 ^ (s.inputs - level s r.high) → y ≡ 2 ^ (s.inputs - 1 - r.input) → Leads o s r.high u x → Leads o s h v (y + x)
  high_leads x y e small weight ih sound l occurs =
      let small' : x < 2 ^ (s.inputs - level s (s.at (place h)).high) = subst (λ k. x < 2 ^ (s.inputs - level s k)) at_high small in
      let lacks = sym bit_is ∙ e in
      high_first laws w sound h v l large occurs lacks x small'
      (leads_same r.high (s.at (place h)).high u (under_mark o h v) x at_high turned ih sound (sound.high (place h) (lawful_place o s h l large))
      (high_occurs laws w sound h v l large occurs lacks))
      ∙ ap (λ k. Some (k + x)) (sym (weight ∙ ap (λ k. 2 ^ (s.inputs - 1 - k.input)) read))

-- no pattern has a value whose bit of the reach is down
pub reach_lacks : {o : Ops} → Laws o → {s : Store} (w : Well s) → Sound o s → (h v : ℕ) → Lawful o s h → up (reach_of o s h) v ≡ false → first s.inputs (value o s h) v ≡ None
reach_lacks {o} laws {s} w sound h v l e =
    none_first s.inputs (value o s h) v
    (λ p k d. both_ways (up (reach_of o s h) v) e (ap (up (reach_of o s h)) (sym d) ∙ (reach_right laws w sound h l).reaches p k))

pub reach_has : {o : Ops} → Laws o → {s : Store} (w : Well s) → Sound o s → (h v : ℕ) → Lawful o s h → up (reach_of o s h) v ≡ true → Occurs o s h v
reach_has laws w sound h v l e = (reach_right laws w sound h l).reached v e
