-- Which inputs matter to a handle: those that the records below it test. Assumes nothing.
use Rattle.std.proofs.Common.{◌≡◌, ℕ, zero, suc, ◌+◌, ◌-◌, ◌*◌, ◌/◌, ◌%◌, ◌^◌, ◌<◌, ◌≤◌, Bool, true, not, ◌||◌, eqb, ◌⊎◌, List, length, set, sym, refl, ap, ◌∙◌, subst, inl, inr, ⊎_elim, arith, length-set}
use lib.Bits.{bit_or}
use lib.Pow.{ones_split, ones_lt}
use Rattle.std.proofs.lemmas.Nat.{pow-add, pow_pos, pow_below, or_lt, shr-shr, shr_high, one_shl}
use Rattle.std.proofs.lemmas.List.{get_or-set_same, get_or-set_other}
use Rattle.std.proofs.lemmas.Bool.{cases_lt, cases_eq, cases_Bool, eq-eqb, ne_eqb, eqb-true, eqb-false, not-true, not-false, not_from_true, not_from_false, or_parts, or_cases, or_left, or_right, or_from, cond-true, cond-false, cond_both, both_ways}
use Rattle.algebra.specs.Ops.{Ops}
use Rattle.algebra.specs.Laws.{Laws}
use Rattle.netlist.specs.Parts.{all_below}
use Rattle.netlist.specs.Signals.{Signal, bit}
use Rattle.records.specs.declared.record.Record.{Record}
use Rattle.records.specs.declared.row.Row.{Row}
use Rattle.records.specs.Stores.{Store, handle, place, level, side, under_mark, value, up}
use Rattle.records.specs.Rules.{Well, Sound, Lawful}
use Rattle.records.specs.Changes.{Within}
use Rattle.records.specs.Supports.{same_but, matters, mask_below, support_of, Matters, Covers, More, Collected, AllDone, done_at}
use Rattle.records.proofs.Bits.{with_bit, with_bit_below, with_bit_here, with_bit_other, same_bits}
use Rattle.records.proofs.Values.{side_up, side_down, side_before, side_deeper, level_place, value_constant, value_handle, value_under, ignores}
use Rattle.records.proofs.Masks.{all_at, all_from, all_fails, seek}
use Rattle.records.proofs.Canon.{bare_value, one_number}
use Rattle.records.proofs.Reaches.{up_none, up_one, up_only, up_union_left, up_union_right, up_union_cases}
use Rattle.records.proofs.Shapes.{place_below}

-- only inputs matter
pub matters_inside : (n : ℕ) (f : Signal) (i : ℕ) → Matters n f i → i < n
matters_inside n f i m =
    ⊎_elim (λ c. c)
    (λ c. absurd (m.differ (ap f (same_bits n m.one m.other m.one_within m.other_within (λ j l. m.elsewhere j l (λ e. omega arith))))))
    (cases_lt i n)

-- what matters to a signal matters to one from which it is computed
pub matters_through : (n : ℕ) (f g : Signal) (i : ℕ) → ((p q : ℕ) → p < 2 ^ n → q < 2 ^ n → g p ≡ g q → f p ≡ f q) → Matters n f i → Matters n g i
matters_through n f g i through m =
    record {
      one = m.one;
      other = m.other;
      one_within = m.one_within;
      other_within = m.other_within;
      elsewhere = m.elsewhere;
      differ = λ e. m.differ (through m.one m.other m.one_within m.other_within e);
    }

-- nothing matters to a constant
pub matters_constant : (o : Ops) (s : Store) (h i : ℕ) → h < 16 → Matters s.inputs (value o s h) i → ⊥
matters_constant o s h i c m = m.differ (value_constant o s h m.one c ∙ sym (value_constant o s h m.other c))

module _ (o : Ops) {s : Store} (w : Well s) where
  -- no input before the first that the handle tests
  pub matters_from : (h i : ℕ) → Within s h → Matters s.inputs (value o s h) i → level s h ≤ i
  matters_from h i u m =
      ⊎_elim
      (λ c. absurd (m.differ (ignores o w h m.one m.other u (λ j k l. m.elsewhere j l (λ e. omega arith)))))
      (λ c. c)
      (cases_lt i (level s h))

  -- a mark changes nothing
  pub matters_bare : (h i : ℕ) → 16 ≤ h → Within s h → Matters s.inputs (value o s h) i → Matters s.inputs (value o s (handle (place h))) i
  matters_bare h i g u =
      matters_through s.inputs (value o s h) (value o s (handle (place h))) i
      (λ p q _ _ e. value_under o w h p g u ∙ ap (under_mark o h) e ∙ sym (value_under o w h q g u))

  module _ (p : ℕ) (used : p < s.used) where
    on_side : (b q : ℕ) → bit s.inputs q (s.at p).input ≡ b → value o s (handle p) q ≡ value o s (side (s.at p) b) q
    on_side b q e = value_handle o w p q used ∙ ap (λ k. value o s (side (s.at p) k) q) e

    -- to a place its input may matter, and what matters to a side
    pub matters_sides : (i : ℕ) → Matters s.inputs (value o s (handle p)) i → (i ≡ (s.at p).input) ⊎ (Matters s.inputs (value o s (s.at p).low) i ⊎ Matters s.inputs (value o s (s.at p).high) i)
    matters_sides i m =
        let n = s.inputs in
        let r = s.at p in
        let k = r.input in
        let inside = (w.placed p used).within in
        let b = bit n m.other k in
        ⊎_elim inl
        (λ ne.
        let same : bit n m.one k ≡ b = m.elsewhere k inside (λ e. ne (sym e)) in
        let at_side : Matters n (value o s (side r b)) i = record {
          one = m.one;
          other = m.other;
          one_within = m.one_within;
          other_within = m.other_within;
          elsewhere = m.elsewhere;
          differ = λ e. m.differ (on_side b m.one same ∙ e ∙ sym (on_side b m.other refl));
        } in
        inr
        (⊎_elim
        (λ c. inl (subst (λ z. Matters n (value o s z) i) (side_down r b (omega arith)) at_side))
        (λ c. inr (subst (λ z. Matters n (value o s z) i) (side_up r b (omega arith)) at_side))
        (cases_lt b 1)))
        (cases_eq i k)

    -- a side ignores the input of its place
    side_ignores : (b c q : ℕ) → c < 2 → value o s (side (s.at p) b) (with_bit s.inputs q (s.at p).input c) ≡ value o s (side (s.at p) b) q
    side_ignores b c q l =
        let n = s.inputs in
        let k = (s.at p).input in
        let inside = (w.placed p used).within in
        let before = side_before w p b used in
        let deeper = side_deeper w p b used in
        ignores o w (side (s.at p) b) (with_bit n q k c) q (omega arith) (λ j d m. with_bit_other n q k c j inside m l (λ e. omega arith))

    place_on : (b q : ℕ) → b < 2 → value o s (handle p) (with_bit s.inputs q (s.at p).input b) ≡ value o s (side (s.at p) b) q
    place_on b q l =
        on_side b (with_bit s.inputs q (s.at p).input b) (with_bit_here s.inputs q (s.at p).input b (w.placed p used).within l) ∙ side_ignores b b q l

    -- what matters to a side matters to its place
    pub side_matters : (b i : ℕ) → b < 2 → Matters s.inputs (value o s (side (s.at p) b)) i → Matters s.inputs (value o s (handle p)) i
    side_matters b i l m =
        let n = s.inputs in
        let k = (s.at p).input in
        let inside = (w.placed p used).within in
        record {
          one = with_bit n m.one k b;
          other = with_bit n m.other k b;
          one_within = with_bit_below n m.one k b m.one_within inside l;
          other_within = with_bit_below n m.other k b m.other_within inside l;
          elsewhere = λ j d ne.
              ⊎_elim
              (λ e. ap (bit n (with_bit n m.one k b)) e ∙ with_bit_here n m.one k b inside l ∙ sym (ap (bit n (with_bit n m.other k b)) e ∙ with_bit_here n m.other k b inside l))
              (λ apart. with_bit_other n m.one k b j inside d l apart ∙ m.elsewhere j d ne ∙ sym (with_bit_other n m.other k b j inside d l apart))
              (cases_eq j k);
          differ = λ e. m.differ (sym (place_on b m.one l) ∙ e ∙ place_on b m.other l);
        }

    pub low_matters : (i : ℕ) → Matters s.inputs (value o s (s.at p).low) i → Matters s.inputs (value o s (handle p)) i
    low_matters i m = side_matters 0 i (omega arith) m

    pub high_matters : (i : ℕ) → Matters s.inputs (value o s (s.at p).high) i → Matters s.inputs (value o s (handle p)) i
    high_matters i m = side_matters 1 i (omega arith) m

module _ {o : Ops} (laws : Laws o) {s : Store} (w : Well s) (sound : Sound o s) where
  -- the input of a place matters to it: its sides differ, so they differ on some pattern
  pub input_matters : (p : ℕ) → p < s.used → Matters s.inputs (value o s (handle p)) (s.at p).input
  input_matters p used =
      let n = s.inputs in
      let r = s.at p in
      let k = r.input in
      let inside = (w.placed p used).within in
      ⊎_elim
      (λ none. absurd
      ((w.placed p used).sides_differ
      (one_number laws w sound r.low r.high (sound.low p used) (sound.high p used)
      (λ q l. eqb-true (value o s r.low q) (value o s r.high q) (not-false (eqb (value o s r.low q) (value o s r.high q)) (none q l))))))
      (λ found.
      let q = found.0 in
      let differ = eqb-false (value o s r.low q) (value o s r.high q) (not-true (eqb (value o s r.low q) (value o s r.high q)) found.2) in
      record {
        one = with_bit n q k 0;
        other = with_bit n q k 1;
        one_within = with_bit_below n q k 0 found.1 inside (omega arith);
        other_within = with_bit_below n q k 1 found.1 inside (omega arith);
        elsewhere = λ j d ne. with_bit_other n q k 0 j inside d (omega arith) ne ∙ sym (with_bit_other n q k 1 j inside d (omega arith) ne);
        differ = λ e. differ (sym (place_on o w p used 0 q (omega arith)) ∙ e ∙ place_on o w p used 1 q (omega arith));
      })
      (seek (2 ^ n) (λ q. not (eqb (value o s r.low q) (value o s r.high q))))

  -- what matters to the place of a handle matters to the handle
  pub bare_matters : (h i : ℕ) → Lawful o s h → 16 ≤ h → Matters s.inputs (value o s (handle (place h))) i → Matters s.inputs (value o s h) i
  bare_matters h i l g =
      matters_through s.inputs (value o s (handle (place h))) (value o s h) i
      (λ p q k m e. bare_value laws w sound h p l g k ∙ ap (under_mark o h) e ∙ sym (bare_value laws w sound h q l g m))

-- Masks.

-- a mask of ones has every input
pub ones_up : (m a n i : ℕ) → m / 2 ^ a ≡ 2 ^ (n - a) - 1 → a ≤ i → i < n → up m i ≡ true
ones_up m a n i e l d =
    let j = i - a in
    let k = n - i - 1 in
    let at : i ≡ a + j = omega arith in
    let all : n - a ≡ (k + 1) + j = omega arith in
    let half : 2 ^ (k + 1) ≡ 2 ^ k * 2 ^ 1 = pow-add 2 k 1 in
    eq-eqb ((m / 2 ^ i) % 2) 1
    (ap (λ x. (m / 2 ^ x) % 2) at
    ∙ ap (λ x. x % 2) (sym (shr-shr m a j))
    ∙ ap (λ x. (x / 2 ^ j) % 2) (e ∙ ap (λ x. 2 ^ x - 1) all ∙ ones_split (k + 1) j)
    ∙ ap (λ x. x % 2) (shr_high (2 ^ (k + 1) - 1) j (2 ^ j - 1) (ones_lt j))
    ∙ omega (arith, pow_pos k))

pub more_same : (m : ℕ) → More m m
more_same m i e = e

pub covers_more : (s : Store) (l m h : ℕ) → More l m → Covers s l h → Covers s m h
covers_more s l m h more c o i x = more i (c o i x)

-- a mask that has them all already
pub collected_none : (s : Store) (h m : ℕ) → Covers s m h → Collected s h m m
collected_none s h m c = record { more = more_same m; covers = c; only = λ o laws sound l i e. inl e }

pub covers_constant : (s : Store) (h m : ℕ) → h < 16 → Covers s m h
covers_constant s h m c o i x = absurd (matters_constant o s h i c x)

pub covers_marked : {s : Store} (w : Well s) (h m : ℕ) → 16 ≤ h → Within s h → Covers s m (handle (place h)) → Covers s m h
covers_marked w h m g u c o i x = c o i (matters_bare o w h i g u x)

-- one step, at the place of h, whose record is r: its input, then its sides
module _ {s : Store} (w : Well s) (h m own low both : ℕ) (r : Record) (large : 16 ≤ h) (within : Within s h) (read : r ≡ s.at (place h)) where
  used : place h < s.used
  used = place_below h s.used large within

  -- nothing below can add an input
  pub covers_rest : ((i : ℕ) → r.input ≤ i → i < s.inputs → up m i ≡ true) → Covers s m h
  covers_rest all o i x =
      let e = level_place s h large ∙ ap (λ k. k.input) (sym read) in
      all i (omega (arith, matters_from o w h i within x)) (matters_inside s.inputs (value o s h) i x)

  module _ (small : r.input < 64) (adds : own ≡ bit_or m ((1 * 2 ^ r.input) % 2 ^ 64)) where
    own_is : own ≡ bit_or m (2 ^ (s.at (place h)).input)
    own_is = adds ∙ ap (bit_or m) (one_shl r.input 64 small ∙ ap (λ k. 2 ^ k.input) read)

    pub own_more : More m own
    own_more i e = ap (λ k. up k i) own_is ∙ up_union_left m (2 ^ (s.at (place h)).input) i e

    module _ (first : Collected s r.low own low) (second : Collected s r.high low both) where
      at_low : Collected s (s.at (place h)).low own low
      at_low = subst (λ k. Collected s k.low own low) read first

      at_high : Collected s (s.at (place h)).high low both
      at_high = subst (λ k. Collected s k.high low both) read second

      own_up : up own (s.at (place h)).input ≡ true
      own_up = ap (λ k. up k (s.at (place h)).input) own_is ∙ up_union_right m (2 ^ (s.at (place h)).input) (s.at (place h)).input (up_one (s.at (place h)).input)

      pub covers_place : Covers s both (handle (place h))
      covers_place o i x =
          ⊎_elim
          (λ e. second.more i (first.more i (ap (up own) e ∙ own_up)))
          (⊎_elim (λ y. second.more i (at_low.covers o i y)) (λ y. at_high.covers o i y))
          (matters_sides o w (place h) used i x)

      pub collected_step : Collected s h m both
      collected_step =
          record {
            more = λ i e. second.more i (first.more i (own_more i e));
            covers = covers_marked w h both large within covers_place;
            only = λ o laws sound l i e.
                let p = place h in
                ⊎_elim
                (λ e1. ⊎_elim
                (λ e2. ⊎_elim inl
                (λ e3. inr
                (subst (Matters s.inputs (value o s h)) (sym (up_only (s.at p).input i e3))
                (bare_matters laws w sound h (s.at p).input l large (input_matters laws w sound p used))))
                (up_union_cases m (2 ^ (s.at p).input) i (ap (λ k. up k i) (sym own_is) ∙ e2)))
                (λ y. inr (bare_matters laws w sound h i l large (low_matters o w p used i y)))
                (at_low.only o laws sound (sound.low p used) i e1))
                (λ y. inr (bare_matters laws w sound h i l large (high_matters o w p used i y)))
                (at_high.only o laws sound (sound.high p used) i e);
          }

-- The rows.

abbrev pub no_row : Row
no_row = record { input = 0; low = 0; high = 0; low_other = 0; high_other = 0 }

pub done_more : (s : Store) (l m : ℕ) (rows : List Row) → More l m → AllDone s l rows → AllDone s m rows
done_more s l m rows more done k d = covers_more s l m (done_at rows k) more (done k d)

pub done_cleared : (s : Store) (m : ℕ) (rows : List Row) → ((k : ℕ) → k < length rows → done_at rows k ≡ 0) → AllDone s m rows
done_cleared s m rows blank k d = subst (Covers s m) (sym (blank k d)) (covers_constant s 0 m (omega arith))

pub done_set : (s : Store) (m : ℕ) (rows : List Row) (k : ℕ) (row : Row) → k < length rows → AllDone s m rows → Covers s m row.low → AllDone s m (set rows k row)
done_set s m rows k row l done c j d =
    let less : j < length rows = omega (arith, length-set rows k row) in
    ⊎_elim
    (λ e. subst (Covers s m) (sym (ap (λ x. done_at (set rows k row) x) e ∙ ap (λ x. x.low) (get_or-set_same rows k row no_row l))) c)
    (λ ne. subst (Covers s m) (sym (ap (λ x. x.low) (get_or-set_other rows k j row no_row ne))) (done j less))
    (cases_eq j k)

-- The computed mask.

module _ (n : ℕ) (f : Signal) (i : ℕ) where
  apart_tests : ℕ → ℕ → Bool
  apart_tests p q = not (same_but n i p q) || eqb (f p) (f q)

  pub matters_found : matters n f i ≡ true → Matters n f i
  unfolding apart_tests
  matters_found e =
      let some = all_fails (2 ^ n) (λ p. all_below (2 ^ n) (apart_tests p)) (not-true (all_below (2 ^ n) (λ p. all_below (2 ^ n) (apart_tests p))) e) in
      let p = some.0 in
      let pair = all_fails (2 ^ n) (apart_tests p) some.2 in
      let q = pair.0 in
      let parts = or_parts (not (same_but n i p q)) (eqb (f p) (f q)) pair.2 in
      let same = not-false (same_but n i p q) parts.0 in
      record {
        one = p;
        other = q;
        one_within = some.1;
        other_within = pair.1;
        elsewhere = λ j l ne.
            ⊎_elim
            (λ here. absurd (ne (eqb-true j i here)))
            (λ alike. eqb-true (bit n p j) (bit n q j) alike)
            (or_cases (eqb j i) (eqb (bit n p j) (bit n q j)) (all_at n (λ j. eqb j i || eqb (bit n p j) (bit n q j)) same j l));
        differ = eqb-false (f p) (f q) parts.1;
      }

  pub found_matters : Matters n f i → matters n f i ≡ true
  unfolding apart_tests
  found_matters m =
      let p = m.one in
      let q = m.other in
      let all = all_below (2 ^ n) (λ p. all_below (2 ^ n) (apart_tests p)) in
      let same : same_but n i p q ≡ true = all_from n (λ j. eqb j i || eqb (bit n p j) (bit n q j))
      (λ j l. ⊎_elim
      (λ e. or_left (eqb j i) (eqb (bit n p j) (bit n q j)) (eq-eqb j i e))
      (λ ne. or_right (eqb j i) (eqb (bit n p j) (bit n q j)) (eq-eqb (bit n p j) (bit n q j) (m.elsewhere j l ne)))
      (cases_eq j i)) in
      not_from_false all
      (⊎_elim
      (λ e. absurd
      (both_ways (apart_tests p q)
      (or_from (not (same_but n i p q)) (eqb (f p) (f q)) (not_from_true (same_but n i p q) same) (ne_eqb (f p) (f q) m.differ))
      (all_at (2 ^ n) (apart_tests p) (all_at (2 ^ n) (λ p. all_below (2 ^ n) (apart_tests p)) e p m.one_within) q m.other_within)))
      (λ e. e)
      (cases_Bool all))

module _ (t : ℕ → Bool) where
  masked : (m i : ℕ) → i < m → t i ≡ true → up (mask_below t m) i ≡ true
  unfolding mask_below
  masked zero i l e = absurd (omega arith)
  masked (suc m) i l e =
      let rest = mask_below t m in
      ⊎_elim
      (λ c. cond_both (t m) (bit_or rest (2 ^ m)) rest (λ x. up x i ≡ true) (λ _. up_union_left rest (2 ^ m) i (masked m i c e)) (λ _. masked m i c e))
      (λ c.
      let last : i ≡ m = omega arith in
      ap (λ x. up x i) (cond-true (t m) (bit_or rest (2 ^ m)) rest (ap t (sym last) ∙ e))
      ∙ up_union_right rest (2 ^ m) i (ap (up (2 ^ m)) last ∙ up_one m))
      (cases_lt i m)

  unmasked : (m i : ℕ) → up (mask_below t m) i ≡ true → t i ≡ true
  unfolding mask_below
  unmasked zero i e = absurd (both_ways (up 0 i) (up_none i) e)
  unmasked (suc m) i e =
      let rest = mask_below t m in
      ⊎_elim
      (λ c. ⊎_elim (unmasked m i) (λ d. ap t (up_only m i d) ∙ c) (up_union_cases rest (2 ^ m) i (ap (λ x. up x i) (sym (cond-true (t m) (bit_or rest (2 ^ m)) rest c)) ∙ e)))
      (λ c. unmasked m i (ap (λ x. up x i) (sym (cond-false (t m) (bit_or rest (2 ^ m)) rest c)) ∙ e))
      (cases_Bool (t m))

  mask_fits : (m k : ℕ) → m ≤ k → mask_below t m < 2 ^ k
  unfolding mask_below
  mask_fits zero k l = pow_pos k
  mask_fits (suc m) k l =
      let less : m < k = omega arith in
      let rest = mask_fits m k (omega arith) in
      cond_both (t m) (bit_or (mask_below t m) (2 ^ m)) (mask_below t m) (λ x. x < 2 ^ k) (λ _. or_lt k (mask_below t m) (2 ^ m) rest (pow_below m k less)) (λ _. rest)

-- two masks with the same bits are one
same_digit : (x y : ℕ) → x < 2 → y < 2 → (eqb x 1 ≡ true → eqb y 1 ≡ true) → (eqb y 1 ≡ true → eqb x 1 ≡ true) → x ≡ y
same_digit x y l m there back =
    ⊎_elim
    (λ c. ⊎_elim
    (λ d. omega arith)
    (λ d. absurd (let one = eqb-true x 1 (back (eq-eqb y 1 (omega arith))) in omega arith))
    (cases_lt y 1))
    (λ c. let one = eqb-true y 1 (there (eq-eqb x 1 (omega arith))) in omega arith)
    (cases_lt x 1)

same_mask : (k l m : ℕ) → l < 2 ^ k → m < 2 ^ k → More l m → More m l → l ≡ m
same_mask k l m a b there back =
    same_bits k l m a b
    (λ i d. let j = k - 1 - i in same_digit ((l / 2 ^ j) % 2) ((m / 2 ^ j) % 2) (omega arith) (omega arith) (there j) (back j))

-- from the empty mask, under the rules
pub support_is : {o : Ops} → Laws o → {s : Store} → Well s → Sound o s → (h m : ℕ) → Lawful o s h → m < 2 ^ 64 → Collected s h 0 m → m ≡ support_of s.inputs (value o s h)
support_is {o} laws {s} w sound h m l fits c =
    let n = s.inputs in
    let f = value o s h in
    same_mask 64 m (support_of n f) fits (mask_fits (matters n f) n 64 (omega (arith, w.few)))
    (λ i e.
    let y : Matters n f i = ⊎_elim (λ none. absurd (both_ways (up 0 i) (up_none i) none)) (λ y. y) (c.only o laws sound l i e) in
    masked (matters n f) n i (matters_inside n f i y) (found_matters n f i y))
    (λ i e. c.covers o i (matters_found n f i (unmasked (matters n f) n i e)))
