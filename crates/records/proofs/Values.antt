-- The laws of level, value and lawful handles, by which alone the other proofs know them. Assumes nothing.
use Rattle.std.proofs.Common.{◌≡◌, ℕ, zero, suc, ◌+◌, ◌-◌, ◌%◌, ◌<◌, ◌≤◌, true, false, cond, not, ◌||◌, eqb, ltb, sym, refl, ap, ◌∙◌, ⊎_elim, arith}
use Rattle.std.proofs.lemmas.Bool.{lt-ltb, le-ltb, ltb-true, eq-eqb, ne_eqb, eqb-true, cond-true, cond-false, cond_both, cases_lt, cases_Bool, and_parts, and_from, or_cases, or_left, or_right, not-true, not_from_false, both_ways}
use Rattle.algebra.specs.Ops.{Ops}
use Rattle.algebra.specs.Laws.{Laws}
use Rattle.netlist.specs.Signals.{bit}
use Rattle.records.specs.declared.record.Record.{Record}
use Rattle.records.specs.Stores.{Store, handle, place, marked, level, side, under_mark, descend, value}
use Rattle.records.specs.Rules.{Well, Sound, Lawful, may_mark}
use Rattle.records.specs.Changes.{Within, Grows}

-- a cond on a test of a handle
pub at_constant : {X : Type 0} (h : ℕ) (x y : X) → h < 16 → cond (ltb h 16) x y ≡ x
at_constant h x y l = cond-true (ltb h 16) x y (lt-ltb h 16 l)

pub at_place : {X : Type 0} (h : ℕ) (x y : X) → 16 ≤ h → cond (ltb h 16) x y ≡ y
at_place h x y l = cond-false (ltb h 16) x y (le-ltb h 16 l)

-- the handles of a place
pub place_handle : (p : ℕ) → place (handle p) ≡ p
place_handle p = omega arith

pub place_marked : (p : ℕ) → place (handle p + 1) ≡ p
place_marked p = omega arith

pub handle_unmarked : (p : ℕ) → marked (handle p) ≡ false
handle_unmarked p = ne_eqb ((handle p - 16) % 2) 1 (λ e. omega arith)

pub handle_marked : (p : ℕ) → marked (handle p + 1) ≡ true
handle_marked p = eq-eqb ((handle p + 1 - 16) % 2) 1 (omega arith)

pub unmarked_handle : (h : ℕ) → 16 ≤ h → marked h ≡ false → h ≡ handle (place h)
unmarked_handle h g e = ⊎_elim (λ l. absurd (both_ways (marked h) e (eq-eqb ((h - 16) % 2) 1 (omega arith)))) (λ l. omega arith) (cases_lt 0 ((h - 16) % 2))

pub marked_handle : (h : ℕ) → 16 ≤ h → marked h ≡ true → h ≡ handle (place h) + 1
marked_handle h g e = let odd = eqb-true ((h - 16) % 2) 1 e in omega arith

-- levels
pub level_constant : (s : Store) (h : ℕ) → h < 16 → level s h ≡ s.inputs
level_constant s h l = at_constant h s.inputs (s.at (place h)).input l

pub level_place : (s : Store) (h : ℕ) → 16 ≤ h → level s h ≡ (s.at (place h)).input
level_place s h l = at_place h s.inputs (s.at (place h)).input l

pub level_inside : {s : Store} (w : Well s) (h : ℕ) → 16 ≤ h → Within s h → level s h < s.inputs
level_inside {s} w h g u = omega (arith, level_place s h g, (w.placed (place h) (omega arith)).within)

pub level_within : {s : Store} (w : Well s) (h : ℕ) → Within s h → level s h ≤ s.inputs
level_within {s} w h u =
    ⊎_elim (λ c. omega (arith, level_constant s h c)) (λ c. omega (arith, level_inside w h c u)) (cases_lt h 16)

pub level_grows : {s t : Store} (grows : Grows s t) (h : ℕ) → Within s h → level t h ≡ level s h
level_grows {s} {t} grows h u =
    ⊎_elim
    (λ c. level_constant t h c ∙ grows.inputs ∙ sym (level_constant s h c))
    (λ c. level_place t h c ∙ ap (λ r. r.input) (grows.same (place h) (omega arith)) ∙ sym (level_place s h c))
    (cases_lt h 16)

pub within_grows : {s t : Store} (grows : Grows s t) (h : ℕ) → Within s h → Within t h
within_grows grows h u = omega (arith, grows.more)

-- sides
pub side_up : (r : Record) (b : ℕ) → b ≡ 1 → side r b ≡ r.high
side_up r b e = cond-true (eqb b 1) r.high r.low (eq-eqb b 1 e)

pub side_down : (r : Record) (b : ℕ) → b ≡ 0 → side r b ≡ r.low
side_down r b e = cond-false (eqb b 1) r.high r.low (ne_eqb b 1 (λ d. omega arith))

pub side_before : {s : Store} (w : Well s) (p b : ℕ) → p < s.used → side (s.at p) b < handle p
side_before {s} w p b l =
    let q = w.placed p l in
    cond_both (eqb b 1) (s.at p).high (s.at p).low (λ x. x < handle p) (λ _. q.high_before) (λ _. q.low_before)

pub side_deeper : {s : Store} (w : Well s) (p b : ℕ) → p < s.used → (s.at p).input < level s (side (s.at p) b)
side_deeper {s} w p b l =
    let q = w.placed p l in
    cond_both (eqb b 1) (s.at p).high (s.at p).low (λ x. (s.at p).input < level s x) (λ _. q.high_deeper) (λ _. q.low_deeper)

pub side_lawful : {o : Ops} {s : Store} → Sound o s → (p b : ℕ) → p < s.used → Lawful o s (side (s.at p) b)
side_lawful {o} {s} sound p b l =
    cond_both (eqb b 1) (s.at p).high (s.at p).low (Lawful o s) (λ _. sound.high p l) (λ _. sound.low p l)

-- lawful handles
module _ (o : Ops) (s : Store) (h : ℕ) where
  lawful_parts : Lawful o s h → 16 ≤ h → (ltb (place h) s.used ≡ true) × ((not (marked h) || may_mark o (s.at (place h)).reach) ≡ true)
  lawful_parts l g = and_parts (ltb (place h) s.used) _ (sym (at_place h (ltb h o.count) _ g) ∙ l)

  pub lawful_constant : Lawful o s h → h < 16 → h < o.count
  lawful_constant l c = ltb-true h o.count (sym (at_constant h (ltb h o.count) _ c) ∙ l)

  pub lawful_place : Lawful o s h → 16 ≤ h → place h < s.used
  lawful_place l g = ltb-true (place h) s.used (lawful_parts l g).0

  pub lawful_within : Lawful o s h → Within s h
  lawful_within l = ⊎_elim (λ c. omega arith) (λ g. let u = lawful_place l g in omega arith) (cases_lt h 16)

  pub lawful_marked : Lawful o s h → 16 ≤ h → marked h ≡ true → may_mark o (s.at (place h)).reach ≡ true
  lawful_marked l g m =
      ⊎_elim (λ e. absurd (both_ways (marked h) (not-true (marked h) e) m)) (λ e. e)
      (or_cases (not (marked h)) (may_mark o (s.at (place h)).reach) (lawful_parts l g).1)

  pub constant_lawful : h < 16 → h < o.count → Lawful o s h
  constant_lawful c l = at_constant h (ltb h o.count) _ c ∙ lt-ltb h o.count l

  pub place_lawful : 16 ≤ h → place h < s.used → (marked h ≡ true → may_mark o (s.at (place h)).reach ≡ true) → Lawful o s h
  place_lawful g u m =
      at_place h (ltb h o.count) _ g
      ∙ and_from (ltb (place h) s.used) _ (lt-ltb (place h) s.used u)
      (⊎_elim
      (λ e. or_right (not (marked h)) (may_mark o (s.at (place h)).reach) (m e))
      (λ e. or_left (not (marked h)) (may_mark o (s.at (place h)).reach) (not_from_false (marked h) e))
      (cases_Bool (marked h)))

pub handle_lawful : (o : Ops) (s : Store) (p : ℕ) → p < s.used → Lawful o s (handle p)
handle_lawful o s p u = place_lawful o s (handle p) (omega arith) (omega arith) (λ e. absurd (both_ways (marked (handle p)) (handle_unmarked p) e))

pub lawful_grows : (o : Ops) {s t : Store} (grows : Grows s t) (h : ℕ) → Lawful o s h → Lawful o t h
lawful_grows o {s} {t} grows h l =
    ⊎_elim
    (λ c. constant_lawful o t h c (lawful_constant o s h l c))
    (λ g.
    let u = lawful_place o s h l g in
    place_lawful o t h g (omega (arith, grows.more))
    (λ m. ap (λ r. may_mark o r.reach) (grows.same (place h) u) ∙ lawful_marked o s h l g m))
    (cases_lt h 16)

-- where the next step goes
next : Store → ℕ → ℕ → ℕ
next s p h = side (s.at (place h)) (bit s.inputs p (s.at (place h)).input)

descend_constant : (o : Ops) (s : Store) (p m h : ℕ) → h < 16 → descend o s p (suc m) h ≡ h
unfolding descend
descend_constant o s p m h l = at_constant h h _ l

descend_place : (o : Ops) (s : Store) (p m h : ℕ) → 16 ≤ h → descend o s p (suc m) h ≡ under_mark o h (descend o s p m (next s p h))
unfolding descend next
descend_place o s p m h l = at_place h h _ l

-- steps past the last input change nothing
enough : (o : Ops) {s : Store} (w : Well s) (p m k h : ℕ) → Within s h → s.inputs < m + level s h → s.inputs < k + level s h → descend o s p m h ≡ descend o s p k h
unfolding next
enough o {s} w p zero k h u a b = absurd (omega (arith, level_within w h u))
enough o {s} w p (suc m) zero h u a b = absurd (omega (arith, level_within w h u))
enough o {s} w p (suc m) (suc k) h u a b =
    ⊎_elim
    (λ c. descend_constant o s p m h c ∙ sym (descend_constant o s p k h c))
    (λ c.
    let q : place h < s.used = omega arith in
    let before = side_before w (place h) (bit s.inputs p (s.at (place h)).input) q in
    let deeper = side_deeper w (place h) (bit s.inputs p (s.at (place h)).input) q in
    let e = level_place s h c in
    descend_place o s p m h c
    ∙ ap (under_mark o h) (enough o w p m k (next s p h) (omega arith) (omega arith) (omega arith))
    ∙ sym (descend_place o s p k h c))
    (cases_lt h 16)

pub value_constant : (o : Ops) (s : Store) (h p : ℕ) → h < 16 → value o s h p ≡ h
unfolding value
value_constant o s h p l = descend_constant o s p s.inputs h l

pub value_place : (o : Ops) {s : Store} (w : Well s) (h p : ℕ) → 16 ≤ h → Within s h
    → value o s h p ≡ under_mark o h (value o s (side (s.at (place h)) (bit s.inputs p (s.at (place h)).input)) p)
unfolding value next
value_place o {s} w h p g u =
    let q : place h < s.used = omega arith in
    let before = side_before w (place h) (bit s.inputs p (s.at (place h)).input) q in
    let deeper = side_deeper w (place h) (bit s.inputs p (s.at (place h)).input) q in
    descend_place o s p s.inputs h g
    ∙ ap (under_mark o h) (enough o w p s.inputs (suc s.inputs) (next s p h) (omega arith) (omega arith) (omega arith))

pub under_unmarked : (o : Ops) (h v : ℕ) → marked h ≡ false → under_mark o h v ≡ v
under_unmarked o h v e = cond-false (marked h) (o.turn v) v e

pub under_marked : (o : Ops) (h v : ℕ) → marked h ≡ true → under_mark o h v ≡ o.turn v
under_marked o h v e = cond-true (marked h) (o.turn v) v e

-- an unmarked handle has the value of the side that its bit chooses
pub value_handle : (o : Ops) {s : Store} (w : Well s) (q p : ℕ) → q < s.used → value o s (handle q) p ≡ value o s (side (s.at q) (bit s.inputs p (s.at q).input)) p
value_handle o {s} w q p l =
    value_place o w (handle q) p (omega arith) (omega arith)
    ∙ under_unmarked o (handle q) _ (handle_unmarked q)
    ∙ ap (λ z. value o s (side (s.at z) (bit s.inputs p (s.at z).input)) p) (place_handle q)

-- a mark turns what its place comes to
pub value_under : (o : Ops) {s : Store} (w : Well s) (h p : ℕ) → 16 ≤ h → Within s h → value o s h p ≡ under_mark o h (value o s (handle (place h)) p)
value_under o {s} w h p g u =
    value_place o w h p g u ∙ ap (under_mark o h) (sym (value_handle o w (place h) p (omega arith)))

pub value_marked : (o : Ops) {s : Store} (w : Well s) (q p : ℕ) → q < s.used → value o s (handle q + 1) p ≡ o.turn (value o s (handle q) p)
value_marked o {s} w q p l =
    value_under o w (handle q + 1) p (omega arith) (omega arith)
    ∙ under_marked o (handle q + 1) _ (handle_marked q)
    ∙ ap (λ z. o.turn (value o s (handle z) p)) (place_marked q)

-- a table that grows keeps the values of the handles in use
descend_grows : (o : Ops) {s t : Store} (w : Well s) (grows : Grows s t) (p m h : ℕ) → Within s h → descend o t p m h ≡ descend o s p m h
unfolding descend next
descend_grows o {s} {t} w grows p zero h u = refl
descend_grows o {s} {t} w grows p (suc m) h u =
    ⊎_elim
    (λ c. descend_constant o t p m h c ∙ sym (descend_constant o s p m h c))
    (λ c.
    let q : place h < s.used = omega arith in
    descend_place o t p m h c
    ∙ ap (under_mark o h) (ap (descend o t p m) (step q) ∙ descend_grows o w grows p m (next s p h) (before q))
    ∙ sym (descend_place o s p m h c))
    (cases_lt h 16)
  where
    step : place h < s.used → next t p h ≡ next s p h
    step q = ap (λ r. side r (bit t.inputs p r.input)) (grows.same (place h) q) ∙ ap (λ n. side (s.at (place h)) (bit n p (s.at (place h)).input)) grows.inputs

    before : place h < s.used → Within s (next s p h)
    before q = let b = side_before w (place h) (bit s.inputs p (s.at (place h)).input) q in omega arith

pub value_grows : (o : Ops) {s t : Store} (w : Well s) (grows : Grows s t) (h p : ℕ) → Within s h → value o t h p ≡ value o s h p
unfolding value
value_grows o {s} {t} w grows h p u =
    ap (λ n. descend o t p (suc n) h) grows.inputs ∙ descend_grows o w grows p (suc s.inputs) h u

-- p and q have the same bits from k on
abbrev pub AgreeFrom : ℕ → ℕ → ℕ → ℕ → Type 0
AgreeFrom n k p q = (i : ℕ) → k ≤ i → i < n → bit n p i ≡ bit n q i

-- a handle ignores the bits before its level
ignores_below : (o : Ops) {s : Store} (w : Well s) (b h p q : ℕ) → h < b → Within s h → AgreeFrom s.inputs (level s h) p q → value o s h p ≡ value o s h q
ignores_below o {s} w zero h p q l u same = absurd (omega arith)
ignores_below o {s} w (suc b) h p q l u same =
    ⊎_elim
    (λ c. value_constant o s h p c ∙ sym (value_constant o s h q c))
    (λ c.
    let r = s.at (place h) in
    let d : place h < s.used = omega arith in
    let e = level_place s h c in
    let v = bit s.inputs q r.input in
    let before = side_before w (place h) v d in
    let deeper = side_deeper w (place h) v d in
    let within = (w.placed (place h) d).within in
    value_place o w h p c u
    ∙ ap (λ v. under_mark o h (value o s (side r v) p)) (same r.input (omega arith) within)
    ∙ ap (under_mark o h) (ignores_below o w b (side r v) p q (omega arith) (omega arith) (λ i k m. same i (omega arith) m))
    ∙ sym (value_place o w h q c u))
    (cases_lt h 16)

pub ignores : (o : Ops) {s : Store} (w : Well s) (h p q : ℕ) → Within s h → AgreeFrom s.inputs (level s h) p q → value o s h p ≡ value o s h q
ignores o w h p q u same = ignores_below o w (suc h) h p q (omega arith) u same

-- every value of a lawful handle is a code
codes_below : {o : Ops} (laws : Laws o) {s : Store} (w : Well s) (sound : Sound o s) (b h p : ℕ) → h < b → Lawful o s h → value o s h p < o.count
codes_below {o} laws {s} w sound zero h p l a = absurd (omega arith)
codes_below {o} laws {s} w sound (suc b) h p l a =
    ⊎_elim
    (λ c. rw (value_constant o s h p c) (lawful_constant o s h a c))
    (λ c.
    let d = lawful_place o s h a c in
    let v = bit s.inputs p (s.at (place h)).input in
    let x = value o s (side (s.at (place h)) v) p in
    let before = side_before w (place h) v d in
    rw (value_place o w h p c (lawful_within o s h a))
    (cond_both (marked h) (o.turn x) x (λ y. y < o.count) (λ _. laws.turn_below x) (λ _. codes_below laws w sound b (side (s.at (place h)) v) p (omega arith) (side_lawful sound (place h) v d))))
    (cases_lt h 16)

pub codes : {o : Ops} (laws : Laws o) {s : Store} (w : Well s) (sound : Sound o s) (h p : ℕ) → Lawful o s h → value o s h p < o.count
codes laws w sound h p a = codes_below laws w sound (suc h) h p (omega arith) a
