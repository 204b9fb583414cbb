-- The shape of a table: it has one proof at most, and stands as the table is emptied, grows by a record and goes back.
-- Assumes nothing.
use Rattle.std.proofs.Common.{◌≡◌, ℕ, ◌-◌, ◌<◌, ◌≤◌, ltb, List, [], ◌∷◌, ◌++◌, length, take, Some, None, Option, sym, refl, ap, ◌∙◌, subst, inl, inr, ⊎_elim, arith}
use mathlib.Core.Logic.{∥∥₁_elim}
use native.Mathlib.Bridge.{le_prop}
use std.HLevel.{Π_prop, ⊥_prop}
use base.Stored.{Coded-set, coded_ℕ}
use Rattle.std.proofs.lemmas.Nat.{div_below}
use Rattle.std.proofs.lemmas.List.{get_or-take, get_or_append_left, get_or_push, length-take-le, length_push, ext_get_or}
use Rattle.std.proofs.lemmas.Bool.{cases_lt, lt-ltb, le-ltb, cond-true, cond-false}
use Rattle.records.specs.declared.record.Record.{Record}
use Rattle.records.specs.Keys as keys
use Rattle.records.specs.Keys.{blank, record_at}
use Rattle.records.specs.Stores.{Store, store, handle, place, level}
use Rattle.records.specs.Rules.{Placed, Well}
use Rattle.records.specs.Changes.{Grows, Added}
use Rattle.records.specs.Steps.{Fits, Lacks, Adds, Back}

placed_prop : (s : Store) (p : ℕ) (r : Record) → IsProp (Placed s p r)
placed_prop s p r a b =
    λ i. record {
      within = le_prop a.within b.within i;
      low_before = le_prop a.low_before b.low_before i;
      high_before = le_prop a.high_before b.high_before i;
      low_deeper = le_prop a.low_deeper b.low_deeper i;
      high_deeper = le_prop a.high_deeper b.high_deeper i;
      sides_differ = Π_prop (λ _. ⊥_prop) a.sides_differ b.sides_differ i;
    }

well_prop : (s : Store) → IsProp (Well s)
well_prop s a b =
    λ i. record {
      few = le_prop a.few b.few i;
      placed = Π_prop (λ p. Π_prop (λ _. placed_prop s p (s.at p))) a.placed b.placed i;
      apart = λ p q hp hq e f g. Coded-set coded_ℕ p q (a.apart p q hp hq e f g) (b.apart p q hp hq e f g) i;
    }

-- so it comes out of its truncation
pub well : {s : Store} → ∥ Well s ∥₁ → Well s
well {s} t = ∥∥₁_elim t (well_prop s) (λ w. w)

pub place_below : (h m : ℕ) → 16 ≤ h → h < handle m → place h < m
place_below h m g l = div_below (h - 16) 2 m (omega arith) (omega arith)

pub level_constant : (s : Store) (h : ℕ) → h < 16 → level s h ≡ s.inputs
level_constant s h l = cond-true (ltb h 16) _ _ (lt-ltb h 16 l)

pub level_place : (s : Store) (h : ℕ) → 16 ≤ h → level s h ≡ (s.at (place h)).input
level_place s h l = cond-false (ltb h 16) _ _ (le-ltb h 16 l)

-- two stores with the same inputs and the same first m places
module _ (s t : Store) (m : ℕ) (inputs : t.inputs ≡ s.inputs) (same : (p : ℕ) → p < m → t.at p ≡ s.at p) where
  pub level_agrees : (h : ℕ) → h < handle m → level t h ≡ level s h
  level_agrees h l =
      ⊎_elim
      (λ c. level_constant t h c ∙ inputs ∙ sym (level_constant s h c))
      (λ c. level_place t h c ∙ ap (λ r. r.input) (same (place h) (place_below h m c l)) ∙ sym (level_place s h c))
      (cases_lt h 16)

  pub placed_agrees : (p : ℕ) (r : Record) → p ≤ m → Placed s p r → Placed t p r
  placed_agrees p r l q =
      record {
        within = omega (arith, q.within);
        low_before = q.low_before;
        high_before = q.high_before;
        low_deeper = omega (arith, level_agrees r.low (omega (arith, q.low_before)), q.low_deeper);
        high_deeper = omega (arith, level_agrees r.high (omega (arith, q.high_before)), q.high_deeper);
        sides_differ = q.sides_differ;
      }

pub well_back : {s t : Store} (n : ℕ) → Well s → n ≤ s.used → Back s n t → Well t
well_back {s} {t} n w l b =
    record {
      few = omega (arith, w.few, b.inputs);
      placed = λ p k.
          let u : p < n = omega (arith, b.used) in
          subst (Placed t p) (sym (b.same p u)) (placed_agrees s t n b.inputs b.same p (s.at p) (omega arith) (w.placed p (omega arith)));
      apart = λ p q k m e f g.
          let u : p < n = omega (arith, b.used) in
          let v : q < n = omega (arith, b.used) in
          let x = sym (b.same p u) in
          let y = b.same q v in
          w.apart p q (omega arith) (omega arith) (ap (λ r. r.input) x ∙ e ∙ ap (λ r. r.input) y) (ap (λ r. r.low) x ∙ f ∙ ap (λ r. r.low) y) (ap (λ r. r.high) x ∙ g ∙ ap (λ r. r.high) y);
    }

-- a record that fits, with a key that no place has, goes behind the last place in use
pub well_added : {s t : Store} {r : Record} → Well s → Fits s r.input r.low r.high → Lacks s r.input r.low r.high → Added s t r → Well t
well_added {s} {t} {r} w fits lacks d =
    record {
      few = omega (arith, d.inputs, w.few);
      placed = λ p l. ⊎_elim
          (λ k. subst (Placed t p) (sym (d.same p k)) (placed_agrees s t s.used d.inputs d.same p (s.at p) (omega arith) (w.placed p k)))
          (λ k. new_placed p (omega (arith, d.used)))
          (cases_lt p s.used);
      apart = λ p q k l e f g. ⊎_elim
          (λ m. ⊎_elim (λ n. both p q m n e f g) (λ n. absurd (clash p q m (omega (arith, d.used)) e f g)) (cases_lt q s.used))
          (λ m. ⊎_elim (λ n. absurd (clash q p n (omega (arith, d.used)) (sym e) (sym f) (sym g))) (λ n. omega (arith, d.used)) (cases_lt q s.used))
          (cases_lt p s.used);
    }
  where
    at_new : (p : ℕ) → p ≡ s.used → t.at p ≡ r
    at_new p e = ap t.at e ∙ d.new

    new_placed : (p : ℕ) → p ≡ s.used → Placed t p (t.at p)
    new_placed p e =
        let here : Placed s p r =
        record {
          within = fits.inside;
          low_before = omega (arith, fits.low_within);
          high_before = omega (arith, fits.high_within);
          low_deeper = fits.low_deeper;
          high_deeper = fits.high_deeper;
          sides_differ = fits.differ;
        } in
        subst (Placed t p) (sym (at_new p e)) (placed_agrees s t s.used d.inputs d.same p r (omega arith) here)

    both : (p q : ℕ) → p < s.used → q < s.used → (t.at p).input ≡ (t.at q).input → (t.at p).low ≡ (t.at q).low → (t.at p).high ≡ (t.at q).high → p ≡ q
    both p q m n e f g =
        let x = sym (d.same p m) in
        let y = d.same q n in
        w.apart p q m n (ap (λ z. z.input) x ∙ e ∙ ap (λ z. z.input) y) (ap (λ z. z.low) x ∙ f ∙ ap (λ z. z.low) y) (ap (λ z. z.high) x ∙ g ∙ ap (λ z. z.high) y)

    clash : (p q : ℕ) → p < s.used → q ≡ s.used → (t.at p).input ≡ (t.at q).input → (t.at p).low ≡ (t.at q).low → (t.at p).high ≡ (t.at q).high → ⊥
    clash p q m n e f g =
        let x = sym (d.same p m) in
        let y = at_new q n in
        lacks p m (ap (λ z. z.input) x ∙ e ∙ ap (λ z. z.input) y) (ap (λ z. z.low) x ∙ f ∙ ap (λ z. z.low) y) (ap (λ z. z.high) x ∙ g ∙ ap (λ z. z.high) y)

-- the same of lists of records
pub back_take : (inputs n : ℕ) (rs ts : List Record) → n ≤ length rs → ts ≡ take n rs → Back (store inputs rs) n (store inputs ts)
back_take inputs n rs ts l e =
    record {
      inputs = refl;
      used = ap length e ∙ length-take-le n rs l;
      same = λ p k. ap (λ xs. record_at xs p) e ∙ get_or-take n rs p blank k;
    }

added_push : (inputs : ℕ) (rs ts : List Record) (r : Record) → ts ≡ rs ++ r ∷ [] → Added (store inputs rs) (store inputs ts) r
added_push inputs rs ts r e =
    record {
      inputs = refl;
      used = ap length e ∙ length_push rs r;
      same = λ p k. ap (λ xs. record_at xs p) e ∙ get_or_append_left rs (r ∷ []) blank p k;
      new = ap (λ xs. record_at xs (length rs)) e ∙ get_or_push rs r blank (length rs) refl;
    }

pub adds : (inputs n : ℕ) (rs ts : List Record) (r : Record) (o : Option ℕ) → keys.Added rs n r o ts → Adds (store inputs rs) n r o (store inputs ts)
adds inputs n rs ts r None (same, full, absent) =
    record { same = ap (store inputs) same; full = full; lacked = λ p l e f g. absent p l (e, f, g) }
adds inputs n rs ts r (Some p) (inl (same, (within, keyed))) =
    inl record { same = ap (store inputs) same; within = within; input_is = keyed.0; low_is = keyed.1; high_is = keyed.2 }
adds inputs n rs ts r (Some p) (inr (more, next, absent)) =
    inr record { next = next; added = added_push inputs rs ts r more; lacked = λ q l e f g. absent q l (e, f, g) }

pub grows_refl : (s : Store) → Grows s s
grows_refl s = record { inputs = refl; more = omega arith; same = λ p l. refl }

pub grows_added : {s t : Store} {r : Record} → Added s t r → Grows s t
grows_added d = record { inputs = d.inputs; more = omega (arith, d.used); same = d.same }

pub grows_adds : (s t : Store) (n : ℕ) (r : Record) (o : Option ℕ) → Adds s n r o t → Grows s t
grows_adds s t n r None d = subst (Grows s) (sym d.same) (grows_refl s)
grows_adds s t n r (Some p) (inl d) = subst (Grows s) (sym d.same) (grows_refl s)
grows_adds s t n r (Some p) (inr d) = grows_added d.added

pub well_adds : (s t : Store) (n : ℕ) (r : Record) (o : Option ℕ) → Well s → Fits s r.input r.low r.high → Adds s n r o t → Well t
well_adds s t n r None w fits d = subst Well (sym d.same) w
well_adds s t n r (Some p) w fits (inl d) = subst Well (sym d.same) w
well_adds s t n r (Some p) w fits (inr d) = well_added w fits d.lacked d.added

-- a table that grew and went back is as it was
pub returned : (a b : ℕ) (rs ts : List Record) (t : Store) → Grows (store a rs) t → Back t (length rs) (store b ts) → store b ts ≡ store a rs
returned a b rs ts t grows back =
    let inputs : b ≡ a = back.inputs ∙ grows.inputs in
    let list : ts ≡ rs =
    ext_get_or blank ts rs back.used (λ p l.
    let k : p < length rs = omega (arith, back.used) in
    back.same p k ∙ grows.same p k) in
    ap (λ n. store n ts) inputs ∙ ap (store a) list
