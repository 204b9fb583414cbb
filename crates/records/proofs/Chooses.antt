-- Making a record: what its place and its handle have, and why a full table is told rightly. Assumes nothing.
use Rattle.std.proofs.Common.{◌≡◌, ℕ, ◌+◌, ◌<◌, ◌≤◌, false, cond, eqb, ◌⊎◌, sym, refl, ap, ◌∙◌, subst, inl, inr, ⊎_elim, arith}
use Rattle.std.proofs.lemmas.Bool.{cases_Bool, cond-true, cond-false, eq-eqb, ne_eqb}
use Rattle.algebra.specs.Ops.{Ops}
use Rattle.algebra.specs.Laws.{Laws}
use Rattle.netlist.specs.Signals.{Agree}
use Rattle.netlist.specs.Parts.{is_constant}
use Rattle.records.specs.declared.record.Record.{Record}
use Rattle.records.specs.Stores.{Store, handle, place, marked, value}
use Rattle.records.specs.Rules.{Well, Sound, Lawful}
use Rattle.records.specs.Changes.{Added}
use Rattle.records.specs.Steps.{Fits, Lacks, Found, Fresh}
use Rattle.records.specs.Marks.{choice, kept, made_handle}
use Rattle.records.specs.Makings.{Beyond, From, Chosen, Crowded}
use Rattle.records.specs.Counts.{OnePart}
use Rattle.records.proofs.Alike.{one_sym, one_trans, one_turned, one_varies, is_constant_decides}
use Rattle.records.proofs.Values.{unmarked_handle, lawful_place, lawful_within, handle_lawful, value_grows, value_under, under_marked, codes}
use Rattle.records.proofs.Canon.{marked_settled}
use Rattle.records.proofs.Distinct.{places_agree, places_opposite, place_varies}
use Rattle.records.proofs.Adds.{added_grows}
use Rattle.records.proofs.Makes.{well_made, made_within, made_level, made_place, made_found, made_added}

module _ {o : Ops} (laws : Laws o) {s : Store} (w : Well s) (sound : Sound o s) where
  -- no two places are one part
  pub one_place : (p q : ℕ) → p < s.used → q < s.used → OnePart o s.inputs (value o s (handle p)) (value o s (handle q)) → p ≡ q
  one_place p q u v (inl e) = places_agree laws w sound p q u v e
  one_place p q u v (inr r) = places_opposite laws w sound p q u v r.right_settled r.right_turned

  pub place_vary : (p : ℕ) → p < s.used → is_constant s.inputs (value o s (handle p)) ≡ false
  place_vary p u =
      ⊎_elim
      (λ e. absurd (place_varies laws w sound p (value o s (handle p) 0) u ((is_constant_decides s.inputs (value o s (handle p))).0 e)))
      (λ e. e)
      (cases_Bool (is_constant s.inputs (value o s (handle p))))

  -- a handle and its place are one part
  pub one_handle : (h : ℕ) → Lawful o s h → 16 ≤ h → OnePart o s.inputs (value o s (handle (place h))) (value o s h)
  one_handle h l g =
      let n = s.inputs in
      let p = place h in
      let f = value o s (handle p) in
      let u = lawful_place o s h l g in
      ⊎_elim
      (λ e.
      one_turned o n f (value o s h) laws (λ q _. codes laws w sound (handle p) q (handle_lawful o s p u)) (marked_settled laws w sound h l g e)
      (λ q k. sym (value_under o w h q g (lawful_within o s h l) ∙ under_marked o h (f q) e)))
      (λ e. inl (λ q _. ap (λ x. value o s x q) (sym (unmarked_handle h g e))))
      (cases_Bool (marked h))

pub from_found : (o : Ops) (s t : Store) (i low high p : ℕ) (r : Record) → r ≡ kept o s i low high → Found s t r p ⊎ Fresh s t r p → From t i (made_handle o s low high p)
from_found o s t i low high p r e (inl f) =
    subst (λ u. From u i (made_handle o s low high p)) (sym f.same)
    (record {
      within = made_within o s s low high p f.within;
      deep = let d = made_level o s s i low high p (f.input_is ∙ ap (λ z. z.input) e) in omega arith;
    })
from_found o s t i low high p r e (inr f) =
    let here : t.at p ≡ r = ap t.at f.next ∙ f.added.new in
    record {
      within = made_within o s t low high p (omega (arith, f.next, f.added.used));
      deep = let d = made_level o s t i low high p (ap (λ z. z.input) (here ∙ e)) in omega arith;
    }

module _ {o : Ops} (laws : Laws o) {s : Store} (w : Well s) {i low high : ℕ} (fits : Fits s i low high) where
  pub chosen : {t : Store} (v : Well t) (p : ℕ) (r : Record) → r ≡ kept o s i low high → Found s t r p ⊎ Fresh s t r p → Sound o s → Lawful o s low → Lawful o s high → Chosen o s t i low high (made_handle o s low high p)
  chosen {t} v p r e (inl f) sound l m =
      subst (λ u. Chosen o s u i low high (made_handle o s low high p)) (sym f.same)
      (record {
        made = made_found laws w sound fits l m p f.within (f.input_is ∙ ap (λ z. z.input) e) (f.low_is ∙ ap (λ z. z.low) e) (f.high_is ∙ ap (λ z. z.high) e);
        taken = λ q a b. absurd (omega arith);
      })
  chosen {t} v p r e (inr f) sound l m =
      let d : Added s t (kept o s i low high) = subst (Added s t) e f.added in
      subst (λ q. Chosen o s t i low high (made_handle o s low high q)) (sym f.next) (chosen_new v d sound l m)
    where
      chosen_new : {t : Store} (v : Well t) → Added s t (kept o s i low high) → Sound o s → Lawful o s low → Lawful o s high → Chosen o s t i low high (made_handle o s low high s.used)
      chosen_new {t} v d sound l m =
          let h = made_handle o s low high s.used in
          let made = made_added laws w sound fits l m v d in
          let at = made_place o s low high s.used in
          record {
            made = made;
            taken = λ q a b.
                let here : place h ≡ q = at.2 ∙ omega (arith, d.used) in
                subst (λ n. OnePart o n (value o t (handle q)) (value o t h)) d.inputs
                (subst (λ x. OnePart o t.inputs (value o t (handle x)) (value o t h)) here (one_handle laws v made.sound h made.lawful at.0));
          }

  -- the table with the record at one more place, though it has no room for it
  longer : Store
  longer = record { inputs = s.inputs; used = s.used + 1; at = λ p. cond (eqb p s.used) (kept o s i low high) (s.at p) }

  longer_added : Added s longer (kept o s i low high)
  unfolding longer
  longer_added = record {
    inputs = refl;
    used = refl;
    same = λ p l. cond-false (eqb p s.used) (kept o s i low high) (s.at p) (ne_eqb p s.used (λ e. omega arith));
    new = cond-true (eqb s.used s.used) (kept o s i low high) (s.at s.used) (eq-eqb s.used s.used refl);
  }

  pub crowded : (room : ℕ) (r : Record) → r ≡ kept o s i low high → s.used ≡ room → Lacks s r.input r.low r.high → Sound o s → Lawful o s low → Lawful o s high → Crowded o room s (choice o s i low high)
  crowded room r e full lacks sound l m =
      let n = s.inputs in
      let t = longer in
      let d = longer_added in
      let lacks' = subst (λ z. Lacks s z.input z.low z.high) e lacks in
      let v : Well t = well_made laws w fits lacks' d in
      let made = made_added laws w sound fits l m v d in
      let h = made_handle o s low high s.used in
      let at = made_place o s low high s.used in
      let f = choice o s i low high in
      let last : s.used < t.used = omega (arith, d.used) in
      let one : OnePart o n (value o t (handle s.used)) f =
      one_trans o n (value o t (handle s.used)) (value o t h) f
      (subst (λ k. OnePart o k (value o t (handle s.used)) (value o t h)) d.inputs
      (subst (λ x. OnePart o t.inputs (value o t (handle x)) (value o t h)) at.2 (one_handle laws v made.sound h made.lawful at.0)))
      (inl made.means) in
      record {
        full = full;
        varies = one_varies o n (value o t (handle s.used)) f one (subst (λ k. is_constant k (value o t (handle s.used)) ≡ false) d.inputs (place_vary laws v made.sound s.used last));
        lacked = λ p u x.
            let old : Agree n (value o t (handle p)) (value o s (handle p)) = λ q _. value_grows o w (added_grows d) (handle p) q (omega arith) in
            let both : OnePart o n (value o t (handle p)) (value o t (handle s.used)) =
            one_trans o n (value o t (handle p)) (value o s (handle p)) (value o t (handle s.used)) (inl old)
            (one_trans o n (value o s (handle p)) f (value o t (handle s.used)) x (one_sym o n (value o t (handle s.used)) f one)) in
            let same = one_place laws v made.sound p s.used (omega arith) last (subst (λ k. OnePart o k (value o t (handle p)) (value o t (handle s.used))) (sym d.inputs) both) in
            omega arith;
      }

pub beside : {s : Store} {i low high : ℕ} → i < s.inputs → Beyond s i low → Beyond s i high → (low ≡ high → ⊥) → Fits s i low high
beside inside a b differ =
    record { inside = inside; low_within = a.within; high_within = b.within; low_deeper = a.deeper; high_deeper = b.deeper; differ = differ }
