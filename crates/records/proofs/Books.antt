-- What a book says: the signal of a given handle, one number for one signal, and how many different parts there are.
-- Assumes nothing.
use Rattle.std.proofs.Common.{◌≡◌, ℕ, ◌<◌, false, eqb, List, [], ◌∷◌, ◌++◌, length, sym, refl, ap, ◌∙◌, inl, inr, ⊎_elim, arith, pow_pos}
use Rattle.std.specs.List.{AllByRecursion}
use Rattle.std.proofs.ByRecursion.{All-get_or, All-weaker, All-map}
use Rattle.std.proofs.lemmas.Bool.{cases_Bool, cond-true, cond-false, eqb-true, both_ways}
use Rattle.algebra.specs.Ops.{Ops}
use Rattle.algebra.specs.Laws.{Laws}
use Rattle.netlist.specs.Signals.{Signal, Agree, constant}
use Rattle.netlist.specs.Parts.{part, is_constant, part_count}
use Rattle.records.specs.Stores.{Store, handle, value}
use Rattle.records.specs.Rules.{Well, Lawful}
use Rattle.memo.specs.Memos.{Pairs}
use Rattle.records.specs.Counts.{OnePart, nth, DifferentParts, AllParts}
use Rattle.records.specs.Runs.{Answer, told, full, refused, given, Entry, Book, book_signals, signal_of, Step, step, booked, all_booked, OneNumber, Stands, Holds}
use Rattle.records.proofs.Values.{value_constant, codes, handle_lawful}
use Rattle.records.proofs.Canon.{one_number}
use Rattle.records.proofs.Alike.{agree_sym, agree_trans, is_constant_decides, one_sym, one_turned}
use Rattle.records.proofs.Pieces.{part_agree}
use Rattle.records.proofs.Subhandles.{subhandle}
use Rattle.records.proofs.Distinct.{places_agree, places_opposite, place_varies, lawful_cases}
use Rattle.records.proofs.Counting.{exactly}

-- ---- booking

pub booked_append : (xs ys : List Step) (b : Book) → all_booked (xs ++ ys) b ≡ all_booked ys (all_booked xs b)
unfolding all_booked
booked_append [] ys b = refl
booked_append (x ∷ xs) ys b = booked_append xs ys (booked x b)

-- what holds of every entry held before
pub before_step : (P : Entry → Type 0) (r : Signal) (a : Answer) (b : Book) → AllByRecursion P (booked (step r a) b) → AllByRecursion P b
before_step P r (told h) b all = all.1
before_step P r full b all = all
before_step P r refused b all = all

pub before_steps : (P : Entry → Type 0) (xs : List Step) (b : Book) → AllByRecursion P (all_booked xs b) → AllByRecursion P b
unfolding all_booked
before_steps P [] b all = all
before_steps P (x ∷ xs) b all = before_step P x.result x.answer b (before_steps P xs (booked x b) all)

-- ---- the signal of a given handle

pub signal_given : (o : Ops) (n : ℕ) (s : Store) (b : Book) (h : ℕ) → AllByRecursion (Stands o n s) b → Agree n (value o s h) (signal_of b (given o s h))
unfolding signal_of
signal_given o n s [] h all p k = refl
signal_given o n s (e ∷ es) h all p k =
    ⊎_elim
    (λ same.
    ap (λ x. value o s x p) (sym (eqb-true e.number h same))
    ∙ all.0.means p k
    ∙ sym (ap (λ f. f p) (cond-true (eqb e.number h) e.signal (signal_of es (given o s h)) same)))
    (λ other.
    signal_given o n s es h all.1 p k
    ∙ sym (ap (λ f. f p) (cond-false (eqb e.number h) e.signal (signal_of es (given o s h)) other)))
    (cases_Bool (eqb e.number h))

-- ---- what a book that holds says of the table

module _ {o : Ops} (laws : Laws o) {s : Store} (w : Well s) {b : Book} {P : Pairs} (holds : Holds o s.inputs b s P) where
  -- two booked handles are equal exactly when their signals are
  pub booked_once : OneNumber s.inputs b
  booked_once =
      All-weaker (Stands o n s) _
      (λ e p. All-weaker (Stands o n s) _
      (λ f q. (
        λ same. agree_trans n e.signal (value o s e.number) f.signal (agree_sym n (value o s e.number) e.signal p.means)
            (agree_trans n (value o s e.number) (value o s f.number) f.signal (λ r _. ap (λ h. value o s h r) same) q.means),
        λ same. one_number laws w holds.sound e.number f.number p.lawful q.lawful
            (agree_trans n (value o s e.number) e.signal (value o s f.number) p.means
            (agree_trans n e.signal f.signal (value o s f.number) same (agree_sym n (value o s f.number) f.signal q.means))),
      ))
      b holds.handles)
      b holds.handles
    where
      n : ℕ
      n = s.inputs

  -- the handle of a booked signal
  Handled : Signal → Type 0
  Handled r = (h : ℕ) × Lawful o s h × Agree s.inputs (value o s h) r

  handled : (k : ℕ) → k < length (book_signals b) → Handled (nth (book_signals b) k)
  unfolding Handled
  handled k l =
      All-get_or Handled (book_signals b) k (constant 0) l
      (All-map Handled (λ e. e.signal) b (All-weaker (Stands o s.inputs s) _ (λ e q. (e.number, q.lawful, q.means)) b holds.handles))

  places_differ : DifferentParts o s.inputs (book_signals b) s.used (λ p. value o s (handle p))
  places_differ = record { apart = apart; vary = vary; from = holds.parts }
    where
      apart : (i j : ℕ) → i < s.used → j < s.used → OnePart o s.inputs (value o s (handle i)) (value o s (handle j)) → i ≡ j
      apart i j u v (inl e) = places_agree laws w holds.sound i j u v e
      apart i j u v (inr r) = places_opposite laws w holds.sound i j u v r.right_settled r.right_turned

      vary : (i : ℕ) → i < s.used → is_constant s.inputs (value o s (handle i)) ≡ false
      vary i u =
          ⊎_elim
          (λ e. absurd (place_varies laws w holds.sound i (value o s (handle i) 0) u ((is_constant_decides s.inputs (value o s (handle i))).0 e)))
          (λ e. e)
          (cases_Bool (is_constant s.inputs (value o s (handle i))))

  -- a signal of a lawful handle that is not constant is one with a place
  placed : (g : ℕ) (t : Signal) → Lawful o s g → Agree s.inputs (value o s g) t → is_constant s.inputs t ≡ false
      → (i : ℕ) × (i < s.used) × OnePart o s.inputs t (value o s (handle i))
  placed g t l e varies =
      ⊎_elim
      (λ c.
      let small : g < 16 = omega (arith, laws.sixteen_at_most) in
      absurd (both_ways (is_constant n t) varies
      ((is_constant_decides n t).1 (λ p k. sym (e p k) ∙ value_constant o s g p small ∙ sym (sym (e 0 (pow_pos n)) ∙ value_constant o s g 0 small)))))
      (λ r. (
        r.0,
        r.1,
        ⊎_elim
            (λ same. inl (agree_trans n t (value o s g) (value o s (handle r.0)) (agree_sym n (value o s g) t e) same))
            (λ turned. one_sym o n (value o s (handle r.0)) t
            (one_turned o n (value o s (handle r.0)) t laws (λ p _. codes laws w holds.sound (handle r.0) p (handle_lawful o s r.0 r.1)) turned.0
            (λ p k. sym (turned.1 p k) ∙ e p k)))
            r.2,
      ))
      (lawful_cases laws w holds.sound g l)
    where
      n : ℕ
      n = s.inputs

  parts_placed : AllParts o s.inputs (book_signals b) s.used (λ p. value o s (handle p))
  unfolding Handled
  parts_placed k t l r varies =
      let h = handled k l in
      let g = subhandle laws w holds.sound h.0 h.1 r.0 r.1 r.2 r.3 in
      placed g.0 t g.1.lawful
      (agree_trans n (value o s g.0) (part n (value o s h.0) r.0 r.1) t g.1.means
      (agree_trans n (part n (value o s h.0) r.0 r.1) (part n (nth (book_signals b) k) r.0 r.1) t
      (part_agree n (value o s h.0) (nth (book_signals b) k) r.0 r.1 r.2 r.3 h.2)
      (agree_sym n t (part n (nth (book_signals b) k) r.0 r.1) r.4)))
      varies
    where
      n : ℕ
      n = s.inputs

  -- the places in use are the different parts of the booked signals
  pub places_counted : part_count o s.inputs (book_signals b) ≡ s.used
  places_counted = exactly o s.inputs (book_signals b) s.used (λ p. value o s (handle p)) places_differ parts_placed
