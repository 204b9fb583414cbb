-- One single result: the table and the memo that it leaves keep what holds of the book, and what it was told is judged
-- rightly. Assumes nothing.
use Rattle.std.proofs.Common.{◌≡◌, ℕ, zero, suc, ◌<◌, ◌≤◌, ◌⊎◌, List, [], ◌∷◌, ◌++◌, Ok, Err, Option, Result, sym, ap, ◌∙◌, subst, inl, inr, ⊎_elim, arith}
use Rattle.std.specs.List.{AllByRecursion}
use Rattle.std.proofs.ByRecursion.{All-weaker}
use Rattle.std.proofs.lemmas.Bool.{cases_lt}
use Rattle.algebra.specs.Ops.{Ops}
use Rattle.algebra.specs.Laws.{Laws}
use Rattle.netlist.specs.Signals.{Signal, Agree}
use Rattle.netlist.specs.Parts.{part_count}
use Rattle.records.specs.declared.fault.TableFault.{TableFault}
use Rattle.records.specs.declared.fault.TableFault.TheVariants.{TooManyInputs, FewRows, NoSuchHandle, NoSuchInput, NoSuchCode, NoSuchOperator, NoSuchPattern, Full}
use Rattle.records.specs.Stores.{Store, handle, value}
use Rattle.records.specs.Rules.{Well, Sound}
use Rattle.records.specs.Changes.{Grows}
use Rattle.records.specs.Steps.{Back}
use Rattle.memo.specs.Memos.{Pairs, NoPairs}
use Rattle.records.specs.Counts.{PartIn, nth}
use Rattle.records.specs.Outcomes.{Stopped, CutBack, Shape, TruePairs, ResultOf, Overfull, Means}
use Rattle.records.specs.Runs.{answer_of, Book, book_signals, Step, step, booked, all_booked, Judged, AllJudged, Stands, Holds}
use Rattle.records.proofs.Values.{lawful_grows, lawful_within, value_grows}
use Rattle.records.proofs.Backs.{sound_back}
use Rattle.records.proofs.Alike.{agree_refl, agree_trans}
use Rattle.records.proofs.Counting.{part_in_one, FoundIn, part_found, fewer_signals, found_later}
use Rattle.records.proofs.Books.{booked_append, places_counted}

-- ---- a table that grows

stands_grow : (o : Ops) (n : ℕ) {s t : Store} → Well s → Grows s t → (b : Book) → AllByRecursion (Stands o n s) b → AllByRecursion (Stands o n t) b
stands_grow o n {s} {t} w grows =
    All-weaker (Stands o n s) (Stands o n t)
    (λ e q. record {
      lawful = lawful_grows o grows e.number q.lawful;
      means = λ p k. value_grows o w grows e.number p (lawful_within o s e.number q.lawful) ∙ q.means p k;
    })

parts_grow : (o : Ops) (n : ℕ) {s t : Store} → Well s → Grows s t → (ss : List Signal) → ((p : ℕ) → p < s.used → PartIn o n ss (value o s (handle p)))
    → (p : ℕ) → p < s.used → PartIn o n ss (value o t (handle p))
parts_grow o n {s} {t} w grows ss parts p u =
    part_in_one o n ss (value o t (handle p)) (value o s (handle p)) (inl (λ q k. value_grows o w grows (handle p) q (omega arith))) (parts p u)

-- ---- what is left

-- all places are those of before
same_places : {o : Ops} {n : ℕ} {s t : Store} {b : Book} {P Q : Pairs} → Well s → Grows s t → t.used ≡ s.used → Sound o t → TruePairs o t Q → Holds o n b s P → Holds o n b t Q
same_places {o} {n} {s} {t} {b} w grows used sound pairs holds = record {
  sound = sound;
  pairs = pairs;
  handles = stands_grow o n w grows b holds.handles;
  parts = λ p u. parts_grow o n w grows (book_signals b) holds.parts p (omega arith);
}

pub no_pairs_true : (o : Ops) (s : Store) (Q : Pairs) → NoPairs Q → TruePairs o s Q
no_pairs_true o s Q none k x y h e = absurd (let z : ◌≡◌ {A = ℕ} 0 1 = (let g = none k x y in cc) in omega arith)

cut_back_holds : {o : Ops} {n : ℕ} {s t : Store} {b : Book} {P Q : Pairs} → Well s → Back s s.used t → NoPairs Q → Holds o n b s P → Holds o n b t Q
cut_back_holds {o} {n} {s} {t} {b} {P} {Q} w back none holds =
    same_places w forth back.used (sound_back {s = t} {t = s} behind w holds.sound) (no_pairs_true o t Q none) holds
  where
    forth : Grows s t
    forth = record { inputs = back.inputs; more = omega (arith, back.used); same = back.same }

    behind : Grows t s
    behind = record { inputs = sym back.inputs; more = omega (arith, back.used); same = λ p u. sym (back.same p (omega (arith, back.used))) }

stopped_holds : {o : Ops} {n : ℕ} {s t : Store} {b : Book} {P Q : Pairs} → t ≡ s → Q ≡ P → Holds o n b s P → Holds o n b t Q
stopped_holds {o} {n} {s} {t} {b} {P} {Q} table memo holds =
    subst (λ x. Holds o n b x Q) (sym table) (subst (λ x. Holds o n b s x) (sym memo) holds)

error_holds : {o : Ops} {n : ℕ} {s t : Store} {b : Book} {P Q : Pairs} (refusal : Option TableFault) (f : TableFault)
    → Well s → Stopped s t P Q refusal f ⊎ CutBack s t Q refusal f → Holds o n b s P → Holds o n b t Q
error_holds refusal f w (inl stopped) holds = stopped_holds stopped.table stopped.memo holds
error_holds refusal f w (inr cut) holds = cut_back_holds w cut.table cut.memo holds

-- the result may be told by any signal that agrees with it
meant_found : (n : ℕ) (m r : Signal) (ss : List Signal) → Agree n m r → FoundIn n (m ∷ []) (r ∷ ss)
meant_found n m r ss same zero h = (0, omega arith, same)
meant_found n m r ss same (suc k) h = absurd (omega arith)

meant_with : (n : ℕ) (m r : Signal) (ss : List Signal) → Agree n m r → FoundIn n (m ∷ ss) (r ∷ ss)
meant_with n m r ss same zero h = (0, omega arith, same)
meant_with n m r ss same (suc k) h = (suc k, h, agree_refl n (nth ss k))

accepted_holds : {o : Ops} {s t : Store} {b : Book} {P Q : Pairs} (m r : Signal) (h : ℕ) → Well s → Grows s t → ResultOf o s t Q m h → Agree t.inputs m r
    → Holds o t.inputs b s P → Holds o t.inputs (record { number = h; signal = r } ∷ b) t Q
accepted_holds {o} {s} {t} {b} m r h w grows result same holds = record {
  sound = result.sound;
  pairs = result.pairs;
  handles = (record { lawful = result.lawful; means = agree_trans n (value o t h) m r result.means same }, stands_grow o n w grows b holds.handles);
  parts = λ p u. ⊎_elim
      (λ old. part_found o n ss (r ∷ ss) (found_later n r ss) (value o t (handle p)) (parts_grow o n w grows ss holds.parts p old))
      (λ new. part_found o n (m ∷ []) (r ∷ ss) (meant_found n m r ss same) (value o t (handle p)) (result.taken p new u))
      (cases_lt p s.used);
}
  where
    n : ℕ
    n = t.inputs

    ss : List Signal
    ss = book_signals b

-- ---- what was told

full_judged : {o : Ops} {n room : ℕ} {s : Store} {b : Book} {P : Pairs} (m r : Signal) → n ≡ s.inputs → Overfull o room s m → Agree n m r → Holds o n b s P
    → room < part_count o n (r ∷ book_signals b)
full_judged {o} {n} {room} {s} {b} m r inputs over same holds =
    let ss = book_signals b in
    let counts = fewer_signals o n (m ∷ ss) (r ∷ ss) (meant_with n m r ss same) in
    let above = there ss holds.parts in
    omega arith
  where
    there : (ss : List Signal) → ((p : ℕ) → p < s.used → PartIn o n ss (value o s (handle p))) → room < part_count o n (m ∷ ss)
    there = subst (λ k. (ss : List Signal) → ((p : ℕ) → p < s.used → PartIn o k ss (value o s (handle p))) → room < part_count o k (m ∷ ss)) (sym inputs) over

-- ---- one step

-- a step that was judged rightly, and what holds after it
pub record Stepped (o : Ops) (n room : ℕ) (b : Book) (r : Step) (t : Store) (Q : Pairs) : Type 0 where
  pub holds : Holds o n (booked r b) t Q
  pub judged : Judged o n room b r

pub inputs_kept : (s t : Store) (P Q : Pairs) (refusal : Option TableFault) (r : Result ℕ TableFault) → Shape s t P Q refusal r → t.inputs ≡ s.inputs
inputs_kept s t P Q refusal (Ok h) shape = shape.grows.inputs
inputs_kept s t P Q refusal (Err f) (inl stopped) = ap (λ x. x.inputs) stopped.table
inputs_kept s t P Q refusal (Err f) (inr cut) = cut.table.inputs

module _ {o : Ops} (laws : Laws o) {s t : Store} (w : Well s) (v : Well t) {room : ℕ} (fits : t.used ≤ room) {b : Book} {P Q : Pairs} (refusal : Option TableFault) (m result : Signal) where
  error_step : (f : TableFault) → Shape s t P Q refusal (Err f) → Means o room s t Q m (Err f) → Agree t.inputs m result → Holds o t.inputs b s P
      → Stepped o t.inputs room b (step result (answer_of (Err f))) t Q
  error_step TooManyInputs shape means same holds = record { holds = error_holds refusal TooManyInputs w shape holds; judged = tt }
  error_step FewRows shape means same holds = record { holds = error_holds refusal FewRows w shape holds; judged = tt }
  error_step NoSuchHandle shape means same holds = record { holds = error_holds refusal NoSuchHandle w shape holds; judged = tt }
  error_step NoSuchInput shape means same holds = record { holds = error_holds refusal NoSuchInput w shape holds; judged = tt }
  error_step NoSuchCode shape means same holds = record { holds = error_holds refusal NoSuchCode w shape holds; judged = tt }
  error_step NoSuchOperator shape means same holds = record { holds = error_holds refusal NoSuchOperator w shape holds; judged = tt }
  error_step NoSuchPattern shape means same holds = record { holds = error_holds refusal NoSuchPattern w shape holds; judged = tt }
  error_step Full shape means same holds = record {
    holds = error_holds refusal Full w shape holds;
    judged = full_judged m result (inputs_kept s t P Q refusal (Err Full) shape) means same holds;
  }

  -- the one lemma of every single call, line and pair
  pub one_step : (r : Result ℕ TableFault) → Shape s t P Q refusal r → Means o room s t Q m r → Agree t.inputs m result → Holds o t.inputs b s P
      → Stepped o t.inputs room b (step result (answer_of r)) t Q
  one_step (Ok h) shape means same holds =
      let after = accepted_holds m result h w shape.grows means same holds in
      record { holds = after; judged = omega (arith, places_counted laws v after) }
  one_step (Err f) shape means same holds = error_step f shape means same holds

-- ---- steps in a row

judged_append : (o : Ops) (n room : ℕ) (b : Book) (xs ys : List Step) → AllJudged o n room b xs → AllJudged o n room (all_booked xs b) ys → AllJudged o n room b (xs ++ ys)
unfolding all_booked AllJudged
judged_append o n room b [] ys before after = after
judged_append o n room b (x ∷ xs) ys before after = (before.0, judged_append o n room (booked x b) xs ys before.1 after)

-- steps that were judged rightly, and what holds after them
pub record Walked (o : Ops) (n room : ℕ) (b : Book) (xs : List Step) (t : Store) (Q : Pairs) : Type 0 where
  pub holds : Holds o n (all_booked xs b) t Q
  pub judged : AllJudged o n room b xs

pub walked_none : {o : Ops} {n room : ℕ} {b : Book} {t : Store} {Q : Pairs} → Holds o n b t Q → Walked o n room b [] t Q
unfolding all_booked AllJudged
walked_none holds = record { holds = holds; judged = tt }

pub walked_one : {o : Ops} {n room : ℕ} {b : Book} {r : Step} {t : Store} {Q : Pairs} → Stepped o n room b r t Q → Walked o n room b (r ∷ []) t Q
unfolding all_booked AllJudged
walked_one after = record { holds = after.holds; judged = (after.judged, tt) }

pub walked_append : {o : Ops} {n room : ℕ} {b : Book} (xs ys : List Step) {t : Store} {Q : Pairs} → AllJudged o n room b xs → Walked o n room (all_booked xs b) ys t Q → Walked o n room b (xs ++ ys) t Q
walked_append {o} {n} {room} {b} xs ys {t} {Q} before after = record {
  holds = subst (λ k. Holds o n k t Q) (sym (booked_append xs ys b)) after.holds;
  judged = judged_append o n room b xs ys before after.judged;
}

pub walked_more : {o : Ops} {n room : ℕ} {b : Book} (xs : List Step) (r : Step) {s t : Store} {P Q : Pairs} → Walked o n room b xs s P → Stepped o n room (all_booked xs b) r t Q → Walked o n room b (xs ++ r ∷ []) t Q
walked_more xs r before after = walked_append xs (r ∷ []) before.judged (walked_one after)
