-- What the answers to the steps of an event say of the room. Assumes nothing.
use Rattle.std.proofs.Common.{◌≡◌, ℕ, zero, suc, ◌-◌, ◌<◌, ◌≤◌, List, [], ◌∷◌, ◌++◌, map, reverse, length, take, sym, ap, ◌∙◌, subst, append_assoc, append-nil, arith}
use Rattle.std.specs.List.{AllByRecursion}
use Rattle.std.proofs.lemmas.List.{reverse-append, length-reverse, get_or-reverse, take_all}
use Rattle.std.proofs.ByRecursion.{All-from_get_or}
use Rattle.algebra.specs.Ops.{Ops}
use Rattle.netlist.specs.Signals.{Signal, constant}
use Rattle.netlist.specs.Parts.{part_count}
use Rattle.netlist.specs.Findings.{zipped}
use Rattle.records.specs.Stores.{Store}
use Rattle.records.specs.Rules.{Lawful}
use Rattle.records.specs.Counts.{nth}
use Rattle.records.specs.Runs.{told, full, Book, book_signals, Step, step, booked, all_booked, AllJudged, Stands}
use Rattle.records.proofs.Counting.{FoundIn, same_signals}
use Rattle.records.proofs.Books.{booked_append, before_steps}
use Rattle.records.proofs.Laying.{told_signalled, signalled_here}
use Rattle.report.proofs.Overs.{Roomy}

-- ---- signals the other way round

reversed_in : (n : ℕ) (ss : List Signal) → FoundIn n (reverse ss) ss
reversed_in n ss k h =
    let l : k < length ss = omega (arith, length-reverse ss) in
    (length ss - 1 - k, omega arith, λ p _. ap (λ s. s p) (get_or-reverse ss k (constant 0) l))

in_reversed : (n : ℕ) (ss : List Signal) → FoundIn n ss (reverse ss)
in_reversed n ss k h =
    let j = length ss - 1 - k in
    let back : length ss - 1 - j ≡ k = omega arith in
    (j, omega (arith, length-reverse ss), λ p _. sym (ap (λ s. s p) (get_or-reverse ss j (constant 0) (omega arith) ∙ ap (λ i. nth ss i) back)))

reversed_count : (o : Ops) (n : ℕ) (ss : List Signal) → part_count o n (reverse ss) ≡ part_count o n ss
reversed_count o n ss = same_signals o n (reverse ss) ss (reversed_in n ss) (in_reversed n ss)

-- one signal more
push_reversed : (ss : List Signal) (s : Signal) → s ∷ reverse ss ≡ reverse (ss ++ s ∷ [])
push_reversed ss s = sym (reverse-append ss (s ∷ []))

-- ---- steps and their book

module _ (o : Ops) (n room : ℕ) (t : Store) where
  -- each step is judged rightly, and the booked handles stand
  abbrev pub Faring : Book → List Step → Type 0
  Faring b xs = AllJudged o n room b xs × AllByRecursion (Stands o n t) (all_booked xs b)

  judged_append : (xs ys : List Step) (b : Book) → AllJudged o n room b (xs ++ ys) → AllJudged o n room b xs × AllJudged o n room (all_booked xs b) ys
  unfolding AllJudged all_booked
  judged_append [] ys b j = (tt, j)
  judged_append (x ∷ xs) ys b j = let r = judged_append xs ys (booked x b) j.1 in ((j.0, r.0), r.1)

  pub faring_append : (xs ys : List Step) (b : Book) → Faring b (xs ++ ys) → Faring b xs × Faring (all_booked xs b) ys
  faring_append xs ys b f =
      let j = judged_append xs ys b f.0 in
      let all = subst (AllByRecursion (Stands o n t)) (booked_append xs ys b) f.1 in
      ((j.0, before_steps (Stands o n t) ys (all_booked xs b) all), (j.1, all))

  -- the booked handles are lawful
  pub told_lawful : (ss : List Signal) (hs : List ℕ) (b : Book) → length hs ≤ length ss → Faring b (zipped step ss (map told hs)) → AllByRecursion (Lawful o t) hs
  told_lawful ss hs b h f =
      let all = told_signalled o n t ss hs b h f.1 in
      All-from_get_or (Lawful o t) hs 0 (λ k l. (signalled_here o n t hs ss all k l).lawful)

  counted : (b : Book) (before : List Signal) (s : Signal) → book_signals b ≡ reverse before → part_count o n (s ∷ book_signals b) ≡ part_count o n (before ++ s ∷ [])
  counted b before s e = ap (λ l. part_count o n (s ∷ l)) e ∙ ap (part_count o n) (push_reversed before s) ∙ reversed_count o n (before ++ s ∷ [])

  -- there was room for what was told
  pub told_roomy : (ss : List Signal) (hs : List ℕ) (b : Book) (before : List Signal) → book_signals b ≡ reverse before → length hs ≤ length ss → AllJudged o n room b (zipped step ss (map told hs))
      → Roomy o n room before ss (length hs)
  unfolding AllJudged zipped
  told_roomy ss [] b before e h judged j l = absurd (omega arith)
  told_roomy [] (x ∷ hs) b before e h judged j l = absurd (omega arith)
  told_roomy (s ∷ ss) (x ∷ hs) b before e h judged zero l = subst (λ k. k ≤ room) (counted b before s e) judged.0
  told_roomy (s ∷ ss) (x ∷ hs) b before e h judged (suc j) l =
      subst (λ l. part_count o n l ≤ room) (append_assoc before (s ∷ []) (take (suc j) ss))
      (told_roomy ss hs (record { number = x; signal = s } ∷ b) (before ++ s ∷ []) (ap (λ l. s ∷ l) e ∙ push_reversed before s) (omega arith) judged.1 j (omega arith))

  -- none for what was told full
  pub full_over : (b : Book) (before : List Signal) (s : Signal) → book_signals b ≡ reverse before → AllJudged o n room b (step s full ∷ []) → room < part_count o n (before ++ s ∷ [])
  unfolding AllJudged
  full_over b before s e judged = subst (λ k. room < k) (counted b before s e) judged.0

-- the signals that are then booked
pub told_booked : (ss : List Signal) (hs : List ℕ) (b : Book) (before : List Signal) → book_signals b ≡ reverse before → length hs ≤ length ss
    → book_signals (all_booked (zipped step ss (map told hs)) b) ≡ reverse (before ++ take (length hs) ss)
unfolding zipped all_booked
told_booked [] [] b before e h = e ∙ ap reverse (sym (append-nil before))
told_booked (s ∷ ss) [] b before e h = e ∙ ap reverse (sym (append-nil before))
told_booked [] (x ∷ hs) b before e h = absurd (omega arith)
told_booked (s ∷ ss) (x ∷ hs) b before e h =
    told_booked ss hs (record { number = x; signal = s } ∷ b) (before ++ s ∷ []) (ap (λ l. s ∷ l) e ∙ push_reversed before s) (omega arith)
    ∙ ap reverse (append_assoc before (s ∷ []) (take (length hs) ss))

-- all signals of a list
pub all_told_booked : (ss : List Signal) (hs : List ℕ) (b : Book) (before : List Signal) → book_signals b ≡ reverse before → length hs ≡ length ss
    → book_signals (all_booked (zipped step ss (map told hs)) b) ≡ reverse (before ++ ss)
all_told_booked ss hs b before e h = told_booked ss hs b before e (omega arith) ∙ ap (λ l. reverse (before ++ l)) (take_all (length hs) ss (omega arith))

-- how many parts they have
pub booked_count : (o : Ops) (n : ℕ) (b : Book) (ss : List Signal) → book_signals b ≡ reverse ss → part_count o n (book_signals b) ≡ part_count o n ss
booked_count o n b ss e = ap (part_count o n) e ∙ reversed_count o n ss
