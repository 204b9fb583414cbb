-- Compare keeps the law of runs: its two netlists as two lays, and then one pair at a time. Assumes nothing.
use Rattle.std.proofs.Common.{◌≡◌, ℕ, suc, ◌+◌, ◌<◌, ◌≤◌, Bool, true, false, cond, eqb, List, [], ◌∷◌, ◌++◌, map, length, get_or, take, Ok, Err, Option, Result, sym, refl, ap, ◌∙◌, subst, ap₂, append_assoc, append-nil, arith}
use Rattle.std.specs.List.{AllByRecursion}
use Rattle.std.proofs.lemmas.List.{take_more, length-map, length_push}
use Rattle.algebra.specs.Ops.{Ops}
use Rattle.algebra.specs.Laws.{Laws}
use Rattle.netlist.specs.declared.line.Line.{Line}
use Rattle.netlist.specs.declared.finding.Finding.{Finding}
use Rattle.netlist.specs.declared.finding.Finding.TheVariants.{Clean}
use Rattle.netlist.specs.Signals.{Signal, Agree, constant, joined}
use Rattle.netlist.specs.Lines.{signal_at, line_signals, outs, out_count}
use Rattle.netlist.specs.Findings.{finding, zipped}
use Rattle.netlist.proofs.LineSignals.{signals_length}
use Rattle.netlist.proofs.OutValues.{outs_length}
use Rattle.netlist.proofs.Zips.{zipped_length, zipped_at}
use Rattle.records.specs.declared.fault.TableFault.{TableFault}
use Rattle.records.specs.declared.fault.TableFault.TheVariants.{TooManyInputs, FewRows, NoSuchHandle, NoSuchInput, NoSuchCode, NoSuchOperator, NoSuchPattern, Full}
use Rattle.records.specs.Stores.{Store, value}
use Rattle.records.specs.Rules.{Well, Sound}
use Rattle.memo.specs.Memos.{Pairs}
use Rattle.records.specs.Outcomes.{Shape, TruePairs, Meaning}
use Rattle.records.specs.Runs.{Answer, told, full, refused, lay, compare, Run, answer_of, Book, Step, step, all_booked, kept_pairs, book, Provided, AllTrue, Stands, Kept}
use Rattle.records.proofs.Books.{before_steps, booked_append}
use Rattle.records.proofs.Grades.{finding_agrees}
use Rattle.records.proofs.Stepping.{Stepped, one_step, inputs_kept, Walked, walked_append, walked_more}
use Rattle.records.proofs.Events.{facts_after, kept_more}
use Rattle.records.proofs.Laying.{zipped_none, zipped_more, Signalled, told_signalled, signalled_here, kept_lay_none}

-- ---- the two netlists

-- what two lays leave is what a compare leaves before its first pair
pub kept_laid : {o : Ops} → Laws o → {s : Store} → Well s → (room : ℕ) (P : Pairs) (run : Run) (ls ms : List Line) (xs ys : List Answer)
    → Kept o room (lay ms ys ∷ lay ls xs ∷ run) s P → Kept o room (compare ls ms xs ys [] [] ∷ run) s P
unfolding Provided book AllTrue kept_pairs
kept_laid {o} laws {s} w room P run ls ms xs ys kept provided =
    let facts = kept (tt, (tt, provided.1)) in
    let all = facts.found.all_true in
    facts_after laws w room run (compare ls ms xs ys [] []) P
    (record {
      walked =
          subst (λ l. Walked o n room b l s P) (ap (λ l. first ++ l) (sym (append-nil second) ∙ ap (λ l. second ++ l) (sym (zipped_none step _))))
          (walked_append first second all.2.0 (record { holds = facts.holds; judged = all.0 }));
      findings = (refl, refl);
    })
    all.2.2
  where
    n : ℕ
    n = s.inputs

    b : Book
    b = book o n run

    first : List Step
    first = zipped step (line_signals o n ls) xs

    second : List Step
    second = zipped step (line_signals o n ms) ys

-- a compare that is refused before its first line
pub kept_compare_none : {o : Ops} → Laws o → {s : Store} → Well s → (room : ℕ) (P : Pairs) (run : Run) (ls ms : List Line) → Kept o room run s P → Kept o room (compare ls ms [] [] [] [] ∷ run) s P
kept_compare_none laws w room P run ls ms kept =
    kept_laid laws w room P run ls ms [] [] (kept_lay_none laws w room P (lay ls [] ∷ run) ms (kept_lay_none laws w room P run ls kept))

-- ---- the pairs

-- the handles of the OUT lines have the signals of the OUT lines
outs_signalled : (o : Ops) (n : ℕ) (s : Store) (ls : List Line) (hs : List ℕ) (ss : List Signal) → Signalled o n s hs ss → Signalled o n s (outs ls hs) (outs ls ss)
unfolding outs Signalled
outs_signalled o n s [] hs ss same = tt
outs_signalled o n s (l ∷ ls) [] ss same = tt
outs_signalled o n s (l ∷ ls) (h ∷ hs) [] same = absurd same
outs_signalled o n s (l ∷ ls) (h ∷ hs) (x ∷ ss) same = go (eqb l.kind 8) (outs_signalled o n s ls hs ss same.1)
  where
    go : (c : Bool) → Signalled o n s (outs ls hs) (outs ls ss) → Signalled o n s (cond c (h ∷ outs ls hs) (outs ls hs)) (cond c (x ∷ outs ls ss) (outs ls ss))
    go true rest = (same.0, rest)
    go false rest = rest

pairs_told : (gs : List ℕ) → kept_pairs (map told gs) ≡ length gs
unfolding kept_pairs
pairs_told [] = refl
pairs_told (g ∷ gs) = ap suc (pairs_told gs)

pairs_more : (gs : List ℕ) (g : ℕ) → kept_pairs (map told gs ++ told g ∷ []) ≡ length gs + 1
unfolding kept_pairs
pairs_more [] g = refl
pairs_more (h ∷ gs) g = ap suc (pairs_more gs g) ∙ omega arith

-- a pair that was not kept
Unkept : Answer → Type 0
Unkept (told h) = ⊥
Unkept full = Unit {0}
Unkept refused = Unit {0}

pairs_same : (gs : List ℕ) (a : Answer) → Unkept a → kept_pairs (map told gs ++ a ∷ []) ≡ length gs
unfolding kept_pairs Unkept
pairs_same [] (told h) u = absurd u
pairs_same [] full u = refl
pairs_same [] refused u = refl
pairs_same (g ∷ gs) a u = ap suc (pairs_same gs a u)

error_unkept : (f : TableFault) → Unkept (answer_of (Err f))
unfolding Unkept
error_unkept TooManyInputs = tt
error_unkept FewRows = tt
error_unkept NoSuchHandle = tt
error_unkept NoSuchInput = tt
error_unkept NoSuchCode = tt
error_unkept NoSuchOperator = tt
error_unkept NoSuchPattern = tt
error_unkept Full = tt

abbrev line_steps : Ops → ℕ → List Line → List ℕ → List Step
line_steps o n ls hs = zipped step (line_signals o n ls) (map told hs)

abbrev out_signals : Ops → ℕ → List Line → List Signal
out_signals o n ls = outs ls (line_signals o n ls)

abbrev pair_signals : Ops → ℕ → List Line → List Line → List Signal
pair_signals o n ls ms = zipped (joined o 9) (out_signals o n ls) (out_signals o n ms)

-- the steps of both netlists and of the pairs so far
abbrev all_steps : Ops → ℕ → List Line → List Line → List ℕ → List ℕ → List Answer → List Step
all_steps o n ls ms hs ks cs = line_steps o n ls hs ++ (line_steps o n ms ks ++ zipped step (pair_signals o n ls ms) cs)

-- one more pair is due: all lines are laid, there are as many OUT lines on either side, and not all of them are checked
pub record Due (ls ms : List Line) (hs ks gs : List ℕ) : Type 0 where
  pub left : length hs ≡ length ls
  pub right : length ks ≡ length ms
  pub even : out_count ms ≡ out_count ls
  pub inside : length gs < out_count ls

module _ (o : Ops) (n : ℕ) (ls ms : List Line) (hs ks gs : List ℕ) (due : Due ls ms hs ks gs) where
  left_count : length (out_signals o n ls) ≡ out_count ls
  left_count = outs_length ls (line_signals o n ls) (signals_length o n ls)

  right_count : length (out_signals o n ms) ≡ out_count ls
  right_count = outs_length ms (line_signals o n ms) (signals_length o n ms) ∙ due.even

  counts : length (out_signals o n ls) ≡ length (out_signals o n ms)
  counts = left_count ∙ sym right_count

  inside : length gs < length (out_signals o n ls)
  inside = omega (arith, left_count, due.inside)

  -- what stands at the next pair of two lists zipped
  next_at : {Z : Type 0} (f : Signal → Signal → Z) (z : Z) → get_or (zipped f (out_signals o n ls) (out_signals o n ms)) (length gs) z ≡ f (signal_at (out_signals o n ls) (length gs)) (signal_at (out_signals o n ms) (length gs))
  next_at f z = zipped_at f (out_signals o n ls) (out_signals o n ms) (length gs) (constant 0) (constant 0) z counts inside

  next_inside : {Z : Type 0} (f : Signal → Signal → Z) → length gs < length (zipped f (out_signals o n ls) (out_signals o n ms))
  next_inside f = omega (arith, zipped_length f (out_signals o n ls) (out_signals o n ms) counts, inside)

  pair_walked : {room : ℕ} {b : Book} {s t : Store} {P Q : Pairs} (a : Answer)
      → Walked o n room b (all_steps o n ls ms hs ks (map told gs)) s P
      → Stepped o n room (all_booked (all_steps o n ls ms hs ks (map told gs)) b) (step (signal_at (pair_signals o n ls ms) (length gs)) a) t Q
      → Walked o n room b (all_steps o n ls ms hs ks (map told gs ++ a ∷ [])) t Q
  pair_walked {room} {b} {s} {t} {P} {Q} a before after =
      subst (λ x. Walked o n room b x t Q) (sym e) (walked_more (all_steps o n ls ms hs ks (map told gs)) new before after)
    where
      zs : List Signal
      zs = pair_signals o n ls ms

      new : Step
      new = step (signal_at zs (length gs)) a

      c : List Step
      c = zipped step zs (map told gs)

      more : zipped step zs (map told gs ++ a ∷ []) ≡ c ++ new ∷ []
      more =
          zipped_more step zs (map told gs) (constant 0) a (omega (arith, length-map gs told, next_inside (joined o 9)))
          ∙ ap (λ i. c ++ step (signal_at zs i) a ∷ []) (length-map gs told)

      e : all_steps o n ls ms hs ks (map told gs ++ a ∷ []) ≡ all_steps o n ls ms hs ks (map told gs) ++ new ∷ []
      e =
          ap (λ l. line_steps o n ls hs ++ (line_steps o n ms ks ++ l)) more
          ∙ ap (λ l. line_steps o n ls hs ++ l) (sym (append_assoc (line_steps o n ms ks) c (new ∷ [])))
          ∙ sym (append_assoc (line_steps o n ls hs) (line_steps o n ms ks ++ c) (new ∷ []))

  module _ (s : Store) (b : Book) (all : AllByRecursion (Stands o n s) (all_booked (all_steps o n ls ms hs ks (map told gs)) b)) where
    both : AllByRecursion (Stands o n s) (all_booked (line_steps o n ms ks) (all_booked (line_steps o n ls hs) b))
    both =
        before_steps (Stands o n s) (zipped step (pair_signals o n ls ms) (map told gs)) (all_booked (line_steps o n ms ks) (all_booked (line_steps o n ls hs) b))
        (subst (AllByRecursion (Stands o n s))
        (booked_append (line_steps o n ls hs) (line_steps o n ms ks ++ zipped step (pair_signals o n ls ms) (map told gs)) b
        ∙ booked_append (line_steps o n ms ks) (zipped step (pair_signals o n ls ms) (map told gs)) (all_booked (line_steps o n ls hs) b))
        all)

    left_agrees : Agree n (value o s (get_or (outs ls hs) (length gs) 0)) (signal_at (out_signals o n ls) (length gs))
    left_agrees =
        (signalled_here o n s (outs ls hs) (out_signals o n ls)
        (outs_signalled o n s ls hs (line_signals o n ls)
        (told_signalled o n s (line_signals o n ls) hs b (omega (arith, due.left, signals_length o n ls)) (before_steps (Stands o n s) (line_steps o n ms ks) (all_booked (line_steps o n ls hs) b) both)))
        (length gs) (omega (arith, outs_length ls hs due.left, due.inside))).means

    right_agrees : Agree n (value o s (get_or (outs ms ks) (length gs) 0)) (signal_at (out_signals o n ms) (length gs))
    right_agrees =
        (signalled_here o n s (outs ms ks) (out_signals o n ms)
        (outs_signalled o n s ms ks (line_signals o n ms)
        (told_signalled o n s (line_signals o n ms) ks (all_booked (line_steps o n ls hs) b) (omega (arith, due.right, signals_length o n ms)) both))
        (length gs) (omega (arith, outs_length ms ks due.right, due.even, due.inside))).means

  -- the findings so far, and one more
  findings_more : (fs : List Finding) (f : Finding) (g : ℕ) → (length fs ≡ kept_pairs (map told gs)) × (fs ≡ take (kept_pairs (map told gs)) (zipped (finding o n) (out_signals o n ls) (out_signals o n ms)))
      → f ≡ finding o n (signal_at (out_signals o n ls) (length gs)) (signal_at (out_signals o n ms) (length gs))
      → (length (fs ++ f ∷ []) ≡ kept_pairs (map told gs ++ told g ∷ [])) × (fs ++ f ∷ [] ≡ take (kept_pairs (map told gs ++ told g ∷ [])) (zipped (finding o n) (out_signals o n ls) (out_signals o n ms)))
  findings_more fs f g before is = (
    omega (arith, length_push fs f, pairs_told gs, pairs_more gs g, before.0),
    ap₂ (λ l x. l ++ x ∷ []) (before.1 ∙ ap (λ k. take k zs) (pairs_told gs)) (is ∙ sym (next_at (finding o n) Clean))
        ∙ sym (take_more zs (length gs) Clean (next_inside (finding o n)))
        ∙ ap (λ k. take k zs) (sym (pairs_more gs g)),
  )
    where
      zs : List Finding
      zs = zipped (finding o n) (out_signals o n ls) (out_signals o n ms)

  findings_same : (fs zs : List Finding) (a : Answer) → Unkept a → (length fs ≡ kept_pairs (map told gs)) × (fs ≡ take (kept_pairs (map told gs)) zs)
      → (length fs ≡ kept_pairs (map told gs ++ a ∷ [])) × (fs ≡ take (kept_pairs (map told gs ++ a ∷ [])) zs)
  findings_same fs zs a u before =
      let e = pairs_told gs ∙ sym (pairs_same gs a u) in
      (before.0 ∙ e, before.1 ∙ ap (λ k. take k zs) e)

module _ {o : Ops} (laws : Laws o) {s t : Store} (w : Well s) (v : Well t) {room : ℕ} (fits : t.used ≤ room) (P Q : Pairs) (run : Run) (refusal : Option TableFault) (ls ms : List Line) (hs ks gs : List ℕ) (fs : List Finding) (due : Due ls ms hs ks gs) (x y : ℕ) (x-is : x ≡ get_or (outs ls hs) (length gs) 0) (y-is : y ≡ get_or (outs ms ks) (length gs) 0) where
  pair_left : (b : Book) → AllByRecursion (Stands o t.inputs s) (all_booked (all_steps o t.inputs ls ms hs ks (map told gs)) b) → Agree t.inputs (value o s x) (signal_at (out_signals o t.inputs ls) (length gs))
  pair_left b all p k = ap (λ h. value o s h p) x-is ∙ left_agrees o t.inputs ls ms hs ks gs due s b all p k

  pair_right : (b : Book) → AllByRecursion (Stands o t.inputs s) (all_booked (all_steps o t.inputs ls ms hs ks (map told gs)) b) → Agree t.inputs (value o s y) (signal_at (out_signals o t.inputs ms) (length gs))
  pair_right b all p k = ap (λ h. value o s h p) y-is ∙ right_agrees o t.inputs ls ms hs ks gs due s b all p k

  pair_stepped : (b : Book) (r : Result ℕ TableFault) → Shape s t P Q refusal r → Meaning o room s t P Q (joined o 9 (value o s x) (value o s y)) r
      → Walked o t.inputs room b (all_steps o t.inputs ls ms hs ks (map told gs)) s P
      → Walked o t.inputs room b (all_steps o t.inputs ls ms hs ks (map told gs ++ answer_of r ∷ [])) t Q
  pair_stepped b r shape meaning before =
      pair_walked o n ls ms hs ks gs due (answer_of r) before
      (one_step laws w v fits refusal (joined o 9 (value o s x) (value o s y)) (signal_at (pair_signals o n ls ms) (length gs)) r shape
      (meaning before.holds.sound before.holds.pairs)
      (λ p k.
      ap₂ (o.op 9) (pair_left b before.holds.handles p k) (pair_right b before.holds.handles p k)
      ∙ ap (λ f. f p) (sym (next_at o n ls ms hs ks gs due (joined o 9) (constant 0))))
      before.holds)
    where
      n : ℕ
      n = t.inputs

  -- a pair that is kept, with its finding
  pub kept_pair : (g : ℕ) (f : Finding) → Shape s t P Q refusal (Ok g) → Meaning o room s t P Q (joined o 9 (value o s x) (value o s y)) (Ok g)
      → (Sound o s → TruePairs o s P → f ≡ finding o s.inputs (value o s x) (value o s y))
      → Kept o room (compare ls ms (map told hs) (map told ks) (map told gs) fs ∷ run) s P
      → Kept o room (compare ls ms (map told hs) (map told ks) (map told gs ++ told g ∷ []) (fs ++ f ∷ []) ∷ run) t Q
  kept_pair g f shape meaning found =
      kept_more laws v room run (compare ls ms (map told hs) (map told ks) (map told gs) fs) (compare ls ms (map told hs) (map told ks) (map told gs ++ told g ∷ []) (fs ++ f ∷ [])) P Q inputs (λ _ _ _. tt)
      (λ before. record {
        walked = pair_stepped b (Ok g) shape meaning before.walked;
        findings = findings_more o n ls ms hs ks gs due fs f g before.findings
            (found before.walked.holds.sound before.walked.holds.pairs
            ∙ ap (λ m. finding o m (value o s x) (value o s y)) (sym inputs)
            ∙ finding_agrees o n (value o s x) (signal_at (out_signals o n ls) (length gs)) (value o s y) (signal_at (out_signals o n ms) (length gs))
            (pair_left b before.walked.holds.handles) (pair_right b before.walked.holds.handles));
      })
    where
      n : ℕ
      n = t.inputs

      b : Book
      b = book o n run

      inputs : t.inputs ≡ s.inputs
      inputs = inputs_kept s t P Q refusal (Ok g) shape

  -- a pair that was told full, or refused
  pub kept_refused_pair : (e : TableFault) → Shape s t P Q refusal (Err e) → Meaning o room s t P Q (joined o 9 (value o s x) (value o s y)) (Err e)
      → Kept o room (compare ls ms (map told hs) (map told ks) (map told gs) fs ∷ run) s P
      → Kept o room (compare ls ms (map told hs) (map told ks) (map told gs ++ answer_of (Err e) ∷ []) fs ∷ run) t Q
  kept_refused_pair e shape meaning =
      kept_more laws v room run (compare ls ms (map told hs) (map told ks) (map told gs) fs) (compare ls ms (map told hs) (map told ks) (map told gs ++ answer_of (Err e) ∷ []) fs) P Q (inputs_kept s t P Q refusal (Err e) shape) (λ _ _ _. tt)
      (λ before. record {
        walked = pair_stepped (book o t.inputs run) (Err e) shape meaning before.walked;
        findings = findings_same o t.inputs ls ms hs ks gs due fs _ (answer_of (Err e)) (error_unkept e) before.findings;
      })
