-- The lines of a span, a list that is taken part by part, and a list of calls one call on. Assumes nothing.
use Rattle.std.proofs.Common.{◌≡◌, ℕ, ◌+◌, ◌-◌, ◌<◌, ◌≤◌, min, Bool, true, false, cond, not, eqb, List, [], ◌∷◌, ◌++◌, length, get_or, take, drop, set, Some, Ok, Err, Result, sym, refl, ap, ◌∙◌, subst, ⊎_elim, arith, length-append, length-drop, take-append-drop, add-zero}
use lib.Seq.{take-append-add}
use borrow.Rule.Slice.PartMut.{put_mid, same_len_mid}
use Rattle.std.proofs.lemmas.List.{append-nil, length-take-le, take_all, take_rest, take_more, take_more_set, drop_all, drop_at, drop-set-lt, drop-drop}
use Rattle.std.proofs.lemmas.Bool.{cases_lt, ne_eqb}
use Rattle.algebra.specs.Ops.{Ops}
use Rattle.netlist.specs.declared.line.Line.{Line}
use Rattle.netlist.specs.Lines.{out_count}
use Rattle.records.specs.Stores.{Store, store}
use Rattle.memo.specs.Memos.{Pairs, NoPairs}
use Rattle.records.specs.Runs.{Run, Event, Kept, Provided, Found}
use Rattle.records.proofs.Events.{found_after}
use Rattle.checking.specs.declared.checking.Checked.{Checked}
use Rattle.faults.specs.declared.fault.LayFault.{LayFault}
use Rattle.faults.specs.declared.fault.LayFault.TheVariants as lays
use Rattle.faults.specs.declared.fault.CompareFault.{CompareFault}
use Rattle.faults.specs.declared.fault.CompareFault.TheVariants as compares
use Rattle.laying.specs.Lays.{Laid}
use Rattle.comparison.specs.Compares.{Compared, Unchanged, LineRefused}
use Rattle.comparison.specs.declared.replaying.Call.{Call}
use Rattle.comparison.specs.declared.replaying.Told.{Told}
use Rattle.comparison.specs.States.{handles_for, rows_for, State, state, MadeBetween, Called, ReplayedFrom, none, more, RanFrom, ReplayedOver, no_call, one_call, RanOver, ReplayLent}
use Rattle.comparison.specs.Replays.{Ran}
use Rattle.comparison.specs.declared.replaying.ReplayFault.TheVariants.{ShortList, Table}
use Rattle.comparison.proofs.Erased.{ran_alone, ran_over_alone}
use Rattle.records.specs.declared.fault.TableFault.{TableFault}
use Rattle.records.specs.Faults.{start_refusal}

take_min : {X : Type 0} (xs : List X) (c n m : ℕ) → n ≡ length xs → m ≡ min c n → take m xs ≡ take c xs
take_min xs c n m e f =
    ⊎_elim
    (λ less. let same : m ≡ c = omega arith in ap (λ k. take k xs) same)
    (λ more. take_all m xs (omega arith) ∙ sym (take_all c xs (omega arith)))
    (cases_lt c n)

pub span_cut : {X : Type 0} (ls : List X) (from count f c k : ℕ) → f ≡ min from (length ls) → c ≡ min count (length ls - f) → k ≡ c → take k (drop f ls) ≡ take count (drop from ls)
span_cut ls from count f c k ef ec ek =
    ap (λ j. take j (drop f ls)) ek
    ∙ take_min (drop f ls) count (length ls - f) c (sym (length-drop f ls)) ec
    ∙ ap (take count)
    (⊎_elim
    (λ less. let same : f ≡ from = omega arith in ap (λ j. drop j ls) same)
    (λ more. drop_all f ls (omega arith) ∙ sym (drop_all from ls (omega arith)))
    (cases_lt from (length ls)))

-- ---- a list of which the first `next` entries are taken, and the others are lent to a call that has `want` of them for itself

drop_min : {X : Type 0} (xs : List X) (c n m : ℕ) → n ≡ length xs → m ≡ min c n → drop m xs ≡ drop c xs
drop_min xs c n m e f =
    ⊎_elim
    (λ less. let same : m ≡ c = omega arith in ap (λ k. drop k xs) same)
    (λ more. drop_all m xs (omega arith) ∙ sym (drop_all c xs (omega arith)))
    (cases_lt c n)

-- xs was the list, and is zs; its rest came back as new. Where calls keep to their own entries (Own), the rest is as at first
pub record Moved (Own : Type 0) {X : Type 0} (first xs zs new : List X) (next more want : ℕ) : Type 0 where
  pub front : take more zs ≡ take next xs ++ take want new
  pub back : drop more zs ≡ drop want new
  pub within : more ≤ length zs
  pub stays : want ≡ 0 → more ≡ next
  pub rest : Own → drop more zs ≡ drop more first

module _ (Own : Type 0) {X : Type 0} (first xs new : List X) (next k want : ℕ) (within : next ≤ length xs) (same : Own → drop next xs ≡ drop next first)
    (long : length new ≡ length (take (length xs - next) (drop next xs))) (taken : k ≡ min want (length (put_mid next (length xs - next) xs new) - next))
    (rest : Own → drop want new ≡ drop want (take (length xs - next) (drop next xs))) where
  zs : List X
  zs = put_mid next (length xs - next) xs new

  whole : zs ≡ take next xs ++ new
  unfolding zs
  whole =
      ap (λ l. take next xs ++ (new ++ l)) (drop_all (length xs - next) (drop next xs) (let e = length-drop next xs in omega arith))
      ∙ ap (λ l. take next xs ++ l) (append-nil new)

  long_new : length new ≡ length xs - next
  long_new = long ∙ ap length (take_rest xs next) ∙ length-drop next xs

  few : k ≡ min want (length xs - next)
  few = taken ∙ ap (λ m. min want (m - next)) (same_len_mid next (length xs - next) xs new long)

  back : drop (next + k) zs ≡ drop k new
  back = ap (drop (next + k)) whole ∙ sym (drop-drop k next (take next xs ++ new)) ∙ ap (drop k) (drop_at (take next xs) new next (length-take-le next xs within))

  front : take (next + k) zs ≡ take next xs ++ take k new
  front = ap (take (next + k)) whole ∙ ap (λ m. take (m + k) (take next xs ++ new)) (sym (length-take-le next xs within)) ∙ take-append-add (take next xs) new k

  pub moved : Moved Own first xs (put_mid next (length xs - next) xs new) new next (next + k) want
  unfolding zs
  moved =
      let enough = drop_min new want (length xs - next) k (sym long_new) few in
      record {
        front = front ∙ ap (λ l. take next xs ++ l) (take_min new want (length xs - next) k (sym long_new) few);
        back = back ∙ enough;
        within = (let a = ap length whole in let b = length-append (take next xs) new in let d = length-take-le next xs within in let e = long_new in omega arith);
        stays = λ none. (let e = few in omega arith);
        rest = λ own.
            back ∙ enough ∙ rest own ∙ ap (drop want) (take_rest xs next) ∙ sym (drop_min (drop next xs) want (length xs - next) k (sym (length-drop next xs)) few)
            ∙ ap (drop k) (same own) ∙ drop-drop k next first;
      }

-- ---- calls that are kept apart, each with entries of its own, or are lent the whole lists

-- a flag, as a test
abbrev pub apart : ℕ → Bool
apart flag = not (eqb flag 0)

pub apart_on : (flag : ℕ) → 0 < flag → apart flag ≡ true
apart_on flag h = ap not (ne_eqb flag 0 (λ e. omega arith))

pub apart_off : (flag : ℕ) → flag ≡ 0 → apart flag ≡ false
apart_off flag e = ap apart e

-- how many entries a call that writes n of them has for itself
abbrev pub own : Bool → ℕ → ℕ
own apart n = cond apart n 0

pub own_rest : {X : Type 0} (apart : Bool) (n : ℕ) (xs ys : List X) → drop n xs ≡ drop n ys → apart ≡ true → drop (own apart n) xs ≡ drop (own apart n) ys
own_rest apart n xs ys e is = subst (λ b. drop (own b n) xs ≡ drop (own b n) ys) (sym is) e

-- the calls so far; hs and rows are what they have for themselves
abbrev pub LentSoFar : Bool → Ops → ℕ → List Line → State → List Call → List Told → Run → List ℕ → List Checked → State → Type 0
LentSoFar true o work ls s cs ts run hs rows t = ReplayedFrom o work ls s cs ts run hs rows t
LentSoFar false o work ls s cs ts run hs rows t = ReplayedOver o work ls s cs ts run t

lent_none : (apart : Bool) (o : Ops) (work : ℕ) (ls : List Line) (s : State) → LentSoFar apart o work ls s [] [] [] [] [] s
lent_none true o work ls s = none
lent_none false o work ls s = no_call

lent_more : (apart : Bool) (o : Ops) (work : ℕ) (ls : List Line) (s t : State) (cs : List Call) (ts : List Told) (run : Run) (hs : List ℕ) (rows : List Checked) (u : Store) (R : Pairs) (hs' : List ℕ) (fs' : List Checked) (c : Call) (a : Told) (e : Event)
    → LentSoFar apart o work ls s cs ts run hs rows t → MadeBetween o work ls t c a e (state u R hs' fs')
    → LentSoFar apart o work ls s (cs ++ c ∷ []) (ts ++ a ∷ []) (e ∷ run)
    (hs ++ take (own apart (handles_for ls c)) hs') (rows ++ take (own apart (rows_for ls c)) fs') (state u R (drop (own apart (handles_for ls c)) hs') (drop (own apart (rows_for ls c)) fs'))
lent_more true o work ls s t cs ts run hs rows u R hs' fs' c a e before made = more c a e before made
lent_more false o work ls s t cs ts run hs rows u R hs' fs' c a e before made = one_call c a e before made

-- the first i calls are made
pub record Running (apart : Bool) (o : Ops) (room n work : ℕ) (ls : List Line) (cs : List Call) (hs₀ : List ℕ) (fs₀ : List Checked) (old : List Told)
    (t : Store) (Q : Pairs) (hs : List ℕ) (fs : List Checked) (new : List Told) (i next row : ℕ) : Type 0 where
  pub memo : Pairs
  pub emptied : NoPairs memo
  pub run : Run
  pub replayed : LentSoFar apart o work ls (state (store n []) memo hs₀ fs₀) (take i cs) (take i new) run (take next hs) (take row fs) (state t Q (drop next hs) (drop row fs))
  pub kept : Kept o room run t Q
  pub inputs : t.inputs ≡ n
  pub rest : drop i new ≡ drop i old
  pub next_in : next ≤ length hs
  pub row_in : row ≤ length fs
  pub handles : apart ≡ true → drop next hs ≡ drop next hs₀
  pub found : apart ≡ true → drop row fs ≡ drop row fs₀
  pub whole : apart ≡ false → (next ≡ 0) × (row ≡ 0)

pub running_none : (apart : Bool) (o : Ops) (room n work : ℕ) (ls : List Line) (cs : List Call) (t : Store) (Q : Pairs) (hs : List ℕ) (fs : List Checked) (old : List Told)
    → Kept o room [] t Q → t ≡ store n [] → NoPairs Q → Running apart o room n work ls cs hs fs old t Q hs fs old 0 0 0
running_none apart o room n work ls cs t Q hs fs old kept is emptied =
    record {
      memo = Q;
      emptied = emptied;
      run = [];
      replayed = subst (λ s. LentSoFar apart o work ls (state (store n []) Q hs fs) [] [] [] [] [] (state s Q hs fs)) (sym is) (lent_none apart o work ls (state (store n []) Q hs fs));
      kept = kept;
      inputs = ap (λ s. s.inputs) is;
      rest = refl;
      next_in = omega arith;
      row_in = omega arith;
      handles = λ _. refl;
      found = λ _. refl;
      whole = λ _. (refl, refl);
    }

module _ {apart : Bool} {o : Ops} {room n work : ℕ} {ls : List Line} {cs : List Call} {hs₀ : List ℕ} {fs₀ : List Checked} {old : List Told}
    {t : Store} {Q : Pairs} {hs : List ℕ} {fs : List Checked} {new : List Told} {i next row : ℕ} where
  -- the call made on what is left of the lists, which come back as hs' and fs'
  pub running_more : Running apart o room n work ls cs hs₀ fs₀ old t Q hs fs new i next row
      → (c : Call) (a : Told) → i < length cs → i < length new → c ≡ get_or cs i c
      → {u : Store} {R : Pairs} {hs' hsN : List ℕ} {fs' fsN : List Checked} {next' row' : ℕ}
      → u.inputs ≡ t.inputs
      → Moved (apart ≡ true) hs₀ hs hsN hs' next next' (own apart (handles_for ls c)) → Moved (apart ≡ true) fs₀ fs fsN fs' row row' (own apart (rows_for ls c))
      → {rows : ℕ} → rows ≡ work → Called o room rows ls (state t Q (take (length hs - next) (drop next hs)) (take (length fs - row) (drop row fs))) c a (state u R hs' fs')
      → Running apart o room n work ls cs hs₀ fs₀ old u R hsN fsN (set new i a) (i + 1) next' row'
  running_more running c a h k here {u} {R} {hs'} {hsN} {fs'} {fsN} {next'} {row'} inputs handles found {rows} same lent =
      let called : Called o room work ls (state t Q (drop next hs) (drop row fs)) c a (state u R hs' fs') =
      subst (λ m. Called o room m ls (state t Q (drop next hs) (drop row fs)) c a (state u R hs' fs')) same
      (subst (λ z. Called o room rows ls (state t Q z (drop row fs)) c a (state u R hs' fs')) (take_rest hs next)
      (subst (λ z. Called o room rows ls (state t Q (take (length hs - next) (drop next hs)) z) c a (state u R hs' fs')) (take_rest fs row) lent)) in
      let e = called.0 in
      let start = state (store n []) running.memo hs₀ fs₀ in
      let hw = own apart (handles_for ls c) in
      let fw = own apart (rows_for ls c) in
      let made = lent_more apart o work ls start (state t Q (drop next hs) (drop row fs)) (take i cs) (take i new) running.run (take next hs) (take row fs) u R hs' fs' c a e running.replayed called.1 in
      record {
        memo = running.memo;
        emptied = running.emptied;
        run = e ∷ running.run;
        replayed =
            subst (λ z. LentSoFar apart o work ls start z (take (i + 1) (set new i a)) (e ∷ running.run) (take next' hsN) (take row' fsN) (state u R (drop next' hsN) (drop row' fsN)))
            (sym (take_more cs i c h ∙ ap (λ x. take i cs ++ x ∷ []) (sym here)))
            (subst (λ z. LentSoFar apart o work ls start (take i cs ++ c ∷ []) z (e ∷ running.run) (take next' hsN) (take row' fsN) (state u R (drop next' hsN) (drop row' fsN)))
            (sym (take_more_set new i a k))
            (subst (λ z. LentSoFar apart o work ls start (take i cs ++ c ∷ []) (take i new ++ a ∷ []) (e ∷ running.run) z (take row' fsN) (state u R (drop next' hsN) (drop row' fsN))) (sym handles.front)
            (subst (λ z. LentSoFar apart o work ls start (take i cs ++ c ∷ []) (take i new ++ a ∷ []) (e ∷ running.run) (take next hs ++ take hw hs') z (state u R (drop next' hsN) (drop row' fsN))) (sym found.front)
            (subst (λ z. LentSoFar apart o work ls start (take i cs ++ c ∷ []) (take i new ++ a ∷ []) (e ∷ running.run) (take next hs ++ take hw hs') (take row fs ++ take fw fs') (state u R z (drop row' fsN))) (sym handles.back)
            (subst (λ z. LentSoFar apart o work ls start (take i cs ++ c ∷ []) (take i new ++ a ∷ []) (e ∷ running.run) (take next hs ++ take hw hs') (take row fs ++ take fw fs') (state u R (drop hw hs') z)) (sym found.back)
            made)))));
        kept = called.2 running.run running.kept;
        inputs = inputs ∙ running.inputs;
        rest = drop-set-lt (i + 1) new i a (omega arith) ∙ sym (drop-drop 1 i new) ∙ ap (drop 1) running.rest ∙ drop-drop 1 i old;
        next_in = handles.within;
        row_in = found.within;
        handles = handles.rest;
        found = found.rest;
        whole = λ is. let w = running.whole is in (handles.stays (ap (λ b. own b (handles_for ls c)) is) ∙ w.0, found.stays (ap (λ b. own b (rows_for ls c)) is) ∙ w.1);
      }

  -- the same from what a call ensures, where it has entries of its own, and where it has none
  pub running_on : Running apart o room n work ls cs hs₀ fs₀ old t Q hs fs new i next row
      → (c : Call) (a : Told) → i < length cs → i < length new → c ≡ get_or cs i c
      → {u : Store} {R : Pairs} {hs' : List ℕ} {fs' : List Checked} → u.inputs ≡ t.inputs
      → length hs' ≡ length (take (length hs - next) (drop next hs)) → drop (handles_for ls c) hs' ≡ drop (handles_for ls c) (take (length hs - next) (drop next hs))
      → length fs' ≡ length (take (length fs - row) (drop row fs)) → drop (rows_for ls c) fs' ≡ drop (rows_for ls c) (take (length fs - row) (drop row fs))
      → {rows : ℕ} → rows ≡ work → Called o room rows ls (state t Q (take (length hs - next) (drop next hs)) (take (length fs - row) (drop row fs))) c a (state u R hs' fs')
      → (apart ≡ true → (k j : ℕ) → k ≡ min (handles_for ls c) (length (put_mid next (length hs - next) hs hs') - next) → j ≡ min (rows_for ls c) (length (put_mid row (length fs - row) fs fs') - row)
      → Running apart o room n work ls cs hs₀ fs₀ old u R (put_mid next (length hs - next) hs hs') (put_mid row (length fs - row) fs fs') (set new i a) (i + 1) (next + k) (row + j))
      × (apart ≡ false → Running apart o room n work ls cs hs₀ fs₀ old u R (put_mid next (length hs - next) hs hs') (put_mid row (length fs - row) fs fs') (set new i a) (i + 1) next row)
  running_on running c a h k here {u} {R} {hs'} {fs'} inputs long-h rest-h long-f rest-f {rows} same lent = (
    λ is m j em ej. step m j (em ∙ ap (λ b. min (own b (handles_for ls c)) (length (put_mid next (length hs - next) hs hs') - next)) (sym is)) (ej ∙ ap (λ b. min (own b (rows_for ls c)) (length (put_mid row (length fs - row) fs fs') - row)) (sym is)),
    λ is.
        let eh : own apart (handles_for ls c) ≡ 0 = ap (λ b. own b (handles_for ls c)) is in
        let ef : own apart (rows_for ls c) ≡ 0 = ap (λ b. own b (rows_for ls c)) is in
        subst (λ z. Running apart o room n work ls cs hs₀ fs₀ old u R (put_mid next (length hs - next) hs hs') (put_mid row (length fs - row) fs fs') (set new i a) (i + 1) z row) (add-zero next)
        (subst (λ z. Running apart o room n work ls cs hs₀ fs₀ old u R (put_mid next (length hs - next) hs hs') (put_mid row (length fs - row) fs fs') (set new i a) (i + 1) (next + 0) z) (add-zero row)
        (step 0 0 (omega arith) (omega arith))),
  )
    where
      step : (m j : ℕ) → m ≡ min (own apart (handles_for ls c)) (length (put_mid next (length hs - next) hs hs') - next) → j ≡ min (own apart (rows_for ls c)) (length (put_mid row (length fs - row) fs fs') - row)
          → Running apart o room n work ls cs hs₀ fs₀ old u R (put_mid next (length hs - next) hs hs') (put_mid row (length fs - row) fs fs') (set new i a) (i + 1) (next + m) (row + j)
      step m j em ej =
          running_more running c a h k here inputs
          (moved (apart ≡ true) hs₀ hs hs' next m (own apart (handles_for ls c)) running.next_in running.handles long-h em (own_rest apart (handles_for ls c) hs' (take (length hs - next) (drop next hs)) rest-h))
          (moved (apart ≡ true) fs₀ fs fs' row j (own apart (rows_for ls c)) running.row_in running.found long-f ej (own_rest apart (rows_for ls c) fs' (take (length fs - row) (drop row fs)) rest-f))
          same lent

-- a list holds what was taken, and is as before after it
split : {X : Type 0} (first xs : List X) (k : ℕ) → k ≤ length xs → drop k xs ≡ drop k first → xs ≡ take k xs ++ drop (length (take k xs)) first
split first xs k within same = sym (take-append-drop k xs) ∙ ap (λ l. take k xs ++ l) (same ∙ ap (λ m. drop m first) (sym (length-take-le k xs within)))

left : {X : Type 0} (first xs : List X) (k : ℕ) → k ≤ length xs → drop k xs ≡ drop k first → drop k xs ≡ drop (length (take k xs)) first
left first xs k within same = same ∙ ap (λ m. drop m first) (sym (length-take-le k xs within))

module _ {o : Ops} {room n work : ℕ} {ls : List Line} {cs : List Call} {old : List Told} {t : Store} {Q : Pairs} {hs : List ℕ} {fs : List Checked} {new : List Told} {i next row : ℕ} (s : State) where
  ran_from : Running true o room n work ls cs s.handles s.found old t Q hs fs new i next row → i ≡ length cs → RanFrom o room n work ls cs s (state t Q hs fs) old new
  ran_from running end =
      let start = state (store n []) running.memo s.handles s.found in
      let run = running.run in
      let taken = take next hs in
      let rows = take row fs in
      record {
        memo = running.memo;
        emptied = running.emptied;
        run = run;
        taken_handles = taken;
        taken_rows = rows;
        replayed =
            subst (λ k. ReplayedFrom o work ls start cs (take k new) run taken rows (state t Q (drop (length taken) s.handles) (drop (length rows) s.found))) end
            (subst (λ z. ReplayedFrom o work ls start z (take i new) run taken rows (state t Q (drop (length taken) s.handles) (drop (length rows) s.found))) (take_all i cs (omega arith))
            (subst (λ z. ReplayedFrom o work ls start (take i cs) (take i new) run taken rows (state t Q z (drop (length rows) s.found))) (left s.handles hs next running.next_in (running.handles refl))
            (subst (λ z. ReplayedFrom o work ls start (take i cs) (take i new) run taken rows (state t Q (drop next hs) z)) (left s.found fs row running.row_in (running.found refl))
            running.replayed)));
        handles = split s.handles hs next running.next_in (running.handles refl);
        rows = split s.found fs row running.row_in (running.found refl);
        rest = subst (λ k. drop k new ≡ drop k old) end running.rest;
        inputs = running.inputs;
        found = subst (λ m. Provided o m run → Found o m room t.used run) running.inputs (found_after o room run t Q running.kept);
        kept = running.kept;
      }

  ran_over : Running false o room n work ls cs s.handles s.found old t Q hs fs new i next row → i ≡ length cs → RanOver o room n work ls cs s (state t Q hs fs) old new
  ran_over running end =
      let start = state (store n []) running.memo s.handles s.found in
      let run = running.run in
      let none = running.whole refl in
      record {
        memo = running.memo;
        emptied = running.emptied;
        run = run;
        replayed =
            subst (λ k. ReplayedOver o work ls start cs (take k new) run (state t Q hs fs)) end
            (subst (λ z. ReplayedOver o work ls start z (take i new) run (state t Q hs fs)) (take_all i cs (omega arith))
            (subst (λ k. ReplayedOver o work ls start (take i cs) (take i new) run (state t Q (drop k hs) fs)) none.0
            (subst (λ k. ReplayedOver o work ls start (take i cs) (take i new) run (state t Q (drop next hs) (drop k fs))) none.1 running.replayed)));
        rest = subst (λ k. drop k new ≡ drop k old) end running.rest;
        inputs = running.inputs;
        found = subst (λ m. Provided o m run → Found o m room t.used run) running.inputs (found_after o room run t Q running.kept);
        kept = running.kept;
      }

-- all calls are made
pub running_all : (apart : Bool) {o : Ops} {room n work : ℕ} {ls : List Line} {cs : List Call} {old : List Told} {t : Store} {Q : Pairs} {hs : List ℕ} {fs : List Checked} {new : List Told} {i next row : ℕ} (s : State)
    → Running apart o room n work ls cs s.handles s.found old t Q hs fs new i next row → i ≡ length cs → length cs ≤ length old → n ≤ 60
    → ReplayLent apart o room n work ls cs s (state t Q hs fs) old new (Ok tt) × Ran o room n ls cs t old new
running_all true s running end fits small = let ran = ran_from s running end in ((fits, small, ran), ran_alone ran)
running_all false s running end fits small = let ran = ran_over s running end in (ran, ran_over_alone ran)

-- no call is made
module _ (o : Ops) (room n work : ℕ) (ls : List Line) (cs : List Call) (s t : State) (old : List Told) (same : t ≡ s) where
  pub lent_short : (apart : Bool) → length old < length cs → ReplayLent apart o room n work ls cs s t old old (Err ShortList)
  lent_short true h = (h, same, refl)
  lent_short false h = (same, refl)

  pub lent_refused : (apart : Bool) (f : TableFault) → length cs ≤ length old → start_refusal n ≡ Some f → ReplayLent apart o room n work ls cs s t old old (Err (Table f))
  lent_refused true f h e = (h, e, same, refl)
  lent_refused false f h e = (same, refl)

-- ---- lay and compare leave the number of inputs

pub laid_inputs : (o : Ops) (s t : Store) (P Q : Pairs) (rows : ℕ) (ls : List Line) (old new : List ℕ) (r : Result (Unit {0}) LayFault) → Laid o s t P Q rows ls old new r → t.inputs ≡ s.inputs
laid_inputs o s t P Q rows ls old new (Ok x) laid = laid.3.grows.inputs
laid_inputs o s t P Q rows ls old new (Err lays.ShortList) laid = ap (λ z. z.inputs) laid.1.table
laid_inputs o s t P Q rows ls old new (Err (lays.Table f)) laid = ap (λ z. z.inputs) laid.3.table
laid_inputs o s t P Q rows ls old new (Err (lays.Line e)) laid = laid.4.grows.inputs

line_inputs : (o : Ops) (s t : Store) (ls : List Line) (old new : List ℕ) (e : LayFault) → LineRefused o s t ls old new e → t.inputs ≡ s.inputs
line_inputs o s t ls old new lays.ShortList x = absurd x
line_inputs o s t ls old new (lays.Table f) x = absurd x
line_inputs o s t ls old new (lays.Line e) x = x.2.grows.inputs

pub compared_inputs : (o : Ops) (s t : Store) (P Q : Pairs) (rows : ℕ) (ls ms : List Line) (hs hs' : List ℕ) (cs cs' : List Checked) (r : Result ℕ CompareFault) → Compared o s t P Q rows ls ms hs hs' cs cs' r → t.inputs ≡ s.inputs
compared_inputs o s t P Q rows ls ms hs hs' cs cs' (Ok n) x = x.1.parts.2.inputs
compared_inputs o s t P Q rows ls ms hs hs' cs cs' (Err (compares.Counts f)) x = ap (λ z. z.inputs) x.1.table
compared_inputs o s t P Q rows ls ms hs hs' cs cs' (Err (compares.Table f)) x = ap (λ z. z.inputs) x.3.table
compared_inputs o s t P Q rows ls ms hs hs' cs cs' (Err (compares.First e)) x = line_inputs o s t _ _ _ e x.parts.0
compared_inputs o s t P Q rows ls ms hs hs' cs cs' (Err (compares.Second e)) x = line_inputs o s t _ _ _ e x.parts.1
compared_inputs o s t P Q rows ls ms hs hs' cs cs' (Err (compares.Pair e)) x = x.parts.2.0.inputs

-- ---- .. and the entries past their own

drop_on : {X : Type 0} (xs ys : List X) (k n : ℕ) → k ≤ n → drop k xs ≡ drop k ys → drop n xs ≡ drop n ys
drop_on xs ys k n h same =
    let e : k + (n - k) ≡ n = omega arith in
    subst (λ m. drop m xs ≡ drop m ys) e (sym (drop-drop (n - k) k xs) ∙ ap (drop (n - k)) same ∙ drop-drop (n - k) k ys)

pub laid_rest : (o : Ops) (s t : Store) (P Q : Pairs) (rows : ℕ) (ls : List Line) (old new : List ℕ) (r : Result (Unit {0}) LayFault) → Laid o s t P Q rows ls old new r → drop (length ls) new ≡ drop (length ls) old
laid_rest o s t P Q rows ls old new (Ok x) laid = laid.3.rest
laid_rest o s t P Q rows ls old new (Err lays.ShortList) laid = ap (drop (length ls)) laid.1.handles
laid_rest o s t P Q rows ls old new (Err (lays.Table f)) laid = ap (drop (length ls)) laid.3.handles
laid_rest o s t P Q rows ls old new (Err (lays.Line e)) laid = drop_on new old e.line (length ls) (let h = laid.2 in omega arith) laid.4.rest

module _ (o : Ops) (s t : Store) (P Q : Pairs) (rows : ℕ) (ls ms : List Line) (hs hs' : List ℕ) (cs cs' : List Checked) where
  abbrev Rests : Type 0
  Rests = (drop (length ls + length ms) hs' ≡ drop (length ls + length ms) hs) × (drop (out_count ls) cs' ≡ drop (out_count ls) cs)

  unchanged_rest : Unchanged s t P Q hs hs' cs cs' → Rests
  unchanged_rest x = (ap (drop (length ls + length ms)) x.handles, ap (drop (out_count ls)) x.found)

  pub compared_rest : (r : Result ℕ CompareFault) → Compared o s t P Q rows ls ms hs hs' cs cs' r → Rests
  compared_rest (Ok n) x = (x.1.handles_rest, x.1.found_rest)
  compared_rest (Err (compares.Counts f)) x = unchanged_rest x.1
  compared_rest (Err (compares.Table f)) x = unchanged_rest x.3
  compared_rest (Err (compares.First e)) x = (x.handles_rest, x.found_rest)
  compared_rest (Err (compares.Second e)) x = (x.handles_rest, x.found_rest)
  compared_rest (Err (compares.Pair e)) x = (x.handles_rest, x.found_rest)
