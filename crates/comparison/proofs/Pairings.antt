-- The pairs so far checked, and one pair on. Assumes nothing.
use Rattle.std.proofs.Common.{◌≡◌, ℕ, suc, ◌+◌, ◌<◌, ◌≤◌, true, false, not, cond, List, [], ◌∷◌, ◌++◌, map, length, get_or, take, drop, set, IfOk, Ok, Err, Result, sym, refl, ap, ◌∙◌, subst, ⊎_elim, arith}
use Rattle.std.proofs.lemmas.List.{length-take-le, length-map, length-drop, take_all, take_more_set, map_push, drop-set-lt, drop-drop, drop_more, get_or-drop, length-append, get_or_append_left, get_or-append-add}
use Rattle.std.proofs.lemmas.Bool.{cases_lt, eqb-true}
use Rattle.std.specs.List.{position_or_len}
use Rattle.algebra.specs.Ops.{Ops}
use Rattle.algebra.specs.Laws.{Laws}
use Rattle.netlist.specs.declared.line.Line.{Line}
use Rattle.netlist.specs.Signals.{joined}
use Rattle.netlist.specs.Lines.{is_out, outs, out_count}
use Rattle.netlist.specs.Findings.{finding}
use Rattle.netlist.proofs.OutLines.{outs_out, outs_all}
use Rattle.netlist.proofs.OutValues.{outs_length}
use Rattle.records.specs.declared.fault.TableFault.{TableFault}
use Rattle.records.specs.Stores.{Store, value}
use Rattle.records.specs.Rules.{Well, Sound}
use Rattle.memo.specs.Memos.{Pairs}
use Rattle.records.specs.Changes.{Grows}
use Rattle.records.specs.Faults.{join_refusal}
use Rattle.records.specs.Outcomes.{Shape, Meaning, TruePairs}
use Rattle.records.specs.Runs.{told, Run, compare, Kept}
use Rattle.records.proofs.Adds.{grows_refl, grows_trans}
use Rattle.records.proofs.Comparing.{Due, kept_pair, kept_refused_pair}
use Rattle.checking.specs.declared.checking.Checked.{Checked}
use Rattle.checking.specs.Checks.{handle_of}
use Rattle.laying.specs.Lays.{blank_line, TableRefuses}
use Rattle.comparison.specs.Compares.{row_handles, row_findings, no_pairs, pairs_event, PairsChecked}
use Rattle.laying.proofs.Lines.{outcome, join_refuses}
use Rattle.laying.proofs.Layings.{back_grows}

-- ---- the lines before the first OUT line

abbrev before : List Line → ℕ
before ls = position_or_len is_out ls

pub before_hit : (l : Line) (ls : List Line) → is_out l ≡ true → before (l ∷ ls) ≡ 0
before_hit l ls e = ap (λ b. cond (not b) (1 + before ls) 0) e

pub before_miss : (l : Line) (ls : List Line) → is_out l ≡ false → before (l ∷ ls) ≡ before ls + 1
before_miss l ls e = let one : 1 + before ls ≡ before ls + 1 = omega arith in ap (λ b. cond (not b) (1 + before ls) 0) e ∙ one

pub before_within : (ls : List Line) → 0 < out_count ls → before ls < length ls
unfolding out_count
before_within [] h = absurd (omega arith)
before_within (l ∷ ls) h =
    (elim (is_out l) as (λ b. 0 < cond b (suc (out_count ls)) (out_count ls) → cond (not b) (1 + before ls) 0 < suc (length ls)) [
      | true ↦ λ due. omega arith
      | false ↦ λ due. let rest = before_within ls due in omega arith
    ]) h

found_at : (ls : List Line) (d : Line) → before ls < length ls → is_out (get_or ls (before ls) d) ≡ true
found_at [] d = λ h. absurd (omega arith)
found_at (l ∷ ls) d =
    (elim (is_out l) as (λ b. is_out l ≡ b → cond (not b) (1 + before ls) 0 < suc (length ls) → is_out (get_or (l ∷ ls) (cond (not b) (1 + before ls) 0) d) ≡ true) [
      | true ↦ λ e h. e
      | false ↦ λ e h. let one : 1 + before ls ≡ suc (before ls) = omega arith in ap (λ n. is_out (get_or (l ∷ ls) n d)) one ∙ found_at ls d (omega arith)
    ]) refl

skips_at : (ls : List Line) (xs : List ℕ) → length xs ≡ length ls → outs ls xs ≡ outs (drop (before ls) ls) (drop (before ls) xs)
unfolding outs
skips_at [] xs e = refl
skips_at (l ∷ ls) [] e = absurd (omega arith)
skips_at (l ∷ ls) (x ∷ xs) e =
    let rest = skips_at ls xs (omega arith) in
    (elim (is_out l) as (λ b. is_out l ≡ b → cond b (x ∷ outs ls xs) (outs ls xs) ≡ outs (drop (cond (not b) (1 + before ls) 0) (l ∷ ls)) (drop (cond (not b) (1 + before ls) 0) (x ∷ xs))) [
      | true ↦ λ is. ap (λ b. cond b (x ∷ outs ls xs) (outs ls xs)) (sym is)
      | false ↦ λ is. let one : suc (before ls) ≡ 1 + before ls = omega arith in rest ∙ ap (λ n. outs (drop n (l ∷ ls)) (drop n (x ∷ xs))) one
    ]) refl

module _ (ls : List Line) (i k : ℕ) (is : k ≡ before (drop i ls)) where
  pub before_found : k < length (drop i ls) → is_out (get_or ls (i + k) blank_line) ≡ true
  before_found h =
      ap is_out (sym (get_or-drop i ls k blank_line)) ∙ ap (λ n. is_out (get_or (drop i ls) n blank_line)) is
      ∙ found_at (drop i ls) blank_line (omega arith)

  pub before_skips : (xs : List ℕ) → length xs ≡ length ls → outs (drop i ls) (drop i xs) ≡ outs (drop (i + k) ls) (drop (i + k) xs)
  before_skips xs e =
      skips_at (drop i ls) (drop i xs) (let a = length-drop i ls in let b = length-drop i xs in omega arith)
      ∙ ap (λ n. outs (drop n (drop i ls)) (drop n (drop i xs))) (sym is)
      ∙ ap (λ l. outs l (drop k (drop i xs))) (drop-drop k i ls)
      ∙ ap (outs (drop (i + k) ls)) (drop-drop k i xs)

-- ---- the OUT lines, one on

module _ (ls : List Line) (hs : List ℕ) (long : length hs ≡ length ls) (k x : ℕ) (h : k < out_count ls) (rest : outs (drop x ls) (drop x hs) ≡ drop k (outs ls hs)) where
  count : length (outs ls hs) ≡ out_count ls
  count = outs_length ls hs long

  -- there is one
  pub out_inside : x < length ls
  out_inside =
      ⊎_elim (λ y. y)
      (λ past. absurd
      (let none : [] ≡ drop k (outs ls hs) = sym (outs_all ls (drop x hs) x past) ∙ rest in
      let few = ap length none ∙ length-drop k (outs ls hs) in
      omega (arith, count)))
      (cases_lt x (length ls))

  module _ (out : is_out (get_or ls x blank_line) ≡ true) where
    both : get_or hs x 0 ∷ outs (drop (x + 1) ls) (drop (x + 1) hs) ≡ get_or (outs ls hs) k 0 ∷ drop (k + 1) (outs ls hs)
    both =
        sym (outs_out ls x blank_line out_inside hs 0 (omega (arith, out_inside)) (eqb-true (get_or ls x blank_line).kind 8 out))
        ∙ rest
        ∙ drop_more (outs ls hs) k 0 (omega (arith, count))

    pub out_here : get_or hs x 0 ≡ get_or (outs ls hs) k 0
    out_here = let e = both in cc

    pub out_more : outs (drop (x + 1) ls) (drop (x + 1) hs) ≡ drop (k + 1) (outs ls hs)
    out_more = let e = both in cc

-- before pair k there is an OUT line left
pub out_due : (ls : List Line) (hs : List ℕ) → length hs ≡ length ls → (k i : ℕ) → k < out_count ls → outs (drop i ls) (drop i hs) ≡ drop k (outs ls hs) → 0 < out_count (drop i ls)
out_due ls hs long k i h rest =
    let count = outs_length ls hs long in
    let here = outs_length (drop i ls) (drop i hs) (let a = length-drop i ls in let b = length-drop i hs in omega (arith, long)) in
    let left = ap length rest ∙ length-drop k (outs ls hs) in
    omega arith

-- the next OUT line from line i on is line x, which is the k-th
pub record OutAt (ls : List Line) (hs : List ℕ) (k x : ℕ) : Type 0 where
  pub inside : x < length ls
  pub here : get_or hs x 0 ≡ get_or (outs ls hs) k 0
  pub more : outs (drop (x + 1) ls) (drop (x + 1) hs) ≡ drop (k + 1) (outs ls hs)

pub out_at : (ls : List Line) (hs : List ℕ) → length hs ≡ length ls → (k i x : ℕ) → k < out_count ls → outs (drop i ls) (drop i hs) ≡ drop k (outs ls hs)
    → outs (drop i ls) (drop i hs) ≡ outs (drop x ls) (drop x hs) → is_out (get_or ls x blank_line) ≡ true → OutAt ls hs k x
out_at ls hs long k i x h rest skipped out =
    let here = sym skipped ∙ rest in
    let inside = out_inside ls hs long k x h here in
    record { inside = inside; here = out_here ls hs long k x h here out; more = out_more ls hs long k x h here out }

-- ---- the pairs so far

pub record Checking (o : Ops) (room : ℕ) (s t : Store) (P Q : Pairs) (ls ms : List Line) (hs ks : List ℕ) (old new : List Checked) (k i j : ℕ) : Type 0 where
  pub left_inside : i ≤ length ls
  pub right_inside : j ≤ length ms
  pub left_rest : outs (drop i ls) (drop i hs) ≡ drop k (outs ls hs)
  pub right_rest : outs (drop j ms) (drop j ks) ≡ drop k (outs ms ks)
  pub grows : Grows s t
  pub rest : drop k new ≡ drop k old
  pub kept : (run : Run) → Kept o room (no_pairs ls ms hs ks ∷ run) s P
      → Kept o room (compare ls ms (map told hs) (map told ks) (map told (row_handles (take k new))) (row_findings (take k new)) ∷ run) t Q

pub checking_none : (o : Ops) (room : ℕ) (s : Store) (P : Pairs) (ls ms : List Line) (hs ks : List ℕ) (old : List Checked) → Checking o room s s P P ls ms hs ks old old 0 0 0
checking_none o room s P ls ms hs ks old = record {
  left_inside = omega arith;
  right_inside = omega arith;
  left_rest = refl;
  right_rest = refl;
  grows = grows_refl s;
  rest = refl;
  kept = λ run kept. kept;
}

-- a pair is due: there are as many OUT lines on either side, and a row for it
pub record PairDue (ls ms : List Line) (hs ks : List ℕ) (new : List Checked) (k : ℕ) : Type 0 where
  pub left : length hs ≡ length ls
  pub right : length ks ≡ length ms
  pub even : out_count ms ≡ out_count ls
  pub inside : k < out_count ls
  pub rows : length new ≡ out_count ls

module _ (ls ms : List Line) (hs ks : List ℕ) (new : List Checked) (k : ℕ) (due : PairDue ls ms hs ks new k) where
  rows_count : length (row_handles (take k new)) ≡ k
  rows_count = length-map (take k new) (λ c. c.handle) ∙ length-take-le k new (let a = due.inside in let b = due.rows in omega arith)

  next_due : Due ls ms hs ks (row_handles (take k new))
  next_due = record { left = due.left; right = due.right; even = due.even; inside = let a = due.inside in let b = rows_count in omega arith }

module _ {o : Ops} (laws : Laws o) {room : ℕ} {s t : Store} {P Q : Pairs} {ls ms : List Line} {hs ks : List ℕ} {old new : List Checked} {k i j : ℕ} (checking : Checking o room s t P Q ls ms hs ks old new k i j) (due : PairDue ls ms hs ks new k) (w : Well t) (u : Store) (v : Well u) (fits : u.used ≤ room) (R : Pairs) (rows a b : ℕ) (a-is : a ≡ get_or (outs ls hs) k 0) (b-is : b ≡ get_or (outs ms ks) k 0) where
  a_at : a ≡ get_or (outs ls hs) (length (row_handles (take k new))) 0
  a_at = a-is ∙ ap (λ n. get_or (outs ls hs) n 0) (sym (rows_count ls ms hs ks new k due))

  b_at : b ≡ get_or (outs ms ks) (length (row_handles (take k new))) 0
  b_at = b-is ∙ ap (λ n. get_or (outs ms ks) n 0) (sym (rows_count ls ms hs ks new k due))

  -- one pair more
  pub checking_more : (x y : ℕ) → x < length ls → y < length ms → outs (drop (x + 1) ls) (drop (x + 1) hs) ≡ drop (k + 1) (outs ls hs) → outs (drop (y + 1) ms) (drop (y + 1) ks) ≡ drop (k + 1) (outs ms ks)
      → (c : Checked) → Shape t u Q R (join_refusal o t rows 9 a b) (Ok c.handle) → Meaning o room t u Q R (joined o 9 (value o t a) (value o t b)) (Ok c.handle)
      → (Sound o t → TruePairs o t Q → c.finding ≡ finding o t.inputs (value o t a) (value o t b))
      → Checking o room s u P R ls ms hs ks old (set new k c) (k + 1) (x + 1) (y + 1)
  checking_more x y x-in y-in left right c shape meaning found = record {
    left_inside = omega arith;
    right_inside = omega arith;
    left_rest = left;
    right_rest = right;
    grows = grows_trans checking.grows shape.grows;
    rest = drop-set-lt (k + 1) new k c (omega arith) ∙ sym (drop-drop 1 k new) ∙ ap (drop 1) checking.rest ∙ drop-drop 1 k old;
    kept = λ run kept.
        subst (λ z. Kept o room (compare ls ms (map told hs) (map told ks) (map told (row_handles z)) (row_findings z) ∷ run) u R) (sym more)
        (subst (λ z. Kept o room (compare ls ms (map told hs) (map told ks) z (row_findings (take k new ++ c ∷ [])) ∷ run) u R) (sym handles)
        (subst (λ z. Kept o room (compare ls ms (map told hs) (map told ks) (map told (row_handles (take k new)) ++ told c.handle ∷ []) z ∷ run) u R) (sym (map_push (λ d. d.finding) (take k new) c))
        (kept_pair laws w v fits Q R run (join_refusal o t rows 9 a b) ls ms hs ks (row_handles (take k new)) (row_findings (take k new)) (next_due ls ms hs ks new k due) a b a_at b_at c.handle c.finding shape meaning found (checking.kept run kept))));
  }
    where
      more : take (k + 1) (set new k c) ≡ take k new ++ c ∷ []
      more = take_more_set new k c (let p = due.inside in let q = due.rows in omega arith)

      handles : map told (row_handles (take k new ++ c ∷ [])) ≡ map told (row_handles (take k new)) ++ told c.handle ∷ []
      handles = ap (map told) (map_push (λ d. d.handle) (take k new) c) ∙ map_push told (row_handles (take k new)) c.handle

  -- a refused pair
  pub pair_refused : (f : TableFault) → Shape t u Q R (join_refusal o t rows 9 a b) (Err f) → Meaning o room t u Q R (joined o 9 (value o t a) (value o t b)) (Err f)
      → (run : Run) → Kept o room (no_pairs ls ms hs ks ∷ run) s P
      → Kept o room (pairs_event ls ms hs ks new (Err (record { pair = k; fault = f })) ∷ run) u R
  pair_refused f shape meaning run kept =
      kept_refused_pair laws w v fits Q R run (join_refusal o t rows 9 a b) ls ms hs ks (row_handles (take k new)) (row_findings (take k new)) (next_due ls ms hs ks new k due) a b a_at b_at f shape meaning (checking.kept run kept)

-- the same, from what a check answers
module _ {o : Ops} (laws : Laws o) {room : ℕ} {s t : Store} {P Q : Pairs} {ls ms : List Line} {hs ks : List ℕ} {old new : List Checked} {k i j : ℕ} (checking : Checking o room s t P Q ls ms hs ks old new k i j) (due : PairDue ls ms hs ks new k) (w : Well t) (u : Store) (v : Well u) (n : ℕ) (same : n ≡ room) (fits : u.used ≤ n) (R : Pairs) (rows x y : ℕ) (left : OutAt ls hs k x) (right : OutAt ms ks k y) where
  room_fits : u.used ≤ room
  room_fits = subst (λ m. u.used ≤ m) same fits

  pub checked_more : (c : Checked) (r : Result Checked TableFault) → r ≡ Ok c
      → Shape t u Q R (join_refusal o t rows 9 (get_or hs x 0) (get_or ks y 0)) (handle_of r)
      → Meaning o n t u Q R (joined o 9 (value o t (get_or hs x 0)) (value o t (get_or ks y 0))) (handle_of r)
      → (Sound o t → TruePairs o t Q → IfOk r (λ c. c.finding ≡ finding o t.inputs (value o t (get_or hs x 0)) (value o t (get_or ks y 0))))
      → Checking o room s u P R ls ms hs ks old (set new k c) (k + 1) (x + 1) (y + 1)
  checked_more c (Ok d) e shape meaning found =
      let is : d ≡ c = cc in
      subst (λ z. Checking o room s u P R ls ms hs ks old (set new k z) (k + 1) (x + 1) (y + 1)) is
      (checking_more laws checking due w u v room_fits R rows (get_or hs x 0) (get_or ks y 0) left.here right.here x y left.inside right.inside left.more right.more d shape
      (subst (λ m. Meaning o m t u Q R (joined o 9 (value o t (get_or hs x 0)) (value o t (get_or ks y 0))) (Ok d.handle)) same meaning) found)
  checked_more c (Err f) e shape meaning found = absurd (let z : ◌≡◌ {A = ℕ} 0 1 = cc in omega arith)

  pub checked_refused : (f : TableFault) (r : Result Checked TableFault) → r ≡ Err f
      → Shape t u Q R (join_refusal o t rows 9 (get_or hs x 0) (get_or ks y 0)) (handle_of r)
      → Meaning o n t u Q R (joined o 9 (value o t (get_or hs x 0)) (value o t (get_or ks y 0))) (handle_of r)
      → (run : Run) → Kept o room (no_pairs ls ms hs ks ∷ run) s P
      → Kept o room (pairs_event ls ms hs ks new (Err (record { pair = k; fault = f })) ∷ run) u R
  checked_refused f (Ok d) e shape meaning run kept = absurd (let z : ◌≡◌ {A = ℕ} 0 1 = cc in omega arith)
  checked_refused f (Err h) e shape meaning run kept =
      let is : h ≡ f = cc in
      subst (λ z. Kept o room (pairs_event ls ms hs ks new (Err (record { pair = k; fault = z })) ∷ run) u R) is
      (pair_refused laws checking due w u v room_fits R rows (get_or hs x 0) (get_or ks y 0) left.here right.here h shape
      (subst (λ m. Meaning o m t u Q R (joined o 9 (value o t (get_or hs x 0)) (value o t (get_or ks y 0))) (Err h)) same meaning) run kept)

  -- what a refused pair leaves
  pub refused_leaves : s.inputs < rows → (f : TableFault) (r : Result Checked TableFault) → r ≡ Err f
      → Shape t u Q R (join_refusal o t rows 9 (get_or hs x 0) (get_or ks y 0)) (handle_of r)
      → length old ≡ out_count ls → PairsChecked o s u (hs ++ ks) old new (Err (record { pair = k; fault = f }))
  refused_leaves enough f (Ok d) e shape count = absurd (let z : ◌≡◌ {A = ℕ} 0 1 = cc in omega arith)
  refused_leaves enough f (Err h) e shape count =
      let is : h ≡ f = cc in
      let long = length-append hs ks in
      let one : x < length hs = (let i = left.inside in omega arith) in
      let two : y < length ks = (let i = right.inside in omega arith) in
      let told =
      outcome o (hs ++ ks) t u Q R (join_refusal o t rows 9 (get_or hs x 0) (get_or ks y 0)) (Err h) shape
      (join_refuses o t (hs ++ ks) rows 9 x (length hs + y) (get_or hs x 0) (get_or ks y 0) (let g = checking.grows.inputs in omega arith) refl
      (omega arith) (sym (get_or_append_left hs ks 0 x one)) (omega arith) (sym (get_or-append-add hs ks y 0)))
      in
      (grows_trans checking.grows (back_grows told.0), (let d = due.inside in omega arith), subst (TableRefuses o u (hs ++ ks)) is told.1, checking.rest)

-- all pairs are checked
pub all_checked : {o : Ops} {room : ℕ} {s t : Store} {P Q : Pairs} {ls ms : List Line} {hs ks : List ℕ} {old new : List Checked} {k i j : ℕ} → Checking o room s t P Q ls ms hs ks old new k i j → length new ≤ k
    → (run : Run) → Kept o room (no_pairs ls ms hs ks ∷ run) s P → Kept o room (pairs_event ls ms hs ks new (Ok tt) ∷ run) t Q
all_checked {o} {room} {s} {t} {P} {Q} {ls} {ms} {hs} {ks} {old} {new} {k} checking end run kept =
    subst (λ z. Kept o room (compare ls ms (map told hs) (map told ks) (map told (row_handles z)) (row_findings z) ∷ run) t Q) (take_all k new end) (checking.kept run kept)
