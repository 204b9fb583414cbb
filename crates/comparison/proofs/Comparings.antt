-- Two netlists laid one after the other, as one event. Assumes nothing.
use Rattle.std.proofs.Common.{◌≡◌, ℕ, ◌+◌, ◌-◌, ◌<◌, ◌≤◌, List, [], ◌∷◌, ◌++◌, map, length, take, drop, None, Ok, Err, Result, sym, refl, ap, ◌∙◌, subst, arith}
use borrow.Rule.Slice.PartMut.{put_mid, post_of}
use Rattle.netlist.proofs.TwoParts.{front_part, back_part, rest_part, second_length}
use Rattle.std.proofs.lemmas.List.{length-take-le, take_all, take_at, drop_at, drop-drop}
use Rattle.algebra.specs.Ops.{Ops}
use Rattle.algebra.specs.Laws.{Laws}
use Rattle.netlist.specs.declared.line.Line.{Line}
use Rattle.netlist.specs.Lines.{out_count}
use Rattle.netlist.specs.Faults.{first_fault}
use Rattle.netlist.specs.Counts.{Counts, CountsRefused}
use Rattle.netlist.specs.declared.fault.CountFault.{CountFault}
use Rattle.records.specs.Stores.{Store}
use Rattle.records.specs.Rules.{Well}
use Rattle.memo.specs.Memos.{Pairs}
use Rattle.records.specs.Changes.{Grows}
use Rattle.records.specs.Runs.{Answer, told, Run, lay, compare, Kept}
use Rattle.records.proofs.Adds.{grows_trans}
use Rattle.records.proofs.Laying.{kept_lay_none}
use Rattle.records.proofs.Comparing.{kept_laid}
use Rattle.faults.specs.declared.fault.LayFault.{LayFault}
use Rattle.faults.specs.declared.fault.LayFault.TheVariants.{ShortList as ShortLines, Table as OfTable, Line as AtLine}
use Rattle.faults.specs.declared.fault.CompareFault.{CompareFault}
use Rattle.faults.specs.declared.fault.CompareFault.TheVariants.{Counts as Uncounted, Table, First, Second, Pair}
use Rattle.laying.specs.Lays.{Laid, RefusedLine, lay_answers}
use Rattle.comparison.specs.Compares.{LineRefused, PartsCompared, parts_event, Unchanged, second_part, Begun, Compared, compare_event}
use Rattle.checking.specs.declared.checking.Checked.{Checked}

-- ---- a netlist that is laid where there is room

module _ (o : Ops) (s t : Store) (P Q : Pairs) (rows : ℕ) (ls : List Line) (old new : List ℕ) (long : length old ≡ length ls) (enough : s.inputs < rows) where
  pub laid_ok : (r : Result (Unit {0}) LayFault) → r ≡ Ok tt → Laid o s t P Q rows ls old new r → (first_fault o s.inputs 0 ls ≡ None) × Grows s t
  laid_ok r e laid = let l = subst (Laid o s t P Q rows ls old new) e laid in (l.2, l.3.grows)

  at_fault : (d : LayFault) → Laid o s t P Q rows ls old new (Err d) → LineRefused o s t ls old new d
  at_fault ShortLines laid = let h = laid.0 in omega arith
  at_fault (OfTable f) laid = let h = laid.1 in omega arith
  at_fault (AtLine e) laid = (laid.2, laid.3, laid.4)

  pub laid_refused : (r : Result (Unit {0}) LayFault) (d : LayFault) → r ≡ Err d → Laid o s t P Q rows ls old new r → LineRefused o s t ls old new d
  laid_refused r d e laid = at_fault d (subst (Laid o s t P Q rows ls old new) e laid)

-- told from an earlier table
pub refused_since : (o : Ops) (s t u : Store) (ls : List Line) (old new : List ℕ) → Grows s t → (d : LayFault) → LineRefused o t u ls old new d → LineRefused o s u ls old new d
refused_since o s t u ls old new grows ShortLines x = x
refused_since o s t u ls old new grows (OfTable f) x = x
refused_since o s t u ls old new grows (AtLine e) x =
    (x.0, subst (λ n. RefusedLine o n ls u (take e.line new) e.line e.fault) grows.inputs x.1, record { grows = grows_trans grows x.2.grows; rest = x.2.rest })

-- ---- the runs

-- all its handles are answers
pub answers_all : (ls : List Line) (hs : List ℕ) (r : Result (Unit {0}) LayFault) → r ≡ Ok tt → length hs ≡ length ls → lay_answers ls hs r ≡ map told hs
answers_all ls hs r e long = ap (lay_answers ls hs) e ∙ ap (map told) (take_all (length ls) hs (omega arith))

-- one netlist is an event with no line of the other
pub one_laid : {o : Ops} → Laws o → {s : Store} → Well s → (room : ℕ) (P : Pairs) (run : Run) (ls ms : List Line) (xs : List Answer) → Kept o room (lay ls xs ∷ run) s P → Kept o room (compare ls ms xs [] [] [] ∷ run) s P
one_laid laws w room P run ls ms xs kept = kept_laid laws w room P run ls ms xs [] (kept_lay_none laws w room P (lay ls xs ∷ run) ms kept)

-- no line of either
pub none_laid : {o : Ops} → Laws o → {s : Store} → Well s → (room : ℕ) (P : Pairs) (ls ms : List Line) (run : Run) → Kept o room run s P → Kept o room (compare ls ms [] [] [] [] ∷ run) s P
none_laid laws w room P ls ms run kept = one_laid laws w room P run ls ms [] (kept_lay_none laws w room P run ls kept)

-- the second netlist after the first, which is laid
pub two_laid : {o : Ops} → Laws o → {s t u : Store} → Well u → (room n : ℕ) → n ≡ room → (P Q R : Pairs) (ls ms : List Line) (hs : List ℕ) (xs ys : List Answer) → xs ≡ map told hs
    → ((run : Run) → Kept o room run s P → Kept o room (lay ls xs ∷ run) t Q)
    → ((run : Run) → Kept o n run t Q → Kept o n (lay ms ys ∷ run) u R)
    → (run : Run) → Kept o room run s P → Kept o room (compare ls ms (map told hs) ys [] [] ∷ run) u R
two_laid {o} laws {s} {t} {u} w room n same P Q R ls ms hs xs ys all first second run kept =
    kept_laid laws w room R run ls ms (map told hs) ys
    (subst (λ m. (run : Run) → Kept o m run t Q → Kept o m (lay ms ys ∷ run) u R) same second (lay ls (map told hs) ∷ run)
    (subst (λ z. Kept o room (lay ls z ∷ run) t Q) all (first run kept)))

-- ---- the handles of both netlists in one list

-- a first part of a list is written
module _ {X : Type 0} (a b k0 : ℕ) (xs u : List X) (e0 : k0 ≡ a) (lu : length u ≡ a) where
  pub front_first : take a (u ++ post_of 0 k0 xs) ≡ u
  front_first = take_at u (post_of 0 k0 xs) a lu

  pub after_first : drop a (u ++ post_of 0 k0 xs) ≡ drop a xs
  after_first = drop_at u (post_of 0 k0 xs) a lu ∙ ap (λ k. drop k xs) e0

  pub back_first : take b (drop a (u ++ post_of 0 k0 xs)) ≡ take b (drop a xs)
  back_first = ap (take b) after_first

  pub rest_first : drop (a + b) (u ++ post_of 0 k0 xs) ≡ drop (a + b) xs
  rest_first = sym (drop-drop b a (u ++ post_of 0 k0 xs)) ∙ ap (drop b) after_first ∙ drop-drop b a xs

-- both parts are written, the first as hs and the second as ks
pub record Parted (a b : ℕ) (xs hs ks mid whole : List ℕ) : Type 0 where
  pub long : length (take (a - 0) xs) ≡ a
  pub lu : length hs ≡ a
  pub old : take a xs ≡ take (a - 0) xs
  pub long2 : length (take (a + b - a) (drop a mid)) ≡ b
  pub lv : length ks ≡ b
  pub old2 : take b (drop a xs) ≡ take (a + b - a) (drop a mid)
  pub isl : take (a - 0) whole ≡ hs
  pub isr : take (a + b - a) (drop a whole) ≡ ks
  pub front : take a whole ≡ hs
  pub back : take b (drop a whole) ≡ ks
  pub rest : drop (a + b) whole ≡ drop (a + b) xs

pub parted : (a b : ℕ) (xs hs ks : List ℕ) → a + b ≤ length xs → length hs ≡ length (take (a - 0) xs) → length ks ≡ length (take (a + b - a) (drop a (hs ++ post_of 0 (a - 0) xs)))
    → Parted a b xs hs ks (hs ++ post_of 0 (a - 0) xs) (put_mid a (a + b - a) (hs ++ post_of 0 (a - 0) xs) ks)
parted a b xs hs ks enough first second =
    let mid = hs ++ post_of 0 (a - 0) xs in
    let whole = put_mid a (a + b - a) mid ks in
    let e0 : a - 0 ≡ a = omega arith in
    let e1 : a + b - a ≡ b = omega arith in
    let long : length (take (a - 0) xs) ≡ a = length-take-le (a - 0) xs (omega arith) ∙ e0 in
    let lu : length hs ≡ a = first ∙ long in
    let lv : length ks ≡ b = second_length a b (a - 0) (a + b - a) xs hs ks e0 e1 lu enough second in
    let isl = front_part a b (a - 0) (a + b - a) xs hs ks e0 e1 lu lv in
    let isr = back_part a b (a - 0) (a + b - a) xs hs ks e0 e1 lu lv in
    record {
      long = long;
      lu = lu;
      old = ap (λ k. take k xs) (sym e0);
      long2 = sym second ∙ lv;
      lv = lv;
      old2 = sym (back_first a b (a - 0) xs hs e0 lu) ∙ ap (λ k. take k (drop a mid)) (sym e1);
      isl = isl;
      isr = isr;
      front = ap (λ k. take k whole) (sym e0) ∙ isl;
      back = ap (λ k. take k (drop a whole)) (sym e1) ∙ isr;
      rest = rest_part a b (a - 0) (a + b - a) xs hs ks e0 e1 lu lv;
    }

-- the same of equal lists
pub parts_moved : (o : Ops) (s t : Store) (ls ms : List Line) (hs hs₁ hs' hs₁' ks ks₁ ks' ks₁' : List ℕ) (cs cs' : List Checked) (r : Result (Unit {0}) CompareFault)
    → hs ≡ hs₁ → hs' ≡ hs₁' → ks ≡ ks₁ → ks' ≡ ks₁' → PartsCompared o s t ls ms hs₁ hs₁' ks₁ ks₁' cs cs' r → PartsCompared o s t ls ms hs hs' ks ks' cs cs' r
parts_moved o s t ls ms hs hs₁ hs' hs₁' ks ks₁ ks' ks₁' cs cs' r a b c d x =
    subst (λ z. PartsCompared o s t ls ms z hs' ks ks' cs cs' r) (sym a)
    (subst (λ z. PartsCompared o s t ls ms hs₁ z ks ks' cs cs' r) (sym b)
    (subst (λ z. PartsCompared o s t ls ms hs₁ hs₁' z ks' cs cs' r) (sym c)
    (subst (λ z. PartsCompared o s t ls ms hs₁ hs₁' ks₁ z cs cs' r) (sym d) x)))

pub event_moved : (o : Ops) (room : ℕ) (t : Store) (Q : Pairs) (run : Run) (ls ms : List Line) (hs hs₁ ks ks₁ : List ℕ) (cs : List Checked) (r : Result (Unit {0}) CompareFault)
    → hs ≡ hs₁ → ks ≡ ks₁ → Kept o room (parts_event ls ms hs₁ ks₁ cs r ∷ run) t Q → Kept o room (parts_event ls ms hs ks cs r ∷ run) t Q
event_moved o room t Q run ls ms hs hs₁ ks ks₁ cs r a b x =
    subst (λ z. Kept o room (parts_event ls ms z ks cs r ∷ run) t Q) (sym a) (subst (λ z. Kept o room (parts_event ls ms hs₁ z cs r ∷ run) t Q) (sym b) x)

-- ---- the tests before the lines

module _ (o : Ops) (s : Store) (P : Pairs) (rows : ℕ) (ls ms : List Line) (hs : List ℕ) (cs : List Checked) where
  abbrev unchanged : Unchanged s s P P hs hs cs cs
  unchanged = record { table = refl; memo = refl; handles = refl; found = refl }

  pub counts_refused : (e : CountFault) → CountsRefused ls ms (length hs) (length cs) e → Compared o s s P P rows ls ms hs hs cs cs (Err (Uncounted e))
  counts_refused e x = (x, unchanged)

pub begun_refused : (o : Ops) (s t : Store) (P Q : Pairs) (rows : ℕ) (ls ms : List Line) (hs hs' : List ℕ) (cs cs' : List Checked) (e : CompareFault)
    → Begun o s t rows ls ms hs hs' cs cs' (Err e) → Compared o s t P Q rows ls ms hs hs' cs cs' (Err e)
begun_refused o s t P Q rows ls ms hs hs' cs cs' (Uncounted f) x = absurd x.parts
begun_refused o s t P Q rows ls ms hs hs' cs cs' (Table f) x = absurd x.parts
begun_refused o s t P Q rows ls ms hs hs' cs cs' (First e) x = x
begun_refused o s t P Q rows ls ms hs hs' cs cs' (Second e) x = x
begun_refused o s t P Q rows ls ms hs hs' cs cs' (Pair e) x = x

-- ---- the rows for the pairs, in front of a list

module _ (o : Ops) (s t : Store) (rows : ℕ) (ls ms : List Line) (hs hs' : List ℕ) (cs ds : List Checked) (k : ℕ) (is : k ≡ out_count ls) (long : length ds ≡ length (take k cs)) (counted : Counts ls ms (length hs) (length cs)) where
  rows_long : length ds ≡ out_count ls
  rows_long = long ∙ length-take-le k cs (let h = counted.findings in omega arith) ∙ is

  pub rows_front : take (out_count ls) (ds ++ post_of 0 k cs) ≡ ds
  rows_front = front_first (out_count ls) 0 k cs ds is rows_long

  pub begun : (r : Result (Unit {0}) CompareFault) → s.inputs < rows
      → PartsCompared o s t ls ms (take (length ls) hs) (take (length ls) hs') (second_part ls ms hs) (second_part ls ms hs') (take k cs) ds r
      → drop (length ls + length ms) hs' ≡ drop (length ls + length ms) hs
      → Begun o s t rows ls ms hs hs' cs (ds ++ post_of 0 k cs) r
  begun r enough parts rest = record {
    counted = counted;
    enough = enough;
    parts =
        subst (λ z. PartsCompared o s t ls ms (take (length ls) hs) (take (length ls) hs') (second_part ls ms hs) (second_part ls ms hs') (take z cs) (take (out_count ls) (ds ++ post_of 0 k cs)) r) is
        (subst (λ z. PartsCompared o s t ls ms (take (length ls) hs) (take (length ls) hs') (second_part ls ms hs) (second_part ls ms hs') (take k cs) z r) (sym rows_front) parts);
    handles_rest = rest;
    found_rest = after_first (out_count ls) 0 k cs ds is rows_long;
  }

  pub rows_event_kept : (room : ℕ) (run : Run) (Q : Pairs) (r : Result (Unit {0}) CompareFault)
      → Kept o room (parts_event ls ms (take (length ls) hs') (second_part ls ms hs') ds r ∷ run) t Q
      → Kept o room (parts_event ls ms (take (length ls) hs') (second_part ls ms hs') (take (out_count ls) (ds ++ post_of 0 k cs)) r ∷ run) t Q
  rows_event_kept room run Q r = subst (λ z. Kept o room (parts_event ls ms (take (length ls) hs') (second_part ls ms hs') z r ∷ run) t Q) (sym rows_front)
