-- A netlist so far laid, and one line on. Assumes nothing.
use Rattle.std.proofs.Common.{◌≡◌, ℕ, ◌+◌, ◌<◌, ◌≤◌, List, [], ◌∷◌, ◌++◌, map, length, get_or, take, drop, set, None, Err, sym, refl, ap, ◌∙◌, subst, arith}
use Rattle.std.proofs.lemmas.List.{length-take-le, take_more_set, map_push, drop-set-lt, drop-drop}
use Rattle.algebra.specs.Ops.{Ops}
use Rattle.algebra.specs.Laws.{Laws}
use Rattle.netlist.specs.declared.line.Line.{Line}
use Rattle.netlist.specs.Faults.{line_fault, first_fault}
use Rattle.netlist.proofs.FirstFaults.{fault_passed, fault_found, fault_none}
use Rattle.records.specs.Stores.{Store}
use Rattle.records.specs.Rules.{Well}
use Rattle.memo.specs.Memos.{Pairs}
use Rattle.records.specs.Changes.{Grows}
use Rattle.records.specs.Steps.{Back}
use Rattle.records.specs.Runs.{told, refused, Run, lay, Kept}
use Rattle.records.proofs.Adds.{grows_refl, grows_trans}
use Rattle.records.proofs.Laying.{kept_lay_none, kept_refused_line}
use Rattle.faults.specs.declared.fault.LineReason.{LineReason}
use Rattle.faults.specs.declared.fault.LineReason.TheVariants.{Line as OfLine, Table as OfTable}
use Rattle.faults.specs.declared.fault.LayFault.TheVariants.{Line as AtLine}
use Rattle.laying.specs.Lays.{LineKept, Lined, reason_answer, lay_answers, RefusedLine, Written}

-- the first k lines are laid
pub record Laying (o : Ops) (room : ℕ) (s t : Store) (P Q : Pairs) (ls : List Line) (old new : List ℕ) (k : ℕ) : Type 0 where
  pub inside : k ≤ length ls
  pub passed : first_fault o s.inputs 0 ls ≡ first_fault o s.inputs k (drop k ls)
  pub written : Written s t old new k
  pub kept : (run : Run) → Kept o room run s P → Kept o room (lay ls (map told (take k new)) ∷ run) t Q

pub laying_none : {o : Ops} → Laws o → {s : Store} → Well s → (room : ℕ) (P : Pairs) (ls : List Line) (old : List ℕ) → Laying o room s s P P ls old old 0
laying_none laws {s} w room P ls old = record {
  inside = omega arith;
  passed = refl;
  written = record { grows = grows_refl s; rest = refl };
  kept = λ run. kept_lay_none laws w room P run ls;
}

-- a line that its own tests refuse
pub refused_kept : {o : Ops} → Laws o → {s : Store} → Well s → {room : ℕ} → s.used ≤ room → (P : Pairs) (hs : List ℕ) (l : Line) → LineKept o room s s P P hs l refused
refused_kept laws w fits P hs l run ls h here = kept_refused_line laws w fits P run ls hs h

pub back_grows : {s t : Store} → Back s s.used t → Grows s t
back_grows back = record { inputs = back.inputs; more = let e = back.used in omega arith; same = back.same }

module _ {o : Ops} {room : ℕ} {s t : Store} {P Q : Pairs} {ls : List Line} {old new : List ℕ} {k : ℕ} (laying : Laying o room s t P Q ls old new k) (l : Line) (h : k < length ls) (here : l ≡ get_or ls k l) (long : length ls ≤ length new) (u : Store) (R : Pairs) where
  same_inputs : t.inputs ≡ s.inputs
  same_inputs = laying.written.grows.inputs

  count : length (take k new) ≡ k
  count = length-take-le k new (omega arith)

  -- the run, with one answer more
  answered : (a : _) → LineKept o room t u Q R (take k new) l a → (run : Run) → Kept o room run s P → Kept o room (lay ls (map told (take k new) ++ a ∷ []) ∷ run) u R
  answered a line run kept =
      line run ls (let e = count in omega arith) (here ∙ ap (λ i. get_or ls i l) (sym count)) (laying.kept run kept)

  -- one line more
  pub laying_more : (x : ℕ) → (line_fault o t.inputs k l ≡ None) × Grows t u → LineKept o room t u Q R (take k new) l (told x) → Laying o room s u P R ls old (set new k x) (k + 1)
  laying_more x lined line = record {
    inside = omega arith;
    passed = laying.passed ∙ fault_passed o s.inputs ls k l h here (ap (λ n. line_fault o n k l) (sym same_inputs) ∙ lined.0);
    written = record {
      grows = grows_trans laying.written.grows lined.1;
      rest = drop-set-lt (k + 1) new k x (omega arith) ∙ sym (drop-drop 1 k new) ∙ ap (drop 1) laying.written.rest ∙ drop-drop 1 k old;
    };
    kept = λ run kept.
        subst (λ ys. Kept o room (lay ls ys ∷ run) u R)
        (sym (ap (map told) (take_more_set new k x (omega arith)) ∙ map_push told (take k new) x))
        (answered (told x) line run kept);
  }

  -- a refused line
  pub line_refused : (f : LineReason) → Lined o t u Q R (take k new) k l (Err f) → RefusedLine o s.inputs ls u (take k new) k f × Written s u old new k
  line_refused (OfLine f) lined = (
    laying.passed ∙ fault_found o s.inputs ls k l f h here (ap (λ n. line_fault o n k l) (sym same_inputs) ∙ lined.0),
    subst (λ v. Written s v old new k) (sym lined.1) laying.written,
  )
  line_refused (OfTable f) lined = (
    (laying.passed ∙ fault_passed o s.inputs ls k l h here (ap (λ n. line_fault o n k l) (sym same_inputs) ∙ lined.0), lined.2),
    record { grows = grows_trans laying.written.grows (back_grows lined.1); rest = laying.written.rest },
  )

  pub refused_answered : (f : LineReason) → LineKept o room t u Q R (take k new) l (reason_answer f) → (run : Run) → Kept o room run s P
      → Kept o room (lay ls (lay_answers ls new (Err (AtLine (record { line = k; fault = f })))) ∷ run) u R
  refused_answered f line = answered (reason_answer f) line

-- all lines are laid
module _ {o : Ops} {room : ℕ} {s t : Store} {P Q : Pairs} {ls : List Line} {old new : List ℕ} {k : ℕ} (laying : Laying o room s t P Q ls old new k) (end : length ls ≤ k) where
  all : k ≡ length ls
  all = let i = laying.inside in omega arith

  pub laid_all : (first_fault o s.inputs 0 ls ≡ None) × Written s t old new (length ls)
  laid_all = (laying.passed ∙ fault_none o s.inputs ls k end, subst (Written s t old new) all laying.written)

  pub all_kept : (run : Run) → Kept o room run s P → Kept o room (lay ls (map told (take (length ls) new)) ∷ run) t Q
  all_kept run kept = subst (λ i. Kept o room (lay ls (map told (take i new)) ∷ run) t Q) all (laying.kept run kept)
