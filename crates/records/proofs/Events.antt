-- Each call keeps the law of runs: from what it leaves and what its result means. Assumes nothing.
use Rattle.std.proofs.Common.{◌≡◌, ℕ, ◌≤◌, List, [], ◌∷◌, Option, Result, sym, refl, ap, ◌∙◌, subst, ap₂, arith}
use Rattle.algebra.specs.Ops.{Ops}
use Rattle.algebra.specs.Laws.{Laws}
use Rattle.netlist.specs.declared.finding.Finding.{Finding}
use Rattle.netlist.specs.Signals as signals
use Rattle.netlist.specs.Signals.{Signal, Agree, turned, joined}
use Rattle.netlist.specs.Parts.{concat, different, part_count}
use Rattle.netlist.specs.Findings.{finding}
use Rattle.records.specs.declared.fault.TableFault.{TableFault}
use Rattle.records.specs.Stores.{Store, value}
use Rattle.records.specs.Rules.{Well, Sound}
use Rattle.memo.specs.Memos.{Pairs, NoPairs}
use Rattle.records.specs.Outcomes.{Shape, TruePairs, Meaning}
use Rattle.records.specs.Runs.{Answer, told, full, refused, Event, input, constant, turn, join, check, Run, answer_of, given, Book, signal_of, step, IfTold, steps, book, GivesBooked, Provided, TrueFindings, AllTrue, Found, Holds, Facts, Kept}
use Rattle.records.proofs.Alike.{agree_refl}
use Rattle.records.proofs.Books.{signal_given, booked_once, places_counted}
use Rattle.records.proofs.Grades.{finding_agrees}
use Rattle.records.proofs.Stepping.{no_pairs_true, Stepped, one_step, inputs_kept, Walked, walked_one}

-- ---- a table just started

nothing_counted : (o : Ops) (n : ℕ) → part_count o n [] ≡ 0
unfolding part_count different concat
nothing_counted o n = refl

pub kept_start : (o : Ops) (room : ℕ) (s : Store) (Q : Pairs) → s.used ≡ 0 → NoPairs Q → Kept o room [] s Q
unfolding book AllTrue
kept_start o room s Q empty none provided = record {
  holds = record {
    sound = record {
      low = λ p u. absurd (omega arith);
      high = λ p u. absurd (omega arith);
      reached = λ p v u e. absurd (omega arith);
      reaches = λ p q u k. absurd (omega arith);
      plain = λ p q u alone first. absurd (omega arith);
    };
    pairs = no_pairs_true o s Q none;
    handles = tt;
    parts = λ p u. absurd (omega arith);
  };
  found = record { one_number = tt; exact_places = empty ∙ sym (nothing_counted o s.inputs); all_true = tt };
}

-- ---- one event more

-- what an event leaves: its steps were judged rightly, and its findings are true
pub record Leaves (o : Ops) (n room : ℕ) (b : Book) (e : Event) (t : Store) (Q : Pairs) : Type 0 where
  pub walked : Walked o n room b (steps o n b e) t Q
  pub findings : TrueFindings o n b e

pub facts_after : {o : Ops} → Laws o → {t : Store} → Well t → (room : ℕ) (run : Run) (e : Event) (Q : Pairs) → Leaves o t.inputs room (book o t.inputs run) e t Q → AllTrue o t.inputs room run → Facts o t.inputs room (e ∷ run) t Q
unfolding book AllTrue
facts_after laws w room run e Q leaves before = record {
  holds = leaves.walked.holds;
  found = record {
    one_number = booked_once laws w leaves.walked.holds;
    exact_places = sym (places_counted laws w leaves.walked.holds);
    all_true = (leaves.walked.judged, leaves.findings, before);
  };
}

pub kept_event : {o : Ops} → Laws o → {s t : Store} → Well t → (room : ℕ) (run : Run) (e : Event) (P Q : Pairs) → t.inputs ≡ s.inputs
    → (Holds o t.inputs (book o t.inputs run) s P → Leaves o t.inputs room (book o t.inputs run) e t Q)
    → Kept o room run s P → Kept o room (e ∷ run) t Q
unfolding Provided
kept_event {o} laws {s} {t} w room run e P Q inputs leaves kept provided =
    let facts = (subst (λ n. Provided o n run → Facts o n room run s P) (sym inputs) kept) provided.1 in
    facts_after laws w room run e Q (leaves facts.holds) facts.found.all_true

-- an event that goes on
pub kept_more : {o : Ops} → Laws o → {s t : Store} → Well t → (room : ℕ) (run : Run) (e f : Event) (P Q : Pairs) → t.inputs ≡ s.inputs
    → ((n : ℕ) (b : Book) → GivesBooked o n b f → GivesBooked o n b e)
    → (Leaves o t.inputs room (book o t.inputs run) e s P → Leaves o t.inputs room (book o t.inputs run) f t Q)
    → Kept o room (e ∷ run) s P → Kept o room (f ∷ run) t Q
unfolding Provided book AllTrue
kept_more {o} laws {s} {t} w room run e f P Q inputs gives leaves kept provided =
    let n = t.inputs in
    let facts = (subst (λ n. Provided o n (e ∷ run) → Facts o n room (e ∷ run) s P) (sym inputs) kept) (gives n (book o n run) provided.0, provided.1) in
    let all = facts.found.all_true in
    facts_after laws w room run f Q (leaves (record { walked = record { holds = facts.holds; judged = all.0 }; findings = all.1 })) all.2

-- ---- the single calls

module _ {o : Ops} (laws : Laws o) {s t : Store} (w : Well s) (v : Well t) {room : ℕ} (fits : t.used ≤ room) (P Q : Pairs) (run : Run) (refusal : Option TableFault) (r : Result ℕ TableFault) (shape : Shape s t P Q refusal r) where
  inputs : t.inputs ≡ s.inputs
  inputs = inputs_kept s t P Q refusal r shape

  -- the step of a result that is told by a signal
  stepped : (b : Book) (m result : Signal) → Meaning o room s t P Q m r → Holds o t.inputs b s P → Agree t.inputs m result → Stepped o t.inputs room b (step result (answer_of r)) t Q
  stepped b m result meaning holds same =
      one_step laws w v fits refusal m result r shape (meaning holds.sound holds.pairs) same holds

  pub kept_input : (i : ℕ) → Meaning o room s t P Q (signals.input s.inputs i) r → Kept o room run s P → Kept o room (input i (answer_of r) ∷ run) t Q
  kept_input i meaning =
      kept_event laws v room run (input i (answer_of r)) P Q inputs
      (λ holds. record {
        walked = walked_one (stepped _ (signals.input s.inputs i) (signals.input t.inputs i) meaning holds (λ p _. ap (λ n. signals.input n i p) (sym inputs)));
        findings = tt;
      })

  pub kept_constant : (c : ℕ) → Meaning o room s t P Q (signals.constant c) r → Kept o room run s P → Kept o room (constant c (answer_of r) ∷ run) t Q
  kept_constant c meaning =
      kept_event laws v room run (constant c (answer_of r)) P Q inputs
      (λ holds. record {
        walked = walked_one (stepped _ (signals.constant c) (signals.constant c) meaning holds (agree_refl t.inputs (signals.constant c)));
        findings = tt;
      })

  pub kept_turn : (x : ℕ) → Meaning o room s t P Q (turned o (value o s x)) r → Kept o room run s P → Kept o room (turn (given o s x) (answer_of r) ∷ run) t Q
  kept_turn x meaning =
      kept_event laws v room run (turn (given o s x) (answer_of r)) P Q inputs
      (λ holds. record {
        walked = walked_one (stepped _ (turned o (value o s x)) (turned o (signal_of b (given o s x))) meaning holds (λ p k. ap o.turn (signal_given o t.inputs s b x holds.handles p k)));
        findings = tt;
      })
    where
      b : Book
      b = book o t.inputs run

  joined_agrees : (b : Book) (k x y : ℕ) → Holds o t.inputs b s P → Agree t.inputs (joined o k (value o s x) (value o s y)) (joined o k (signal_of b (given o s x)) (signal_of b (given o s y)))
  joined_agrees b k x y holds p l =
      ap₂ (o.op k) (signal_given o t.inputs s b x holds.handles p l) (signal_given o t.inputs s b y holds.handles p l)

  pub kept_join : (k x y : ℕ) → Meaning o room s t P Q (joined o k (value o s x) (value o s y)) r → Kept o room run s P → Kept o room (join k (given o s x) (given o s y) (answer_of r) ∷ run) t Q
  kept_join k x y meaning =
      kept_event laws v room run (join k (given o s x) (given o s y) (answer_of r)) P Q inputs
      (λ holds. record {
        walked = walked_one (stepped b (joined o k (value o s x) (value o s y)) (joined o k (signal_of b (given o s x)) (signal_of b (given o s y))) meaning holds (joined_agrees b k x y holds));
        findings = tt;
      })
    where
      b : Book
      b = book o t.inputs run

  pub kept_check : (x y : ℕ) (fs : List Finding) → Meaning o room s t P Q (joined o 9 (value o s x) (value o s y)) r
      → (Sound o s → TruePairs o s P → IfTold (answer_of r) (fs ≡ finding o s.inputs (value o s x) (value o s y) ∷ []))
      → Kept o room run s P → Kept o room (check (given o s x) (given o s y) (answer_of r) fs ∷ run) t Q
  kept_check x y fs meaning found =
      kept_event laws v room run (check (given o s x) (given o s y) (answer_of r) fs) P Q inputs
      (λ holds. record {
        walked = walked_one (stepped b (joined o 9 (value o s x) (value o s y)) (joined o 9 (signal_of b (given o s x)) (signal_of b (given o s y))) meaning holds (joined_agrees b 9 x y holds));
        findings = if_told (answer_of r) (λ e. e ∙ ap (λ f. f ∷ []) (ap (λ n. finding o n (value o s x) (value o s y)) (sym inputs) ∙ finding_agrees o t.inputs (value o s x) (signal_of b (given o s x)) (value o s y) (signal_of b (given o s y)) (signal_given o t.inputs s b x holds.handles) (signal_given o t.inputs s b y holds.handles))) (found holds.sound holds.pairs);
      })
    where
      b : Book
      b = book o t.inputs run

      if_told : {A B : Type 0} (a : Answer) → (A → B) → IfTold a A → IfTold a B
      if_told (told h) f x = f x
      if_told full f x = tt
      if_told refused f x = tt

-- ---- where nothing changes

pub kept_same : (o : Ops) (room : ℕ) (run : Run) {s t : Store} {P Q : Pairs} → t ≡ s → Q ≡ P → Kept o room run s P → Kept o room run t Q
kept_same o room run {s} {t} {P} {Q} table memo kept = subst (λ x. Kept o room run x Q) (sym table) (subst (λ x. Kept o room run s x) (sym memo) kept)

-- ---- what is found

pub found_after : (o : Ops) (room : ℕ) (run : Run) (s : Store) (P : Pairs) → Kept o room run s P → Provided o s.inputs run → Found o s.inputs room s.used run
found_after o room run s P kept provided = (kept provided).found
