-- The law of runs: what is found after every list of calls since a start. A run is told by the calls' arguments, the
-- handles that they answer and their refusals; never by the table's records. Assumes nothing.
use Rattle.std.specs.Prelude.{◌≡◌, ℕ, suc, ◌<◌, ◌≤◌, cond, List, [], ◌∷◌, ◌++◌, map, length, take, Ok, Err, Result, ◌==◌}
use Rattle.std.specs.List.{AllByRecursion}
use Rattle.algebra.specs.Ops.{Ops}
use Rattle.netlist.specs.declared.line.Line.{Line}
use Rattle.netlist.specs.declared.finding.Finding.{Finding}
use Rattle.netlist.specs.Signals as signals
use Rattle.netlist.specs.Signals.{Signal, Agree, turned, joined}
use Rattle.netlist.specs.Parts.{part_count}
use Rattle.netlist.specs.Lines.{line_signals, outs}
use Rattle.netlist.specs.Findings.{finding, zipped}
use Rattle.records.specs.declared.fault.TableFault.{TableFault}
use Rattle.records.specs.declared.fault.TableFault.TheVariants.{TooManyInputs, FewRows, NoSuchHandle, NoSuchInput, NoSuchCode, NoSuchOperator, NoSuchPattern, Full}
use Rattle.records.specs.Stores.{Store, handle, value}
use Rattle.records.specs.Rules.{Sound, Lawful}
use Rattle.memo.specs.Memos.{Pairs}
use Rattle.records.specs.Outcomes.{TruePairs}
use Rattle.records.specs.Counts.{PartIn}

-- What a single call, line or pair was told.
pub data Answer : Type 0 where
  -- accepted, with this handle
  told : ℕ → Answer
  -- every other test passed, and the table was full
  full : Answer
  -- another test refused it
  refused : Answer

-- A handle that was given, with its value on each pattern just before, as the call `value` answers it.
pub record Given : Type 0 where
  pub number : ℕ
  pub said : Signal

-- One call with its arguments and answers. Lay and compare have an answer for each line, and compare for each pair, up to
-- the refused one; compare has a finding for each pair that it kept.
pub data Event : Type 0 where
  input : ℕ → Answer → Event
  constant : ℕ → Answer → Event
  turn : Given → Answer → Event
  join : ℕ → Given → Given → Answer → Event
  check : Given → Given → Answer → List Finding → Event
  lay : List Line → List Answer → Event
  compare : List Line → List Line → List Answer → List Answer → List Answer → List Finding → Event

-- The calls since a start, the newest first.
abbrev pub Run : Type 0
Run = List Event

-- What a call answers a single result with.
abbrev pub answer_of : Result ℕ TableFault → Answer
answer_of (Ok h) = told h
answer_of (Err TooManyInputs) = refused
answer_of (Err FewRows) = refused
answer_of (Err NoSuchHandle) = refused
answer_of (Err NoSuchInput) = refused
answer_of (Err NoSuchCode) = refused
answer_of (Err NoSuchOperator) = refused
answer_of (Err NoSuchPattern) = refused
answer_of (Err Full) = full

abbrev pub given : Ops → Store → ℕ → Given
given o s h = record { number = h; said = value o s h }

-- The book: each answered handle with its signal, the newest first.
pub record Entry : Type 0 where
  pub number : ℕ
  pub signal : Signal

abbrev pub Book : Type 0
Book = List Entry

abbrev pub book_signals : Book → List Signal
book_signals b = map (λ e. e.signal) b

-- The signal last booked for a handle, or else what was said of it.
unfoldable pub signal_of : Book → Given → Signal
signal_of [] g = g.said
signal_of (e ∷ es) g = cond (e.number == g.number) e.signal (signal_of es g)

-- A single result, and what was told.
pub record Step : Type 0 where
  pub result : Signal
  pub answer : Answer

abbrev pub booked : Step → Book → Book
booked s b = elim s.answer [ told h ↦ record { number = h; signal = s.result } ∷ b | full ↦ b | refused ↦ b ]

-- The steps in their order.
unfoldable pub all_booked : List Step → Book → Book
all_booked [] b = b
all_booked (s ∷ ss) b = all_booked ss (booked s b)

abbrev pub step : Signal → Answer → Step
step s a = record { result = s; answer = a }

-- A handle of which something is booked.
unfoldable pub InBook : Book → Given → Type 0
InBook [] g = ⊥
InBook (e ∷ es) g = cond (e.number == g.number) (Unit {0}) (InBook es g)

abbrev pub IfTold : Answer → Type 0 → Type 0
IfTold (told h) P = P
IfTold full P = Unit {0}
IfTold refused P = Unit {0}

-- How many pairs a compare kept: those before the first that it was refused.
unfoldable pub kept_pairs : List Answer → ℕ
kept_pairs [] = 0
kept_pairs (told h ∷ xs) = suc (kept_pairs xs)
kept_pairs (full ∷ xs) = 0
kept_pairs (refused ∷ xs) = 0

-- Two booked handles are equal exactly when their signals agree on every pattern.
abbrev pub OneNumber : ℕ → Book → Type 0
OneNumber n b =
    AllByRecursion (λ e. AllByRecursion (λ f. (e.number ≡ f.number → Agree n e.signal f.signal) × (Agree n e.signal f.signal → e.number ≡ f.number)) b) b

module _ (o : Ops) (n : ℕ) where
  -- The single results of an event, in order.
  abbrev pub steps : Book → Event → List Step
  steps b (input i a) = step (signals.input n i) a ∷ []
  steps b (constant v a) = step (signals.constant v) a ∷ []
  steps b (turn g a) = step (turned o (signal_of b g)) a ∷ []
  steps b (join k g h a) = step (joined o k (signal_of b g) (signal_of b h)) a ∷ []
  steps b (check g h a fs) = step (joined o 9 (signal_of b g) (signal_of b h)) a ∷ []
  steps b (lay ls xs) = zipped step (line_signals o n ls) xs
  steps b (compare ls ms xs bs cs fs) =
      zipped step (line_signals o n ls) xs
      ++ (zipped step (line_signals o n ms) bs
      ++ zipped step (zipped (joined o 9) (outs ls (line_signals o n ls)) (outs ms (line_signals o n ms))) cs)

  unfoldable pub book : Run → Book
  book [] = []
  book (e ∷ es) = all_booked (steps (book es) e) (book es)

  abbrev pub GivesBooked : Book → Event → Type 0
  GivesBooked b (input i a) = Unit {0}
  GivesBooked b (constant v a) = Unit {0}
  GivesBooked b (turn g a) = IfTold a (InBook b g)
  GivesBooked b (join k g h a) = IfTold a (InBook b g × InBook b h)
  GivesBooked b (check g h a fs) = IfTold a (InBook b g × InBook b h)
  GivesBooked b (lay ls xs) = Unit {0}
  GivesBooked b (compare ls ms xs bs cs fs) = Unit {0}

  -- Provided that each handle given to an accepted call was an answer since the start ..
  unfoldable pub Provided : Run → Type 0
  Provided [] = Unit {0}
  Provided (e ∷ es) = GivesBooked (book es) e × Provided es

  -- .. a single step was told full exactly when the different parts of the signals booked just before it, with its own
  -- result's, outnumber the places,
  abbrev pub Judged : ℕ → Book → Step → Type 0
  Judged room b s = elim s.answer [
    | told h ↦ part_count o n (s.result ∷ book_signals b) ≤ room
    | full ↦ room < part_count o n (s.result ∷ book_signals b)
    | refused ↦ Unit {0}
  ]

  unfoldable pub AllJudged : ℕ → Book → List Step → Type 0
  AllJudged room b [] = Unit {0}
  AllJudged room b (s ∷ ss) = Judged room b s × AllJudged room (booked s b) ss

  -- each accepted check and each kept pair has the finding of its two signals,
  abbrev pub TrueFindings : Book → Event → Type 0
  TrueFindings b (input i a) = Unit {0}
  TrueFindings b (constant v a) = Unit {0}
  TrueFindings b (turn g a) = Unit {0}
  TrueFindings b (join k g h a) = Unit {0}
  TrueFindings b (check g h a fs) = IfTold a (fs ≡ finding o n (signal_of b g) (signal_of b h) ∷ [])
  TrueFindings b (lay ls xs) = Unit {0}
  TrueFindings b (compare ls ms xs bs cs fs) =
      (length fs ≡ kept_pairs cs)
      × (fs ≡ take (kept_pairs cs) (zipped (finding o n) (outs ls (line_signals o n ls)) (outs ms (line_signals o n ms))))

  unfoldable pub AllTrue : ℕ → Run → Type 0
  AllTrue room [] = Unit {0}
  AllTrue room (e ∷ es) = AllJudged room (book es) (steps (book es) e) × TrueFindings (book es) e × AllTrue room es

  -- each booked signal has one number, and the places in use are the different parts of the booked signals.
  pub record Found (room used : ℕ) (run : Run) : Type 0 where
    pub one_number : OneNumber n (book run)
    pub exact_places : used ≡ part_count o n (book_signals (book run))
    pub all_true : AllTrue room run

-- A booked handle is lawful and has its booked signal.
pub record Stands (o : Ops) (n : ℕ) (s : Store) (e : Entry) : Type 0 where
  pub lawful : Lawful o s e.number
  pub means : Agree n (value o s e.number) e.signal

-- What the calls rest on: the table is sound, the memo's pairs are true, the booked handles stand in the table, and every
-- place in use is a part of a booked signal.
pub record Holds (o : Ops) (n : ℕ) (b : Book) (s : Store) (P : Pairs) : Type 0 where
  pub sound : Sound o s
  pub pairs : TruePairs o s P
  pub handles : AllByRecursion (Stands o n s) b
  pub parts : (p : ℕ) → p < s.used → PartIn o n (book_signals b) (value o s (handle p))

-- What holds of a run, of the table and of the memo after it.
pub record Facts (o : Ops) (n room : ℕ) (run : Run) (s : Store) (P : Pairs) : Type 0 where
  pub holds : Holds o n (book o n run) s P
  pub found : Found o n room s.used run

abbrev pub Kept : Ops → ℕ → Run → Store → Pairs → Type 0
Kept o room run s P = Provided o s.inputs run → Facts o s.inputs room run s P
