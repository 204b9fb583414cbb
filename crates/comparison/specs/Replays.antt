-- What a list of calls on a started table comes to: a run of which the law holds. Assumes nothing.
use Rattle.std.specs.Prelude.{◌≡◌, ℕ, ◌<◌, ◌≤◌, List, [], ◌∷◌, ◌++◌, length, take, drop, Some, Ok, Err, Result}
use Rattle.algebra.specs.Ops.{Ops}
use Rattle.netlist.specs.declared.line.Line.{Line}
use Rattle.records.specs.declared.fault.TableFault.{TableFault}
use Rattle.records.specs.Stores.{Store}
use Rattle.memo.specs.Memos.{Pairs}
use Rattle.records.specs.Faults.{table_fault_number, start_refusal}
use Rattle.records.specs.Runs as runs
use Rattle.records.specs.Runs.{Run, Event, Given, Provided, Found, Kept, answer_of}
use Rattle.checking.specs.declared.checking.Checked.{Checked}
use Rattle.faults.specs.declared.fault.LayFault.{LayFault}
use Rattle.faults.specs.declared.fault.CompareFault.{CompareFault}
use Rattle.comparison.specs.declared.replaying.Span.{Span}
use Rattle.comparison.specs.declared.replaying.Call.{Call}
use Rattle.comparison.specs.declared.replaying.Call.TheVariants as calls
use Rattle.comparison.specs.declared.replaying.Told.{Told}
use Rattle.comparison.specs.declared.replaying.Told.TheVariants as tolds
use Rattle.comparison.specs.declared.replaying.ReplayFault.{ReplayFault}
use Rattle.comparison.specs.declared.replaying.ReplayFault.TheVariants.{ShortList, Table}
use Rattle.checking.specs.Checks.{handle_of, finding_of}
use Rattle.laying.specs.Lays.{lay_answers}
use Rattle.comparison.specs.Compares.{compare_event}

abbrev pub replay_fault_number : ReplayFault → ℕ
replay_fault_number ShortList = 27
replay_fault_number (Table f) = table_fault_number f

-- the lines of a span
abbrev pub span_of : List Line → Span → List Line
span_of ls s = take s.count (drop s.from ls)

-- the event of a call and what it was told. What is said of a given handle is the table's, and the answers of lines and pairs
-- are the handles and rows that the call left.
pub data Made (ls : List Line) : Call → Told → Event → Type 0 where
  input : (i : ℕ) (r : Result ℕ TableFault) → Made ls (calls.Input i) (tolds.Handle r) (runs.input i (answer_of r))
  constant : (v : ℕ) (r : Result ℕ TableFault) → Made ls (calls.Constant v) (tolds.Handle r) (runs.constant v (answer_of r))
  turn : (g : Given) (r : Result ℕ TableFault) → Made ls (calls.Turn g.number) (tolds.Handle r) (runs.turn g (answer_of r))
  join : (k : ℕ) (g h : Given) (r : Result ℕ TableFault) → Made ls (calls.Join k g.number h.number) (tolds.Handle r) (runs.join k g h (answer_of r))
  check : (g h : Given) (r : Result Checked TableFault) → Made ls (calls.Check g.number h.number) (tolds.Check r) (runs.check g h (answer_of (handle_of r)) (finding_of r))
  lay : (s : Span) (hs : List ℕ) (r : Result (Unit {0}) LayFault) → Made ls (calls.Lay s) (tolds.Lay r) (runs.lay (span_of ls s) (lay_answers (span_of ls s) hs r))
  compare : (s t : Span) (hs : List ℕ) (cs : List Checked) (r : Result ℕ CompareFault) → Made ls (calls.Compare s t) (tolds.Compare r) (compare_event (span_of ls s) (span_of ls t) hs cs r)

-- the run of a list of calls and what each was told
pub data Replayed (ls : List Line) : List Call → List Told → Run → Type 0 where
  none : Replayed ls [] [] []
  more : {cs : List Call} {ts : List Told} {run : Run} (c : Call) (t : Told) (e : Event) → Replayed ls cs ts run → Made ls c t e → Replayed ls (cs ++ c ∷ []) (ts ++ t ∷ []) (e ∷ run)

-- the calls' run: provided each handle given to an accepted call was an answer since the start, the law holds outright
pub record Ran (o : Ops) (room n : ℕ) (ls : List Line) (cs : List Call) (t : Store) (old new : List Told) : Type 0 where
  pub run : Run
  pub replayed : Replayed ls cs (take (length cs) new) run
  pub found : Provided o n run → Found o n room t.used run
  pub inputs : t.inputs ≡ n
  pub rest : drop (length cs) new ≡ drop (length cs) old

-- nothing is changed
pub record Unstarted (s t : Store) (P Q : Pairs) (old new : List Told) : Type 0 where
  pub table : t ≡ s
  pub memo : Q ≡ P
  pub told : new ≡ old

abbrev pub ReplayAnswer : Ops → ℕ → ℕ → List Line → List Call → Store → Store → Pairs → Pairs → List Told → List Told → Result (Unit {0}) ReplayFault → Type 0
ReplayAnswer o room n ls cs s t P Q old new (Ok _) = (length cs ≤ length old) × (n ≤ 60) × Ran o room n ls cs t old new
ReplayAnswer o room n ls cs s t P Q old new (Err ShortList) = (length old < length cs) × Unstarted s t P Q old new
ReplayAnswer o room n ls cs s t P Q old new (Err (Table f)) = (length cs ≤ length old) × (start_refusal n ≡ Some f) × Unstarted s t P Q old new
