-- What a list of calls on a started table comes to, call by call: each call's own contract between the states before and
-- after it, and its own handles and rows. Assumes nothing.
use Rattle.std.specs.Prelude.{◌≡◌, ℕ, ◌+◌, ◌<◌, ◌≤◌, Bool, true, false, List, [], ◌∷◌, ◌++◌, length, take, drop, Some, Ok, Err, Result}
use Rattle.algebra.specs.Ops.{Ops}
use Rattle.netlist.specs.declared.line.Line.{Line}
use Rattle.records.specs.declared.fault.TableFault.{TableFault}
use Rattle.netlist.specs.Lines.{out_count}
use Rattle.records.specs.Stores.{Store, store}
use Rattle.memo.specs.Memos.{Pairs, NoPairs}
use Rattle.records.specs.Faults.{start_refusal, input_refusal, constant_refusal, turn_refusal, join_refusal}
use Rattle.records.specs.Outcomes.{Shape}
use Rattle.records.specs.Runs as runs
use Rattle.records.specs.Runs.{Run, Event, Provided, Found, Kept, answer_of, given}
use Rattle.checking.specs.declared.checking.Checked.{Checked}
use Rattle.faults.specs.declared.fault.LayFault.{LayFault}
use Rattle.faults.specs.declared.fault.CompareFault.{CompareFault}
use Rattle.comparison.specs.declared.replaying.Span.{Span}
use Rattle.comparison.specs.declared.replaying.Call.{Call}
use Rattle.comparison.specs.declared.replaying.Call.TheVariants as calls
use Rattle.comparison.specs.declared.replaying.Told.{Told}
use Rattle.comparison.specs.declared.replaying.Told.TheVariants as tolds
use Rattle.comparison.specs.declared.replaying.ReplayFault.{ReplayFault}
use Rattle.comparison.specs.declared.replaying.ReplayFault.TheVariants.{ShortList, Table}
use Rattle.checking.specs.Checks.{handle_of, check_event}
use Rattle.laying.specs.Lays.{Laid, lay_answers}
use Rattle.comparison.specs.Compares.{Compared, compare_event}
use Rattle.comparison.specs.Replays.{span_of}

-- how many entries of the handle list and how many rows for findings a call takes, or as many as are left: a handle for each
-- of its lines, and a row for each OUT line of the first netlist
abbrev pub handles_for : List Line → Call → ℕ
handles_for ls (calls.Input i) = 0
handles_for ls (calls.Constant v) = 0
handles_for ls (calls.Turn x) = 0
handles_for ls (calls.Join k x y) = 0
handles_for ls (calls.Check x y) = 0
handles_for ls (calls.Lay a) = length (span_of ls a)
handles_for ls (calls.Compare a b) = length (span_of ls a) + length (span_of ls b)

abbrev pub rows_for : List Line → Call → ℕ
rows_for ls (calls.Input i) = 0
rows_for ls (calls.Constant v) = 0
rows_for ls (calls.Turn x) = 0
rows_for ls (calls.Join k x y) = 0
rows_for ls (calls.Check x y) = 0
rows_for ls (calls.Lay a) = 0
rows_for ls (calls.Compare a b) = out_count (span_of ls a)

-- a table, its memo, and the lists for handles and for findings, or what is left of them
pub record State : Type 0 where
  pub table : Store
  pub memo : Pairs
  pub handles : List ℕ
  pub found : List Checked

abbrev pub state : Store → Pairs → List ℕ → List Checked → State
state s P hs fs = record { table = s; memo = P; handles = hs; found = fs }

-- a call with `work` work rows between two states, what it was told, and its event: the call's own contract
pub data MadeBetween (o : Ops) (work : ℕ) (ls : List Line) : State → Call → Told → Event → State → Type 0 where
  input : {s t : Store} {P Q : Pairs} {hs : List ℕ} {fs : List Checked} (i : ℕ) (r : Result ℕ TableFault)
      → Shape s t P Q (input_refusal s i) r
      → MadeBetween o work ls (state s P hs fs) (calls.Input i) (tolds.Handle r) (runs.input i (answer_of r)) (state t Q hs fs)
  constant : {s : Store} {P : Pairs} {hs : List ℕ} {fs : List Checked} (v : ℕ) (r : Result ℕ TableFault)
      → ((R : Pairs) → Shape s s R R (constant_refusal o v) r)
      → MadeBetween o work ls (state s P hs fs) (calls.Constant v) (tolds.Handle r) (runs.constant v (answer_of r)) (state s P hs fs)
  turn : {s t : Store} {P Q : Pairs} {hs : List ℕ} {fs : List Checked} (x : ℕ) (r : Result ℕ TableFault)
      → Shape s t P Q (turn_refusal o s work x) r
      → MadeBetween o work ls (state s P hs fs) (calls.Turn x) (tolds.Handle r) (runs.turn (given o s x) (answer_of r)) (state t Q hs fs)
  join : {s t : Store} {P Q : Pairs} {hs : List ℕ} {fs : List Checked} (k x y : ℕ) (r : Result ℕ TableFault)
      → Shape s t P Q (join_refusal o s work k x y) r
      → MadeBetween o work ls (state s P hs fs) (calls.Join k x y) (tolds.Handle r) (runs.join k (given o s x) (given o s y) (answer_of r)) (state t Q hs fs)
  check : {s t : Store} {P Q : Pairs} {hs : List ℕ} {fs : List Checked} (x y : ℕ) (r : Result Checked TableFault)
      → Shape s t P Q (join_refusal o s work 9 x y) (handle_of r)
      → MadeBetween o work ls (state s P hs fs) (calls.Check x y) (tolds.Check r) (check_event o s x y r) (state t Q hs fs)
  lay : {s t : Store} {P Q : Pairs} {hs hs' : List ℕ} {fs : List Checked} (a : Span) (r : Result (Unit {0}) LayFault)
      → Laid o s t P Q work (span_of ls a) hs hs' r
      → MadeBetween o work ls (state s P hs fs) (calls.Lay a) (tolds.Lay r) (runs.lay (span_of ls a) (lay_answers (span_of ls a) hs' r)) (state t Q hs' fs)
  compare : {s t : Store} {P Q : Pairs} {hs hs' : List ℕ} {fs fs' : List Checked} (a b : Span) (r : Result ℕ CompareFault)
      → Compared o s t P Q work (span_of ls a) (span_of ls b) hs hs' fs fs' r
      → MadeBetween o work ls (state s P hs fs) (calls.Compare a b) (tolds.Compare r) (compare_event (span_of ls a) (span_of ls b) hs' fs' r) (state t Q hs' fs')

-- a call that is made, and that keeps the law of runs
abbrev pub Called : Ops → ℕ → ℕ → List Line → State → Call → Told → State → Type 0
Called o room work ls s c a t =
    (e : Event) × MadeBetween o work ls s c a e t × ((run : Run) → Kept o room run s.table s.memo → Kept o room (e ∷ run) t.table t.memo)

-- what is left after a call
abbrev pub past : List Line → Call → State → State
past ls c u = state u.table u.memo (drop (handles_for ls c) u.handles) (drop (rows_for ls c) u.found)

-- a list of calls from the state s, each on what the earlier ones left: what each was told, their run, the handles and the
-- rows that they took, in order, and the state after them
pub data ReplayedFrom (o : Ops) (work : ℕ) (ls : List Line) (s : State) : List Call → List Told → Run → List ℕ → List Checked → State → Type 0 where
  none : ReplayedFrom o work ls s [] [] [] [] [] s
  more : {cs : List Call} {ts : List Told} {run : Run} {hs : List ℕ} {fs : List Checked} {t u : State} (c : Call) (a : Told) (e : Event)
      → ReplayedFrom o work ls s cs ts run hs fs t → MadeBetween o work ls t c a e u
      → ReplayedFrom o work ls s (cs ++ c ∷ []) (ts ++ a ∷ []) (e ∷ run)
      (hs ++ take (handles_for ls c) u.handles) (fs ++ take (rows_for ls c) u.found) (past ls c u)

-- a list of calls from the state s, each on the whole lists as the earlier ones left them: what each was told, their run, and
-- the state after them
pub data ReplayedOver (o : Ops) (work : ℕ) (ls : List Line) (s : State) : List Call → List Told → Run → State → Type 0 where
  no_call : ReplayedOver o work ls s [] [] [] s
  one_call : {cs : List Call} {ts : List Told} {run : Run} {t u : State} (c : Call) (a : Told) (e : Event)
      → ReplayedOver o work ls s cs ts run t → MadeBetween o work ls t c a e u
      → ReplayedOver o work ls s (cs ++ c ∷ []) (ts ++ a ∷ []) (e ∷ run) u

-- the same from a start with n inputs on, where table, memo and lists were s before it and are t now
pub record RanOver (o : Ops) (room n work : ℕ) (ls : List Line) (cs : List Call) (s t : State) (old new : List Told) : Type 0 where
  -- the memo as the start left it
  pub memo : Pairs
  pub emptied : NoPairs memo
  pub run : Run
  pub replayed : ReplayedOver o work ls (state (store n []) memo s.handles s.found) cs (take (length cs) new) run t
  pub rest : drop (length cs) new ≡ drop (length cs) old
  pub inputs : t.table.inputs ≡ n
  -- provided each handle given to an accepted call was an answer since the start, the law holds; and calls may follow
  pub found : Provided o n run → Found o n room t.table.used run
  pub kept : Kept o room run t.table t.memo

-- the calls from a start with n inputs on, where table, memo and lists were s before it and are t now
pub record RanFrom (o : Ops) (room n work : ℕ) (ls : List Line) (cs : List Call) (s t : State) (old new : List Told) : Type 0 where
  -- the memo as the start left it
  pub memo : Pairs
  pub emptied : NoPairs memo
  pub run : Run
  -- the lists have what the calls took, in order, and are as before past that
  pub taken_handles : List ℕ
  pub taken_rows : List Checked
  pub replayed :
      ReplayedFrom o work ls (state (store n []) memo s.handles s.found) cs (take (length cs) new) run taken_handles taken_rows
      (state t.table t.memo (drop (length taken_handles) s.handles) (drop (length taken_rows) s.found))
  pub handles : t.handles ≡ taken_handles ++ drop (length taken_handles) s.handles
  pub rows : t.found ≡ taken_rows ++ drop (length taken_rows) s.found
  pub rest : drop (length cs) new ≡ drop (length cs) old
  pub inputs : t.table.inputs ≡ n
  -- provided each handle given to an accepted call was an answer since the start, the law holds; and calls may follow
  pub found : Provided o n run → Found o n room t.table.used run
  pub kept : Kept o room run t.table t.memo

abbrev pub ReplayCalls : Ops → ℕ → ℕ → ℕ → List Line → List Call → State → State → List Told → List Told → Result (Unit {0}) ReplayFault → Type 0
ReplayCalls o room n work ls cs s t old new (Ok _) = RanOver o room n work ls cs s t old new
ReplayCalls o room n work ls cs s t old new (Err f) = (t ≡ s) × (new ≡ old)

abbrev pub ReplayLeaves : Ops → ℕ → ℕ → ℕ → List Line → List Call → State → State → List Told → List Told → Result (Unit {0}) ReplayFault → Type 0
ReplayLeaves o room n work ls cs s t old new (Ok _) = (length cs ≤ length old) × (n ≤ 60) × RanFrom o room n work ls cs s t old new
ReplayLeaves o room n work ls cs s t old new (Err ShortList) = (length old < length cs) × (t ≡ s) × (new ≡ old)
ReplayLeaves o room n work ls cs s t old new (Err (Table f)) = (length cs ≤ length old) × (start_refusal n ≡ Some f) × (t ≡ s) × (new ≡ old)

-- .. as the calls are lent the lists: kept apart, or whole
abbrev pub ReplayLent : Bool → Ops → ℕ → ℕ → ℕ → List Line → List Call → State → State → List Told → List Told → Result (Unit {0}) ReplayFault → Type 0
ReplayLent true o room n work ls cs s t old new r = ReplayLeaves o room n work ls cs s t old new r
ReplayLent false o room n work ls cs s t old new r = ReplayCalls o room n work ls cs s t old new r
