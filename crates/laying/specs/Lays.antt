-- What laying a line and a netlist answers and leaves. Assumes nothing.
use Rattle.std.specs.Prelude.{◌≡◌, ℕ, ◌+◌, ◌<◌, ◌≤◌, false, ◌⊎◌, List, [], ◌∷◌, ◌++◌, map, length, take, drop, Some, None, Ok, Err, Result, slice_index, slice_index_or}
use Rattle.algebra.specs.Ops.{Ops}
use Rattle.netlist.specs.declared.line.Line.{Line}
use Rattle.netlist.specs.Faults.{line_fault, first_fault}
use Rattle.records.specs.declared.fault.TableFault.{TableFault}
use Rattle.records.specs.declared.fault.TableFault.TheVariants.{FewRows, NoSuchHandle, Full}
use Rattle.records.specs.Stores.{Store}
use Rattle.records.specs.Rules.{lawful}
use Rattle.memo.specs.Memos.{Pairs}
use Rattle.records.specs.Changes.{Grows}
use Rattle.records.specs.Steps.{Back}
use Rattle.records.specs.Runs.{Answer, told, refused, Run, lay, answer_of, Kept}
use Rattle.faults.specs.declared.fault.LineReason.{LineReason}
use Rattle.faults.specs.declared.fault.LineReason.TheVariants.{Line as OfLine, Table as OfTable}
use Rattle.faults.specs.declared.fault.LayFault.{LayFault}
use Rattle.faults.specs.declared.fault.LayFault.TheVariants.{ShortList, Table, Line as AtLine}

-- what stands past the end of a list of lines
abbrev pub blank_line : Line
blank_line = record { kind = 0; first = 0; second = 0 }

-- one of the handles is not lawful, which no handle of a kept run is
abbrev pub Unlawful : Ops → Store → List ℕ → Type 0
Unlawful o t hs = (k : ℕ) × (k < length hs) × (lawful o t (slice_index hs k) ≡ false)

-- what the table may refuse a line with that passed its own tests, after lines with the handles hs: it is full; or, on a
-- table that was not started under the algebra, an earlier line's handle is not lawful
abbrev pub TableRefuses : Ops → Store → List ℕ → TableFault → Type 0
TableRefuses o t hs f = (f ≡ Full) ⊎ ((f ≡ NoSuchHandle) × Unlawful o t hs)

-- what a line was told
abbrev pub reason_answer : LineReason → Answer
reason_answer (OfLine f) = refused
reason_answer (OfTable f) = answer_of (Err f)

abbrev pub line_answer : Result ℕ LineReason → Answer
line_answer (Ok h) = told h
line_answer (Err f) = reason_answer f

-- line l, after lines with the handles hs: a run that was kept with the answers so far is kept with this one's
abbrev pub LineKept : Ops → ℕ → Store → Store → Pairs → Pairs → List ℕ → Line → Answer → Type 0
LineKept o room s t P Q hs l a =
    (run : Run) (ls : List Line) → length hs < length ls → l ≡ slice_index_or ls (length hs) l
    → Kept o room (lay ls (map told hs) ∷ run) s P → Kept o room (lay ls (map told hs ++ a ∷ []) ∷ run) t Q

-- what line k, after lines with the handles hs, answers and leaves
abbrev pub Lined : Ops → Store → Store → Pairs → Pairs → List ℕ → ℕ → Line → Result ℕ LineReason → Type 0
Lined o s t P Q hs k l (Ok h) = (line_fault o s.inputs k l ≡ None) × Grows s t
Lined o s t P Q hs k l (Err (OfLine f)) = (line_fault o s.inputs k l ≡ Some f) × (t ≡ s) × (Q ≡ P)
Lined o s t P Q hs k l (Err (OfTable f)) = (line_fault o s.inputs k l ≡ None) × Back s s.used t × TableRefuses o t hs f

-- what the lines of a netlist were told, up to a refused one
abbrev pub lay_answers : List Line → List ℕ → Result (Unit {0}) LayFault → List Answer
lay_answers ls hs (Ok _) = map told (take (length ls) hs)
lay_answers ls hs (Err ShortList) = []
lay_answers ls hs (Err (Table f)) = []
lay_answers ls hs (Err (AtLine e)) = map told (take e.line hs) ++ reason_answer e.fault ∷ []

-- why line k is refused: by its own tests, the first of the netlist's lines; or by the table, when it and the lines before
-- it passed theirs
abbrev pub RefusedLine : Ops → ℕ → List Line → Store → List ℕ → ℕ → LineReason → Type 0
RefusedLine o n ls t hs k (OfLine f) = first_fault o n 0 ls ≡ Some (record { line = k; fault = f })
RefusedLine o n ls t hs k (OfTable f) = (first_fault o n 0 ls ≡ first_fault o n (k + 1) (drop (k + 1) ls)) × TableRefuses o t hs f

-- the first k handles are written
pub record Written (s t : Store) (old new : List ℕ) (k : ℕ) : Type 0 where
  pub grows : Grows s t
  pub rest : drop k new ≡ drop k old

-- nothing is changed
pub record Untouched (s t : Store) (P Q : Pairs) (old new : List ℕ) : Type 0 where
  pub table : t ≡ s
  pub memo : Q ≡ P
  pub handles : new ≡ old

-- what laying ls under `rows` work rows answers and leaves: the tests in order, then line by line
abbrev pub Laid : Ops → Store → Store → Pairs → Pairs → ℕ → List Line → List ℕ → List ℕ → Result (Unit {0}) LayFault → Type 0
Laid o s t P Q rows ls old new (Ok _) =
    (length ls ≤ length old) × (s.inputs < rows) × (first_fault o s.inputs 0 ls ≡ None) × Written s t old new (length ls)
Laid o s t P Q rows ls old new (Err ShortList) = (length old < length ls) × Untouched s t P Q old new
Laid o s t P Q rows ls old new (Err (Table f)) = (length ls ≤ length old) × (rows ≤ s.inputs) × (f ≡ FewRows) × Untouched s t P Q old new
Laid o s t P Q rows ls old new (Err (AtLine e)) =
    (length ls ≤ length old) × (s.inputs < rows) × (e.line < length ls) × RefusedLine o s.inputs ls t (take e.line new) e.line e.fault × Written s t old new e.line
