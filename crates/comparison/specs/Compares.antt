-- What checking pairs and comparing netlists answers and leaves. Assumes nothing.
use Rattle.std.specs.Prelude.{◌≡◌, ℕ, ◌+◌, ◌<◌, ◌≤◌, List, [], ◌∷◌, ◌++◌, map, length, take, drop, None, Ok, Err, Result}
use Rattle.algebra.specs.Ops.{Ops}
use Rattle.netlist.specs.declared.line.Line.{Line}
use Rattle.netlist.specs.declared.finding.Finding.{Finding}
use Rattle.netlist.specs.Lines.{out_count}
use Rattle.netlist.specs.Faults.{first_fault}
use Rattle.netlist.specs.Counts.{Counts, CountsRefused}
use Rattle.records.specs.declared.fault.TableFault.TheVariants.{FewRows}
use Rattle.records.specs.Stores.{Store}
use Rattle.memo.specs.Memos.{Pairs}
use Rattle.records.specs.Changes.{Grows}
use Rattle.records.specs.Runs.{Answer, told, Event, compare, answer_of}
use Rattle.checking.specs.declared.checking.Checked.{Checked}
use Rattle.faults.specs.declared.fault.PairRefusal.{PairRefusal}
use Rattle.faults.specs.declared.fault.LayFault.{LayFault}
use Rattle.faults.specs.declared.fault.LayFault.TheVariants.{ShortList as ShortLines, Table as OfTable, Line as AtLine}
use Rattle.faults.specs.declared.fault.CompareFault.{CompareFault}
use Rattle.faults.specs.declared.fault.CompareFault.TheVariants.{Counts as Uncounted, Table, First, Second, Pair}
use Rattle.laying.specs.Lays.{TableRefuses, RefusedLine, Written, lay_answers}

-- the handles and the findings of rows
abbrev pub row_handles : List Checked → List ℕ
row_handles cs = map (λ c. c.handle) cs

abbrev pub row_findings : List Checked → List Finding
row_findings cs = map (λ c. c.finding) cs

-- both netlists are laid, with the handles hs and ks, and the rows cs are checked
abbrev pub rows_event : List Line → List Line → List ℕ → List ℕ → List Checked → List Answer → Event
rows_event ls ms hs ks cs more = compare ls ms (map told hs) (map told ks) (map told (row_handles cs) ++ more) (row_findings cs)

-- .. and no pair yet
abbrev pub no_pairs : List Line → List Line → List ℕ → List ℕ → Event
no_pairs ls ms hs ks = compare ls ms (map told hs) (map told ks) [] []

-- .. and all pairs, or those before a refused one
abbrev pub pairs_event : List Line → List Line → List ℕ → List ℕ → List Checked → Result (Unit {0}) PairRefusal → Event
pairs_event ls ms hs ks cs (Ok _) = compare ls ms (map told hs) (map told ks) (map told (row_handles cs)) (row_findings cs)
pairs_event ls ms hs ks cs (Err e) =
    compare ls ms (map told hs) (map told ks) (map told (row_handles (take e.pair cs)) ++ answer_of (Err e.fault) ∷ []) (row_findings (take e.pair cs))

-- what checking all pairs of lines with the handles hs leaves: rows before a refused pair are written
abbrev pub PairsChecked : Ops → Store → Store → List ℕ → List Checked → List Checked → Result (Unit {0}) PairRefusal → Type 0
PairsChecked o s t hs old new (Ok _) = Grows s t
PairsChecked o s t hs old new (Err e) = Grows s t × (e.pair < length old) × TableRefuses o t hs e.fault × (drop e.pair new ≡ drop e.pair old)

-- the handles of the first netlist's lines are hs, those of the second's ks, and the pairs' rows are cs
abbrev pub parts_event : List Line → List Line → List ℕ → List ℕ → List Checked → Result (Unit {0}) CompareFault → Event
parts_event ls ms hs ks cs (Ok _) = pairs_event ls ms hs ks cs (Ok tt)
parts_event ls ms hs ks cs (Err (Uncounted f)) = compare ls ms [] [] [] []
parts_event ls ms hs ks cs (Err (Table f)) = compare ls ms [] [] [] []
parts_event ls ms hs ks cs (Err (First e)) = compare ls ms (lay_answers ls hs (Err e)) [] [] []
parts_event ls ms hs ks cs (Err (Second e)) = compare ls ms (map told hs) (lay_answers ms ks (Err e)) [] []
parts_event ls ms hs ks cs (Err (Pair e)) = pairs_event ls ms hs ks cs (Err e)

-- a netlist of which a line is refused
abbrev pub LineRefused : Ops → Store → Store → List Line → List ℕ → List ℕ → LayFault → Type 0
LineRefused o s t ls old new ShortLines = ⊥
LineRefused o s t ls old new (OfTable f) = ⊥
LineRefused o s t ls old new (AtLine e) = (e.line < length ls) × RefusedLine o s.inputs ls t (take e.line new) e.line e.fault × Written s t old new e.line

-- what comparing two netlists leaves, once the tests before the lines have passed: handles and rows before a refused line or
-- pair are written, and the others are as before
abbrev pub PartsCompared : Ops → Store → Store → List Line → List Line → List ℕ → List ℕ → List ℕ → List ℕ → List Checked → List Checked → Result (Unit {0}) CompareFault → Type 0
PartsCompared o s t ls ms hs hs' ks ks' cs cs' (Ok _) = (first_fault o s.inputs 0 ls ≡ None) × (first_fault o s.inputs 0 ms ≡ None) × Grows s t
PartsCompared o s t ls ms hs hs' ks ks' cs cs' (Err (Uncounted f)) = ⊥
PartsCompared o s t ls ms hs hs' ks ks' cs cs' (Err (Table f)) = ⊥
PartsCompared o s t ls ms hs hs' ks ks' cs cs' (Err (First e)) = LineRefused o s t ls hs hs' e × (ks' ≡ ks) × (cs' ≡ cs)
PartsCompared o s t ls ms hs hs' ks ks' cs cs' (Err (Second e)) = (first_fault o s.inputs 0 ls ≡ None) × LineRefused o s t ms ks ks' e × (cs' ≡ cs)
PartsCompared o s t ls ms hs hs' ks ks' cs cs' (Err (Pair e)) =
    (first_fault o s.inputs 0 ls ≡ None) × (first_fault o s.inputs 0 ms ≡ None) × PairsChecked o s t (hs' ++ ks') cs cs' (Err e)

-- nothing is changed
pub record Unchanged (s t : Store) (P Q : Pairs) (hs hs' : List ℕ) (cs cs' : List Checked) : Type 0 where
  pub table : t ≡ s
  pub memo : Q ≡ P
  pub handles : hs' ≡ hs
  pub found : cs' ≡ cs

-- the entries for the second netlist follow those for the first
abbrev pub second_part : List Line → List Line → List ℕ → List ℕ
second_part ls ms hs = take (length ms) (drop (length ls) hs)

-- the tests before the lines passed
pub record Begun (o : Ops) (s t : Store) (rows : ℕ) (ls ms : List Line) (hs hs' : List ℕ) (cs cs' : List Checked) (r : Result (Unit {0}) CompareFault) : Type 0 where
  pub counted : Counts ls ms (length hs) (length cs)
  pub enough : s.inputs < rows
  pub parts : PartsCompared o s t ls ms (take (length ls) hs) (take (length ls) hs') (second_part ls ms hs) (second_part ls ms hs') (take (out_count ls) cs) (take (out_count ls) cs') r
  pub handles_rest : drop (length ls + length ms) hs' ≡ drop (length ls + length ms) hs
  pub found_rest : drop (out_count ls) cs' ≡ drop (out_count ls) cs

-- what comparing answers and leaves: the tests in order, then the lines and the pairs
abbrev pub Compared : Ops → Store → Store → Pairs → Pairs → ℕ → List Line → List Line → List ℕ → List ℕ → List Checked → List Checked → Result ℕ CompareFault → Type 0
Compared o s t P Q rows ls ms hs hs' cs cs' (Ok n) = (n ≡ out_count ls) × Begun o s t rows ls ms hs hs' cs cs' (Ok tt)
Compared o s t P Q rows ls ms hs hs' cs cs' (Err (Uncounted f)) = CountsRefused ls ms (length hs) (length cs) f × Unchanged s t P Q hs hs' cs cs'
Compared o s t P Q rows ls ms hs hs' cs cs' (Err (Table f)) = Counts ls ms (length hs) (length cs) × (rows ≤ s.inputs) × (f ≡ FewRows) × Unchanged s t P Q hs hs' cs cs'
Compared o s t P Q rows ls ms hs hs' cs cs' (Err (First e)) = Begun o s t rows ls ms hs hs' cs cs' (Err (First e))
Compared o s t P Q rows ls ms hs hs' cs cs' (Err (Second e)) = Begun o s t rows ls ms hs hs' cs cs' (Err (Second e))
Compared o s t P Q rows ls ms hs hs' cs cs' (Err (Pair e)) = Begun o s t rows ls ms hs hs' cs cs' (Err (Pair e))

-- the event of a compare, from the handles hs and the rows cs that it left
abbrev pub without_count : Result ℕ CompareFault → Result (Unit {0}) CompareFault
without_count (Ok n) = Ok tt
without_count (Err e) = Err e

abbrev pub compare_event : List Line → List Line → List ℕ → List Checked → Result ℕ CompareFault → Event
compare_event ls ms hs cs r = parts_event ls ms (take (length ls) hs) (second_part ls ms hs) (take (out_count ls) cs) (without_count r)
