-- What reading a netlist from bytes into a list of lines comes to. Assumes nothing.
use Rattle.std.specs.Prelude.{◌≡◌, ℕ, ◌+◌, ◌*◌, ◌<◌, ◌≤◌, List, ◌++◌, length, take, drop, Ok, Err, Result}
use Rattle.std.specs.List.{AllByRecursion}
use Rattle.netlist.specs.declared.line.Line.{Line}
use Rattle.text.specs.declared.header.Header.{Header}
use Rattle.text.specs.declared.header.Values.{Values}
use Rattle.text.specs.declared.fault.RowFault.{RowFault}
use Rattle.text.specs.declared.fault.ReadFault.{ReadFault}
use Rattle.text.specs.declared.fault.ReadFault.TheVariants.{Head, TooManyLines, AtLine}
use Rattle.text.specs.Rows.{row_at}
use Rattle.text.specs.Faults.{FirstFailed}
use Rattle.text.specs.Netlists.{Readable, Writable, Allowed, HeadRow, HeadTest, LineTest, values_number, lines_text, netlist_text}

-- the text of a netlist stands in the bytes from a place on
pub record Stands (bytes : List ℕ) (from inputs values : ℕ) (lines : List Line) : Type 0 where
  pub text : take (25 * (length lines + 1)) (drop from bytes) ≡ netlist_text inputs values lines
  pub writable : Writable inputs values lines

-- a good HEAD row stands there, which counts so many lines, and after it the rows of the first ones
pub record Begins (bytes : List ℕ) (from count inputs values : ℕ) (lines : List Line) : Type 0 where
  pub head : HeadRow (row_at bytes from) count inputs values
  pub allowed : Allowed inputs values
  pub rows : take (25 * length lines) (drop (from + 25) bytes) ≡ lines_text 0 lines
  pub readable : AllByRecursion Readable lines

-- the list begins with these lines now, and its other entries are as before
pub record Filled (before after lines : List Line) : Type 0 where
  pub fits : length lines ≤ length before
  pub after_is : after ≡ lines ++ drop (length lines) before

-- accepted: the netlist stands there, and its lines are the first entries of the list
pub record Accepted (bytes : List ℕ) (from : ℕ) (before after : List Line) (header : Header) : Type 0 where
  pub lines : List Line
  pub counted : length lines ≡ header.lines
  pub stands : Stands bytes from header.inputs (values_number header.values) lines
  pub filled : Filled before after lines

-- there is no good HEAD row
pub record HeadRefused (bytes : List ℕ) (from : ℕ) (before after : List Line) (fault : RowFault) : Type 0 where
  pub failed : FirstFailed (HeadTest (row_at bytes from)) fault
  pub kept : after ≡ before

-- a good HEAD row counts more lines than the list holds
pub record TooMany (bytes : List ℕ) (from : ℕ) (before after : List Line) : Type 0 where
  pub count : ℕ
  pub inputs : ℕ
  pub values : ℕ
  pub head : HeadRow (row_at bytes from) count inputs values
  pub allowed : Allowed inputs values
  pub long : length before < count
  pub kept : after ≡ before

-- the row of the line that is due is refused; the lines before it are the first entries of the list
pub record LineRefused (bytes : List ℕ) (from : ℕ) (before after : List Line) (due : ℕ) (fault : RowFault) : Type 0 where
  pub count : ℕ
  pub inputs : ℕ
  pub values : ℕ
  pub lines : List Line
  pub begins : Begins bytes from count inputs values lines
  pub turn : length lines ≡ due
  pub counted : due < count
  pub room : count ≤ length before
  pub failed : FirstFailed (LineTest due (row_at bytes (from + 25 * (due + 1)))) fault
  pub filled : Filled before after lines

-- what is answered, with the list before and after
abbrev pub Reading : List ℕ → ℕ → List Line → List Line → Result Header ReadFault → Type 0
Reading bytes from before after (Ok header) = Accepted bytes from before after header
Reading bytes from before after (Err (Head fault)) = HeadRefused bytes from before after fault
Reading bytes from before after (Err TooManyLines) = TooMany bytes from before after
Reading bytes from before after (Err (AtLine due fault)) = LineRefused bytes from before after due fault

-- the answer, that no other answer would do, and that every netlist which stands there, and that the list has room for, is
-- read
pub record Reads (bytes : List ℕ) (from : ℕ) (before after : List Line) (r : Result Header ReadFault) : Type 0 where
  pub reading : Reading bytes from before after r
  pub only : (later : List Line) (q : Result Header ReadFault) → Reading bytes from before later q → (q ≡ r) × (later ≡ after)
  pub complete : (inputs : ℕ) (values : Values) (lines : List Line) → Stands bytes from inputs (values_number values) lines → length lines ≤ length before
      → (r ≡ Ok (record { lines = length lines; inputs = inputs; values = values })) × (after ≡ lines ++ drop (length lines) before)
