-- What reading two netlists in a row comes to. Assumes nothing.
use Rattle.std.specs.Prelude.{◌≡◌, ℕ, ◌+◌, ◌*◌, ◌<◌, ◌≤◌, List, ◌++◌, length, drop, Ok, Err, Result}
use Rattle.netlist.specs.declared.line.Line.{Line}
use Rattle.text.specs.declared.header.Header.{Header}
use Rattle.text.specs.declared.header.Pair.{Pair}
use Rattle.text.specs.declared.header.Values.{Values}
use Rattle.text.specs.declared.fault.ReadFault.{ReadFault}
use Rattle.text.specs.declared.fault.PairFault.{PairFault}
use Rattle.text.specs.declared.fault.PairFault.TheVariants.{First, Second, Trailing, Heads}
use Rattle.text.specs.Netlists.{Writable, values_number, netlist_text}
use Rattle.text.specs.Readings.{Accepted, Reading}

-- the bytes of a netlist's rows
abbrev pub size : Header → ℕ
size header = 25 * (header.lines + 1)

-- the HEAD rows agree in inputs and values
abbrev pub Alike : Header → Header → Type 0
Alike g h = (g.inputs ≡ h.inputs) × (g.values ≡ h.values)

-- two netlists stand in the bytes, one after the other; x and y are the lists before, x' and y' after
pub record BothAccepted (bytes : List ℕ) (x x' y y' : List Line) (g h : Header) : Type 0 where
  pub first : Accepted bytes 0 x x' g
  pub second : Accepted bytes (size g) y y' h

-- accepted: the bytes are their texts, and nothing else
pub record PairAccepted (bytes : List ℕ) (x x' y y' : List Line) (pair : Pair) : Type 0 where
  pub both : BothAccepted bytes x x' y y' pair.first pair.second
  pub alike : Alike pair.first pair.second
  pub ended : size pair.first + size pair.second ≡ length bytes
  pub text : bytes ≡ netlist_text pair.first.inputs (values_number pair.first.values) both.first.lines
      ++ netlist_text pair.second.inputs (values_number pair.second.values) both.second.lines

-- the first netlist is refused, and the second one not looked at
pub record FirstRefused (bytes : List ℕ) (x x' y y' : List Line) (fault : ReadFault) : Type 0 where
  pub refused : Reading bytes 0 x x' (Err fault)
  pub kept : y' ≡ y

pub record SecondRefused (bytes : List ℕ) (x x' y y' : List Line) (fault : ReadFault) : Type 0 where
  pub header : Header
  pub first : Accepted bytes 0 x x' header
  pub refused : Reading bytes (size header) y y' (Err fault)

-- bytes follow the second netlist
pub record Followed (bytes : List ℕ) (x x' y y' : List Line) : Type 0 where
  pub one : Header
  pub two : Header
  pub both : BothAccepted bytes x x' y y' one two
  pub more : size one + size two < length bytes

-- none do, and the HEAD rows differ
pub record Unlike (bytes : List ℕ) (x x' y y' : List Line) : Type 0 where
  pub one : Header
  pub two : Header
  pub both : BothAccepted bytes x x' y y' one two
  pub ended : size one + size two ≡ length bytes
  pub differ : Alike one two → ⊥

-- what is answered, with the lists before and after
abbrev pub PairReading : List ℕ → List Line → List Line → List Line → List Line → Result Pair PairFault → Type 0
PairReading bytes x x' y y' (Ok pair) = PairAccepted bytes x x' y y' pair
PairReading bytes x x' y y' (Err (First fault)) = FirstRefused bytes x x' y y' fault
PairReading bytes x x' y y' (Err (Second fault)) = SecondRefused bytes x x' y y' fault
PairReading bytes x x' y y' (Err Trailing) = Followed bytes x x' y y'
PairReading bytes x x' y y' (Err Heads) = Unlike bytes x x' y y'

-- the answer, that no other answer would do, and that any two netlists of the same inputs and values, whose texts the bytes
-- are and that the lists have room for, are read
pub record ReadsPair (bytes : List ℕ) (x x' y y' : List Line) (r : Result Pair PairFault) : Type 0 where
  pub reading : PairReading bytes x x' y y' r
  pub only : (x'' y'' : List Line) (q : Result Pair PairFault) → PairReading bytes x x'' y y'' q → (q ≡ r) × (x'' ≡ x') × (y'' ≡ y')
  pub complete : (inputs : ℕ) (values : Values) (ls ms : List Line) → Writable inputs (values_number values) ls → Writable inputs (values_number values) ms → length ls ≤ length x → length ms ≤ length y
      → bytes ≡ netlist_text inputs (values_number values) ls ++ netlist_text inputs (values_number values) ms
      → (r ≡ Ok (record { first = record { lines = length ls; inputs = inputs; values = values }; second = record { lines = length ms; inputs = inputs; values = values } }))
      × (x' ≡ ls ++ drop (length ls) x) × (y' ≡ ms ++ drop (length ms) y)
