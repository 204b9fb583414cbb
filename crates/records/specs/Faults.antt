-- The numbers of the refusals of a table, and the tests of each call, in order, the full table apart. Assumes nothing.
use Rattle.std.specs.Prelude.{ℕ, Bool, true, false, Some, None, Ok, Err, Option, Result, ◌==◌, nat_le, nat_lt}
use Rattle.algebra.specs.Ops.{Ops, known}
use Rattle.records.specs.declared.fault.TableFault.{TableFault}
use Rattle.records.specs.declared.fault.TableFault.TheVariants.{TooManyInputs, FewRows, NoSuchHandle, NoSuchInput, NoSuchCode, NoSuchOperator, NoSuchPattern, Full}
use Rattle.records.specs.Stores.{Store}
use Rattle.records.specs.Rules.{lawful}

abbrev pub table_fault_number : TableFault → ℕ
table_fault_number TooManyInputs = 21
table_fault_number FewRows = 22
table_fault_number NoSuchHandle = 23
table_fault_number NoSuchInput = 24
table_fault_number NoSuchCode = 25
table_fault_number NoSuchOperator = 26
table_fault_number NoSuchPattern = 29
table_fault_number Full = 31

-- a test that refuses where it fails, before the later tests
abbrev pub test : Bool → TableFault → Option TableFault → Option TableFault
test true f later = later
test false f later = Some f

abbrev pub start_refusal : ℕ → Option TableFault
start_refusal n = test (nat_le n 60) TooManyInputs None

abbrev pub input_refusal : Store → ℕ → Option TableFault
input_refusal s i = test (nat_lt i s.inputs) NoSuchInput None

abbrev pub constant_refusal : Ops → ℕ → Option TableFault
constant_refusal o v = test (nat_lt v o.count) NoSuchCode None

-- `rows` work rows are lent
abbrev pub turn_refusal : Ops → Store → ℕ → ℕ → Option TableFault
turn_refusal o s rows x = test (nat_lt s.inputs rows) FewRows (test (lawful o s x) NoSuchHandle None)

abbrev pub join_refusal : Ops → Store → ℕ → ℕ → ℕ → ℕ → Option TableFault
join_refusal o s rows k x y =
    test (nat_lt s.inputs rows) FewRows
    (test (known o k) NoSuchOperator
    (test (lawful o s x) NoSuchHandle
    (test (lawful o s y) NoSuchHandle None)))

-- a pattern of this width
abbrev pub value_refusal : Ops → Store → ℕ → ℕ → Option TableFault
value_refusal o s h width = test (lawful o s h) NoSuchHandle (test (width == s.inputs) NoSuchPattern None)

abbrev pub reach_refusal : Ops → Store → ℕ → Option TableFault
reach_refusal o s h = test (lawful o s h) NoSuchHandle None

abbrev pub find_refusal : Ops → Store → ℕ → ℕ → Option TableFault
find_refusal o s h wanted = test (lawful o s h) NoSuchHandle (test (nat_lt wanted o.count) NoSuchCode None)

abbrev pub support_refusal : Ops → Store → ℕ → ℕ → Option TableFault
support_refusal o s rows h = test (nat_lt s.inputs rows) FewRows (test (lawful o s h) NoSuchHandle None)

-- the refusal where there is one, else the answer
abbrev pub unless_refused : {X : Type 0} → Option TableFault → X → Result X TableFault
unless_refused None x = Ok x
unless_refused (Some f) x = Err f

-- the refusal that was answered, if one was
abbrev pub refusal_of : {X : Type 0} → Result X TableFault → Option TableFault
refusal_of (Ok x) = None
refusal_of (Err f) = Some f
