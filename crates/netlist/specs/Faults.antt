-- Which lines are refused, and why. Assumes nothing.
use Rattle.std.specs.Prelude.{ℕ, ◌+◌, Bool, true, false, cond, not, ◌&&◌, ◌||◌, List, [], ◌∷◌, Some, None, Option, ◌==◌, nat_lt}
use Rattle.algebra.specs.Ops.{Ops}
use Rattle.netlist.specs.declared.line.Line.{Line}
use Rattle.netlist.specs.declared.fault.LineFault.{LineFault}
use Rattle.netlist.specs.declared.fault.LineFault.TheVariants.{NoSuchKind, NoSuchInput, NoSuchCode, NotEarlier}
use Rattle.netlist.specs.declared.fault.Located.{Located}

-- whether k is the number of a kind that the algebra has
abbrev pub kind_known : Ops → ℕ → Bool
kind_known o k = nat_lt k 9 && (not (k == 7) || o.wired)

abbrev pub unless : Bool → LineFault → Option LineFault
unless true f = None
unless false f = Some f

-- why line k is refused, under n inputs: its kind is tested first, then its operands. A NOT and an OUT have one operand.
abbrev pub line_fault : Ops → ℕ → ℕ → Line → Option LineFault
line_fault o n k l =
    cond (not (kind_known o l.kind)) (Some NoSuchKind)
    (cond (l.kind == 0) (unless (nat_lt l.first n) NoSuchInput)
    (cond (l.kind == 1) (unless (nat_lt l.first o.count) NoSuchCode)
    (cond (l.kind == 2 || l.kind == 8) (unless (nat_lt l.first k) NotEarlier)
    (unless (nat_lt l.first k && nat_lt l.second k) NotEarlier))))

-- the first refused line, and why
abbrev pub NetlistFault : Type 0
NetlistFault = Located LineFault

abbrev pub at_line : ℕ → Option LineFault → Option NetlistFault → Option NetlistFault
at_line k None otherwise = otherwise
at_line k (Some f) otherwise = Some (record { line = k; fault = f })

-- the first refused line of those that are numbered from k on
unfoldable pub first_fault : Ops → ℕ → ℕ → List Line → Option NetlistFault
first_fault o n k [] = None
first_fault o n k (l ∷ ls) = at_line k (line_fault o n k l) (first_fault o n (k + 1) ls)
