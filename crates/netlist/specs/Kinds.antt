-- The numbers of the kinds of lines. Assumes nothing.
use Rattle.std.specs.Prelude.{◌≡◌, ℕ, cond, Some, None, Option, Result, MatchResult, ◌==◌}
use Rattle.netlist.specs.declared.kind.Kind.{Kind}
use Rattle.netlist.specs.declared.kind.Kind.TheVariants.{Input, Const, Not, And, Or, IfAnd, IfOr, Wire, Out}
use Rattle.netlist.specs.declared.kind.UnknownKind.{UnknownKind}

abbrev pub kind_number : Kind → ℕ
kind_number Input = 0
kind_number Const = 1
kind_number Not = 2
kind_number And = 3
kind_number Or = 4
kind_number IfAnd = 5
kind_number IfOr = 6
kind_number Wire = 7
kind_number Out = 8

-- the kind of a number, if there is one
abbrev pub kind_of : ℕ → Option Kind
kind_of k =
    cond (k == 0) (Some Input)
    (cond (k == 1) (Some Const)
    (cond (k == 2) (Some Not)
    (cond (k == 3) (Some And)
    (cond (k == 4) (Some Or)
    (cond (k == 5) (Some IfAnd)
    (cond (k == 6) (Some IfOr)
    (cond (k == 7) (Some Wire)
    (cond (k == 8) (Some Out) None))))))))

-- the result is the kind of the number, or that number
abbrev pub KindOf : ℕ → Result Kind UnknownKind → Type 0
KindOf k r = MatchResult r (λ kind. kind_of k ≡ Some kind) (λ e. (kind_of k ≡ None) × (e.0 ≡ k))
