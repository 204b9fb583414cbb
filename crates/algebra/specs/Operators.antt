-- The numbers of the operators. Assumes nothing.
use Rattle.std.specs.Prelude.{◌≡◌, ℕ, cond, Some, None, Option, Result, MatchResult, ◌==◌}
use Rattle.algebra.specs.declared.operator.Op.{Op}
use Rattle.algebra.specs.declared.operator.Op.TheVariants.{And, Or, IfAnd, IfOr, Wire, Grade}
use Rattle.algebra.specs.declared.operator.UnknownOperator.{UnknownOperator}
use Rattle.algebra.specs.Ops.{Ops, known}

abbrev pub op_number : Op → ℕ
op_number And = 3
op_number Or = 4
op_number IfAnd = 5
op_number IfOr = 6
op_number Wire = 7
op_number Grade = 9

-- the operator of a number, if there is one
abbrev pub op_of : ℕ → Option Op
op_of k =
    cond (k == 3) (Some And)
    (cond (k == 4) (Some Or)
    (cond (k == 5) (Some IfAnd)
    (cond (k == 6) (Some IfOr)
    (cond (k == 7) (Some Wire)
    (cond (k == 9) (Some Grade) None)))))

-- the result is the operator of the number, or that number
abbrev pub OpOf : ℕ → Result Op UnknownOperator → Type 0
OpOf k r = MatchResult r (λ op. op_of k ≡ Some op) (λ e. (op_of k ≡ None) × (e.0 ≡ k))

-- the operator of a number, if the algebra has it
abbrev pub own_op : Ops → ℕ → Option Op
own_op o k = cond (known o k) (op_of k) None
