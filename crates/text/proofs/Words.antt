-- The names of the kinds are apart. Assumes nothing.
use Rattle.std.proofs.Common.{◌≡◌, ℕ, zero, suc, ◌<◌, cond, List, length, sym, refl, ap, ◌∙◌, arith}
use Rattle.std.specs.Str.{bytes_eq}
use Rattle.netlist.specs.declared.kind.Kind.{Kind}
use Rattle.netlist.specs.declared.kind.Kind.TheVariants.{Input, Const, Not, And, Or, IfAnd, IfOr, Wire, Out}
use Rattle.netlist.specs.Kinds.{kind_number}
use Rattle.text.specs.Netlists.{kind_word}

-- a fact of each kind's number, from the nine
pub each_kind : (P : ℕ → Type 0) → P 0 → P 1 → P 2 → P 3 → P 4 → P 5 → P 6 → P 7 → P 8 → (k : ℕ) → k < 9 → P k
each_kind P a b c d e f g h i zero l = a
each_kind P a b c d e f g h i (suc zero) l = b
each_kind P a b c d e f g h i (suc (suc zero)) l = c
each_kind P a b c d e f g h i (suc (suc (suc zero))) l = d
each_kind P a b c d e f g h i (suc (suc (suc (suc zero)))) l = e
each_kind P a b c d e f g h i (suc (suc (suc (suc (suc zero))))) l = f
each_kind P a b c d e f g h i (suc (suc (suc (suc (suc (suc zero)))))) l = g
each_kind P a b c d e f g h i (suc (suc (suc (suc (suc (suc (suc zero))))))) l = h
each_kind P a b c d e f g h i (suc (suc (suc (suc (suc (suc (suc (suc zero)))))))) l = i
each_kind P a b c d e f g h i (suc (suc (suc (suc (suc (suc (suc (suc (suc k))))))))) l = absurd (omega arith)

pub word_length : (k : ℕ) → k < 9 → length (kind_word k) ≡ 6
word_length = each_kind (λ k. length (kind_word k) ≡ 6) refl refl refl refl refl refl refl refl refl

pub number_below : (k : Kind) → kind_number k < 9
number_below Input = omega arith
number_below Const = omega arith
number_below Not = omega arith
number_below And = omega arith
number_below Or = omega arith
number_below IfAnd = omega arith
number_below IfOr = omega arith
number_below Wire = omega arith
number_below Out = omega arith

-- the number of the kind that a word names
named : List ℕ → ℕ
named w =
    cond (bytes_eq w (kind_word 0)) 0 (cond (bytes_eq w (kind_word 1)) 1 (cond (bytes_eq w (kind_word 2)) 2
    (cond (bytes_eq w (kind_word 3)) 3 (cond (bytes_eq w (kind_word 4)) 4 (cond (bytes_eq w (kind_word 5)) 5
    (cond (bytes_eq w (kind_word 6)) 6 (cond (bytes_eq w (kind_word 7)) 7 8)))))))

named_word : (k : ℕ) → k < 9 → named (kind_word k) ≡ k
unfolding named
named_word = each_kind (λ k. named (kind_word k) ≡ k) refl refl refl refl refl refl refl refl refl

pub same_kind : (j k : ℕ) → j < 9 → k < 9 → kind_word j ≡ kind_word k → j ≡ k
same_kind j k h l e = sym (named_word j h) ∙ ap named e ∙ named_word k l
