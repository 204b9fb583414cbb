-- How two signals are graded against each other. Assumes nothing.
use Rattle.std.specs.Prelude.{ℕ, zero, suc, ◌^◌, Bool, cond, List, [], ◌∷◌, Some, None, Option, nat_eq}
use Rattle.algebra.specs.Ops.{Ops}
use Rattle.netlist.specs.declared.line.Line.{Line}
use Rattle.netlist.specs.declared.finding.Finding.{Finding}
use Rattle.netlist.specs.declared.finding.Finding.TheVariants.{Clean, Differs}
use Rattle.netlist.specs.Signals.{Signal, joined}
use Rattle.netlist.specs.Lines.{line_signals, outs}

-- the first number of which f holds, of the m from p on
unfoldable pub first_from : (ℕ → Bool) → ℕ → ℕ → Option ℕ
first_from f p zero = None
first_from f p (suc m) = cond (f p) (Some p) (first_from f (suc p) m)

-- the first pattern, of those below m, on which s has the value v
abbrev pub first_below : ℕ → Signal → ℕ → Option ℕ
first_below m s v = first_from (λ p. nat_eq (s p) v) 0 m

-- the first pattern on which s has the value v
abbrev pub first : ℕ → Signal → ℕ → Option ℕ
first n s v = first_below (2 ^ n) s v

-- where s and t are graded v at a pattern, if they are at one; else something else
abbrev pub differs_at : Signal → Signal → ℕ → Option ℕ → Finding → Finding
differs_at s t v None otherwise = otherwise
differs_at s t v (Some p) otherwise = Differs (record { grade = v; pattern = p; left = s p; right = t p })

-- the gravest of the grades vs that occurs below m, with its first pattern and both values there
unfoldable pub gravest : ℕ → Signal → Signal → Signal → List ℕ → Finding
gravest m g s t [] = Clean
gravest m g s t (v ∷ vs) = differs_at s t v (first_below m g v) (gravest m g s t vs)

-- the finding of two signals over the patterns below m, and over all of width n
abbrev pub finding_below : Ops → ℕ → Signal → Signal → Finding
finding_below o m s t = gravest m (joined o 9 s t) s t o.grave

abbrev pub finding : Ops → ℕ → Signal → Signal → Finding
finding o n s t = finding_below o (2 ^ n) s t

unfoldable pub zipped : {X Y Z : Type 0} → (X → Y → Z) → List X → List Y → List Z
zipped f [] ys = []
zipped f (x ∷ xs) [] = []
zipped f (x ∷ xs) (y ∷ ys) = f x y ∷ zipped f xs ys

-- the findings of two netlists, one for each pair of OUT lines, in order: over the patterns below m, and over all
abbrev pub findings_below : Ops → ℕ → ℕ → List Line → List Line → List Finding
findings_below o n m ls ms = zipped (finding_below o m) (outs ls (line_signals o n ls)) (outs ms (line_signals o n ms))

abbrev pub findings : Ops → ℕ → List Line → List Line → List Finding
findings o n ls ms = findings_below o n (2 ^ n) ls ms
