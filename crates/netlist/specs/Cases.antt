-- Worked cases: what the definitions come to, and what that is to be. Assumes nothing.
use Rattle.std.specs.Prelude.{ℕ, ◌^◌, Bool, true, cond, ◌&&◌, T, List, [], ◌∷◌, ◌++◌, length, ◌==◌}
use Rattle.algebra.specs.Five.{five}
use Rattle.netlist.specs.declared.line.Line.{Line}
use Rattle.netlist.specs.declared.finding.Finding.{Finding}
use Rattle.netlist.specs.declared.finding.Finding.TheVariants.{Clean, Differs}
use Rattle.netlist.specs.Signals.{Signal, bit, turned, joined}
use Rattle.netlist.specs.Parts.{below, part_count}
use Rattle.netlist.specs.Lines.{line_signals, outs}
use Rattle.netlist.specs.Findings.{zipped, findings}

infix 20 ◌is◌
-- what is computed, and what it is to be
pub data Case : Type 0 where
  ◌is◌ : ℕ → ℕ → Case

abbrev right : Case → Bool
right (a is b) = a == b

abbrev all_right : List Case → Bool
all_right [] = true
all_right (c ∷ cs) = right c && all_right cs

abbrev X : ℕ
X = 2

abbrev Z : ℕ
Z = 3

abbrev S : ℕ
S = 4

abbrev NOT : ℕ → ℕ
NOT v = five.turn v

infix 30 ◌AND◌ ◌IFAND◌ ◌IFOR◌ ◌WIRE◌ ◌GRADE◌
abbrev ◌AND◌ : ℕ → ℕ → ℕ
a AND b = five.op 3 a b

abbrev ◌IFAND◌ : ℕ → ℕ → ℕ
a IFAND b = five.op 5 a b

abbrev ◌IFOR◌ : ℕ → ℕ → ℕ
a IFOR b = five.op 6 a b

abbrev ◌WIRE◌ : ℕ → ℕ → ℕ
a WIRE b = five.op 7 a b

abbrev ◌GRADE◌ : ℕ → ℕ → ℕ
a GRADE b = five.op 9 a b

-- over inputs a, b, c: S if a and b are 0, X if only a is 0, c if a is 1
abbrev sample : Signal
sample p = cond (bit 3 p 0 == 1) (bit 3 p 2) (cond (bit 3 p 1 == 1) X S)

abbrev line : ℕ → ℕ → ℕ → Line
line k a b = record { kind = k; first = a; second = b }

-- input 0 IFOR a floating wire, against input 0 alone, under two inputs
abbrev pub written_lines : List Line
written_lines = line 0 0 0 ∷ line 1 Z 0 ∷ line 6 0 1 ∷ line 8 2 0 ∷ []

abbrev pub circuit_lines : List Line
circuit_lines = line 0 0 0 ∷ line 8 0 0 ∷ []

abbrev grade_signals : List Signal
grade_signals = zipped (joined five 9) (outs written_lines (line_signals five 2 written_lines)) (outs circuit_lines (line_signals five 2 circuit_lines))

-- the grade, the pattern and both values of a finding, each of them 9 where the pair is clean
abbrev first_finding : List Finding → List ℕ
first_finding [] = []
first_finding (Clean ∷ fs) = 9 ∷ 9 ∷ 9 ∷ 9 ∷ []
first_finding (Differs d ∷ fs) = d.grade ∷ d.pattern ∷ d.left ∷ d.right ∷ []

abbrev each_is : List ℕ → List ℕ → List Case
each_is [] bs = []
each_is (a ∷ xs) [] = (0 is 1) ∷ []
each_is (a ∷ xs) (b ∷ ys) = (a is b) ∷ each_is xs ys

abbrev pub cases : List Case
cases =
    (Z AND 1 is X)
    ∷ (1 IFAND Z is Z)
    ∷ (0 IFAND S is 0)
    ∷ (0 AND S is S)
    ∷ (1 WIRE 1 is S)
    ∷ (NOT (NOT Z) is X)
    ∷ (S GRADE S is S)
    ∷ (X GRADE S is X)
    -- IF X THEN 1 ELSE 1
    ∷ ((X IFAND 1) IFOR (NOT X IFAND 1) is X)
    -- the sample has 3 different parts, and its NOT adds none
    ∷ (part_count five 3 (sample ∷ []) is 3)
    ∷ (part_count five 3 (sample ∷ turned five sample ∷ []) is 3)
    -- with no inputs there is one pattern, the empty one
    ∷ (length (below (2 ^ 0)) is 1)
    -- the two netlists have two different parts in all, their grades included
    ∷ (part_count five 2 (line_signals five 2 written_lines ++ (line_signals five 2 circuit_lines ++ grade_signals)) is 2)
    -- their one pair is graded 1 on pattern 0, where a floating wire stands against 0
    ∷ each_is (first_finding (findings five 2 written_lines circuit_lines)) (1 ∷ 0 ∷ Z ∷ 0 ∷ [])

abbrev pub Worked : Type 0
Worked = T (all_right cases)
