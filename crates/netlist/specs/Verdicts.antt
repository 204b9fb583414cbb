-- What a finding says of two signals, in words of patterns. Assumes nothing.
use Rattle.std.specs.Prelude.{◌≡◌, ℕ, ◌^◌, ◌<◌, false, List, ◌≢◌}
use Rattle.algebra.specs.Ops.{Ops}
use Rattle.netlist.specs.declared.line.Line.{Line}
use Rattle.netlist.specs.declared.finding.Difference.{Difference}
use Rattle.netlist.specs.declared.finding.Finding.{Finding}
use Rattle.netlist.specs.declared.finding.Finding.TheVariants.{Clean, Differs}
use Rattle.netlist.specs.Signals.{Signal}
use Rattle.netlist.specs.Lines.{line_signals, outs, signal_at}
use Rattle.netlist.specs.Orders.{before}

-- how two signals grade on a pattern
abbrev pub grade_at : Ops → Signal → Signal → ℕ → ℕ
grade_at o s t p = o.op 9 (s p) (t p)

-- the gravest grade that occurs, its first pattern, and both values there
pub record Gravest (o : Ops) (n : ℕ) (s t : Signal) (d : Difference) : Type 0 where
  pub within : d.pattern < 2 ^ n
  pub graded : grade_at o s t d.pattern ≡ d.grade
  pub heavy : d.grade ≡ 0 → ⊥
  pub left : d.left ≡ s d.pattern
  pub right : d.right ≡ t d.pattern
  -- no earlier pattern has this grade, and no pattern has a graver one
  pub first : (p : ℕ) → p < d.pattern → grade_at o s t p ≢ d.grade
  pub gravest : (p : ℕ) → p < 2 ^ n → before o.grave (grade_at o s t p) d.grade ≡ false

-- a pair is clean exactly when no pattern grades it other than 0
abbrev pub Verdict : Ops → ℕ → Signal → Signal → Finding → Type 0
Verdict o n s t Clean = (p : ℕ) → p < 2 ^ n → grade_at o s t p ≡ 0
Verdict o n s t (Differs d) = Gravest o n s t d

-- the signal of the k-th OUT line
abbrev pub out_signal : Ops → ℕ → List Line → ℕ → Signal
out_signal o n ls k = signal_at (outs ls (line_signals o n ls)) k
