-- The signals of lines, one line on. Assumes nothing.
use Rattle.std.proofs.Common.{◌≡◌, ℕ, ◌+◌, ◌<◌, List, [], ◌∷◌, ◌++◌, length, get_or, take, sym, refl, ap, ◌∙◌, arith}
use Rattle.std.proofs.lemmas.List.{take_more, length_push}
use Rattle.algebra.specs.Ops.{Ops}
use Rattle.netlist.specs.declared.line.Line.{Line}
use Rattle.netlist.specs.Signals.{Signal}
use Rattle.netlist.specs.Lines.{line_signal, signals_after, line_signals}

module _ (o : Ops) (n : ℕ) where
  after_push : (e : List Signal) (ls : List Line) (l : Line) → signals_after o n e (ls ++ l ∷ []) ≡ signals_after o n e ls ++ line_signal o n (signals_after o n e ls) l ∷ []
  unfolding signals_after
  after_push e [] l = refl
  after_push e (k ∷ ls) l = after_push (e ++ line_signal o n e k ∷ []) ls l

  -- the signal of one line more
  pub signals_push : (ls : List Line) (l : Line) → line_signals o n (ls ++ l ∷ []) ≡ line_signals o n ls ++ line_signal o n (line_signals o n ls) l ∷ []
  unfolding line_signals
  signals_push ls l = after_push [] ls l

  after_length : (e : List Signal) (ls : List Line) → length (signals_after o n e ls) ≡ length e + length ls
  unfolding signals_after
  after_length e [] = omega arith
  after_length e (l ∷ ls) = after_length (e ++ line_signal o n e l ∷ []) ls ∙ (let p = length_push e (line_signal o n e l) in omega arith)

  -- a signal for each line
  pub signals_length : (ls : List Line) → length (line_signals o n ls) ≡ length ls
  unfolding line_signals
  signals_length ls = after_length [] ls ∙ omega arith

  pub signals_more : (ls : List Line) (i : ℕ) (l : Line) → i < length ls → l ≡ get_or ls i l → line_signals o n (take (i + 1) ls) ≡ line_signals o n (take i ls) ++ line_signal o n (line_signals o n (take i ls)) l ∷ []
  signals_more ls i l h r = ap (line_signals o n) (take_more ls i l h ∙ ap (λ x. take i ls ++ x ∷ []) (sym r)) ∙ signals_push (take i ls) l
