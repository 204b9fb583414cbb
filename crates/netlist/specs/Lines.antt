-- What the lines of a netlist mean: a signal each. Which lines are refused. Assumes nothing.
use Rattle.std.specs.Prelude.{ℕ, suc, Bool, cond, List, [], ◌∷◌, ◌++◌, ◌==◌, slice_index_or}
use Rattle.algebra.specs.Ops.{Ops}
use Rattle.netlist.specs.declared.line.Line.{Line}
use Rattle.netlist.specs.Signals.{Signal, input, constant, turned, joined}

-- the signal of an earlier line
abbrev pub signal_at : List Signal → ℕ → Signal
signal_at earlier k = slice_index_or earlier k (constant 0)

-- the signal of a line, from those of the earlier lines
abbrev pub line_signal : Ops → ℕ → List Signal → Line → Signal
line_signal o n earlier l =
    cond (l.kind == 0) (input n l.first)
    (cond (l.kind == 1) (constant l.first)
    (cond (l.kind == 2) (turned o (signal_at earlier l.first))
    (cond (l.kind == 8) (signal_at earlier l.first)
    (joined o l.kind (signal_at earlier l.first) (signal_at earlier l.second)))))

-- the signals of lines that follow those of `earlier`, after these
unfoldable pub signals_after : Ops → ℕ → List Signal → List Line → List Signal
signals_after o n earlier [] = earlier
signals_after o n earlier (l ∷ ls) = signals_after o n (earlier ++ line_signal o n earlier l ∷ []) ls

unfoldable pub line_signals : Ops → ℕ → List Line → List Signal
line_signals o n ls = signals_after o n [] ls

abbrev pub is_out : Line → Bool
is_out l = l.kind == 8

-- of the OUT lines, in order, what stands beside them in a second list
unfoldable pub outs : {X : Type 0} → List Line → List X → List X
outs [] xs = []
outs (l ∷ ls) [] = []
outs (l ∷ ls) (x ∷ xs) = cond (is_out l) (x ∷ outs ls xs) (outs ls xs)

unfoldable pub out_count : List Line → ℕ
out_count [] = 0
out_count (l ∷ ls) = cond (is_out l) (suc (out_count ls)) (out_count ls)
