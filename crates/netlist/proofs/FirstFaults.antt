-- The first refused line, one line on. Assumes nothing.
use Rattle.std.proofs.Common.{◌≡◌, ℕ, ◌+◌, ◌<◌, ◌≤◌, List, [], ◌∷◌, length, get_or, drop, Some, None, Option, sym, refl, ap, ◌∙◌, arith}
use Rattle.std.proofs.lemmas.List.{at_drop_more, at_drop_all}
use Rattle.algebra.specs.Ops.{Ops}
use Rattle.netlist.specs.declared.line.Line.{Line}
use Rattle.netlist.specs.declared.fault.LineFault.{LineFault}
use Rattle.netlist.specs.Faults.{NetlistFault, line_fault, first_fault, at_line}

module _ (o : Ops) (n : ℕ) (ls : List Line) (i : ℕ) where
  here : (d : Line) → i < length ls → first_fault o n i (drop i ls) ≡ at_line i (line_fault o n i (get_or ls i d)) (first_fault o n (i + 1) (drop (i + 1) ls))
  unfolding first_fault
  here d h = at_drop_more (first_fault o n i) ls i d h

  pub fault_passed : (l : Line) → i < length ls → l ≡ get_or ls i l → line_fault o n i l ≡ None → first_fault o n i (drop i ls) ≡ first_fault o n (i + 1) (drop (i + 1) ls)
  fault_passed l h r e = here l h ∙ ap (λ x. at_line i x (first_fault o n (i + 1) (drop (i + 1) ls))) (ap (line_fault o n i) (sym r) ∙ e)

  pub fault_found : (l : Line) (f : LineFault) → i < length ls → l ≡ get_or ls i l → line_fault o n i l ≡ Some f → first_fault o n i (drop i ls) ≡ Some (record { line = i; fault = f })
  fault_found l f h r e = here l h ∙ ap (λ x. at_line i x (first_fault o n (i + 1) (drop (i + 1) ls))) (ap (line_fault o n i) (sym r) ∙ e)

  pub fault_none : length ls ≤ i → first_fault o n i (drop i ls) ≡ None
  unfolding first_fault
  fault_none h = at_drop_all (first_fault o n i) ls i h

  none_at : (x : Option LineFault) (rest : Option NetlistFault) → at_line i x rest ≡ None → x ≡ None
  none_at None rest e = refl
  none_at (Some f) rest e = cc

  pub line_accepted : (d : Line) → i < length ls → first_fault o n i (drop i ls) ≡ None → line_fault o n i (get_or ls i d) ≡ None
  line_accepted d h e = none_at _ (first_fault o n (i + 1) (drop (i + 1) ls)) (sym (here d h) ∙ e)

at_line_below : (k m : ℕ) (x : Option LineFault) (rest : Option NetlistFault) (f : NetlistFault) → k < m → (rest ≡ Some f → f.line < m) → at_line k x rest ≡ Some f → f.line < m
at_line_below k m None rest f h below e = below e
at_line_below k m (Some g) rest f h below e = let same : k ≡ f.line = cc in omega arith

-- the refused line is one of the lines
pub fault_within : (o : Ops) (n k : ℕ) (ls : List Line) (f : NetlistFault) → first_fault o n k ls ≡ Some f → f.line < k + length ls
unfolding first_fault
fault_within o n k [] f e = absurd (let z : ◌≡◌ {A = ℕ} 0 1 = cc in omega arith)
fault_within o n k (l ∷ ls) f e = at_line_below k (k + length (l ∷ ls)) (line_fault o n k l) (first_fault o n (k + 1) ls) f (omega arith) (λ h. let p = fault_within o n (k + 1) ls f h in omega arith) e
