-- The first signal that there is no room for, and the earlier of two refusals. Assumes nothing.
use Rattle.std.proofs.Common.{◌≡◌, ℕ, suc, ◌+◌, ◌<◌, ◌≤◌, Bool, true, false, ltb, ◌⊎◌, List, [], ◌∷◌, ◌++◌, length, take, Some, None, Option, refl, ap, ◌∙◌, ap₂, inl, inr, ⊎_elim, arith}
use Rattle.std.proofs.lemmas.Bool.{both_ways, cases_lt, lt-ltb, le-ltb, cond-true, cond-false}
use Rattle.algebra.specs.Ops.{Ops}
use Rattle.netlist.specs.declared.line.Line.{Line}
use Rattle.netlist.specs.declared.fault.LineFault.{LineFault}
use Rattle.netlist.specs.Signals.{Signal}
use Rattle.netlist.specs.Parts.{part_count}
use Rattle.netlist.specs.Faults.{NetlistFault, line_fault, first_fault, at_line}
use Rattle.netlist.specs.Findings.{first_from}
use Rattle.netlist.proofs.Searches.{first_found, first_least, first_none}
use Rattle.report.specs.Refusals.{first_over, by_itself, for_room, earlier}

pub cases_option : {A : Type 0} (x : Option A) → (x ≡ None) ⊎ ((a : A) × (x ≡ Some a))
cases_option None = inl refl
cases_option (Some a) = inr (a, refl)

-- ---- a search from 0 on

module _ (f : ℕ → Bool) (m : ℕ) where
  none_passes : ((k : ℕ) → k < m → f k ≡ false) → first_from f 0 m ≡ None
  none_passes all =
      ⊎_elim
      (λ e. e)
      (λ r. let found = first_found f m 0 r.0 r.1 in absurd (both_ways (f r.0) (all r.0 (let h = found.1 in omega arith)) found.2))
      (cases_option (first_from f 0 m))

  none_before : (k : ℕ) → ((j : ℕ) → j < k → f j ≡ false) → (q : ℕ) → first_from f 0 m ≡ Some q → k ≤ q
  none_before k all q e = ⊎_elim (λ l. absurd (both_ways (f q) (all q l) (first_found f m 0 q e).2)) (λ h. h) (cases_lt q k)

  passes_at : (k : ℕ) → k < m → ((j : ℕ) → j < k → f j ≡ false) → f k ≡ true → first_from f 0 m ≡ Some k
  passes_at k h all here =
      ⊎_elim
      (λ e. absurd (both_ways (f k) (first_none f m 0 e k (omega arith) (omega arith)) here))
      (λ r. r.1 ∙ ap Some (same r.0 r.1))
      (cases_option (first_from f 0 m))
    where
      same : (q : ℕ) → first_from f 0 m ≡ Some q → q ≡ k
      same q e =
          let low = none_before k all q e in
          ⊎_elim (λ l. absurd (both_ways (f k) (first_least f m 0 q e k (omega arith) l) here)) (λ l. omega arith) (cases_lt k q)

-- ---- the room

-- there is room for each of the first k signals
abbrev pub Roomy : Ops → ℕ → ℕ → List Signal → List Signal → ℕ → Type 0
Roomy o n room before ss k = (j : ℕ) → j < k → part_count o n (before ++ take (suc j) ss) ≤ room

module _ (o : Ops) (n room : ℕ) (before ss : List Signal) where
  below : (k : ℕ) → Roomy o n room before ss k → (j : ℕ) → j < k → ltb room (part_count o n (before ++ take (suc j) ss)) ≡ false
  below k roomy j h = le-ltb room _ (roomy j h)

  pub over_none : (k : ℕ) → length ss ≤ k → Roomy o n room before ss k → first_over o n room before ss ≡ None
  over_none k h roomy = none_passes _ (length ss) (λ j l. below k roomy j (omega arith))

  pub over_at : (k : ℕ) → k < length ss → Roomy o n room before ss k → room < part_count o n (before ++ take (suc k) ss) → first_over o n room before ss ≡ Some k
  over_at k h roomy more = passes_at _ (length ss) k h (below k roomy) (lt-ltb room _ more)

  pub over_later : (k : ℕ) → Roomy o n room before ss k → (q : ℕ) → first_over o n room before ss ≡ Some q → k ≤ q
  over_later k roomy = none_before _ (length ss) k (below k roomy)

-- ---- the earlier refusal

pub neither : (x : Option NetlistFault) (y : Option ℕ) → x ≡ None → y ≡ None → earlier x y ≡ None
neither x y e f = ap₂ earlier e f

pub itself_earlier : (g : NetlistFault) (y : Option ℕ) → ((q : ℕ) → y ≡ Some q → g.line ≤ q) → earlier (Some g) y ≡ Some (by_itself g)
itself_earlier g None later = refl
itself_earlier g (Some q) later = ap Some (cond-false (ltb q g.line) (for_room q) (by_itself g) (le-ltb q g.line (later q refl)))

pub room_earlier : (x : Option NetlistFault) (k : ℕ) → ((g : NetlistFault) → x ≡ Some g → k < g.line) → earlier x (Some k) ≡ Some (for_room k)
room_earlier None k later = refl
room_earlier (Some g) k later = ap Some (cond-true (ltb k g.line) (for_room k) (by_itself g) (lt-ltb k g.line (later g refl)))

at_line_from : (k m : ℕ) (x : Option LineFault) (rest : Option NetlistFault) (f : NetlistFault) → m ≤ k → (rest ≡ Some f → m ≤ f.line) → at_line k x rest ≡ Some f → m ≤ f.line
at_line_from k m None rest f h from e = from e
at_line_from k m (Some g) rest f h from e = let same : k ≡ f.line = cc in omega arith

-- the first refused line of those that are numbered from k on has one of these numbers
pub fault_from : (o : Ops) (n k : ℕ) (ls : List Line) (f : NetlistFault) → first_fault o n k ls ≡ Some f → k ≤ f.line
unfolding first_fault
fault_from o n k [] f e = absurd (let z : ◌≡◌ {A = ℕ} 0 1 = cc in omega arith)
fault_from o n k (l ∷ ls) f e =
    at_line_from k k (line_fault o n k l) (first_fault o n (k + 1) ls) f (omega arith) (λ h. let p = fault_from o n (k + 1) ls f h in omega arith) e
