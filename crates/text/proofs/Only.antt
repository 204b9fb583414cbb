-- What is printed for bytes, and nothing else, of the lines that a program cut from its lists. Assumes nothing.
use Rattle.std.proofs.Common.{◌≡◌, ℕ, ◌-◌, List, length, take, Ok, Err, sym, ap, ◌∙◌, subst, arith}
use Rattle.algebra.specs.Ops.{Ops}
use Rattle.netlist.specs.declared.line.Line.{Line}
use Rattle.text.specs.declared.header.Pair.{Pair}
use Rattle.text.specs.declared.fault.PairFault.{PairFault}
use Rattle.text.specs.Pairs.{ReadsPair}
use Rattle.text.specs.Answers.{algebra_of, Printer, misreading, Prints}
use Rattle.text.proofs.Answering.{prints_fault, only_fault, prints_pair, only_pair}

module _ (room : ℕ) (print : Printer) (bytes : List ℕ) where
  -- this text is printed, and no other
  abbrev pub PrintsOnly : List ℕ → Type 0
  PrintsOnly t = Prints room print bytes t × ((u : List ℕ) → Prints room print bytes u → u ≡ t)

  module _ (x x' y y' : List Line) (ex : length x ≡ room) (ey : length y ≡ room) where
    pub fault_only : (f : PairFault) → ReadsPair bytes x x' y y' (Err f) → (t : List ℕ) → t ≡ misreading f → PrintsOnly t
    fault_only f r t e = subst PrintsOnly (sym e) (prints_fault room print bytes x x' y y' ex ey f r, only_fault room print bytes x x' y y' ex ey f r)

    -- the lists u and v hold the lines that were read, and o is the algebra of the HEAD rows
    pub pair_only : (pair : Pair) → ReadsPair bytes x x' y y' (Ok pair) → (o : Ops) → o ≡ algebra_of pair.first.values → (u v : List Line) → u ≡ x' → v ≡ y'
        → (t : List ℕ) → t ≡ print o pair.first.inputs (take pair.first.lines u) (take pair.second.lines v) → PrintsOnly t
    pair_only pair r o eo u v eu ev t e =
        let cut : (k : ℕ) → k ≡ k - 0 = (λ k. omega arith) in
        let n = pair.first.inputs in
        let same : t ≡ print (algebra_of pair.first.values) n (take (pair.first.lines - 0) x') (take (pair.second.lines - 0) y') =
        (e ∙ ap (λ z. print z n (take pair.first.lines u) (take pair.second.lines v)) eo
        ∙ ap (λ z. print (algebra_of pair.first.values) n (take pair.first.lines z) (take pair.second.lines v)) eu
        ∙ ap (λ z. print (algebra_of pair.first.values) n (take pair.first.lines x') (take pair.second.lines z)) ev
        ∙ ap (λ k. print (algebra_of pair.first.values) n (take k x') (take pair.second.lines y')) (cut pair.first.lines)
        ∙ ap (λ k. print (algebra_of pair.first.values) n (take (pair.first.lines - 0) x') (take k y')) (cut pair.second.lines)) in
        subst PrintsOnly (sym same) (prints_pair room print bytes x x' y y' ex ey pair r, only_pair room print bytes x x' y y' ex ey pair r)
