-- Two netlists in a row: their sizes, their text, and that bytes have one reading at most. Assumes nothing.
use Rattle.std.proofs.Common.{◌≡◌, ℕ, suc, ◌+◌, ◌*◌, ◌≤◌, Bool, true, false, cond, ◌&&◌, eqb, ltb, List, [], ◌∷◌, ◌++◌, length, take, drop, Ok, Err, Result, sym, refl, ap, ◌∙◌, subst, ⊎_elim, arith, length-drop, length-take, take_all, take_at, drop_at}
use Rattle.std.specs.List.{AllByRecursion}
use Rattle.std.proofs.lemmas.List.{length-append, take-append-drop}
use Rattle.std.proofs.lemmas.Bool.{cond-true, cond-false, lt-ltb, le-ltb, eq-eqb, and_from, and_parts, eqb-true, cases_Bool}
use Rattle.netlist.specs.declared.line.Line.{Line}
use Rattle.text.specs.declared.header.Header.{Header}
use Rattle.text.specs.declared.header.Pair.{Pair}
use Rattle.text.specs.declared.header.Values.{Values}
use Rattle.text.specs.declared.fault.ReadFault.{ReadFault}
use Rattle.text.specs.declared.fault.PairFault.{PairFault}
use Rattle.text.specs.declared.fault.PairFault.TheVariants.{First, Second, Trailing, Heads}
use Rattle.text.specs.Netlists.{Readable, Writable, line_row, head_row, values_number, lines_text, netlist_text}
use Rattle.text.specs.Readings.{Stands, Accepted, Reading}
use Rattle.text.specs.Pairs.{size, Alike, BothAccepted, PairAccepted, PairReading, ReadsPair}
use Rattle.text.proofs.Tested.{line_framed, head_framed}
use Rattle.text.proofs.Begun.{head_fits}
use Rattle.text.proofs.Unique.{begun, functional, one_number}

lines_length : (m : ℕ) (ls : List Line) → AllByRecursion Readable ls → length (lines_text m ls) ≡ 25 * length ls
unfolding lines_text
lines_length m [] p = refl
lines_length m (l ∷ ls) p =
    let a = length-append (line_row m l) (lines_text (suc m) ls) in
    let b = (line_framed m l p.0).whole in
    let c = lines_length (suc m) ls p.1 in
    omega arith

pub netlist_length : (i v : ℕ) (ls : List Line) → AllByRecursion Readable ls → length (netlist_text i v ls) ≡ 25 * (length ls + 1)
unfolding netlist_text
netlist_length i v ls p =
    let a = length-append (head_row (length ls) i v) (lines_text 0 ls) in
    let b = (head_framed (length ls) i v).whole in
    let c = lines_length 0 ls p in
    omega arith

-- a netlist that stands in the bytes ends within them
pub accepted_fits : (bytes : List ℕ) (from : ℕ) (x y : List Line) (g : Header) → Accepted bytes from x y g → from + size g ≤ length bytes
accepted_fits bytes from x y g p =
    let b = begun bytes from g.inputs (values_number g.values) p.lines p.stands in
    let h = head_fits bytes from (length p.lines) g.inputs (values_number g.values) b.head in
    let e : length (take (25 * length p.lines) (drop (from + 25) bytes)) ≡ 25 * length p.lines = ap length b.rows ∙ lines_length 0 p.lines b.readable in
    let w = simp (length-take, length-drop) at e in
    let c = p.counted in
    omega arith

-- the bytes are the two texts
pub pair_text : (bytes : List ℕ) (x x' y y' : List Line) (g h : Header) (p : Accepted bytes 0 x x' g) (q : Accepted bytes (size g) y y' h) → size g + size h ≡ length bytes
    → bytes ≡ netlist_text g.inputs (values_number g.values) p.lines ++ netlist_text h.inputs (values_number h.values) q.lines
pair_text bytes x x' y y' g h p q e =
    let a : take (size g) bytes ≡ netlist_text g.inputs (values_number g.values) p.lines = ap (λ n. take (25 * (n + 1)) bytes) (sym p.counted) ∙ p.stands.text in
    let l : length (drop (size g) bytes) ≤ size h = rw (length-drop (size g) bytes) (omega arith) in
    let b : drop (size g) bytes ≡ netlist_text h.inputs (values_number h.values) q.lines =
    sym (take_all (size h) (drop (size g) bytes) l) ∙ ap (λ n. take (25 * (n + 1)) (drop (size g) bytes)) (sym q.counted) ∙ q.stands.text in
    sym (take-append-drop (size g) bytes) ∙ ap (λ t. t ++ drop (size g) bytes) a ∙ ap (λ t. netlist_text g.inputs (values_number g.values) p.lines ++ t) b

-- the same reading step by step, each step a function of what was read
alikeb : Header → Header → Bool
alikeb g h = eqb g.inputs h.inputs && eqb (values_number g.values) (values_number h.values)

answer : List ℕ → Header → Result Header ReadFault → Result Pair PairFault
answer bytes g (Ok h) = cond (ltb (size g + size h) (length bytes)) (Err Trailing) (cond (alikeb g h) (Ok (record { first = g; second = h })) (Err Heads))
answer bytes g (Err f) = Err (Second f)

abbrev Later : List ℕ → List Line → List Line → Result Pair PairFault → Result Header ReadFault → Type 0
Later bytes y y' r (Ok g) = (b : Result Header ReadFault) × Reading bytes (size g) y y' b × (r ≡ answer bytes g b)
Later bytes y y' r (Err f) = (r ≡ Err (First f)) × (y' ≡ y)

abbrev Steps : List ℕ → List Line → List Line → List Line → List Line → Result Pair PairFault → Type 0
Steps bytes x x' y y' r = (a : Result Header ReadFault) × Reading bytes 0 x x' a × Later bytes y y' r a

not_alike : (g h : Header) → (Alike g h → ⊥) → alikeb g h ≡ false
unfolding alikeb
not_alike g h n =
    ⊎_elim (λ t. let p = and_parts (eqb g.inputs h.inputs) (eqb (values_number g.values) (values_number h.values)) t in absurd (n (eqb-true _ _ p.0, one_number _ _ (eqb-true _ _ p.1)))) (λ f. f)
    (cases_Bool (eqb g.inputs h.inputs && eqb (values_number g.values) (values_number h.values)))

is_alike : (g h : Header) → Alike g h → alikeb g h ≡ true
unfolding alikeb
is_alike g h a = and_from (eqb g.inputs h.inputs) (eqb (values_number g.values) (values_number h.values)) (eq-eqb _ _ a.0) (eq-eqb _ _ (ap values_number a.1))

steps : (bytes : List ℕ) (x x' y y' : List Line) (r : Result Pair PairFault) → PairReading bytes x x' y y' r → Steps bytes x x' y y' r
unfolding answer
steps bytes x x' y y' (Ok p) h =
    let g = p.first in
    let k = p.second in
    let e = h.ended in (
      Ok g,
      h.both.first,
      (
        Ok k,
        h.both.second,
        sym (cond-true (alikeb g k) (Ok (record { first = g; second = k })) (Err Heads) (is_alike g k h.alike))
            ∙ sym (cond-false (ltb (size g + size k) (length bytes)) (Err Trailing) _ (le-ltb (size g + size k) (length bytes) (omega arith))),
      ),
    )
steps bytes x x' y y' (Err (First f)) h = (Err f, h.refused, (refl, h.kept))
steps bytes x x' y y' (Err (Second f)) h = (Ok h.header, h.first, (Err f, h.refused, refl))
steps bytes x x' y y' (Err Trailing) h =
    (Ok h.one, h.both.first, (Ok h.two, h.both.second, sym (cond-true (ltb (size h.one + size h.two) (length bytes)) (Err Trailing) _ (lt-ltb _ _ h.more))))
steps bytes x x' y y' (Err Heads) h =
    let g = h.one in
    let k = h.two in
    let e = h.ended in (
      Ok g,
      h.both.first,
      (
        Ok k,
        h.both.second,
        sym (cond-false (alikeb g k) (Ok (record { first = g; second = k })) (Err Heads) (not_alike g k h.differ))
            ∙ sym (cond-false (ltb (size g + size k) (length bytes)) (Err Trailing) _ (le-ltb (size g + size k) (length bytes) (omega arith))),
      ),
    )

later_once : (bytes : List ℕ) (y y' y'' : List Line) (r q : Result Pair PairFault) (a : Result Header ReadFault) → Later bytes y y' r a → Later bytes y y'' q a → (r ≡ q) × (y' ≡ y'')
later_once bytes y y' y'' r q (Ok g) s t =
    let f = functional bytes (size g) y y' y'' s.0 t.0 s.1 t.1 in
    (s.2 ∙ ap (answer bytes g) f.0 ∙ sym t.2, f.1)
later_once bytes y y' y'' r q (Err f) s t = (s.0 ∙ sym t.0, s.1 ∙ sym t.1)

-- at most one answer, and one list each after it
pub pair_functional : (bytes : List ℕ) (x x' x'' y y' y'' : List Line) (r q : Result Pair PairFault) → PairReading bytes x x' y y' r → PairReading bytes x x'' y y'' q
    → (r ≡ q) × (x' ≡ x'') × (y' ≡ y'')
pair_functional bytes x x' x'' y y' y'' r q p p' =
    let s = steps bytes x x' y y' r p in
    let t = steps bytes x x'' y y'' q p' in
    let f = functional bytes 0 x x' x'' s.0 t.0 s.1 t.1 in
    let l = later_once bytes y y' y'' r q t.0 (subst (Later bytes y y' r) f.0 s.2) t.2 in
    (l.0, f.1, l.1)

-- the two netlists whose texts the bytes are
texts_read : (bytes : List ℕ) (x y : List Line) (i : ℕ) (v : Values) (ls ms : List Line) → Writable i (values_number v) ls → Writable i (values_number v) ms → length ls ≤ length x → length ms ≤ length y
    → bytes ≡ netlist_text i (values_number v) ls ++ netlist_text i (values_number v) ms
    → PairAccepted bytes x (ls ++ drop (length ls) x) y (ms ++ drop (length ms) y)
    (record { first = record { lines = length ls; inputs = i; values = v }; second = record { lines = length ms; inputs = i; values = v } })
texts_read bytes x y i v ls ms s t a b e =
    let w = values_number v in
    let n = netlist_length i w ls s.readable in
    let m = netlist_length i w ms t.readable in
    let k = length-append (netlist_text i w ls) (netlist_text i w ms) in
    let z = ap length e in
    let one : Stands bytes 0 i w ls = record { text = ap (take (25 * (length ls + 1))) e ∙ take_at (netlist_text i w ls) _ (25 * (length ls + 1)) n; writable = s } in
    let two : Stands bytes (25 * (length ls + 1)) i w ms =
    record {
      text = ap (take (25 * (length ms + 1))) (ap (drop (25 * (length ls + 1))) e ∙ drop_at (netlist_text i w ls) _ (25 * (length ls + 1)) n) ∙ take_all (25 * (length ms + 1)) (netlist_text i w ms) (omega arith);
      writable = t;
    } in
    record {
      both = record {
        first = record { lines = ls; counted = refl; stands = one; filled = record { fits = a; after_is = refl } };
        second = record { lines = ms; counted = refl; stands = two; filled = record { fits = b; after_is = refl } };
      };
      alike = (refl, refl);
      ended = omega arith;
      text = e;
    }

-- what a reading tells in full
pub reads_pair : (bytes : List ℕ) (x x' y y' : List Line) (r : Result Pair PairFault) → PairReading bytes x x' y y' r → ReadsPair bytes x x' y y' r
reads_pair bytes x x' y y' r p =
    record {
      reading = p;
      only = λ x'' y'' q h. pair_functional bytes x x'' x' y y'' y' q r h p;
      complete = λ i v ls ms s t a b e.
          pair_functional bytes x x' (ls ++ drop (length ls) x) y y' (ms ++ drop (length ms) y) r
          (Ok (record { first = record { lines = length ls; inputs = i; values = v }; second = record { lines = length ms; inputs = i; values = v } })) p
          (texts_read bytes x y i v ls ms s t a b e);
    }

-- the answer of a fault
pub pair_refused : (bytes : List ℕ) (x x' y y' : List Line) (r : Result Pair PairFault) (e d : PairFault) → r ≡ Err e → e ≡ d → PairReading bytes x x' y y' (Err d)
    → ReadsPair bytes x x' y y' r
pair_refused bytes x x' y y' r e d p q h = reads_pair bytes x x' y y' r (subst (PairReading bytes x x' y y') (sym (p ∙ ap Err q)) h)

-- both readings
pub both_read : (bytes : List ℕ) (x x' y y' : List Line) (r q : Result Header ReadFault) (g h : Header) (from : ℕ)
    → Reading bytes 0 x x' r → r ≡ Ok g → from ≡ size g → Reading bytes from y y' q → q ≡ Ok h → BothAccepted bytes x x' y y' g h
both_read bytes x x' y y' r q g h from a e f b i =
    record { first = subst (Reading bytes 0 x x') e a; second = subst (λ n. Accepted bytes n y y' h) f (subst (Reading bytes from y y') i b) }
