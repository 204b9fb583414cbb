-- What is printed for bytes, and that nothing else is, from a reading of them into any lists of the same length. Assumes
-- nothing.
use Rattle.std.proofs.Common.{◌≡◌, ℕ, ◌-◌, List, ◌++◌, length, take, drop, Ok, Err, Result, sym, refl, ap, ◌∙◌, subst, arith}
use lib.ListN.{length-replicate}
use Rattle.std.proofs.lemmas.List.{take_at}
use Rattle.netlist.specs.declared.line.Line.{Line}
use Rattle.text.specs.declared.header.Header.{Header}
use Rattle.text.specs.declared.header.Pair.{Pair}
use Rattle.text.specs.declared.fault.ReadFault.{ReadFault}
use Rattle.text.specs.declared.fault.ReadFault.TheVariants.{Head, TooManyLines, AtLine}
use Rattle.text.specs.declared.fault.PairFault.{PairFault}
use Rattle.text.specs.declared.fault.PairFault.TheVariants.{First, Second, Trailing, Heads}
use Rattle.text.specs.Readings.{Accepted, Filled, Reading}
use Rattle.text.specs.Pairs.{BothAccepted, PairAccepted, PairReading, ReadsPair}
use Rattle.text.specs.Answers.{algebra_of, blank_lines, Printer, misreading, Prints, misread, read}

-- ---- the same reading into another list of the same length

abbrev filled : {x x' ls : List Line} (b : List Line) → length b ≡ length x → Filled x x' ls → Filled b (ls ++ drop (length ls) b) ls
filled b e f = record { fits = (let h = f.fits in omega arith); after_is = refl }

abbrev accepted : {bytes : List ℕ} {from : ℕ} {x x' : List Line} {h : Header} (b : List Line) → length b ≡ length x → (a : Accepted bytes from x x' h) → Accepted bytes from b (a.lines ++ drop (length a.lines) b) h
accepted b e a = record { lines = a.lines; counted = a.counted; stands = a.stands; filled = filled b e a.filled }

refused : (bytes : List ℕ) (from : ℕ) (x x' b : List Line) → length b ≡ length x → (f : ReadFault) → Reading bytes from x x' (Err f) → (b' : List Line) × Reading bytes from b b' (Err f)
refused bytes from x x' b e (Head f) r = (b, record { failed = r.failed; kept = refl })
refused bytes from x x' b e TooManyLines r = (b, record { count = r.count; inputs = r.inputs; values = r.values; head = r.head; allowed = r.allowed; long = (let h = r.long in omega arith); kept = refl })
refused bytes from x x' b e (AtLine due f) r = (
  r.lines ++ drop (length r.lines) b,
  record {
    count = r.count;
    inputs = r.inputs;
    values = r.values;
    lines = r.lines;
    begins = r.begins;
    turn = r.turn;
    counted = r.counted;
    room = (let h = r.room in omega arith);
    failed = r.failed;
    filled = filled b e r.filled;
  },
)

module _ (bytes : List ℕ) (x x' y y' b d : List Line) (eb : length b ≡ length x) (ed : length d ≡ length y) where
  abbrev both_accepted : {g h : Header} (a : BothAccepted bytes x x' y y' g h) → BothAccepted bytes b (a.first.lines ++ drop (length a.first.lines) b) d (a.second.lines ++ drop (length a.second.lines) d) g h
  both_accepted a = record { first = accepted b eb a.first; second = accepted d ed a.second }

  abbrev pub pair_accepted : {pair : Pair} (a : PairAccepted bytes x x' y y' pair) → PairAccepted bytes b (a.both.first.lines ++ drop (length a.both.first.lines) b) d (a.both.second.lines ++ drop (length a.both.second.lines) d) pair
  pair_accepted a = record { both = both_accepted a.both; alike = a.alike; ended = a.ended; text = a.text }

  pub pair_refused : (f : PairFault) → PairReading bytes x x' y y' (Err f) → (b' : List Line) × (d' : List Line) × PairReading bytes b b' d d' (Err f)
  pair_refused (First f) r = let q = refused bytes 0 x x' b eb f r.refused in (q.0, d, record { refused = q.1; kept = refl })
  pair_refused (Second f) r = let q = refused bytes _ y y' d ed f r.refused in (_, q.0, record { header = r.header; first = accepted b eb r.first; refused = q.1 })
  pair_refused Trailing r = (_, _, record { one = r.one; two = r.two; both = both_accepted r.both; more = r.more })
  pair_refused Heads r = (_, _, record { one = r.one; two = r.two; both = both_accepted r.both; ended = r.ended; differ = r.differ })

-- the lines that were read are the first of the list
pub lines_read : {bytes : List ℕ} {from : ℕ} {x x' : List Line} {h : Header} (a : Accepted bytes from x x' h) → take (h.lines - 0) x' ≡ a.lines
lines_read {h = h} a = ap (take (h.lines - 0)) a.filled.after_is ∙ take_at a.lines _ (h.lines - 0) (let c = a.counted in omega arith)

-- ---- what is printed

module _ (room : ℕ) (print : Printer) (bytes : List ℕ) (x x' y y' : List Line) (ex : length x ≡ room) (ey : length y ≡ room) where
  bx : length (blank_lines room) ≡ length x
  bx = length-replicate room _ ∙ sym ex

  by : length (blank_lines room) ≡ length y
  by = length-replicate room _ ∙ sym ey

  pub prints_fault : (f : PairFault) → ReadsPair bytes x x' y y' (Err f) → Prints room print bytes (misreading f)
  prints_fault f r = let q = pair_refused bytes x x' y y' (blank_lines room) (blank_lines room) bx by f r.reading in misread q.0 q.1 f q.2

  -- the other reading, into these lists
  again_fault : (r : Result Pair PairFault) → ReadsPair bytes x x' y y' r → (x'' y'' : List Line) (f : PairFault) → PairReading bytes (blank_lines room) x'' (blank_lines room) y'' (Err f) → Err f ≡ r
  again_fault r reads x'' y'' f p = let q = pair_refused bytes (blank_lines room) x'' (blank_lines room) y'' x y (sym bx) (sym by) f p in (reads.only q.0 q.1 (Err f) q.2).0

  pub only_fault : (f : PairFault) → ReadsPair bytes x x' y y' (Err f) → (t : List ℕ) → Prints room print bytes t → t ≡ misreading f
  only_fault f r t (misread x'' y'' g p) = let same : g ≡ f = (let q = again_fault (Err f) r x'' y'' g p in cc) in ap misreading same
  only_fault f r t (read x'' y'' pair a) =
      absurd (let z : ◌≡◌ {A = ℕ} 0 1 = (let q = (r.only _ _ (Ok pair) (pair_accepted bytes (blank_lines room) x'' (blank_lines room) y'' x y (sym bx) (sym by) a)).0 in cc) in omega arith)

  module _ (pair : Pair) (r : ReadsPair bytes x x' y y' (Ok pair)) where
    -- the lists of lines that were read
    abbrev pub first_read : List Line
    first_read = take (pair.first.lines - 0) x'

    abbrev pub second_read : List Line
    second_read = take (pair.second.lines - 0) y'

    pub prints_pair : Prints room print bytes (print (algebra_of pair.first.values) pair.first.inputs first_read second_read)
    prints_pair =
        let a = r.reading in
        subst (Prints room print bytes)
        (ap (λ z. print (algebra_of pair.first.values) pair.first.inputs z a.both.second.lines) (sym (lines_read a.both.first))
        ∙ ap (λ z. print (algebra_of pair.first.values) pair.first.inputs first_read z) (sym (lines_read a.both.second)))
        (read _ _ pair (pair_accepted bytes x x' y y' (blank_lines room) (blank_lines room) bx by a))

    pub only_pair : (t : List ℕ) → Prints room print bytes t → t ≡ print (algebra_of pair.first.values) pair.first.inputs first_read second_read
    only_pair t (misread x'' y'' g p) = absurd (let z : ◌≡◌ {A = ℕ} 0 1 = (let q = again_fault (Ok pair) r x'' y'' g p in cc) in omega arith)
    only_pair t (read x'' y'' other a) =
        let moved = pair_accepted bytes (blank_lines room) x'' (blank_lines room) y'' x y (sym bx) (sym by) a in
        let q = r.only _ _ (Ok other) moved in
        let same : other ≡ pair = (let k = q.0 in cc) in
        ap (λ z. print (algebra_of other.first.values) other.first.inputs z a.both.second.lines) (sym (lines_read moved.both.first) ∙ ap (take (other.first.lines - 0)) q.1)
        ∙ ap (λ z. print (algebra_of other.first.values) other.first.inputs (take (other.first.lines - 0) x') z) (sym (lines_read moved.both.second) ∙ ap (take (other.second.lines - 0)) q.2)
        ∙ ap (λ z. print (algebra_of z.first.values) z.first.inputs (take (z.first.lines - 0) x') (take (z.second.lines - 0) y')) same
