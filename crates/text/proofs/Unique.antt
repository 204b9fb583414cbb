-- Bytes have one reading at most. Assumes nothing.
use Rattle.std.proofs.Common.{◌≡◌, ℕ, zero, suc, ◌+◌, ◌-◌, ◌*◌, ◌<◌, ◌≤◌, true, List, [], ◌∷◌, ◌++◌, length, take, drop, Ok, Err, Result, sym, refl, ap, ◌∙◌, subst, ⊎_elim, append_assoc, arith, drop-drop, take_at, drop_at}
use Rattle.std.specs.List.{AllByRecursion}
use Rattle.std.proofs.lemmas.List.{take-take, drop-take, length-take-le, take-append-drop, drop-append-le}
use Rattle.std.proofs.lemmas.Bool.{cases_order, cases_Bool, cond-false}
use Rattle.netlist.specs.declared.line.Line.{Line}
use Rattle.text.specs.declared.header.Header.{Header}
use Rattle.text.specs.declared.header.Values.{Values}
use Rattle.text.specs.declared.header.Values.TheVariants.{Two, Five}
use Rattle.text.specs.declared.fault.RowFault.{RowFault}
use Rattle.text.specs.declared.fault.RowFault.TheVariants.{Incomplete, Word, Field, OutOfTurn, Limits}
use Rattle.text.specs.declared.fault.ReadFault.{ReadFault}
use Rattle.text.specs.declared.fault.ReadFault.TheVariants.{Head, TooManyLines, AtLine}
use Rattle.text.specs.Rows.{row_at, operand_field, Framed, word_of}
use Rattle.text.specs.Faults.{order, FirstFailed}
use Rattle.text.specs.Netlists.{takes_one, second_operand, Readable, Allowed, line_row, head_row, HeadRow, HeadTest, LineTest, values_number, lines_text, netlist_text}
use Rattle.text.specs.Readings.{Stands, Begins, Filled, Accepted, HeadRefused, TooMany, LineRefused, Reading, Reads}
use Rattle.text.proofs.Guessing.{same_number}
use Rattle.text.proofs.Words.{same_kind}
use Rattle.text.proofs.Tested.{line_number, line_word, line_first, line_second, line_framed, head_worded, head_framed, same_count, same_inputs, same_values}

-- one first fault
fault_of : ℕ → RowFault
fault_of zero = Incomplete
fault_of (suc zero) = Word
fault_of (suc (suc zero)) = Field
fault_of (suc (suc (suc zero))) = OutOfTurn
fault_of (suc (suc (suc (suc n)))) = Limits

fault_of_order : (f : RowFault) → fault_of (order f) ≡ f
unfolding fault_of
fault_of_order Incomplete = refl
fault_of_order Word = refl
fault_of_order Field = refl
fault_of_order OutOfTurn = refl
fault_of_order Limits = refl

first_unique : (P : RowFault → Type 0) (f g : RowFault) → FirstFailed P f → FirstFailed P g → f ≡ g
first_unique P f g p q =
    ⊎_elim (λ e. sym (fault_of_order f) ∙ ap fault_of e ∙ fault_of_order g)
    (⊎_elim (λ l. absurd (p.here (q.before f l))) (λ l. absurd (q.here (p.before g l))))
    (cases_order (order f) (order g))

-- a good row passes every test
line_passes : (n : ℕ) (s : List ℕ) (l : Line) → n < 100000 → Readable l → s ≡ line_row n l → (test : RowFault) → LineTest n s test
line_passes n s l h r e Incomplete = subst Framed (sym e) (line_framed n l r)
line_passes n s l h r e Word = (l.kind, r.known, ap word_of e ∙ line_word n l r)
line_passes n s l h r e Field = record { number = n; line = l; small = h; readable = r; text = e }
line_passes n s l h r e OutOfTurn = ap (take 5) e ∙ line_number n l r
line_passes n s l h r e Limits = tt

head_passes : (s : List ℕ) (n i v : ℕ) → HeadRow s n i v → Allowed i v → (test : RowFault) → HeadTest s test
head_passes s n i v h a Incomplete = subst Framed (sym h.text) (head_framed n i v)
head_passes s n i v h a Word = ap word_of h.text ∙ head_worded n i v
head_passes s n i v h a Field = (n, i, v, h)
head_passes s n i v h a OutOfTurn = tt
head_passes s n i v h a Limits = (n, i, v, h, a)

-- one line to a row
unused_or : (k a b : ℕ) → a < 1000000 → b < 1000000 → (takes_one k ≡ true → a ≡ 0) → (takes_one k ≡ true → b ≡ 0)
    → operand_field (second_operand k a) ≡ operand_field (second_operand k b) → a ≡ b
unused_or k a b h i u w e =
    ⊎_elim (λ t. u t ∙ sym (w t))
    (λ f. same_number 6 a b h i (ap operand_field (sym (cond-false _ _ _ f)) ∙ e ∙ ap operand_field (cond-false _ _ _ f)))
    (cases_Bool (takes_one k))

same_fields : (l m : Line) → l.kind ≡ m.kind → l.first ≡ m.first → l.second ≡ m.second → l ≡ m
same_fields l m p q r = λ i. record { kind = p i; first = q i; second = r i }

same_line : (n : ℕ) (l m : Line) → Readable l → Readable m → line_row n l ≡ line_row n m → l ≡ m
same_line n l m r q e =
    let k : l.kind ≡ m.kind = same_kind l.kind m.kind r.known q.known (sym (line_word n l r) ∙ ap word_of e ∙ line_word n m q) in
    let a : l.first ≡ m.first = same_number 6 l.first m.first r.first q.first (sym (line_first n l r) ∙ ap (λ t. take 6 (drop 12 t)) e ∙ line_first n m q) in
    let b : l.second ≡ m.second =
    unused_or l.kind l.second m.second r.second q.second r.unused (λ t. q.unused (ap takes_one (sym k) ∙ t))
    (sym (line_second n l r) ∙ ap (λ t. take 6 (drop 18 t)) e ∙ line_second n m q ∙ ap (λ j. operand_field (second_operand j m.second)) (sym k)) in
    same_fields l m k a b

-- one list of lines to their rows
same_lines : (n : ℕ) (ls ms : List Line) → length ls ≡ length ms → AllByRecursion Readable ls → AllByRecursion Readable ms → lines_text n ls ≡ lines_text n ms → ls ≡ ms
unfolding lines_text
same_lines n [] [] h p q e = refl
same_lines n [] (m ∷ ms) h p q e = absurd (omega arith)
same_lines n (l ∷ ls) [] h p q e = absurd (omega arith)
same_lines n (l ∷ ls) (m ∷ ms) h p q e =
    let x = (line_framed n l p.0).whole in
    let y = (line_framed n m q.0).whole in
    let a : line_row n l ≡ line_row n m = sym (take_at (line_row n l) _ 25 x) ∙ ap (take 25) e ∙ take_at (line_row n m) _ 25 y in
    let b : lines_text (suc n) ls ≡ lines_text (suc n) ms = sym (drop_at (line_row n l) _ 25 x) ∙ ap (drop 25) e ∙ drop_at (line_row n m) _ 25 y in
    let u = same_line n l m p.0 q.0 a in
    let w = same_lines (suc n) ls ms (omega arith) p.1 q.1 b in
    ap (λ z. z ∷ ls) u ∙ ap (λ z. m ∷ z) w

-- the row of each line
row_of : (n : ℕ) (ls : List Line) (j : ℕ) → j < length ls → AllByRecursion Readable ls → (l : Line) × Readable l × (take 25 (drop (25 * j) (lines_text n ls)) ≡ line_row (n + j) l)
unfolding lines_text
row_of n [] j h p = absurd (omega arith)
row_of n (l ∷ ls) zero h p =
    let e : n ≡ n + 0 = omega arith in
    (l, p.0, take_at (line_row n l) _ 25 (line_framed n l p.0).whole ∙ ap (λ m. line_row m l) e)
row_of n (l ∷ ls) (suc j) h p =
    let q = row_of (suc n) ls j (omega arith) p.1 in
    let d : drop (25 * suc j) (line_row n l ++ lines_text (suc n) ls) ≡ drop (25 * j) (lines_text (suc n) ls) =
    ap (λ m. drop m (line_row n l ++ lines_text (suc n) ls)) (omega arith) ∙ sym (drop-drop (25 * j) 25 (line_row n l ++ lines_text (suc n) ls))
    ∙ ap (drop (25 * j)) (drop_at (line_row n l) _ 25 (line_framed n l p.0).whole) in
    (q.0, q.1, ap (take 25) d ∙ q.2 ∙ ap (λ m. line_row m q.0) (omega arith))

front : (xs : List ℕ) (j n : ℕ) → j < n → take 25 (drop (25 * j) (take (25 * n) xs)) ≡ take 25 (drop (25 * j) xs)
front xs j n h =
    let e : 25 * n ≡ 25 * j + (25 * n - 25 * j) = omega arith in
    ap (λ m. take 25 (drop (25 * j) (take m xs))) e ∙ ap (take 25) (drop-take (25 * j) (25 * n - 25 * j) xs) ∙ take-take 25 (25 * n - 25 * j) (drop (25 * j) xs) (omega arith)

module _ (bytes : List ℕ) (from : ℕ) where
  begins_row : (n i v : ℕ) (ls : List Line) → Begins bytes from n i v ls → (j : ℕ) → j < length ls
      → (l : Line) × Readable l × (row_at bytes (from + 25 * (j + 1)) ≡ line_row j l)
  begins_row n i v ls b j h =
      let q = row_of 0 ls j h b.readable in
      let e : from + 25 * (j + 1) ≡ (from + 25) + 25 * j = omega arith in (
        q.0,
        q.1,
        ap (row_at bytes) e ∙ ap (take 25) (sym (drop-drop (25 * j) (from + 25) bytes)) ∙ sym (front (drop (from + 25) bytes) j (length ls) h)
            ∙ ap (λ t. take 25 (drop (25 * j) t)) b.rows ∙ q.2 ∙ ap (λ m. line_row m q.0) (omega arith),
      )

  same_begun : (n i v m j w : ℕ) (ls ms : List Line) → Begins bytes from n i v ls → Begins bytes from m j w ms → length ls ≡ length ms → ls ≡ ms
  same_begun n i v m j w ls ms p q e =
      same_lines 0 ls ms e p.readable q.readable (sym p.rows ∙ ap (λ k. take (25 * k) (drop (from + 25) bytes)) e ∙ q.rows)

  -- a whole netlist begins like this
  pub begun : (i v : ℕ) (ls : List Line) → Stands bytes from i v ls → Begins bytes from (length ls) i v ls
  unfolding netlist_text
  begun i v ls s =
      let n = length ls in
      let xs = drop from bytes in
      let k : 25 * (n + 1) ≡ 25 + 25 * n = omega arith in
      let x = (head_framed n i v).whole in
      let t : take (25 + 25 * n) xs ≡ head_row n i v ++ lines_text 0 ls = ap (λ m. take m xs) (sym k) ∙ s.text in
      record {
        head = record {
          small = s.writable.short;
          few = let a = s.writable.allowed.0 in omega arith;
          less = ⊎_elim (λ e. omega arith) (λ e. omega arith) s.writable.allowed.1;
          text = sym (take-take 25 (25 + 25 * n) xs (omega arith)) ∙ ap (take 25) t ∙ take_at (head_row n i v) _ 25 x;
        };
        allowed = s.writable.allowed;
        rows = ap (take (25 * n)) (sym (drop-drop 25 from bytes)) ∙ sym (drop-take 25 (25 * n) xs) ∙ ap (drop 25) t ∙ drop_at (head_row n i v) _ 25 x;
        readable = s.writable.readable;
      }

  -- a good HEAD row leaves no other reading
  module _ (n i v : ℕ) (h : HeadRow (row_at bytes from) n i v) (a : Allowed i v) where
    no_head_fault : (x y : List Line) (f : RowFault) → HeadRefused bytes from x y f → ⊥
    no_head_fault x y f r = r.failed.here (head_passes (row_at bytes from) n i v h a f)

    not_many : (x y : List Line) → n ≤ length x → TooMany bytes from x y → ⊥
    not_many x y l r = let e = same_count (row_at bytes from) n i v r.count r.inputs r.values h r.head in let k = r.long in omega arith

    no_line_fault : (x y : List Line) (ls : List Line) → Begins bytes from n i v ls → (due : ℕ) (f : RowFault) → due < length ls → LineRefused bytes from x y due f → ⊥
    no_line_fault x y ls b due f l r =
        let q = begins_row n i v ls b due l in
        let c = r.counted in
        let d = r.begins.head.small in
        r.failed.here (line_passes due (row_at bytes (from + 25 * (due + 1))) q.0 (omega arith) q.1 q.2 f)

same_after : (x y z : List Line) (ls ms : List Line) → ls ≡ ms → Filled x y ls → Filled x z ms → y ≡ z
same_after x y z ls ms e p q = p.after_is ∙ ap (λ l. l ++ drop (length l) x) e ∙ sym q.after_is

pub one_number : (v w : Values) → values_number v ≡ values_number w → v ≡ w
one_number Two Two e = refl
one_number Two Five e = absurd (omega arith)
one_number Five Two e = absurd (omega arith)
one_number Five Five e = refl

same_header : (g h : Header) → g.lines ≡ h.lines → g.inputs ≡ h.inputs → values_number g.values ≡ values_number h.values → g ≡ h
same_header g h p q r = let v = one_number g.values h.values r in λ i. record { lines = p i; inputs = q i; values = v i }

module _ (bytes : List ℕ) (from : ℕ) (x y z : List Line) where
  both_accepted : (g h : Header) → Accepted bytes from x y g → Accepted bytes from x z h → (g ≡ h) × (y ≡ z)
  both_accepted g h p q =
      let b = begun bytes from g.inputs (values_number g.values) p.lines p.stands in
      let c = begun bytes from h.inputs (values_number h.values) q.lines q.stands in
      let s = row_at bytes from in
      let n = length p.lines in
      let m = length q.lines in
      let e : n ≡ m = same_count s n g.inputs (values_number g.values) m h.inputs (values_number h.values) b.head c.head in (
        same_header g h (sym p.counted ∙ e ∙ q.counted)
            (same_inputs s n g.inputs (values_number g.values) m h.inputs (values_number h.values) b.head c.head)
            (same_values s n g.inputs (values_number g.values) m h.inputs (values_number h.values) b.head c.head),
        same_after x y z p.lines q.lines (same_begun bytes from n g.inputs (values_number g.values) m h.inputs (values_number h.values) p.lines q.lines b c e) p.filled q.filled,
      )

  accepted_or_head : (g : Header) (f : RowFault) → Accepted bytes from x y g → HeadRefused bytes from x z f → ⊥
  accepted_or_head g f p q =
      let b = begun bytes from g.inputs (values_number g.values) p.lines p.stands in
      no_head_fault bytes from (length p.lines) g.inputs (values_number g.values) b.head b.allowed x z f q

  accepted_or_many : (g : Header) → Accepted bytes from x y g → TooMany bytes from x z → ⊥
  accepted_or_many g p q =
      let b = begun bytes from g.inputs (values_number g.values) p.lines p.stands in
      not_many bytes from (length p.lines) g.inputs (values_number g.values) b.head b.allowed x z p.filled.fits q

  accepted_or_line : (g : Header) (due : ℕ) (f : RowFault) → Accepted bytes from x y g → LineRefused bytes from x z due f → ⊥
  accepted_or_line g due f p q =
      let b = begun bytes from g.inputs (values_number g.values) p.lines p.stands in
      let e = same_count (row_at bytes from) (length p.lines) g.inputs (values_number g.values) q.count q.inputs q.values b.head q.begins.head in
      let k = q.counted in
      no_line_fault bytes from (length p.lines) g.inputs (values_number g.values) b.head b.allowed x z p.lines b due f (omega arith) q

  head_or_many : (f : RowFault) → HeadRefused bytes from x y f → TooMany bytes from x z → ⊥
  head_or_many f p q = no_head_fault bytes from q.count q.inputs q.values q.head q.allowed x y f p

  head_or_line : (f : RowFault) (due : ℕ) (d : RowFault) → HeadRefused bytes from x y f → LineRefused bytes from x z due d → ⊥
  head_or_line f due d p q = no_head_fault bytes from q.count q.inputs q.values q.begins.head q.begins.allowed x y f p

  many_or_line : (due : ℕ) (d : RowFault) → TooMany bytes from x y → LineRefused bytes from x z due d → ⊥
  many_or_line due d p q = not_many bytes from q.count q.inputs q.values q.begins.head q.begins.allowed x y q.room p

  not_later : (j k : ℕ) (f g : RowFault) → j < k → LineRefused bytes from x y j f → LineRefused bytes from x z k g → ⊥
  not_later j k f g l p q =
      let t = q.turn in
      no_line_fault bytes from q.count q.inputs q.values q.begins.head q.begins.allowed x y q.lines q.begins j f (omega arith) p

  both_at : (j k : ℕ) (f g : RowFault) → j ≡ k → LineRefused bytes from x y j f → LineRefused bytes from x z k g → (f ≡ g) × (y ≡ z)
  both_at j k f g e p q = (
    first_unique (LineTest k (row_at bytes (from + 25 * (k + 1)))) f g (subst (λ m. FirstFailed (LineTest m (row_at bytes (from + 25 * (m + 1)))) f) e p.failed) q.failed,
    same_after x y z p.lines q.lines
        (same_begun bytes from p.count p.inputs p.values q.count q.inputs q.values p.lines q.lines p.begins q.begins (p.turn ∙ e ∙ sym q.turn))
        p.filled q.filled,
  )

at_lines : (j k : ℕ) (f g : RowFault) → j ≡ k → f ≡ g → AtLine j f ≡ AtLine k g
at_lines j k f g p q = ap (λ m. AtLine m f) p ∙ ap (AtLine k) q

err_with : (y z : List Line) (e f : ReadFault) → e ≡ f → y ≡ z → (◌≡◌ {A = Result Header ReadFault} (Err e) (Err f)) × (y ≡ z)
err_with y z e f p q = (ap Err p, q)

-- at most one answer, and one list after it
pub functional : (bytes : List ℕ) (from : ℕ) (x y z : List Line) (r q : Result Header ReadFault) → Reading bytes from x y r → Reading bytes from x z q → (r ≡ q) × (y ≡ z)
functional bytes from x y z (Ok g) (Ok h) p q = let b = both_accepted bytes from x y z g h p q in (ap Ok b.0, b.1)
functional bytes from x y z (Ok g) (Err (Head f)) p q = absurd (accepted_or_head bytes from x y z g f p q)
functional bytes from x y z (Ok g) (Err TooManyLines) p q = absurd (accepted_or_many bytes from x y z g p q)
functional bytes from x y z (Ok g) (Err (AtLine k f)) p q = absurd (accepted_or_line bytes from x y z g k f p q)
functional bytes from x y z (Err (Head f)) (Ok h) p q = absurd (accepted_or_head bytes from x z y h f q p)
functional bytes from x y z (Err (Head f)) (Err (Head g)) p q =
    err_with y z (Head f) (Head g) (ap Head (first_unique (HeadTest (row_at bytes from)) f g p.failed q.failed)) (p.kept ∙ sym q.kept)
functional bytes from x y z (Err (Head f)) (Err TooManyLines) p q = absurd (head_or_many bytes from x y z f p q)
functional bytes from x y z (Err (Head f)) (Err (AtLine k g)) p q = absurd (head_or_line bytes from x y z f k g p q)
functional bytes from x y z (Err TooManyLines) (Ok h) p q = absurd (accepted_or_many bytes from x z y h q p)
functional bytes from x y z (Err TooManyLines) (Err (Head g)) p q = absurd (head_or_many bytes from x z y g q p)
functional bytes from x y z (Err TooManyLines) (Err TooManyLines) p q = (refl, p.kept ∙ sym q.kept)
functional bytes from x y z (Err TooManyLines) (Err (AtLine k g)) p q = absurd (many_or_line bytes from x y z k g p q)
functional bytes from x y z (Err (AtLine j f)) (Ok h) p q = absurd (accepted_or_line bytes from x z y h j f q p)
functional bytes from x y z (Err (AtLine j f)) (Err (Head g)) p q = absurd (head_or_line bytes from x z y g j f q p)
functional bytes from x y z (Err (AtLine j f)) (Err TooManyLines) p q = absurd (many_or_line bytes from x z y j f q p)
functional bytes from x y z (Err (AtLine j f)) (Err (AtLine k g)) p q =
    ⊎_elim (λ e. let b = both_at bytes from x y z j k f g e p q in err_with y z (AtLine j f) (AtLine k g) (at_lines j k f g e b.0) b.1)
    (⊎_elim (λ l. absurd (not_later bytes from x y z j k f g l p q)) (λ l. absurd (not_later bytes from x z y k j g f l q p)))
    (cases_order j k)

-- what a reading tells in full
pub reads : (bytes : List ℕ) (from : ℕ) (x y : List Line) (r : Result Header ReadFault) → Reading bytes from x y r → Reads bytes from x y r
reads bytes from x y r p =
    record {
      reading = p;
      only = λ z q h. functional bytes from x z y q r h p;
      complete = λ i v ls s l.
          functional bytes from x y (ls ++ drop (length ls) x) r (Ok (record { lines = length ls; inputs = i; values = v })) p
          (record { lines = ls; counted = refl; stands = s; filled = record { fits = l; after_is = refl } });
    }

-- of a reading into the first entries of a list, the whole list; a good HEAD row counts just so many
module _ (bytes : List ℕ) (from n i v : ℕ) (h : HeadRow (row_at bytes from) n i v) (a : Allowed i v) (x y : List Line) (l : n ≤ length x) where
  few : length (take n x) ≡ n
  few = length-take-le n x l

  filled_part : (ls : List Line) → Filled (take n x) y ls → Filled x (y ++ drop n x) ls
  filled_part ls f =
      let k = length ls in
      let w : k ≤ length (take n x) = f.fits in
      record {
        fits = omega (arith, few);
        after_is = ap (λ t. t ++ drop n x) f.after_is ∙ append_assoc ls (drop k (take n x)) (drop n x)
            ∙ ap (λ t. ls ++ t) (sym (drop-append-le k (take n x) (drop n x) w) ∙ ap (drop k) (take-append-drop n x));
      }

  pub whole_reading : (r : Result Header ReadFault) → Reading bytes from (take n x) y r → Reading bytes from x (y ++ drop n x) r
  whole_reading (Ok g) r = record { lines = r.lines; counted = r.counted; stands = r.stands; filled = filled_part r.lines r.filled }
  whole_reading (Err (Head f)) r = absurd (no_head_fault bytes from n i v h a (take n x) y f r)
  whole_reading (Err TooManyLines) r = absurd (not_many bytes from n i v h a (take n x) y (omega (arith, few)) r)
  whole_reading (Err (AtLine due f)) r =
      record {
        count = r.count;
        inputs = r.inputs;
        values = r.values;
        lines = r.lines;
        begins = r.begins;
        turn = r.turn;
        counted = r.counted;
        room = let q = r.room in omega (arith, few, q);
        failed = r.failed;
        filled = filled_part r.lines r.filled;
      }
