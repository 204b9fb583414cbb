-- Which rows fail which test, and that the row of a line, and a HEAD row, hold one content at most. Assumes nothing.
use Rattle.std.proofs.Common.{◌≡◌, ℕ, ◌<◌, ◌≤◌, true, List, take, drop, Some, sym, refl, ap, ◌∙◌, subst, inl, inr, arith}
use Rattle.netlist.specs.declared.line.Line.{Line}
use Rattle.text.specs.declared.header.Values.{Values}
use Rattle.text.specs.declared.header.Values.TheVariants.{Two, Five}
use Rattle.text.specs.declared.fault.RowFault.{RowFault}
use Rattle.text.specs.declared.fault.RowFault.TheVariants.{Incomplete, Word, Field, OutOfTurn, Limits}
use Rattle.text.specs.Faults.{order, FirstFailed}
use Rattle.text.specs.Rows.{number_field, operand_field, Framed, word_of}
use Rattle.text.specs.Netlists.{kind_word, head_word, takes_one, second_operand, Readable, line_row, head_row, LineRow, HeadRow, values_number, Allowed, LineTest, HeadTest}
use Rattle.text.proofs.Guessing.{same_number}
use Rattle.text.proofs.Words.{word_length, same_kind}
use Rattle.text.proofs.Framing.{by_fields, at_word, at_first, at_second, row_framed}

-- the first test that fails
module _ (P : RowFault → Type 0) where
  pub fails_incomplete : (P Incomplete → ⊥) → FirstFailed P Incomplete
  fails_incomplete n = record { before = earlier; here = n }
    where
      earlier : (test : RowFault) → order test < order Incomplete → P test
      earlier Incomplete h = absurd (omega arith)
      earlier Word h = absurd (omega arith)
      earlier Field h = absurd (omega arith)
      earlier OutOfTurn h = absurd (omega arith)
      earlier Limits h = absurd (omega arith)

  pub fails_word : P Incomplete → (P Word → ⊥) → FirstFailed P Word
  fails_word p n = record { before = earlier; here = n }
    where
      earlier : (test : RowFault) → order test < order Word → P test
      earlier Incomplete h = p
      earlier Word h = absurd (omega arith)
      earlier Field h = absurd (omega arith)
      earlier OutOfTurn h = absurd (omega arith)
      earlier Limits h = absurd (omega arith)

  pub fails_field : P Incomplete → P Word → (P Field → ⊥) → FirstFailed P Field
  fails_field p q n = record { before = earlier; here = n }
    where
      earlier : (test : RowFault) → order test < order Field → P test
      earlier Incomplete h = p
      earlier Word h = q
      earlier Field h = absurd (omega arith)
      earlier OutOfTurn h = absurd (omega arith)
      earlier Limits h = absurd (omega arith)

  pub fails_turn : P Incomplete → P Word → P Field → (P OutOfTurn → ⊥) → FirstFailed P OutOfTurn
  fails_turn p q r n = record { before = earlier; here = n }
    where
      earlier : (test : RowFault) → order test < order OutOfTurn → P test
      earlier Incomplete h = p
      earlier Word h = q
      earlier Field h = r
      earlier OutOfTurn h = absurd (omega arith)
      earlier Limits h = absurd (omega arith)

  pub fails_limits : P Incomplete → P Word → P Field → P OutOfTurn → (P Limits → ⊥) → FirstFailed P Limits
  fails_limits p q r t n = record { before = earlier; here = n }
    where
      earlier : (test : RowFault) → order test < order Limits → P test
      earlier Incomplete h = p
      earlier Word h = q
      earlier Field h = r
      earlier OutOfTurn h = t
      earlier Limits h = absurd (omega arith)

-- the fields of the row of a line
module _ (n : ℕ) (l : Line) (r : Readable l) where
  pub line_number : take 5 (line_row n l) ≡ number_field n
  unfolding line_row
  line_number = refl

  pub line_word : word_of (line_row n l) ≡ kind_word l.kind
  unfolding line_row
  line_word = at_word n (kind_word l.kind) (Some l.first) (second_operand l.kind l.second) (word_length l.kind r.known)

  pub line_first : take 6 (drop 12 (line_row n l)) ≡ operand_field (Some l.first)
  unfolding line_row
  line_first = at_first n (kind_word l.kind) (Some l.first) (second_operand l.kind l.second) (word_length l.kind r.known)

  pub line_second : take 6 (drop 18 (line_row n l)) ≡ operand_field (second_operand l.kind l.second)
  unfolding line_row
  line_second = at_second n (kind_word l.kind) (Some l.first) (second_operand l.kind l.second) (word_length l.kind r.known)

  pub line_framed : Framed (line_row n l)
  unfolding line_row
  line_framed = row_framed n (kind_word l.kind) (Some l.first) (second_operand l.kind l.second) (word_length l.kind r.known)

-- and of a HEAD row
module _ (n i v : ℕ) where
  pub head_number : take 5 (head_row n i v) ≡ number_field n
  unfolding head_row
  head_number = refl

  pub head_worded : word_of (head_row n i v) ≡ head_word
  unfolding head_row
  head_worded = at_word n head_word (Some i) (Some v) refl

  pub head_first : take 6 (drop 12 (head_row n i v)) ≡ operand_field (Some i)
  unfolding head_row
  head_first = at_first n head_word (Some i) (Some v) refl

  pub head_second : take 6 (drop 18 (head_row n i v)) ≡ operand_field (Some v)
  unfolding head_row
  head_second = at_second n head_word (Some i) (Some v) refl

  pub head_framed : Framed (head_row n i v)
  unfolding head_row
  head_framed = row_framed n head_word (Some i) (Some v) refl

-- a row with a malformed field is no line's
module _ (s : List ℕ) where
  pub no_number : ((n : ℕ) → n < 100000 → take 5 s ≡ number_field n → ⊥) → LineRow s → ⊥
  no_number none q = none q.number q.small (ap (take 5) q.text ∙ line_number q.number q.line q.readable)

  pub no_first : ((n : ℕ) → n < 1000000 → take 6 (drop 12 s) ≡ operand_field (Some n) → ⊥) → LineRow s → ⊥
  no_first none q = none q.line.first q.readable.first (ap (λ t. take 6 (drop 12 t)) q.text ∙ line_first q.number q.line q.readable)

  pub no_second : (k : ℕ) → k < 9 → word_of s ≡ kind_word k → ((n : ℕ) → n < 1000000 → take 6 (drop 18 s) ≡ operand_field (second_operand k n) → ⊥) → LineRow s → ⊥
  no_second k h w none q =
      let e : q.line.kind ≡ k = same_kind q.line.kind k q.readable.known h (sym (line_word q.number q.line q.readable) ∙ ap word_of (sym q.text) ∙ w) in
      none q.line.second q.readable.second
      (ap (λ t. take 6 (drop 18 t)) q.text ∙ line_second q.number q.line q.readable ∙ ap (λ j. operand_field (second_operand j q.line.second)) e)

  pub no_count : ((n : ℕ) → n < 100000 → take 5 s ≡ number_field n → ⊥) → (n i v : ℕ) → HeadRow s n i v → ⊥
  no_count none n i v q = none n q.small (ap (take 5) q.text ∙ head_number n i v)

  pub no_inputs : ((n : ℕ) → n < 1000000 → take 6 (drop 12 s) ≡ operand_field (Some n) → ⊥) → (n i v : ℕ) → HeadRow s n i v → ⊥
  no_inputs none n i v q = none i q.few (ap (λ t. take 6 (drop 12 t)) q.text ∙ head_first n i v)

  pub no_values : ((n : ℕ) → n < 1000000 → take 6 (drop 18 s) ≡ operand_field (Some n) → ⊥) → (n i v : ℕ) → HeadRow s n i v → ⊥
  no_values none n i v q = none v q.less (ap (λ t. take 6 (drop 18 t)) q.text ∙ head_second n i v)

-- one HEAD row, one content
module _ (s : List ℕ) (n i v m j w : ℕ) (p : HeadRow s n i v) (q : HeadRow s m j w) where
  rows : head_row n i v ≡ head_row m j w
  rows = sym p.text ∙ q.text

  pub same_count : n ≡ m
  same_count = same_number 5 n m p.small q.small (sym (head_number n i v) ∙ ap (take 5) rows ∙ head_number m j w)

  pub same_inputs : i ≡ j
  same_inputs = same_number 6 i j p.few q.few (sym (head_first n i v) ∙ ap (λ t. take 6 (drop 12 t)) rows ∙ head_first m j w)

  pub same_values : v ≡ w
  same_values = same_number 6 v w p.less q.less (sym (head_second n i v) ∙ ap (λ t. take 6 (drop 18 t)) rows ∙ head_second m j w)

pub allowed : (i : ℕ) (v : Values) → i ≤ 60 → Allowed i (values_number v)
allowed i Two h = (h, inl refl)
allowed i Five h = (h, inr refl)

-- how the reader of a HEAD row ends; t is the row in its place
module _ (s t : List ℕ) (e : s ≡ t) (f : Framed s) where
  pub head_fails_field : word_of s ≡ head_word → ((n i v : ℕ) → HeadRow s n i v → ⊥) → FirstFailed (HeadTest t) Field
  head_fails_field w none = subst (λ u. FirstFailed (HeadTest u) Field) e (fails_field (HeadTest s) f w (λ q. none q.0 q.1 q.2 q.3))

  pub is_head : (n i v : ℕ) → word_of s ≡ head_word → (n < 100000) × (take 5 s ≡ number_field n)
      → (i < 1000000) × (take 6 (drop 12 s) ≡ operand_field (Some i)) → (v < 1000000) × (take 6 (drop 18 s) ≡ operand_field (Some v)) → HeadRow t n i v
  unfolding head_row
  is_head n i v w a b c = record { small = a.0; few = b.0; less = c.0; text = sym e ∙ by_fields s f n head_word (Some i) (Some v) a.1 w b.1 c.1 }

  pub head_fails_limits : (n i v : ℕ) → word_of s ≡ head_word → HeadRow t n i v → (Allowed i v → ⊥) → FirstFailed (HeadTest t) Limits
  head_fails_limits n i v w q no_such =
      fails_limits (HeadTest t) (subst Framed e f) (ap word_of (sym e) ∙ w) (n, i, v, q) tt
      (λ p. no_such (subst (λ x. Allowed x v) (same_inputs t p.0 p.1 p.2 n i v p.3 q) (subst (λ y. Allowed p.1 y) (same_values t p.0 p.1 p.2 n i v p.3 q) p.4)))

pub readable_from : (k a b : ℕ) → k < 9 → a < 1000000 → b < 1000000 → (takes_one k ≡ true → b ≡ 0) → Readable (record { kind = k; first = a; second = b })
readable_from k a b h i j u = record { known = h; first = i; second = j; unused = u }

-- how the reader of a line's row ends
module _ (due : ℕ) (s t : List ℕ) (e : s ≡ t) (f : Framed s) where
  pub line_fails_word : ((k : ℕ) → k < 9 → word_of s ≡ kind_word k → ⊥) → FirstFailed (LineTest due t) Word
  line_fails_word n = subst (λ u. FirstFailed (LineTest due u) Word) e (fails_word (LineTest due s) f (λ q. n q.0 q.1 q.2))

  pub line_fails_field : (k : ℕ) → k < 9 → word_of s ≡ kind_word k → (LineRow s → ⊥) → FirstFailed (LineTest due t) Field
  line_fails_field k h w none = subst (λ u. FirstFailed (LineTest due u) Field) e (fails_field (LineTest due s) f (k, h, w) none)

  pub is_line : (n k a b : ℕ) → word_of s ≡ kind_word k → take 5 s ≡ number_field n
      → take 6 (drop 12 s) ≡ operand_field (Some a) → take 6 (drop 18 s) ≡ operand_field (second_operand k b) → t ≡ line_row n (record { kind = k; first = a; second = b })
  unfolding line_row
  is_line n k a b w x y z = sym e ∙ by_fields s f n (kind_word k) (Some a) (second_operand k b) x w y z

  pub line_fails_turn : (n : ℕ) (l : Line) → n < 100000 → Readable l → t ≡ line_row n l → due < 100000 → (n ≡ due → ⊥) → FirstFailed (LineTest due t) OutOfTurn
  line_fails_turn n l small r q below other =
      fails_turn (LineTest due t) (subst Framed e f) (l.kind, r.known, ap word_of q ∙ line_word n l r)
      (record { number = n; line = l; small = small; readable = r; text = q })
      (λ p. other (same_number 5 n due small below (sym (ap (take 5) q ∙ line_number n l r) ∙ p)))

-- the line that was due, its kind by number
pub line_done : (due n k k' a b : ℕ) (t : List ℕ) → k' ≡ k → n ≡ due → Readable (record { kind = k; first = a; second = b })
    → t ≡ line_row n (record { kind = k; first = a; second = b })
    → Readable (record { kind = k'; first = a; second = b }) × (t ≡ line_row due (record { kind = k'; first = a; second = b }))
line_done due n k k' a b t e f r q = (
  subst (λ x. Readable (record { kind = x; first = a; second = b })) (sym e) r,
  q ∙ ap (λ x. line_row x (record { kind = k; first = a; second = b })) f ∙ ap (λ x. line_row due (record { kind = x; first = a; second = b })) (sym e),
)
