-- Netlists row by row: the rows that stand so far, one more, and the whole text. Assumes nothing.
use Rattle.std.proofs.Common.{◌≡◌, ℕ, suc, ◌+◌, ◌*◌, ◌<◌, ◌≤◌, List, [], ◌∷◌, ◌++◌, length, take, drop, set, Err, Result, sym, refl, ap, ◌∙◌, subst, append_assoc, append-nil, arith, length-drop, length-take, drop-drop, take-add}
use Rattle.std.proofs.lemmas.List.{length_push, length-take-le, take-append-drop, take_more_set, drop-set-lt}
use Rattle.std.proofs.ByRecursion.{All-push}
use Rattle.netlist.specs.declared.line.Line.{Line}
use Rattle.text.specs.declared.header.Header.{Header}
use Rattle.text.specs.declared.fault.RowFault.{RowFault}
use Rattle.text.specs.declared.fault.ReadFault.{ReadFault}
use Rattle.text.specs.declared.fault.ReadFault.TheVariants.{Head, AtLine}
use Rattle.text.specs.Rows.{row_at}
use Rattle.text.specs.Netlists.{Readable, Allowed, line_row, head_row, HeadRow, HeadTest, lines_text, netlist_text}
use Rattle.text.specs.Readings.{Stands, Begins, Filled, LineRefused, Reading}
use Rattle.text.specs.Faults.{FirstFailed}
use Rattle.text.proofs.Tested.{line_framed, head_framed}

-- a row that is whole stands within the bytes
at_fits : (bytes : List ℕ) (at : ℕ) → length (row_at bytes at) ≡ 25 → at + 25 ≤ length bytes
at_fits bytes at e = let w = simp (length-take, length-drop) at e in omega arith

pub head_fits : (bytes : List ℕ) (from n i v : ℕ) → HeadRow (row_at bytes from) n i v → from + 25 ≤ length bytes
head_fits bytes from n i v h = at_fits bytes from (ap length h.text ∙ (head_framed n i v).whole)

pub line_fits : (bytes : List ℕ) (at n : ℕ) (l : Line) → Readable l → row_at bytes at ≡ line_row n l → at + 25 ≤ length bytes
line_fits bytes at n l r e = at_fits bytes at (ap length e ∙ (line_framed n l r).whole)

pub begins_none : (bytes : List ℕ) (from n i v : ℕ) → HeadRow (row_at bytes from) n i v → Allowed i v → Begins bytes from n i v []
unfolding lines_text
begins_none bytes from n i v h a = record { head = h; allowed = a; rows = refl; readable = tt }

lines_push : (m : ℕ) (ls : List Line) (l : Line) → lines_text m (ls ++ (l ∷ [])) ≡ lines_text m ls ++ line_row (m + length ls) l
unfolding lines_text
lines_push m [] l = append-nil (line_row m l) ∙ ap (λ k. line_row k l) (omega arith)
lines_push m (x ∷ ls) l =
    let e : suc m + length ls ≡ m + suc (length ls) = omega arith in
    ap (λ t. line_row m x ++ t) (lines_push (suc m) ls l ∙ ap (λ k. lines_text (suc m) ls ++ line_row k l) e)
    ∙ sym (append_assoc (line_row m x) (lines_text (suc m) ls) (line_row (m + suc (length ls)) l))

module _ (bytes : List ℕ) (from n i v : ℕ) where
  begins_more : (ls : List Line) (l : Line) (at : ℕ) → Begins bytes from n i v ls → Readable l → at ≡ from + 25 * (length ls + 1)
      → row_at bytes at ≡ line_row (length ls) l → Begins bytes from n i v (ls ++ (l ∷ []))
  begins_more ls l at b r e q =
      let xs = drop (from + 25) bytes in
      let k : 25 * length (ls ++ (l ∷ [])) ≡ 25 * length ls + 25 = rw (length_push ls l) (omega arith) in
      let d : drop (25 * length ls) xs ≡ drop at bytes = drop-drop (25 * length ls) (from + 25) bytes ∙ ap (λ m. drop m bytes) (omega arith) in
      record {
        head = b.head;
        allowed = b.allowed;
        rows = ap (λ m. take m xs) k ∙ take-add (25 * length ls) 25 xs ∙ ap (λ t. t ++ take 25 (drop (25 * length ls) xs)) b.rows
            ∙ ap (λ t. lines_text 0 ls ++ take 25 t) d ∙ ap (λ t. lines_text 0 ls ++ t) (q ∙ ap (λ m. line_row m l) (omega arith)) ∙ sym (lines_push 0 ls l);
        readable = All-push Readable ls l b.readable r;
      }

  -- the entry d of the list becomes the next line
  pub begins_set : (xs : List Line) (d at : ℕ) (l : Line) → d < length xs → Begins bytes from n i v (take d xs) → Readable l → at ≡ from + 25 * (d + 1)
      → row_at bytes at ≡ line_row d l → Begins bytes from n i v (take (d + 1) (set xs d l))
  begins_set xs d at l h b r e q =
      let k : length (take d xs) ≡ d = length-take-le d xs (omega arith) in
      subst (Begins bytes from n i v) (sym (take_more_set xs d l h))
      (begins_more (take d xs) l at b r (e ∙ ap (λ m. from + 25 * (m + 1)) (sym k)) (q ∙ ap (λ m. line_row m l) (sym k)))

  pub stands : (ls : List Line) → length ls ≡ n → Begins bytes from n i v ls → Stands bytes from i v ls
  unfolding netlist_text
  stands ls e b =
      let k : 25 * (length ls + 1) ≡ 25 + 25 * length ls = omega arith in
      let t : drop 25 (drop from bytes) ≡ drop (from + 25) bytes = drop-drop 25 from bytes in
      record {
        text = ap (λ m. take m (drop from bytes)) k ∙ take-add 25 (25 * length ls) (drop from bytes) ∙ ap (λ y. take 25 (drop from bytes) ++ take (25 * length ls) y) t
            ∙ ap (λ y. y ++ take (25 * length ls) (drop (from + 25) bytes)) (b.head.text ∙ ap (λ m. head_row m i v) (sym e)) ∙ ap (λ y. head_row (length ls) i v ++ y) b.rows;
        writable = record { short = rw e b.head.small; readable = b.readable; allowed = b.allowed };
      }

-- the first d entries are new, and the others as before
pub filled : (before after : List Line) (d : ℕ) → d ≤ length after → length after ≡ length before → drop d after ≡ drop d before → Filled before after (take d after)
filled before after d h e q =
    let k : length (take d after) ≡ d = length-take-le d after h in
    record { fits = omega arith; after_is = sym (take-append-drop d after) ∙ ap (λ t. take d after ++ t) (q ∙ ap (λ m. drop m before) (sym k)) }

-- and after one entry more
pub rest_set : (before after : List Line) (d : ℕ) (l : Line) → drop d after ≡ drop d before → drop (d + 1) (set after d l) ≡ drop (d + 1) before
rest_set before after d l q =
    drop-set-lt (d + 1) after d l (omega arith) ∙ sym (drop-drop 1 d after) ∙ ap (drop 1) q ∙ drop-drop 1 d before

pub refused_at : (bytes : List ℕ) (from : ℕ) (before after : List Line) (r : Result Header ReadFault) (e : ReadFault) (due : ℕ) (fault : RowFault)
    → r ≡ Err e → e ≡ AtLine due fault → LineRefused bytes from before after due fault → Reading bytes from before after r
refused_at bytes from before after r e due fault p q h = subst (Reading bytes from before after) (sym (p ∙ ap Err q)) h

pub refused_head : (bytes : List ℕ) (from : ℕ) (before : List Line) (r : Result Header ReadFault) (e : ReadFault) (fault : RowFault)
    → r ≡ Err e → e ≡ Head fault → FirstFailed (HeadTest (row_at bytes from)) fault → Reading bytes from before before r
refused_head bytes from before r e fault p q h = subst (Reading bytes from before before) (sym (p ∙ ap Err q)) (record { failed = h; kept = refl })
