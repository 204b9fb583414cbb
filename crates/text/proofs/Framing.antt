-- A row from its fields, and the fields of a row. Assumes nothing.
use Rattle.std.proofs.Common.{◌≡◌, ℕ, zero, suc, ◌+◌, ◌<◌, ◌≤◌, List, [], ◌∷◌, ◌++◌, length, get_or, take, drop, Some, None, Option, sym, refl, ap, ◌∙◌, arith, length-drop, get_or-drop, take_all, drop-cons, drop-drop, take_at, drop_at}
use Rattle.text.specs.Rows.{number_field, operand_field, row, Framed}

-- the k elements from i on, as reads
abbrev reads : ℕ → ℕ → List ℕ → List ℕ
reads i zero xs = []
reads i (suc k) xs = get_or xs i 0 ∷ reads (suc i) k xs

reads_are : (k i : ℕ) (xs : List ℕ) → i + k ≤ length xs → reads i k xs ≡ take k (drop i xs)
reads_are zero i xs h = refl
reads_are (suc k) i xs h =
    let l : i < length xs = omega arith in
    rw (drop-cons xs i 0 l) (ap (λ ys. get_or xs i 0 ∷ ys) (reads_are k (suc i) xs (omega arith)))

reads_all : (k : ℕ) (xs : List ℕ) → length xs ≡ k → reads 0 k xs ≡ xs
reads_all k xs h = reads_are k 0 xs (omega arith) ∙ take_all k xs (omega arith)

pub operand_length : (o : Option ℕ) → length (operand_field o) ≡ 6
operand_length None = refl
operand_length (Some n) = refl

glue : (p w a b p' w' a' b' : List ℕ) (x y : ℕ) → p ≡ p' → x ≡ 32 → w ≡ w' → a ≡ a' → b ≡ b' → y ≡ 10
    → p ++ (x ∷ (w ++ (a ++ (b ++ (y ∷ []))))) ≡ p' ++ (32 ∷ (w' ++ (a' ++ (b' ++ (10 ∷ [])))))
glue p w a b p' w' a' b' x y e1 e2 e3 e4 e5 e6 = cc

pub by_fields : (s : List ℕ) → Framed s → (n : ℕ) (w : List ℕ) (a b : Option ℕ)
    → take 5 s ≡ number_field n → take 6 (drop 6 s) ≡ w → take 6 (drop 12 s) ≡ operand_field a → take 6 (drop 18 s) ≡ operand_field b → s ≡ row n w a b
by_fields s f n w a b e1 e3 e4 e5 =
    let h : length s ≡ 25 = f.whole in
    let j : reads 0 5 s ++ (get_or s 5 0 ∷ (reads 6 6 s ++ (reads 12 6 s ++ (reads 18 6 s ++ (get_or s 24 0 ∷ []))))) ≡ s = reads_all 25 s h in
    let q1 : reads 0 5 s ≡ number_field n = reads_are 5 0 s (omega arith) ∙ e1 in
    let q3 : reads 6 6 s ≡ w = reads_are 6 6 s (omega arith) ∙ e3 in
    let q4 : reads 12 6 s ≡ operand_field a = reads_are 6 12 s (omega arith) ∙ e4 in
    let q5 : reads 18 6 s ≡ operand_field b = reads_are 6 18 s (omega arith) ∙ e5 in
    sym j ∙ glue (reads 0 5 s) (reads 6 6 s) (reads 12 6 s) (reads 18 6 s) (number_field n) w (operand_field a) (operand_field b) (get_or s 5 0) (get_or s 24 0) q1 f.space q3 q4 q5 f.feed

module _ (n : ℕ) (w : List ℕ) (a b : Option ℕ) (h : length w ≡ 6) where
  pub at_word : take 6 (drop 6 (row n w a b)) ≡ w
  at_word = take_at w _ 6 h

  past_word : drop 12 (row n w a b) ≡ operand_field a ++ (operand_field b ++ (10 ∷ []))
  past_word = drop_at w _ 6 h

  past_first : drop 18 (row n w a b) ≡ operand_field b ++ (10 ∷ [])
  past_first = sym (drop-drop 6 12 (row n w a b)) ∙ ap (drop 6) past_word ∙ drop_at (operand_field a) _ 6 (operand_length a)

  past_second : drop 24 (row n w a b) ≡ 10 ∷ []
  past_second = sym (drop-drop 6 18 (row n w a b)) ∙ ap (drop 6) past_first ∙ drop_at (operand_field b) _ 6 (operand_length b)

  pub at_first : take 6 (drop 12 (row n w a b)) ≡ operand_field a
  at_first = ap (take 6) past_word ∙ take_at (operand_field a) _ 6 (operand_length a)

  pub at_second : take 6 (drop 18 (row n w a b)) ≡ operand_field b
  at_second = ap (take 6) past_first ∙ take_at (operand_field b) _ 6 (operand_length b)

  at_end : get_or (row n w a b) 24 0 ≡ 10
  at_end = sym (get_or-drop 24 (row n w a b) 0 0) ∙ ap (λ l. get_or l 0 0) past_second

  pub row_length : length (row n w a b) ≡ 25
  row_length = let p = length-drop 24 (row n w a b) in let q = ap length past_second in omega arith

  pub row_framed : Framed (row n w a b)
  row_framed = record { whole = row_length; space = refl; feed = at_end }
