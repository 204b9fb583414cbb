-- The rows of reports: their sizes, and a row from its parts. Assumes nothing.
use Rattle.std.proofs.Common.{◌≡◌, ℕ, suc, ◌+◌, ◌/◌, ◌^◌, ◌<◌, ◌≤◌, List, [], ◌∷◌, ◌++◌, map, length, get_or, take, drop, Some, None, codes, Option, sym, refl, ap, ◌∙◌, append_assoc, append-nil, arith, pow_mono}
use Rattle.std.specs.Option.{SomeIff, unwrap_or}
use Rattle.std.proofs.lemmas.Nat.{div_below, pow_pos}
use Rattle.std.proofs.lemmas.List.FromFn.{length-map-range_with_len}
use Rattle.std.proofs.lemmas.List.{length-append, length-map, length-take-le, map_more, at_drop_more}
use Rattle.netlist.specs.declared.finding.Difference.{Difference}
use Rattle.netlist.specs.declared.finding.Finding.{Finding}
use Rattle.netlist.specs.declared.finding.Finding.TheVariants.{Clean, Differs}
use Rattle.netlist.specs.Signals.{bit}
use Rattle.text.specs.declared.writer.Summary.{Summary}
use Rattle.text.specs.declared.writer.Summary.TheVariants.{Tried, Report}
use Rattle.text.specs.Rows.{number_field, operand_field}
use Rattle.text.specs.Reports.{summary_word, summary_row, fault_row, bits, difference, finding_row, findings_text, finding_size, findings_size, Written}
use Rattle.text.proofs.Framing.{row_length}
use Rattle.text.proofs.Writing.{written_none, written_more, written_as, same_length}

pub summary_size : (pairs : ℕ) (word : Summary) (number : ℕ) → length (summary_row pairs word number) ≡ 19
unfolding summary_row
summary_size pairs Tried number = refl
summary_size pairs Report number = refl

pub summary_is : (a b c : List ℕ) (pairs : ℕ) (word : Summary) (number : ℕ) → a ≡ number_field pairs → b ≡ summary_word word → c ≡ operand_field (Some number)
    → a ++ ((32 ∷ []) ++ (b ++ (c ++ (10 ∷ [])))) ≡ summary_row pairs word number
unfolding summary_row
summary_is a b c pairs word number p q r =
    ap (λ t. t ++ (32 ∷ (b ++ (c ++ (10 ∷ []))))) p ∙ ap (λ t. number_field pairs ++ (32 ∷ (t ++ (c ++ (10 ∷ []))))) q
    ∙ ap (λ t. number_field pairs ++ (32 ∷ (summary_word word ++ (t ++ (10 ∷ []))))) r

pub fault_size : (number netlist : ℕ) (line : Option ℕ) → length (fault_row number netlist line) ≡ 25
unfolding fault_row
fault_size number netlist line = row_length number (codes "FAULT ") (Some netlist) line refl

pub fault_is : (a b c : List ℕ) (number netlist : ℕ) (line : Option ℕ) → a ≡ number_field number → b ≡ operand_field (Some netlist) → c ≡ operand_field line
    → a ++ ((32 ∷ 70 ∷ 65 ∷ 85 ∷ 76 ∷ 84 ∷ 32 ∷ []) ++ (b ++ (c ++ (10 ∷ [])))) ≡ fault_row number netlist line
unfolding fault_row
fault_is a b c number netlist line p q r =
    ap (λ t. t ++ (32 ∷ 70 ∷ 65 ∷ 85 ∷ 76 ∷ 84 ∷ 32 ∷ (b ++ (c ++ (10 ∷ []))))) p
    ∙ ap (λ t. number_field number ++ (32 ∷ 70 ∷ 65 ∷ 85 ∷ 76 ∷ 84 ∷ 32 ∷ (t ++ (c ++ (10 ∷ []))))) q
    ∙ ap (λ t. number_field number ++ (32 ∷ 70 ∷ 65 ∷ 85 ∷ 76 ∷ 84 ∷ 32 ∷ (operand_field (Some netlist) ++ (t ++ (10 ∷ []))))) r

-- the bits above the 64 of a number are 0
high_bit : (p k : ℕ) → p < 2 ^ 64 → 64 ≤ k → p / 2 ^ k ≡ 0
high_bit p k h l =
    let m : 2 ^ 64 ≤ 2 ^ k = pow_mono l in
    let z : p / 2 ^ k < 1 = div_below p (2 ^ k) 1 (pow_pos k) (omega arith) in
    omega arith

pub shifted : (p k : ℕ) (o : Option ℕ) → p < 2 ^ 64 → SomeIff o (k < 64) (p / 2 ^ k) → unwrap_or o 0 ≡ p / 2 ^ k
shifted p k (Some x) h s = s.1
shifted p k None h s = sym (high_bit p k h (omega (arith, s)))

bits_size : (width pattern : ℕ) → length (bits width pattern) ≡ width
bits_size width pattern = length-map-range_with_len (λ i. 48 + bit width pattern i) 0 width

pub finding_sized : (letter : ℕ → ℕ) (width n : ℕ) (f : Finding) → length (finding_row letter width n f) ≡ finding_size width f
unfolding finding_row
finding_sized letter width n Clean = refl
finding_sized letter width n (Differs d) =
    let a = length-append (bits width d.pattern) (10 ∷ []) in
    let b = bits_size width d.pattern in
    omega arith

pub findings_sized : (letter : ℕ → ℕ) (width n : ℕ) (fs : List Finding) → length (findings_text letter width n fs) ≡ findings_size width fs
unfolding findings_text
findings_sized letter width n [] = refl
findings_sized letter width n (f ∷ fs) =
    let a = length-append (finding_row letter width n f) (findings_text letter width (suc n) fs) in
    let b = finding_sized letter width n f in
    let c = findings_sized letter width (suc n) fs in
    omega arith

-- one row more
findings_push : (letter : ℕ → ℕ) (width m : ℕ) (fs : List Finding) (f : Finding)
    → findings_text letter width m (fs ++ (f ∷ [])) ≡ findings_text letter width m fs ++ finding_row letter width (m + length fs) f
unfolding findings_text
findings_push letter width m [] f = append-nil (finding_row letter width m f) ∙ ap (λ k. finding_row letter width k f) (omega arith)
findings_push letter width m (g ∷ fs) f =
    let e : suc m + length fs ≡ m + suc (length fs) = omega arith in
    ap (λ t. finding_row letter width m g ++ t) (findings_push letter width (suc m) fs f ∙ ap (λ k. findings_text letter width (suc m) fs ++ finding_row letter width k f) e)
    ∙ sym (append_assoc (finding_row letter width m g) (findings_text letter width (suc m) fs) (finding_row letter width (m + suc (length fs)) f))

-- and one bit
-- a finding's row from its parts
pub clean_is : (letter : ℕ → ℕ) (width n : ℕ) (a : List ℕ) (x : ℕ) → a ≡ number_field n → x ≡ letter 0 → a ++ (32 ∷ x ∷ 10 ∷ []) ≡ finding_row letter width n Clean
unfolding finding_row
clean_is letter width n a x p q = ap (λ t. t ++ (32 ∷ x ∷ 10 ∷ [])) p ∙ ap (λ y. number_field n ++ (32 ∷ y ∷ 10 ∷ [])) q

pub differs_is : (letter : ℕ → ℕ) (width n : ℕ) (d : Difference) (a : List ℕ) → a ≡ number_field n → a ++ difference letter width d ≡ finding_row letter width n (Differs d)
unfolding finding_row
differs_is letter width n d a p = ap (λ t. t ++ difference letter width d) p

pub difference_is : (letter : ℕ → ℕ) (width : ℕ) (d : Difference) (x y z : ℕ) → x ≡ letter d.grade → y ≡ letter d.left → z ≡ letter d.right
    → (32 ∷ x ∷ 32 ∷ y ∷ 32 ∷ z ∷ 32 ∷ []) ++ (bits width d.pattern ++ (10 ∷ [])) ≡ difference letter width d
difference_is letter width d x y z q r s =
    ap (λ t. (32 ∷ t ∷ 32 ∷ y ∷ 32 ∷ z ∷ 32 ∷ []) ++ (bits width d.pattern ++ (10 ∷ []))) q
    ∙ ap (λ t. (32 ∷ letter d.grade ∷ 32 ∷ t ∷ 32 ∷ z ∷ 32 ∷ []) ++ (bits width d.pattern ++ (10 ∷ []))) r
    ∙ ap (λ t. (32 ∷ letter d.grade ∷ 32 ∷ letter d.left ∷ 32 ∷ t ∷ 32 ∷ []) ++ (bits width d.pattern ++ (10 ∷ []))) s

-- the room that is left after the letters and the bits
pub after_bits : (s : List ℕ) (at : ℕ) (x y z : List ℕ) (e f width pattern : ℕ) → Written s at x y e → Written (bits width pattern) e y z f
    → length s ≡ 7 → at + (8 + width) ≤ length x → f + 1 ≤ length z
after_bits s at x y z e f width pattern p q h r =
    let a = same_length s at x y e p in
    let b = same_length (bits width pattern) e y z f q in
    let c = bits_size width pattern in
    let d = p.end_is in
    let g = q.end_is in
    omega arith

pub no_findings : (letter : ℕ → ℕ) (width at : ℕ) (xs : List ℕ) → at ≤ length xs → Written (findings_text letter width 0 []) at xs xs at
unfolding findings_text
no_findings letter width at xs h = written_none at xs h

-- the findings of things, of which x has the number i
module _ {X : Type 0} (of : X → Finding) (width : ℕ) (xs : List X) (i : ℕ) where
  findings_more : (letter : ℕ → ℕ) (x : X) → i < length xs → x ≡ get_or xs i x
      → findings_text letter width 0 (map of (take i xs)) ++ finding_row letter width i (of x) ≡ findings_text letter width 0 (map of (take (i + 1) xs))
  findings_more letter x h e =
      let k : i ≡ 0 + length (map of (take i xs)) = (let t = length-take-le i xs (omega arith) in let m = length-map (take i xs) of in omega arith) in
      ap (λ j. findings_text letter width 0 (map of (take i xs)) ++ finding_row letter width j (of x)) k
      ∙ sym (findings_push letter width 0 (map of (take i xs)) (of x)) ∙ ap (λ y. findings_text letter width 0 (map of (take i xs) ++ (of y ∷ []))) e
      ∙ ap (findings_text letter width 0) (sym (map_more of xs i x h))

  -- the rows that are left
  pub size_more : (x : X) → i < length xs → x ≡ get_or xs i x
      → findings_size width (map of (drop i xs)) ≡ finding_size width (of x) + findings_size width (map of (drop (i + 1) xs))
  size_more x h e =
      at_drop_more (λ ys. findings_size width (map of ys)) xs i x h ∙ ap (λ y. finding_size width (of y) + findings_size width (map of (drop (i + 1) xs))) (sym e)

  -- the row of x after those before it
  pub next_row : (letter : ℕ → ℕ) (x : X) (at e f : ℕ) (s t u : List ℕ) → i < length xs → x ≡ get_or xs i x
      → Written (findings_text letter width 0 (map of (take i xs))) at s t e → e + findings_size width (map of (drop i xs)) ≤ length t
      → Written (finding_row letter width i (of x)) e t u f
      → Written (findings_text letter width 0 (map of (take (i + 1) xs))) at s u f × (f + findings_size width (map of (drop (i + 1) xs)) ≤ length u)
  next_row letter x at e f s t u h q w r v =
      let m = size_more x h q in
      let n = finding_sized letter width i (of x) in
      let l = same_length (finding_row letter width i (of x)) e t u f v in
      let z = v.end_is in (
        written_as _ _ at s u f (findings_more letter x h q) (written_more (findings_text letter width 0 (map of (take i xs))) at s t e w (finding_row letter width i (of x)) u f v),
        omega arith,
      )
