-- A list whose first two parts were written one after the other. Assumes nothing.
use Rattle.std.proofs.Common.{◌≡◌, ℕ, ◌+◌, ◌≤◌, List, ◌++◌, length, take, drop, sym, ap, ◌∙◌, arith, length-append, length-drop, length-take}
use borrow.Rule.Slice.PartMut.{put_mid, post_of}
use Rattle.std.proofs.lemmas.List.{take_at, drop_at, drop-drop}

pub second_length : {X : Type 0} (a b k0 k1 : ℕ) (xs u v : List X) → k0 ≡ a → k1 ≡ b → length u ≡ a → a + b ≤ length xs → length v ≡ length (take k1 (drop a (u ++ post_of 0 k0 xs))) → length v ≡ b
second_length a b k0 k1 xs u v e0 e1 lu room k =
    let t = length-take k1 (drop a (u ++ post_of 0 k0 xs)) in
    let d = length-drop a (u ++ post_of 0 k0 xs) in
    let p = length-append u (post_of 0 k0 xs) in
    let r = length-drop k0 xs in
    omega arith

module _ {X : Type 0} (a b k0 k1 : ℕ) (xs u v : List X) (e0 : k0 ≡ a) (e1 : k1 ≡ b) (lu : length u ≡ a) (lv : length v ≡ b) where
  whole : put_mid a k1 (u ++ post_of 0 k0 xs) v ≡ u ++ (v ++ drop (a + b) xs)
  whole =
      rw (e0, e1)
      (ap (λ l. l ++ (v ++ drop b (drop a (u ++ drop a xs)))) (take_at u (drop a xs) a lu)
      ∙ ap (λ l. u ++ (v ++ drop b l)) (drop_at u (drop a xs) a lu)
      ∙ ap (λ l. u ++ (v ++ l)) (drop-drop b a xs))

  pub front_part : take k0 (put_mid a k1 (u ++ post_of 0 k0 xs) v) ≡ u
  front_part = ap (take k0) whole ∙ take_at u _ k0 (lu ∙ sym e0)

  pub back_part : take k1 (drop a (put_mid a k1 (u ++ post_of 0 k0 xs) v)) ≡ v
  back_part = ap (λ l. take k1 (drop a l)) whole ∙ ap (take k1) (drop_at u _ a lu) ∙ take_at v _ k1 (lv ∙ sym e1)

  pub rest_part : drop (a + b) (put_mid a k1 (u ++ post_of 0 k0 xs) v) ≡ drop (a + b) xs
  rest_part = ap (drop (a + b)) whole ∙ sym (drop-drop b a (u ++ (v ++ drop (a + b) xs))) ∙ ap (drop b) (drop_at u _ a lu) ∙ drop_at v _ b lv
