-- What stands in front of the bytes of a Vec that were written as a slice. Assumes nothing.
use Rattle.std.proofs.Common.{◌≡◌, ℕ, List, ◌++◌, length, take, drop, ap, ◌∙◌, Vec}
use Rattle.std.proofs.lemmas.List.{with_items_is}
use Rattle.text.specs.Reports.{Written}
use Rattle.text.proofs.Fits.{in_front}
use Rattle.text.proofs.Writing.{same_length}

pub kept_front : {Z : Type 0} (v : Vec ℕ Z) (new text : List ℕ) (end : ℕ) → length new ≡ v.len → take end new ≡ text → take end (take v.len (new ++ drop (length new) v.items)) ≡ text
kept_front v new text end long front = ap (take end) (with_items_is v new long) ∙ front

pub written_front : {Z : Type 0} (v : Vec ℕ Z) (old new text : List ℕ) (end : ℕ) → length old ≡ v.len → Written text 0 old new end → take end (take v.len (new ++ drop (length new) v.items)) ≡ text
written_front v old new text end long w = kept_front v new text end (same_length text 0 old new end w ∙ long) (in_front text old new end w)
