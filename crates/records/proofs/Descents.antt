-- The shape of a walk, on any table: what it lends to its halves, and where its answers stand. Assumes nothing.
use Rattle.std.proofs.Common.{◌≡◌, ℕ, ◌+◌, ◌<◌, ◌≤◌, min, ap, ◌∙◌, arith}
use Rattle.algebra.specs.Ops.{Ops}
use Rattle.algebra.specs.Laws.{Laws}
use Rattle.records.specs.Stores.{Store, level}
use Rattle.records.specs.Rules.{Well}
use Rattle.records.specs.Changes.{Within, Grows}
use Rattle.records.specs.Marks.{negate}
use Rattle.records.specs.Makings.{Beyond, From}
use Rattle.records.specs.Walks.{combine}
use Rattle.records.proofs.Values.{level_constant, level_within, level_grows, within_grows}
use Rattle.records.proofs.Negates.{negate_before, negate_level}
use Rattle.records.proofs.Halves.{Halved}
use Rattle.records.proofs.Walking.{combine_below}

pub leaf_from : {o : Ops} → Laws o → (s : Store) (k x y h : ℕ) → x < 16 → h ≡ combine o k x y → From s (min (level s x) (level s y)) h
leaf_from {o} laws s k x y h c e =
    let few : h < 16 = omega (arith, combine_below laws k x y, laws.sixteen_at_most) in
    record { within = omega arith; deep = omega (arith, level_constant s x c, level_constant s h few) }

pub negated_from : {o : Ops} → Laws o → (s : Store) (x y h : ℕ) → Within s x → h ≡ negate o s x → From s (min (level s x) (level s y)) h
negated_from {o} laws s x y h u e =
    let same : level s h ≡ level s x = ap (level s) e ∙ negate_level laws s x in
    record { within = omega (arith, negate_before laws s x s.used u); deep = omega arith }

pub moved_from : (s : Store) (i j h : ℕ) → i ≡ j → From s i h → From s j h
moved_from s i j h e f = record { within = f.within; deep = let d = f.deep in omega arith }

-- there is a row for each input that is left, and one more
pub some_row : {s : Store} (w : Well s) (x y n : ℕ) → Within s x → s.inputs < n + min (level s x) (level s y) → 1 ≤ n
some_row {s} w x y n u l = omega (arith, level_within w x u)

module _ {o : Ops} {s : Store} (x y i x0 x1 y0 y1 n m : ℕ) (cut : Halved o s x y i x0 x1 y0 y1) (rows : s.inputs < n + min (level s x) (level s y)) (rest : n ≤ m + 1) where
  pub low_rows : s.inputs < m + min (level s x0) (level s y0)
  low_rows = let e = cut.input_is in let a = cut.low.beyond.deeper in let b = cut.low_other.beyond.deeper in omega arith

  pub high_rows : {t : Store} → Grows s t → t.inputs < m + min (level t x1) (level t y1)
  high_rows {t} grows =
      let e = cut.input_is in
      let a = cut.high.beyond.deeper in
      let b = cut.high_other.beyond.deeper in
      omega (arith, grows.inputs, level_grows grows x1 cut.high.beyond.within, level_grows grows y1 cut.high_other.beyond.within)

module _ {o : Ops} {s t u : Store} (x y i x0 x1 y0 y1 : ℕ) (cut : Halved o s x y i x0 x1 y0 y1) (first : Grows s t) (second : Grows t u) where
  pub low_beyond : (h : ℕ) → From t (min (level s x0) (level s y0)) h → Beyond u i h
  low_beyond h f =
      let a = cut.low.beyond.deeper in
      let b = cut.low_other.beyond.deeper in
      record { within = within_grows second h f.within; deeper = omega (arith, level_grows second h f.within, f.deep) }

  pub high_beyond : (h : ℕ) → From u (min (level t x1) (level t y1)) h → Beyond u i h
  high_beyond h f =
      let a = cut.high.beyond.deeper in
      let b = cut.high_other.beyond.deeper in
      record {
        within = f.within;
        deeper = omega (arith, level_grows first x1 cut.high.beyond.within, level_grows first y1 cut.high_other.beyond.within, f.deep);
      }
