-- The inputs that matter to a signal, and masks of them: bit i of a mask stands for input i. Assumes nothing.
use Rattle.std.specs.Prelude.{◌≡◌, ℕ, zero, suc, ◌^◌, ◌<◌, Bool, true, cond, not, ◌||◌, ◌⊎◌, List, length, ◌==◌, ◌≢◌, bit_or, slice_index_or}
use Rattle.algebra.specs.Ops.{Ops}
use Rattle.algebra.specs.Laws.{Laws}
use Rattle.netlist.specs.Parts.{all_below}
use Rattle.netlist.specs.Signals.{Signal, bit}
use Rattle.records.specs.declared.row.Row.{Row}
use Rattle.records.specs.Stores.{Store, value, up}
use Rattle.records.specs.Rules.{Sound, Lawful}

-- whether two patterns of n inputs have the same bits but at input i
abbrev pub same_but : ℕ → ℕ → ℕ → ℕ → Bool
same_but n i p q = all_below n (λ j. (j == i) || bit n p j == bit n q j)

-- whether input i matters to the signal f: two patterns that differ only there have different values
abbrev pub matters : ℕ → Signal → ℕ → Bool
matters n f i = not (all_below (2 ^ n) (λ p. all_below (2 ^ n) (λ q. not (same_but n i p q) || f p == f q)))

-- the mask of the numbers below m that pass a test
unfoldable pub mask_below : (ℕ → Bool) → ℕ → ℕ
mask_below t zero = 0
mask_below t (suc m) = cond (t m) (bit_or (mask_below t m) (2 ^ m)) (mask_below t m)

-- the mask of the inputs that matter to f
abbrev pub support_of : ℕ → Signal → ℕ
support_of n f = mask_below (matters n f) n

-- The same as a statement, and the steps of a collection of those inputs.

pub record Matters (n : ℕ) (f : Signal) (i : ℕ) : Type 0 where
  pub one : ℕ
  pub other : ℕ
  pub one_within : one < 2 ^ n
  pub other_within : other < 2 ^ n
  pub elsewhere : (j : ℕ) → j < n → (j ≢ i) → bit n one j ≡ bit n other j
  pub differ : f one ≡ f other → ⊥

-- m has every input that matters to the handle h
abbrev pub Covers : Store → ℕ → ℕ → Type 0
Covers s m h = (o : Ops) (i : ℕ) → Matters s.inputs (value o s h) i → up m i ≡ true

-- m has every input of l
abbrev pub More : ℕ → ℕ → Type 0
More l m = (i : ℕ) → up l i ≡ true → up m i ≡ true

-- r is m with the inputs that matter to h, and no others
pub record Collected (s : Store) (h m r : ℕ) : Type 0 where
  pub more : More m r
  pub covers : Covers s r h
  pub only : (o : Ops) → Laws o → Sound o s → Lawful o s h → (i : ℕ) → up r i ≡ true → (up m i ≡ true) ⊎ Matters s.inputs (value o s h) i

-- the handle that a work row holds as done
abbrev pub done_at : List Row → ℕ → ℕ
done_at rows k = (slice_index_or rows k (record { input = 0; low = 0; high = 0; low_other = 0; high_other = 0 })).low

-- m has every input that matters to a handle that a row holds
abbrev pub AllDone : Store → ℕ → List Row → Type 0
AllDone s m rows = (k : ℕ) → k < length rows → Covers s m (done_at rows k)
