-- The rules of the places in use. Assumes nothing.
use Rattle.std.specs.Prelude.{◌≡◌, ℕ, ◌^◌, ◌<◌, ◌≤◌, Bool, true, cond, not, ◌&&◌, ◌||◌, T, ◌==◌, nat_lt}
use Rattle.algebra.specs.Ops.{Ops}
use Rattle.algebra.specs.Laws.{Firm}
use Rattle.netlist.specs.Parts.{all_below}
use Rattle.records.specs.declared.record.Record.{Record}
use Rattle.records.specs.Stores.{Store, handle, place, marked, level, value, up}

-- What needs no algebra: the table's shape.
pub record Placed (s : Store) (p : ℕ) (r : Record) : Type 0 where
  pub within : r.input < s.inputs
  pub low_before : r.low < handle p
  pub high_before : r.high < handle p
  -- a side is a constant or a place with a higher input number
  pub low_deeper : r.input < level s r.low
  pub high_deeper : r.input < level s r.high
  pub sides_differ : r.low ≡ r.high → ⊥

pub record Well (s : Store) : Type 0 where
  pub few : s.inputs ≤ 60
  pub placed : (p : ℕ) → p < s.used → Placed s p (s.at p)
  -- no two places hold the same input number and sides
  pub apart : (p q : ℕ) → p < s.used → q < s.used → (s.at p).input ≡ (s.at q).input → (s.at p).low ≡ (s.at q).low → (s.at p).high ≡ (s.at q).high → p ≡ q

-- a value that is a code and settled; one that is firm besides: different from its NOT
abbrev pub settled_code : Ops → ℕ → Bool
settled_code o v = nat_lt v o.count && o.settled v

abbrev pub firm_code : Ops → ℕ → Bool
firm_code o v = settled_code o v && not (o.turn v == v)

-- a mask of settled values alone; one with at least one firm value
abbrev pub settled_mask : Ops → ℕ → Bool
settled_mask o m = all_below 16 (λ v. not (up m v) || settled_code o v)

abbrev pub firm_mask : Ops → ℕ → Bool
firm_mask o m = not (all_below 16 (λ v. not (up m v) || not (firm_code o v)))

-- a mark stands only on a place that reaches settled values alone and at least one firm value
abbrev pub may_mark : Ops → ℕ → Bool
may_mark o m = settled_mask o m && firm_mask o m

-- a constant of the algebra, or a place in use, marked only where it may be
abbrev pub lawful : Ops → Store → ℕ → Bool
lawful o s h =
    cond (nat_lt h 16) (nat_lt h o.count)
    (nat_lt (place h) s.used && (not (marked h) || may_mark o (s.at (place h)).reach))

abbrev pub Lawful : Ops → Store → ℕ → Type 0
Lawful o s h = lawful o s h ≡ true

-- a value that the handle has on some pattern
abbrev pub Occurs : Ops → Store → ℕ → ℕ → Type 0
Occurs o s h v = (p : ℕ) × (p < 2 ^ s.inputs) × (value o s h p ≡ v)

abbrev pub SettledAlone : Ops → Store → ℕ → Type 0
SettledAlone o s h = (p : ℕ) → p < 2 ^ s.inputs → T (o.settled (value o s h p))

-- p is the first pattern on which h has a firm value
pub record FirstFirm (o : Ops) (s : Store) (h p : ℕ) : Type 0 where
  pub within : p < 2 ^ s.inputs
  pub firm : Firm o (value o s h p)
  pub first : (q : ℕ) → q < p → Firm o (value o s h q) → ⊥

-- What depends on the algebra.
pub record Sound (o : Ops) (s : Store) : Type 0 where
  pub low : (p : ℕ) → p < s.used → Lawful o s (s.at p).low
  pub high : (p : ℕ) → p < s.used → Lawful o s (s.at p).high
  -- bit v of the reach is up exactly when value v occurs
  pub reached : (p v : ℕ) → p < s.used → up (s.at p).reach v ≡ true → Occurs o s (handle p) v
  pub reaches : (p q : ℕ) → p < s.used → q < 2 ^ s.inputs → up (s.at p).reach (value o s (handle p) q) ≡ true
  -- where a record reaches settled values alone, its first firm value in pattern order, if there is one, is plain
  pub plain : (p q : ℕ) → p < s.used → SettledAlone o s (handle p) → FirstFirm o s (handle p) q → o.plain (value o s (handle p) q) ≡ true
