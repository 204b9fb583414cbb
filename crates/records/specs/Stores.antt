-- Handles into a table of records, and what a handle stands for. Assumes nothing.
use Rattle.std.specs.Prelude.{ℕ, zero, suc, ◌+◌, ◌-◌, ◌*◌, ◌/◌, ◌%◌, ◌^◌, Bool, cond, List, length, ◌==◌, nat_lt}
use Rattle.algebra.specs.Ops.{Ops}
use Rattle.netlist.specs.Signals.{bit}
use Rattle.records.specs.declared.record.Record.{Record}
use Rattle.records.specs.Keys.{record_at}

-- what of a table matters: how many inputs, how many places are in use, and what each holds
pub record Store : Type 0 where
  pub inputs : ℕ
  pub used : ℕ
  pub at : ℕ → Record

-- the store of a list of records
abbrev pub store : ℕ → List Record → Store
store inputs rs = record { inputs = inputs; used = length rs; at = record_at rs }

-- handles 0 to 15 are constants; place p has handle 16 + 2 p, and one more with a mark, which means NOT of the signal
abbrev pub handle : ℕ → ℕ
handle p = 16 + 2 * p

abbrev pub place : ℕ → ℕ
place h = (h - 16) / 2

abbrev pub marked : ℕ → Bool
marked h = (h - 16) % 2 == 1

-- the input that a handle tests first; a constant tests none, and counts as below all inputs
abbrev pub level : Store → ℕ → ℕ
level s h = cond (nat_lt h 16) s.inputs (s.at (place h)).input

-- the side of a record that a bit chooses
abbrev pub side : Record → ℕ → ℕ
side r b = cond (b == 1) r.high r.low

-- the side of a place that the bit of its input in the pattern p chooses
abbrev pub side_on : Store → ℕ → ℕ → ℕ
side_on s h p = side (s.at (place h)) (bit s.inputs p (s.at (place h)).input)

-- NOT where the handle is marked
abbrev pub under_mark : Ops → ℕ → ℕ → ℕ
under_mark o h v = cond (marked h) (o.turn v) v

-- what m steps down from h come to on the pattern p
unfoldable pub descend : Ops → Store → ℕ → ℕ → ℕ → ℕ
descend o s p zero h = 0
descend o s p (suc m) h =
    cond (nat_lt h 16) h
    (under_mark o h (descend o s p m (side_on s h p)))

-- the value of a handle on a pattern: a constant is itself, a place takes the side of its input's bit, and a mark turns
-- the result. Input numbers rise on the way down, so that many steps are enough.
unfoldable pub value : Ops → Store → ℕ → ℕ → ℕ
value o s h p = descend o s p (suc s.inputs) h

-- whether bit v of a mask is up
abbrev pub up : ℕ → ℕ → Bool
up m v = (m / 2 ^ v) % 2 == 1
