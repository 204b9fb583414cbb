-- NOT of handles, the reach of a handle, and the record that is kept for an input and two sides. Assumes nothing.
use Rattle.std.specs.Prelude.{ℕ, zero, suc, ◌+◌, ◌-◌, ◌^◌, Bool, cond, not, ◌&&◌, ◌==◌, bit_or, nat_lt}
use Rattle.algebra.specs.Ops.{Ops}
use Rattle.netlist.specs.Signals.{Signal, Agree, bit}
use Rattle.records.specs.declared.record.Record.{Record}
use Rattle.records.specs.Stores.{Store, handle, place, marked, side, value, up}
use Rattle.records.specs.Rules.{Sound, Lawful, firm_mask, may_mark}

-- the mark changed
abbrev pub flipped : ℕ → ℕ
flipped h = cond (marked h) (h - 1) (h + 1)

-- NOT of a handle that reaches settled values alone: a place that has no firm value is its own
abbrev pub negate : Ops → Store → ℕ → ℕ
negate o s h = cond (nat_lt h 16) (o.turn h) (cond (may_mark o (s.at (place h)).reach) (flipped h) h)

-- what is left of the handle of a place when the bit of its input is b
abbrev pub cofactor : Ops → Store → ℕ → ℕ → ℕ
cofactor o s h b =
    let g = side (s.at (place h)) b in
    cond (marked h) (negate o s g) g

-- the NOT of each value below u that is in a mask
unfoldable pub turn_below : Ops → ℕ → ℕ → ℕ
turn_below o m zero = 0
turn_below o m (suc u) = cond (up m u) (bit_or (turn_below o m u) (2 ^ o.turn u)) (turn_below o m u)

abbrev pub turn_mask : Ops → ℕ → ℕ
turn_mask o m = turn_below o m 16

-- the values that a handle has
abbrev pub reach_of : Ops → Store → ℕ → ℕ
reach_of o s h =
    cond (nat_lt h 16) (2 ^ h)
    (cond (marked h) (turn_mask o (s.at (place h)).reach) (s.at (place h)).reach)

abbrev pub union : Ops → Store → ℕ → ℕ → ℕ
union o s low high = bit_or (reach_of o s low) (reach_of o s high)

-- whether the first firm value of a handle is plain: that of a place is, by the rules, and a mark turns it
abbrev pub leads_plain : Ops → ℕ → Bool
leads_plain o h = cond (nat_lt h 16) (o.plain h) (not (marked h))

-- the side that has the first firm value: patterns with the input's bit down come first
abbrev pub lead : Ops → Store → ℕ → ℕ → ℕ
lead o s low high = cond (firm_mask o (reach_of o s low)) low high

-- whether the record is kept under NOT: its values are settled, and its first firm value is not plain
abbrev pub turns : Ops → Store → ℕ → ℕ → Bool
turns o s low high = may_mark o (union o s low high) && not (leads_plain o (lead o s low high))

-- the record that is kept for input i and the sides low and high
abbrev pub kept_low : Ops → Store → ℕ → ℕ → ℕ
kept_low o s low high = cond (turns o s low high) (negate o s low) low

abbrev pub kept_high : Ops → Store → ℕ → ℕ → ℕ
kept_high o s low high = cond (turns o s low high) (negate o s high) high

abbrev pub kept_reach : Ops → Store → ℕ → ℕ → ℕ
kept_reach o s low high = cond (turns o s low high) (turn_mask o (union o s low high)) (union o s low high)

abbrev pub kept : Ops → Store → ℕ → ℕ → ℕ → Record
kept o s i low high = record { input = i; low = kept_low o s low high; high = kept_high o s low high; reach = kept_reach o s low high }

-- the handle of place p, marked where the record is kept under NOT
abbrev pub made_handle : Ops → Store → ℕ → ℕ → ℕ → ℕ
made_handle o s low high p = cond (turns o s low high) (handle p + 1) (handle p)

-- low where i's bit is down, and high where it is up
abbrev pub choice : Ops → Store → ℕ → ℕ → ℕ → Signal
choice o s i low high = λ q. value o s (cond (bit s.inputs q i == 1) high low) q

-- h tests input i: it is the choice between its sides
pub record Made (o : Ops) (s t : Store) (i low high h : ℕ) : Type 0 where
  pub sound : Sound o t
  pub lawful : Lawful o t h
  pub means : Agree s.inputs (value o t h) (choice o s i low high)
