-- Signals: what stands on a wire under every pattern of n input bits. Assumes nothing.
use Rattle.std.specs.Prelude.{◌≡◌, ℕ, ◌-◌, ◌/◌, ◌%◌, ◌^◌, ◌<◌}
use Rattle.algebra.specs.Ops.{Ops}

-- a value's code for each pattern, by the pattern's number, which is below 2 ^ n
abbrev pub Signal : Type 0
Signal = ℕ → ℕ

-- the bit of input i in the pattern p; input 0 is the highest bit
abbrev pub bit : ℕ → ℕ → ℕ → ℕ
bit n p i = (p / 2 ^ (n - 1 - i)) % 2

-- the signal of an input, and that of a value
abbrev pub input : ℕ → ℕ → Signal
input n i = λ p. bit n p i

abbrev pub constant : ℕ → Signal
constant v = λ _. v

-- NOT and the operators, pattern by pattern
abbrev pub turned : Ops → Signal → Signal
turned o s = λ p. o.turn (s p)

abbrev pub joined : Ops → ℕ → Signal → Signal → Signal
joined o k s t = λ p. o.op k (s p) (t p)

-- the same value on every pattern
abbrev pub Agree : ℕ → Signal → Signal → Type 0
Agree n s t = (p : ℕ) → p < 2 ^ n → s p ≡ t p
