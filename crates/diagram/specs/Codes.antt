-- Which codes of an algebra decide whether a record is kept under NOT, as masks. Assumes nothing.
use Rattle.std.specs.Prelude.{ℕ, not}
use Rattle.algebra.specs.Ops.{Ops}
use Rattle.records.specs.Rules.{settled_code, firm_code}
use Rattle.records.specs.Supports.{mask_below}

-- those that are not settled, and those that are firm
abbrev pub loose_codes : Ops → ℕ
loose_codes o = mask_below (λ v. not (settled_code o v)) 16

abbrev pub firm_codes : Ops → ℕ
firm_codes o = mask_below (firm_code o) 16
