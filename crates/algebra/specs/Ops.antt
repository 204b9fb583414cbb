-- What an algebra of signal values is, as numbers: values by their codes, operators by their numbers. Assumes nothing.
use Rattle.std.specs.Prelude.{ℕ, Bool, cond, ◌&&◌, ◌||◌, List, ◌==◌, nat_lt}

pub record Ops : Type 0 where
  -- how many values there are
  pub count : ℕ
  -- NOT
  pub turn : ℕ → ℕ
  pub settled : ℕ → Bool
  pub plain : ℕ → Bool
  -- whether there is WIRE
  pub wired : Bool
  pub op : ℕ → ℕ → ℕ → ℕ
  -- the non-zero grades, the gravest first
  pub grave : List ℕ
  -- the character that stands for a value in a report
  pub letter : ℕ → ℕ

-- whether k is the number of an operator that the algebra has
abbrev pub known : Ops → ℕ → Bool
known o k = k == 3 || (k == 4 || (k == 5 || (k == 6 || (k == 9 || (k == 7 && o.wired)))))

-- a code not below the count is read as 0
abbrev pub read : ℕ → ℕ → ℕ
read n v = cond (nat_lt v n) v 0

-- an algebra that is given at its codes and operators, made total: any other code is read as 0, and an operator that is
-- not there gives 0
abbrev pub total : Ops → Ops
total o = record {
  count = o.count;
  turn = λ v. o.turn (read o.count v);
  settled = λ v. o.settled (read o.count v);
  plain = λ v. o.plain (read o.count v);
  wired = o.wired;
  op = λ k a b. cond (known o k) (o.op k (read o.count a) (read o.count b)) 0;
  grave = o.grave;
  letter = λ v. o.letter (read o.count v);
}
