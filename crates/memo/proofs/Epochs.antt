-- What rows say of a key after a row is written, and where no row is of the epoch. Assumes nothing.
use Rattle.std.proofs.Common.{◌≡◌, ℕ, ◌<◌, ◌≤◌, ◌⊎◌, List, length, set, replicate, Some, None, ap, ⊎_elim, arith}
use Rattle.std.proofs.lemmas.List.{get_or_past, get_or-replicate}
use Rattle.std.proofs.lemmas.Bool.{cases_eq, cases_lt}
use Rattle.std.proofs.lemmas.Grind.{common_steps}
use Rattle.std.proofs.lemmas.Bool.Decides.{nat_tests}
use Rattle.memo.specs.declared.rows.Row.{Row}
use Rattle.memo.specs.Memos.{Pairs, Puts, NoPairs}
use Rattle.memo.specs.Rows.{blank_row, row_at, told, told_by, Past}
use Rattle.memo.specs.Buckets.{bucket_of}

-- a row of the epoch says its pair, and nothing of another key
told_own : (e : ℕ) (r : Row) → r.epoch ≡ e → told e r r.key.op r.key.x r.key.y ≡ Some r.h
told_own e r f = grind (arith, nat_tests)

told_other : (e o a b : ℕ) (r : Row) → ((o ≡ r.key.op) × (a ≡ r.key.x) × (b ≡ r.key.y) → ⊥) → told e r o a b ≡ None
told_other e o a b r differs = grind (arith, nat_tests)

-- a row of an earlier epoch says nothing
told_past : (e o a b : ℕ) (r : Row) → r.epoch < e → told e r o a b ≡ None
told_past e o a b r l = grind (arith, nat_tests)

pub none_past : (e f mask : ℕ) (rows : List Row) → Past f rows → f < e → NoPairs (told_by e mask rows)
none_past e f mask rows past l o a b =
    told_past e o a b (row_at rows (bucket_of mask o a b)) (omega (arith, past (bucket_of mask o a b)))

-- a row that is written counts as of the epoch
pub past_set : (e i : ℕ) (rows : List Row) (r : Row) → i < length rows → r.epoch ≤ e → Past e rows → Past e (set rows i r)
past_set e i rows r l now past j = grind (arith, common_steps, past j)

-- rows that are all blank
pub past_none : (rows : List Row) → ((i : ℕ) → i < length rows → row_at rows i ≡ blank_row) → Past 0 rows
past_none rows blank i =
    let at : row_at rows i ≡ blank_row = ⊎_elim (λ l. blank i l) (λ l. get_or_past rows i blank_row l) (cases_lt i (length rows)) in
    omega (arith, ap (λ r. r.epoch) at)

pub past_more : (e f : ℕ) (rows : List Row) → e ≤ f → Past e rows → Past f rows
past_more e f rows l past i = omega (arith, past i)

-- rows that were never written
pub fresh : (mask n : ℕ) (rows : List Row) (r : Row) → r.epoch ≡ 0 → rows ≡ replicate n r → Past 1 rows × NoPairs (told_by 1 mask rows)
fresh mask n rows r zero e =
    (λ i. omega (arith, past i), none_past 1 0 mask rows past (omega arith))
  where
    past : Past 0 rows
    past i = grind (arith, common_steps, get_or-replicate i n r blank_row)

pub puts_set : (e mask i : ℕ) (rows : List Row) (r : Row) → i ≡ bucket_of mask r.key.op r.key.x r.key.y → i < length rows → r.epoch ≡ e → Puts (told_by e mask rows) (told_by e mask (set rows i r)) r.key.op r.key.x r.key.y r.h
puts_set e mask i rows r own l now =
    record {
      own = grind (arith, common_steps, told_own e r now);
      others = λ o a b differs. grind (arith, common_steps, told_other e o a b r differs, cases_eq (bucket_of mask o a b) i);
    }

-- a pair that is held after one is laid was held before, or is the one laid
pub laid : {before after : Pairs} {op x y h : ℕ} → Puts before after op x y h → (o a b k : ℕ) → after o a b ≡ Some k → (before o a b ≡ Some k) ⊎ ((o ≡ op) × (a ≡ x) × (b ≡ y) × (k ≡ h))
laid {before} {after} {op} {x} {y} {h} puts o a b k held = grind (arith, nat_tests, puts.own, puts.others o a b)
