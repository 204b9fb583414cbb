-- What holds of a handle or a record in one table holds in another where it has the same values and levels.
-- Assumes nothing.
use Rattle.std.proofs.Common.{◌≡◌, ℕ, ◌^◌, ◌<◌, T, sym, ◌∙◌, subst, arith}
use Rattle.algebra.specs.Ops.{Ops}
use Rattle.algebra.specs.Laws.{Firm}
use Rattle.records.specs.declared.record.Record.{Record}
use Rattle.records.specs.Stores.{Store, handle, level, value}
use Rattle.records.specs.Rules.{Placed, Occurs, SettledAlone, FirstFirm}

pub pattern_moved : {m n : ℕ} (q : ℕ) → m ≡ n → q < 2 ^ m → q < 2 ^ n
pattern_moved q e = subst (λ n. q < 2 ^ n) e

pub placed_moved : {s t : Store} {r : Record} (p : ℕ) → t.inputs ≡ s.inputs → ((h : ℕ) → h < handle p → level t h ≡ level s h) → Placed s p r → Placed t p r
placed_moved {s} {t} {r} p inputs levels q =
    record {
      within = omega (arith, q.within);
      low_before = q.low_before;
      high_before = q.high_before;
      low_deeper = omega (arith, levels r.low q.low_before, q.low_deeper);
      high_deeper = omega (arith, levels r.high q.high_before, q.high_deeper);
      sides_differ = q.sides_differ;
    }

module _ (o : Ops) (s t : Store) (h : ℕ) (inputs : t.inputs ≡ s.inputs) (same : (q : ℕ) → value o t h q ≡ value o s h q) where
  pub occurs_moved : (v : ℕ) → Occurs o s h v → Occurs o t h v
  occurs_moved v x = (x.0, pattern_moved x.0 (sym inputs) x.1, same x.0 ∙ x.2)

  pub settled_moved : SettledAlone o s h → SettledAlone o t h
  settled_moved alone q k = subst (λ v. T (o.settled v)) (sym (same q)) (alone q (pattern_moved q inputs k))

  pub first_moved : (q : ℕ) → FirstFirm o s h q → FirstFirm o t h q
  first_moved q f =
      record {
        within = pattern_moved q (sym inputs) f.within;
        firm = subst (Firm o) (sym (same q)) f.firm;
        first = λ r l firm. f.first r l (subst (Firm o) (same r) firm);
      }
