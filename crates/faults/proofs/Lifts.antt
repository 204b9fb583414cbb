-- What stood before a `map_err`, from what came out of it, and what the rows' test said. Assumes nothing.
use Rattle.std.proofs.Common.{◌≡◌, ℕ, ◌<◌, ◌≤◌, Ok, Err, Result, refl, subst}
use Rattle.records.specs.declared.fault.TableFault.{TableFault}
use Rattle.records.specs.declared.fault.TableFault.TheVariants.{FewRows}
use Rattle.std.specs.Result.{MatchResult}

module _ {X E : Type 0} (D : Type 0) where
  pub ok_from_map_err : (r : Result X E) (x : X) → MatchResult r (λ y. ◌≡◌ {A = Result X D} (Ok x) (Ok y)) (λ e. ⊥) → r ≡ Ok x
  ok_from_map_err (Ok y) x e = cc
  ok_from_map_err (Err f) x e = absurd e

  -- Q says what the error became
  pub err_from_map_err : (Q : E → Type 0) (r : Result X E) (d : D) → MatchResult r (λ y. ◌≡◌ {A = Result X D} (Err d) (Ok y)) Q → (e : E) × (r ≡ Err e) × Q e
  err_from_map_err Q (Ok y) d e = cc
  err_from_map_err Q (Err f) d e = (f, refl, e)

-- there is a work row more than inputs, or there is not
module _ (inputs rows : ℕ) (r : Result (Unit {0}) TableFault) (m : MatchResult r (λ _. inputs < rows) (λ f. (f ≡ FewRows) × (rows ≤ inputs))) where
  pub enough_rows : r ≡ Ok tt → inputs < rows
  enough_rows e = subst (λ z. MatchResult z (λ _. inputs < rows) (λ f. (f ≡ FewRows) × (rows ≤ inputs))) e m

  pub few_rows : (d : TableFault) → r ≡ Err d → (d ≡ FewRows) × (rows ≤ inputs)
  few_rows d e = subst (λ z. MatchResult z (λ _. inputs < rows) (λ f. (f ≡ FewRows) × (rows ≤ inputs))) e m
