-- What becomes of a table that was changed and perhaps found full. Assumes nothing.
use Rattle.std.specs.Prelude.{◌≡◌, ℕ, Ok, Err, Result}
use Rattle.records.specs.declared.fault.Full.{Full}
use Rattle.records.specs.declared.fault.TableFault.{TableFault}
use Rattle.records.specs.declared.fault.TableFault.TheVariants as fault
use Rattle.records.specs.Stores.{Store}
use Rattle.records.specs.Steps.{Back}
use Rattle.memo.specs.Memos.{Pairs, NoPairs}

-- all stays; or only the first n places stay, and the memo forgets
abbrev pub Settled : Store → ℕ → Store → Pairs → Pairs → Result ℕ Full → Result ℕ TableFault → Type 0
Settled t n u Q R (Ok h) result = (result ≡ Ok h) × (u ≡ t) × (R ≡ Q)
Settled t n u Q R (Err f) result = (result ≡ Err fault.Full) × Back t n u × NoPairs R
