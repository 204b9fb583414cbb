-- What the steps of the reading calls read, against the values of handles. Assumes nothing.
use Rattle.std.proofs.Common.{◌≡◌, ℕ, Bool, true, Decides, Option, sym, ap, ◌∙◌}
use Rattle.algebra.specs.Ops.{Ops}
use Rattle.algebra.specs.Laws.{Laws}
use Rattle.records.specs.declared.fault.TableFault.{TableFault}
use Rattle.records.specs.Faults.{test}
use Rattle.records.specs.Stores.{Store, up}
use Rattle.records.specs.Rules.{Well, Sound, Lawful, Occurs}
use Rattle.records.specs.Marks.{reach_of}
use Rattle.records.proofs.Reaches.{reach_right}

-- the reach of a lawful handle says which values it has
pub reach_decides : {o : Ops} → Laws o → {s : Store} (w : Well s) → Sound o s → (h m v : ℕ) → Lawful o s h → m ≡ reach_of o s h → Decides (up m v) (Occurs o s h v)
reach_decides {o} laws {s} w sound h m v l e =
    let x = reach_right laws w sound h l in
    (λ b. x.reached v (ap (λ k. up k v) (sym e) ∙ b), λ at. ap (λ k. up k v) e ∙ ap (up (reach_of o s h)) (sym at.2) ∙ x.reaches at.0 at.1)

-- a test that passes leaves the later ones
pub passed : (b : Bool) (f : TableFault) (later : Option TableFault) → b ≡ true → test b f later ≡ later
passed b f later e = rw e
