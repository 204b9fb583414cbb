-- What a check finds, and that it keeps the law of runs. Assumes nothing.
use Rattle.std.proofs.Common.{◌≡◌, ℕ, ◌≤◌, Bool, true, false, ltb, [], ◌∷◌, IfOk, None, Ok, Err, Option, Result, sym, refl, ap, ◌∙◌, ap₂, arith}
use Rattle.algebra.specs.Ops.{Ops, known}
use Rattle.algebra.specs.Laws.{Laws}
use Rattle.netlist.specs.declared.finding.Finding.{Finding}
use Rattle.netlist.specs.Signals.{joined}
use Rattle.netlist.specs.Findings.{finding}
use Rattle.records.specs.declared.fault.TableFault.{TableFault}
use Rattle.records.specs.declared.fault.TableFault.TheVariants.{TooManyInputs, FewRows, NoSuchHandle, NoSuchInput, NoSuchCode, NoSuchOperator, NoSuchPattern, Full}
use Rattle.records.specs.Stores.{Store, value}
use Rattle.records.specs.Rules.{Well, Sound, Lawful, lawful}
use Rattle.memo.specs.Memos.{Pairs}
use Rattle.records.specs.Faults.{test, join_refusal}
use Rattle.records.specs.Outcomes.{Shape, Meaning, TruePairs}
use Rattle.records.specs.Runs.{Run, answer_of, IfTold, Kept}
use Rattle.records.proofs.Values.{lawful_within, lawful_grows, value_grows}
use Rattle.records.proofs.Grades.{finding_agrees}
use Rattle.records.proofs.Events.{kept_check}
use Rattle.checking.specs.declared.checking.Checked.{Checked}
use Rattle.checking.specs.Gradings.{Graded}
use Rattle.checking.specs.Checks.{handle_of, check_event}

-- a test that lets a call pass
pub test_passed : (b : Bool) (f : TableFault) (later : Option TableFault) → test b f later ≡ None → (b ≡ true) × (later ≡ None)
test_passed true f later e = (refl, e)
test_passed false f later e = absurd (let z : ◌≡◌ {A = ℕ} 0 1 = cc in omega arith)

-- a refusal tells nothing
pub untold : (f : TableFault) (A : Type 0) → IfTold (answer_of (Err f)) A
untold TooManyInputs A = tt
untold FewRows A = tt
untold NoSuchHandle A = tt
untold NoSuchInput A = tt
untold NoSuchCode A = tt
untold NoSuchOperator A = tt
untold NoSuchPattern A = tt
untold Full A = tt

-- the handles of an accepted join are lawful
pub left_lawful : (o : Ops) (s : Store) (rows k x y : ℕ) → join_refusal o s rows k x y ≡ None → Lawful o s x
left_lawful o s rows k x y e =
    let a = test_passed (ltb s.inputs rows) FewRows _ e in
    let b = test_passed (known o k) NoSuchOperator _ a.1 in
    (test_passed (lawful o s x) NoSuchHandle _ b.1).0

pub right_lawful : (o : Ops) (s : Store) (rows k x y : ℕ) → join_refusal o s rows k x y ≡ None → Lawful o s y
right_lawful o s rows k x y e =
    let a = test_passed (ltb s.inputs rows) FewRows _ e in
    let b = test_passed (known o k) NoSuchOperator _ a.1 in
    let c = test_passed (lawful o s x) NoSuchHandle _ b.1 in
    (test_passed (lawful o s y) NoSuchHandle None c.1).0

module _ {o : Ops} {s t : Store} (w : Well s) (P Q : Pairs) (room rows x y h : ℕ) (shape : Shape s t P Q (join_refusal o s rows 9 x y) (Ok h)) (meaning : Meaning o room s t P Q (joined o 9 (value o s x) (value o s y)) (Ok h)) where
  left : Lawful o s x
  left = left_lawful o s rows 9 x y shape.passed

  right : Lawful o s y
  right = right_lawful o s rows 9 x y shape.passed

  left_same : (p : ℕ) → value o t x p ≡ value o s x p
  left_same p = value_grows o w shape.grows x p (lawful_within o s x left)

  right_same : (p : ℕ) → value o t y p ≡ value o s y p
  right_same p = value_grows o w shape.grows y p (lawful_within o s y right)

  -- the handle of an accepted check is GRADE of the two
  check_graded : Sound o s → TruePairs o s P → Graded o t h x y
  check_graded sound pairs =
      let r = meaning sound pairs in
      record {
        sound = r.sound;
        left = lawful_grows o shape.grows x left;
        right = lawful_grows o shape.grows y right;
        lawful = r.lawful;
        means = λ p k. r.means p k ∙ ap₂ (o.op 9) (sym (left_same p)) (sym (right_same p));
      }

  -- its finding, told in the table after it, is that of the two in the table before it
  pub check_found : (f : Finding) → (Graded o t h x y → f ≡ finding o t.inputs (value o t x) (value o t y)) → Sound o s → TruePairs o s P → f ≡ finding o s.inputs (value o s x) (value o s y)
  check_found f told sound pairs =
      told (check_graded sound pairs)
      ∙ ap (λ n. finding o n (value o t x) (value o t y)) shape.grows.inputs
      ∙ finding_agrees o s.inputs (value o t x) (value o s x) (value o t y) (value o s y) (λ p k. left_same p) (λ p k. right_same p)

-- a check keeps the law of runs
pub check_kept : {o : Ops} → Laws o → {s t : Store} → Well s → Well t → (room : ℕ) → t.used ≤ room → (P Q : Pairs) (rows x y : ℕ) (r : Result Checked TableFault)
    → Shape s t P Q (join_refusal o s rows 9 x y) (handle_of r)
    → Meaning o room s t P Q (joined o 9 (value o s x) (value o s y)) (handle_of r)
    → (Sound o s → TruePairs o s P → IfOk r (λ c. c.finding ≡ finding o s.inputs (value o s x) (value o s y)))
    → (run : Run) → Kept o room run s P → Kept o room (check_event o s x y r ∷ run) t Q
check_kept {o} laws {s} w v room fits P Q rows x y (Ok c) shape meaning found run =
    kept_check laws w v fits P Q run (join_refusal o s rows 9 x y) (Ok c.handle) shape x y (c.finding ∷ []) meaning
    (λ sound pairs. ap (λ f. f ∷ []) (found sound pairs))
check_kept {o} laws {s} w v room fits P Q rows x y (Err f) shape meaning found run =
    kept_check laws w v fits P Q run (join_refusal o s rows 9 x y) (Err f) shape x y [] meaning
    (λ sound pairs. untold f ([] ≡ finding o s.inputs (value o s x) (value o s y) ∷ []))
