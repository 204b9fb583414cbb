-- One line on a table: what passed its tests, what the table may refuse, what it means. Assumes nothing.
use Rattle.std.proofs.Common.{◌≡◌, ℕ, ◌<◌, ◌≤◌, Bool, true, false, cond, not, ◌&&◌, ◌||◌, eqb, ltb, ◌⊎◌, List, [], ◌∷◌, ◌++◌, map, length, get_or, take, Some, None, Ok, Err, Option, Result, sym, refl, ap, ◌∙◌, subst, ap₂, inl, inr, ⊎_elim, arith}
use Rattle.std.specs.Result as results
use Rattle.std.proofs.lemmas.Bool.{cond-true, cond-false, cases_eq, eq-eqb, ne_eqb, lt-ltb, ltb-true}
use Rattle.std.proofs.lemmas.List.{get_or-map, get_or-take, length-take-le}
use Rattle.algebra.specs.Ops.{Ops, known}
use Rattle.algebra.specs.Laws.{Laws}
use Rattle.netlist.specs.declared.line.Line.{Line}
use Rattle.netlist.specs.declared.kind.Kind.{Kind}
use Rattle.netlist.specs.declared.kind.Kind.TheVariants.{Input, Const, Not, And, Or, IfAnd, IfOr, Wire, Out}
use Rattle.netlist.specs.declared.kind.UnknownKind.{UnknownKind}
use Rattle.netlist.specs.Kinds.{kind_number, kind_of, KindOf}
use Rattle.netlist.specs.declared.fault.LineFault.{LineFault}
use Rattle.netlist.specs.declared.fault.LineFault.TheVariants.{NoSuchKind, NoSuchInput, NoSuchCode, NotEarlier}
use Rattle.netlist.specs.Signals.{Signal, input, constant, turned, joined}
use Rattle.netlist.specs.Lines.{signal_at, line_signal}
use Rattle.netlist.specs.Faults.{kind_known, unless, line_fault}
use Rattle.records.specs.declared.fault.TableFault.{TableFault}
use Rattle.records.specs.declared.fault.TableFault.TheVariants.{FewRows, NoSuchHandle, NoSuchInput as NoInput, NoSuchCode as NoCode, NoSuchOperator}
use Rattle.records.specs.Stores.{Store, value}
use Rattle.records.specs.Rules.{Well, lawful}
use Rattle.memo.specs.Memos.{Pairs}
use Rattle.records.specs.Changes.{Grows}
use Rattle.records.specs.Steps.{Back}
use Rattle.records.specs.Faults.{test, input_refusal, constant_refusal, turn_refusal, join_refusal}
use Rattle.records.specs.Outcomes.{Shape, Meaning}
use Rattle.records.specs.Runs.{told, answer_of, lay, Kept}
use Rattle.records.proofs.Laying.{kept_line, kept_out_line}
use Rattle.laying.specs.Lays.{Unlawful, TableRefuses, LineKept}

-- ---- a line that passed its own tests

unless_none : (b : Bool) (f : LineFault) → unless b f ≡ None → b ≡ true
unless_none true f e = refl
unless_none false f e = absurd (let z : ◌≡◌ {A = ℕ} 0 1 = cc in omega arith)

both_true : (a b : Bool) → (a && b) ≡ true → (a ≡ true) × (b ≡ true)
both_true true b e = (refl, e)
both_true false b e = absurd (let z : ◌≡◌ {A = ℕ} 0 1 = (ap (λ x. cond x 0 1) (sym e)) in omega arith)

not_refused : (b : Bool) (f : LineFault) (rest : Option LineFault) → cond (not b) (Some f) rest ≡ None → (b ≡ true) × (rest ≡ None)
not_refused true f rest e = (refl, e)
not_refused false f rest e = absurd (let z : ◌≡◌ {A = ℕ} 0 1 = cc in omega arith)

-- the number of a kind that is no operator, and a known kind's otherwise
known_operator : (o : Ops) (k : ℕ) → kind_known o k ≡ true → (k ≡ 0 → ⊥) → (k ≡ 1 → ⊥) → (k ≡ 2 → ⊥) → (k ≡ 8 → ⊥) → known o k ≡ true
known_operator o k e a b c d =
    let small = ltb-true k 9 (both_true (ltb k 9) _ e).0 in
    let wired : (not (eqb k 7) || o.wired) ≡ true = (both_true (ltb k 9) _ e).1 in
    ⊎_elim (λ is. ap (known o) is)
    (λ x. ⊎_elim (λ is. ap (known o) is)
    (λ y. ⊎_elim (λ is. ap (known o) is)
    (λ z. ⊎_elim (λ is. ap (known o) is)
    (λ u. ⊎_elim (λ is. ap (known o) is ∙ subst (λ j. (not (eqb j 7) || o.wired) ≡ true) is wired)
    (λ v. absurd (omega arith))
    (cases_eq k 7)) (cases_eq k 6)) (cases_eq k 5)) (cases_eq k 4)) (cases_eq k 3)

-- the kind of a number
kind_below : (k : ℕ) → k < 9 → (kind : Kind) × (kind_of k ≡ Some kind) × (k ≡ kind_number kind)
kind_below k small =
    ⊎_elim (λ is. (Input, ap kind_of is, is))
    (λ a. ⊎_elim (λ is. (Const, ap kind_of is, is))
    (λ b. ⊎_elim (λ is. (Not, ap kind_of is, is))
    (λ x. ⊎_elim (λ is. (And, ap kind_of is, is))
    (λ y. ⊎_elim (λ is. (Or, ap kind_of is, is))
    (λ z. ⊎_elim (λ is. (IfAnd, ap kind_of is, is))
    (λ u. ⊎_elim (λ is. (IfOr, ap kind_of is, is))
    (λ v. ⊎_elim (λ is. (Wire, ap kind_of is, is))
    (λ w. let is : k ≡ 8 = omega arith in (Out, ap kind_of is, is))
    (cases_eq k 7)) (cases_eq k 6)) (cases_eq k 5)) (cases_eq k 4)) (cases_eq k 3)) (cases_eq k 2)) (cases_eq k 1)) (cases_eq k 0)

pub operator_between : (kind : Kind) → (kind ≡ And) ⊎ ((kind ≡ Or) ⊎ ((kind ≡ IfAnd) ⊎ ((kind ≡ IfOr) ⊎ (kind ≡ Wire)))) → (2 < kind_number kind) × (kind_number kind < 8)
operator_between kind (inl e) = let n : kind_number kind ≡ 3 = ap kind_number e in (omega arith, omega arith)
operator_between kind (inr (inl e)) = let n : kind_number kind ≡ 4 = ap kind_number e in (omega arith, omega arith)
operator_between kind (inr (inr (inl e))) = let n : kind_number kind ≡ 5 = ap kind_number e in (omega arith, omega arith)
operator_between kind (inr (inr (inr (inl e)))) = let n : kind_number kind ≡ 6 = ap kind_number e in (omega arith, omega arith)
operator_between kind (inr (inr (inr (inr e)))) = let n : kind_number kind ≡ 7 = ap kind_number e in (omega arith, omega arith)

module _ (o : Ops) (n k : ℕ) (l : Line) (e : line_fault o n k l ≡ None) where
  kind_passed : kind_known o l.kind ≡ true
  kind_passed = (not_refused (kind_known o l.kind) NoSuchKind _ e).0

  kind_here : (kind : Kind) × (kind_of l.kind ≡ Some kind) × (l.kind ≡ kind_number kind)
  kind_here = kind_below l.kind (ltb-true l.kind 9 (both_true (ltb l.kind 9) _ kind_passed).0)

  pub kind_there : (r : Result Kind UnknownKind) → KindOf l.kind r → results.is_ok r ≡ true
  kind_there (Ok kind) found = refl
  kind_there (Err x) found = let there = kind_here.1 in cc

  pub kind_is : (r : Result Kind UnknownKind) (kind : Kind) → KindOf l.kind r → r ≡ Ok kind → l.kind ≡ kind_number kind
  kind_is r kind found ok =
      let there = kind_here.1 in
      let is : kind_of l.kind ≡ Some kind = subst (KindOf l.kind) ok found in
      let same : kind_here.0 ≡ kind = cc in
      kind_here.2 ∙ ap kind_number same

  pub input_inside : l.kind ≡ 0 → l.first < n
  input_inside is =
      let rest = (not_refused (kind_known o l.kind) NoSuchKind _ e).1 in
      ltb-true l.first n (unless_none (ltb l.first n) NoSuchInput (sym (cond-true (eqb l.kind 0) _ _ (eq-eqb l.kind 0 is)) ∙ rest))

  module _ (other : l.kind ≡ 0 → ⊥) where
    pub code_inside : l.kind ≡ 1 → l.first < o.count
    code_inside is =
        let rest = (not_refused (kind_known o l.kind) NoSuchKind _ e).1 in
        ltb-true l.first o.count (unless_none (ltb l.first o.count) NoSuchCode
        (sym (cond-false (eqb l.kind 0) _ _ (ne_eqb l.kind 0 other) ∙ cond-true (eqb l.kind 1) _ _ (eq-eqb l.kind 1 is)) ∙ rest))

    module _ (more : l.kind ≡ 1 → ⊥) where
      pub one_earlier : (eqb l.kind 2 || eqb l.kind 8) ≡ true → l.first < k
      one_earlier is =
          let rest = (not_refused (kind_known o l.kind) NoSuchKind _ e).1 in
          ltb-true l.first k (unless_none (ltb l.first k) NotEarlier
          (sym (cond-false (eqb l.kind 0) _ _ (ne_eqb l.kind 0 other) ∙ cond-false (eqb l.kind 1) _ _ (ne_eqb l.kind 1 more) ∙ cond-true (eqb l.kind 2 || eqb l.kind 8) _ _ is) ∙ rest))

      pub both_earlier : (eqb l.kind 2 || eqb l.kind 8) ≡ false → (l.first < k) × (l.second < k)
      both_earlier is =
          let rest = (not_refused (kind_known o l.kind) NoSuchKind _ e).1 in
          let both = both_true (ltb l.first k) (ltb l.second k) (unless_none (ltb l.first k && ltb l.second k) NotEarlier
          (sym (cond-false (eqb l.kind 0) _ _ (ne_eqb l.kind 0 other) ∙ cond-false (eqb l.kind 1) _ _ (ne_eqb l.kind 1 more) ∙ cond-false (eqb l.kind 2 || eqb l.kind 8) _ _ is) ∙ rest)) in
          (ltb-true l.first k both.0, ltb-true l.second k both.1)

      pub operator_known : (l.kind ≡ 2 → ⊥) → (l.kind ≡ 8 → ⊥) → known o l.kind ≡ true
      operator_known a b = known_operator o l.kind kind_passed other more a b

pub one_operand : (k : ℕ) → (k ≡ 2) ⊎ (k ≡ 8) → (eqb k 2 || eqb k 8) ≡ true
one_operand k (inl e) = ap (λ j. eqb j 2 || eqb j 8) e
one_operand k (inr e) = ap (λ j. eqb j 2 || eqb j 8) e

pub two_operands : (k : ℕ) → (k ≡ 2 → ⊥) → (k ≡ 8 → ⊥) → (eqb k 2 || eqb k 8) ≡ false
two_operands k a b = ap₂ (λ x y. x || y) (ne_eqb k 2 a) (ne_eqb k 8 b)

-- ---- what the table may refuse

test_some : (b : Bool) (f g : TableFault) (later : Option TableFault) → test b f later ≡ Some g → ((b ≡ false) × (g ≡ f)) ⊎ (later ≡ Some g)
test_some true f g later e = inr e
test_some false f g later e = inl (refl, cc)

some_none : {X : Type 0} {x : X} → None ≡ Some x → ⊥
some_none e = let z : ◌≡◌ {A = ℕ} 0 1 = cc in omega arith

true_false : {b : Bool} → b ≡ true → b ≡ false → ⊥
true_false e f = let z : ◌≡◌ {A = ℕ} 0 1 = ap (λ x. cond x 0 1) (sym e ∙ f) in omega arith

-- a test that passes does not refuse
passing : (b : Bool) (f g : TableFault) (later : Option TableFault) → b ≡ true → test b f later ≡ Some g → later ≡ Some g
passing b f g later t e = ⊎_elim (λ x. absurd (true_false t x.0)) (λ x. x) (test_some b f g later e)

pub input_refuses : (o : Ops) (s : Store) (hs : List ℕ) (i : ℕ) → i < s.inputs → (f : TableFault) → input_refusal s i ≡ Some f → TableRefuses o s hs f
input_refuses o s hs i h f e = absurd (some_none (passing (ltb i s.inputs) NoInput f None (lt-ltb i s.inputs h) e))

pub constant_refuses : (o : Ops) (s : Store) (hs : List ℕ) (v : ℕ) → v < o.count → (f : TableFault) → constant_refusal o v ≡ Some f → TableRefuses o s hs f
constant_refuses o s hs v h f e = absurd (some_none (passing (ltb v o.count) NoCode f None (lt-ltb v o.count h) e))

-- a handle of an earlier line that is not lawful
unlawful : (o : Ops) (s : Store) (hs : List ℕ) (k x : ℕ) → k < length hs → x ≡ get_or hs k 0 → lawful o s x ≡ false → Unlawful o s hs
unlawful o s hs k x h e not = (k, h, subst (λ z. lawful o s z ≡ false) e not)

pub turn_refuses : (o : Ops) (s : Store) (hs : List ℕ) (rows k x : ℕ) → s.inputs < rows → k < length hs → x ≡ get_or hs k 0 → (f : TableFault) → turn_refusal o s rows x ≡ Some f → TableRefuses o s hs f
turn_refuses o s hs rows k x h earlier is f e =
    let a = passing (ltb s.inputs rows) FewRows f _ (lt-ltb s.inputs rows h) e in
    ⊎_elim (λ y. inr (y.1, unlawful o s hs k x earlier is y.0)) (λ y. absurd (some_none y)) (test_some (lawful o s x) NoSuchHandle f None a)

pub join_refuses : (o : Ops) (s : Store) (hs : List ℕ) (rows k i j x y : ℕ) → s.inputs < rows → known o k ≡ true → i < length hs → x ≡ get_or hs i 0 → j < length hs → y ≡ get_or hs j 0
    → (f : TableFault) → join_refusal o s rows k x y ≡ Some f → TableRefuses o s hs f
join_refuses o s hs rows k i j x y h there hi xi hj yj f e =
    let a = passing (ltb s.inputs rows) FewRows f _ (lt-ltb s.inputs rows h) e in
    let b = passing (known o k) NoSuchOperator f _ there a in
    ⊎_elim (λ z. inr (z.1, unlawful o s hs i x hi xi z.0))
    (λ z. ⊎_elim (λ u. inr (u.1, unlawful o s hs j y hj yj u.0)) (λ u. absurd (some_none u)) (test_some (lawful o s y) NoSuchHandle f None z))
    (test_some (lawful o s x) NoSuchHandle f _ b)

-- ---- what it leaves

stopped_back : (s t : Store) → t ≡ s → Back s s.used t
stopped_back s t e = record { inputs = ap (λ z. z.inputs) e; used = ap (λ z. z.used) e; same = λ p h. ap (λ z. z.at p) e }

pub outcome : (o : Ops) (hs : List ℕ) (s t : Store) (P Q : Pairs) (refusal : Option TableFault) (r : Result ℕ TableFault) → Shape s t P Q refusal r → ((f : TableFault) → refusal ≡ Some f → TableRefuses o s hs f)
    → results.MatchResult r (λ _. Grows s t) (λ f. Back s s.used t × TableRefuses o t hs f)
outcome o hs s t P Q refusal (Ok h) shape refuses = shape.grows
outcome o hs s t P Q refusal (Err f) (inl stopped) refuses = (stopped_back s t stopped.table, subst (λ z. TableRefuses o z hs f) (sym stopped.table) (refuses f stopped.why))
outcome o hs s t P Q refusal (Err f) (inr cut) refuses = (cut.table, inl cut.full)

-- ---- what it means

module _ (o : Ops) (n : ℕ) (ss : List Signal) (l : Line) where
  pub signal_input : l.kind ≡ 0 → line_signal o n ss l ≡ input n l.first
  signal_input e = cond-true (eqb l.kind 0) _ _ (eq-eqb l.kind 0 e)

  pub signal_constant : l.kind ≡ 1 → line_signal o n ss l ≡ constant l.first
  signal_constant e =
      cond-false (eqb l.kind 0) _ _ (ne_eqb l.kind 0 (λ z. omega arith)) ∙ cond-true (eqb l.kind 1) _ _ (eq-eqb l.kind 1 e)

  pub signal_turned : l.kind ≡ 2 → (x : Signal) → signal_at ss l.first ≡ x → line_signal o n ss l ≡ turned o x
  signal_turned e x is =
      cond-false (eqb l.kind 0) _ _ (ne_eqb l.kind 0 (λ z. omega arith))
      ∙ cond-false (eqb l.kind 1) _ _ (ne_eqb l.kind 1 (λ z. omega arith))
      ∙ cond-true (eqb l.kind 2) _ _ (eq-eqb l.kind 2 e)
      ∙ ap (turned o) is

  pub signal_joined : (l.kind ≡ 0 → ⊥) → (l.kind ≡ 1 → ⊥) → (l.kind ≡ 2 → ⊥) → (l.kind ≡ 8 → ⊥) → (x y : Signal) → signal_at ss l.first ≡ x → signal_at ss l.second ≡ y → line_signal o n ss l ≡ joined o l.kind x y
  signal_joined a b c d x y left right =
      cond-false (eqb l.kind 0) _ _ (ne_eqb l.kind 0 a)
      ∙ cond-false (eqb l.kind 1) _ _ (ne_eqb l.kind 1 b)
      ∙ cond-false (eqb l.kind 2) _ _ (ne_eqb l.kind 2 c)
      ∙ cond-false (eqb l.kind 8) _ _ (ne_eqb l.kind 8 d)
      ∙ ap₂ (joined o l.kind) left right

-- the signal of an earlier line is that of its handle
pub earlier_signal : (o : Ops) (s : Store) (xs : List ℕ) (k i : ℕ) → k ≤ length xs → i < k → signal_at (map (value o s) (take k xs)) i ≡ value o s (get_or xs i 0)
earlier_signal o s xs k i h e =
    get_or-map (value o s) (take k xs) i 0 (constant 0) (let n = length-take-le k xs h in omega arith)
    ∙ ap (value o s) (get_or-take k xs i 0 e)

module _ {o : Ops} (laws : Laws o) {s t : Store} (w : Well s) (v : Well t) {room : ℕ} (fits : t.used ≤ room) (P Q : Pairs) (refusal : Option TableFault) (r : Result ℕ TableFault) (shape : Shape s t P Q refusal r) (hs : List ℕ) (l : Line) where
  -- a line that the table made
  pub made_kept : (m : Signal) → line_signal o s.inputs (map (value o s) hs) l ≡ m → Meaning o room s t P Q m r → LineKept o room s t P Q hs l (answer_of r)
  made_kept m e meaning run ls h here = kept_line laws w v fits P Q run refusal r shape ls hs l h here (subst (λ z. Meaning o room s t P Q z r) (sym e) meaning)

-- an OUT line
pub out_kept : {o : Ops} → Laws o → {s : Store} → Well s → {room : ℕ} → s.used ≤ room → (P : Pairs) (xs : List ℕ) (k : ℕ) (l : Line) → k ≤ length xs → l.kind ≡ 8 → l.first < k
    → LineKept o room s s P P (take k xs) l (told (get_or xs l.first 0))
out_kept {o} laws {s} w {room} fits P xs k l n out earlier run ls h here kept =
    let long = length-take-le k xs n in
    subst (λ x. Kept o room (lay ls (map told (take k xs) ++ told x ∷ []) ∷ run) s P) (get_or-take k xs l.first 0 earlier)
    (kept_out_line laws w fits P run ls (take k xs) l h here out (omega arith) kept)
