-- What a walk that ran out of places says of the number of parts, and what cutting back leaves. Assumes nothing.
use Rattle.std.proofs.Common.{◌≡◌, ℕ, zero, suc, ◌<◌, ◌≤◌, Bool, true, false, cond, eqb, List, [], ◌∷◌, is_err, Some, None, Option, Ok, Err, Result, sym, refl, ap, ◌∙◌, subst, inl, inr, ⊎_elim, suc-le-suc, arith}
use Rattle.std.proofs.lemmas.Bool.{cases_lt, cases_Bool, cond_both, cond-true, cond-false, eqb-true, eqb-false, ne_eqb, both_ways, false≢true}
use Rattle.algebra.specs.Ops.{Ops, known}
use Rattle.algebra.specs.Laws.{Laws}
use Rattle.algebra.specs.Operators.{op_number, op_of, own_op}
use Rattle.algebra.specs.declared.operator.Op.{Op}
use Rattle.algebra.specs.declared.operator.Op.TheVariants.{And, Or, IfAnd, IfOr, Wire, Grade}
use Rattle.netlist.specs.Signals.{Signal, Agree, bit, input, constant, joined}
use Rattle.netlist.specs.Parts.{part_count}
use Rattle.records.specs.declared.fault.Full.{Full}
use Rattle.records.specs.declared.fault.TableFault.{TableFault}
use Rattle.diagram.specs.declared.table.Table.{Table}
use Rattle.records.specs.Stores.{Store, handle, value}
use Rattle.records.specs.Rules.{Well, Sound, Lawful}
use Rattle.records.specs.Changes.{Within, Grows}
use Rattle.records.specs.Steps.{Back}
use Rattle.records.specs.Marks.{choice}
use Rattle.records.specs.Makings.{Chosen, Crowded}
use Rattle.memo.specs.Memos.{Pairs}
use Rattle.records.specs.Counts.{PartIn, DifferentParts}
use Rattle.records.specs.Outcomes.{TruePairs, ResultOf, Overfull, ToldFull, Shape, Means, Meaning}
use Rattle.records.specs.Walks.{combined, RanOut}
use Rattle.records.specs.Faults.{test}
use Rattle.diagram.specs.Settles.{Settled}
use Rattle.diagram.specs.Views.{view, room}
use Rattle.diagram.proofs.Nodes.{fits}
use Rattle.records.proofs.Counting.{one_more, part_in_one}
use Rattle.records.proofs.Values.{constant_lawful, value_constant, value_grows}
use Rattle.records.proofs.Moves.{pattern_moved}
use Rattle.records.proofs.Chooses.{one_place, place_vary}
use Rattle.records.proofs.Walking.{part_in_itself, pairs_grow}

part_in_later : (o : Ops) (n : ℕ) (r : Signal) (ss : List Signal) (t : Signal) → PartIn o n ss t → PartIn o n (r ∷ ss) t
part_in_later o n r ss t (k, h, v, q, e) = (suc k, suc-le-suc h, v, q, e)

part_in_first : (o : Ops) (n : ℕ) (r : Signal) (ss : List Signal) (t : Signal) → PartIn o n (r ∷ []) t → PartIn o n (r ∷ ss) t
part_in_first o n r ss t (zero, h, v, q, e) = (0, omega arith, v, q, e)
part_in_first o n r ss t (suc k, h, v, q, e) = absurd (omega arith)

-- a full table with one part more than its places is told so rightly
pub overfull : {o : Ops} → Laws o → {s t : Store} (w : Well s) (v : Well t) → Grows s t → (room : ℕ) (result : Signal) → RanOut o room s t result → Overfull o room s result
overfull {o} laws {s} {t} w v grows room result r ss from =
    let n = t.inputs in
    let f : ℕ → Signal = λ p. value o t (handle p) in
    let old : (p : ℕ) → p < s.used → PartIn o n ss (f p) = λ p u.
    part_in_one o n ss (f p) (value o s (handle p)) (inl (λ q _. value_grows o w grows (handle p) q (omega arith)))
    (subst (λ k. PartIn o k ss (value o s (handle p))) (sym grows.inputs) (from p u)) in
    let d : DifferentParts o n (result ∷ ss) t.used f = record {
      apart = λ i j a b e. one_place laws v r.sound i j a b e;
      vary = λ i a. place_vary laws v r.sound i a;
      from = λ i a. ⊎_elim (λ l. part_in_later o n result ss (f i) (old i l)) (λ l. part_in_first o n result ss (f i) (r.taken i l a)) (cases_lt i s.used);
    } in
    let more = one_more o n (result ∷ ss) t.used f r.signal d (part_in_first o n result ss r.signal r.part) r.varies (λ i a e. r.lacked i a e) in
    subst (λ k. room < part_count o k (result ∷ ss)) grows.inputs (subst (λ k. k < part_count o n (result ∷ ss)) r.full more)

pub back_again : {s t u : Store} → Grows s t → Back t s.used u → Back s s.used u
back_again grows back = record { inputs = back.inputs ∙ grows.inputs; used = back.used; same = λ p l. back.same p l ∙ grows.same p l }

-- ---- a table that is settled

pub settled_shape : (s t u : Store) (P Q R : Pairs) (n : ℕ) (r : Result ℕ Full) (result : Result ℕ TableFault) → n ≡ s.used → Grows s t → ((h : ℕ) → r ≡ Ok h → Within t h) → Settled t n u Q R r result → Shape s u P R None result
settled_shape s t u P Q R n (Ok h) result used grows within (e, same, forgot) =
    subst (Shape s u P R None) (sym e) (record { passed = refl; grows = subst (Grows s) (sym same) grows; within = subst (λ z. Within z h) (sym same) (within h refl) })
settled_shape s t u P Q R n (Err f) result used grows within (e, back, forgot) =
    subst (Shape s u P R None) (sym e) (inr (record { passed = refl; full = refl; table = back_again grows (subst (λ k. Back t k u) used back); memo = forgot }))

pub settled_means : {o : Ops} → Laws o → {s t : Store} → Well s → Well t → (room : ℕ) (u : Store) (Q R : Pairs) (f : Signal) (n : ℕ) (r : Result ℕ Full) (result : Result ℕ TableFault)
    → Grows s t → ((h : ℕ) → r ≡ Ok h → ResultOf o s t Q f h) → ((e : Full) → r ≡ Err e → RanOut o room s t f) → Settled t n u Q R r result → Means o room s u R f result
settled_means {o} laws {s} {t} w v room u Q R f n (Ok h) result grows made out (e, same, kept) =
    subst (Means o room s u R f) (sym e) (subst (λ z. ResultOf o s z R f h) (sym same) (subst (λ z. ResultOf o s t z f h) (sym kept) (made h refl)))
settled_means {o} laws {s} {t} w v room u Q R f n (Err full) result grows made out (e, back, forgot) =
    subst (Means o room s u R f) (sym e) (overfull laws w v grows room f (out full refl))

-- ---- a refused call changes nothing

pub stopped : (s : Store) (P : Pairs) (refusal : Option TableFault) (f : TableFault) (result : Result ℕ TableFault) → result ≡ Err f → refusal ≡ Some f → Shape s s P P refusal result
stopped s P refusal f result e why = subst (Shape s s P P refusal) (sym e) (inl (record { why = why; table = refl; memo = refl }))

pub stopped_means : (o : Ops) (room : ℕ) (s : Store) (P : Pairs) (signal : Signal) (f : TableFault) (result : Result ℕ TableFault) → result ≡ Err f → ToldFull f (Overfull o room s signal) → Meaning o room s s P P signal result
stopped_means o room s P signal f result e told sound pairs = subst (Means o room s s P signal) (sym e) told

-- ---- an input

pub bit_lawful : {o : Ops} → Laws o → (s : Store) (v : ℕ) → v < 2 → Lawful o s v
bit_lawful {o} laws s v l = constant_lawful o s v (omega arith) (omega (arith, laws.two_or_more))

input_choice : (o : Ops) (s : Store) (i : ℕ) → Agree s.inputs (choice o s i 0 1) (input s.inputs i)
input_choice o s i q l =
    let b = bit s.inputs q i in
    cond_both (eqb b 1) 1 0 (λ z. value o s z q ≡ b)
    (λ e. value_constant o s 1 q (omega arith) ∙ sym (eqb-true b 1 e))
    (λ e. value_constant o s 0 q (omega arith) ∙ down b (omega arith) (eqb-false b 1 e))
  where
    down : (b : ℕ) → b < 2 → (b ≡ 1 → ⊥) → 0 ≡ b
    down b few ne = ⊎_elim (λ c. omega arith) (λ c. absurd (ne (omega arith))) (cases_lt b 1)

module _ {o : Ops} {s t : Store} (w : Well s) (grows : Grows s t) (P : Pairs) (i h : ℕ) (pairs : TruePairs o s P) where
  pub input_result : Chosen o s t i 0 1 h → ResultOf o s t P (input s.inputs i) h
  input_result c =
      let f = input s.inputs i in
      let means : Agree s.inputs (value o t h) f = λ q l. c.made.means q l ∙ input_choice o s i q l in
      record {
        sound = c.made.sound;
        pairs = pairs_grow o w grows P pairs;
        lawful = c.made.lawful;
        means = λ q l. means q (pattern_moved q grows.inputs l);
        taken = λ p a b. subst (λ n. PartIn o n (f ∷ []) (value o t (handle p))) (sym grows.inputs)
            (part_in_one o s.inputs (f ∷ []) (value o t (handle p)) (value o t h) (c.taken p a b) (part_in_itself o s.inputs (value o t h) f (inl means)));
      }

pub input_out : {o : Ops} (room : ℕ) (s : Store) (i : ℕ) → Sound o s → Crowded o room s (choice o s i 0 1) → RanOut o room s s (input s.inputs i)
input_out {o} room s i sound c =
    record {
      sound = sound;
      full = c.full;
      taken = λ p a b. absurd (omega arith);
      signal = choice o s i 0 1;
      varies = c.varies;
      part = part_in_itself o s.inputs (choice o s i 0 1) (input s.inputs i) (inl (input_choice o s i));
      lacked = c.lacked;
    }

-- ---- a constant

pub constant_result : {o : Ops} → Laws o → (s : Store) (P : Pairs) (v : ℕ) → v < o.count → Sound o s → TruePairs o s P → ResultOf o s s P (constant v) v
constant_result {o} laws s P v few sound pairs =
    let small : v < 16 = omega (arith, laws.sixteen_at_most) in
    record {
      sound = sound;
      pairs = pairs;
      lawful = constant_lawful o s v small few;
      means = λ p l. value_constant o s v p small;
      taken = λ p a b. absurd (omega arith);
    }

-- ---- an operator is not NOT

pub operator_joins : (o : Ops) (s : Store) (k x y : ℕ) → known o k ≡ true → combined o s k x y ≡ joined o k (value o s x) (value o s y)
operator_joins o s k x y e =
    ap (λ b. λ p. cond b (o.turn (value o s x p)) (o.op k (value o s x p) (value o s y p)))
    (ne_eqb k 2 (λ two. both_ways (known o 2) refl (ap (known o) (sym two) ∙ e)))

-- ---- the operator of a number

numbered : (n m : ℕ) (a k : Op) (rest : Option Op) → op_number a ≡ m → (rest ≡ Some k → op_number k ≡ n) → cond (eqb n m) (Some a) rest ≡ Some k → op_number k ≡ n
numbered n m a k rest e later is =
    ⊎_elim
    (λ t. let some : Some a ≡ Some k = sym (cond-true (eqb n m) (Some a) rest t) ∙ is in
    let same : a ≡ k = cc in
    sym (ap op_number same) ∙ e ∙ sym (eqb-true n m t))
    (λ t. later (sym (cond-false (eqb n m) (Some a) rest t) ∙ is))
    (cases_Bool (eqb n m))

none_some : (k : Op) → ◌≡◌ {A = Option Op} None (Some k) → ⊥
none_some k e = let z : ◌≡◌ {A = ℕ} 0 1 = cc in omega arith

op_numbered : (n : ℕ) (k : Op) → op_of n ≡ Some k → op_number k ≡ n
op_numbered n k =
    numbered n 3 And k _ refl
    (numbered n 4 Or k _ refl
    (numbered n 5 IfAnd k _ refl
    (numbered n 6 IfOr k _ refl
    (numbered n 7 Wire k _ refl
    (numbered n 9 Grade k _ refl (λ e. absurd (none_some k e)))))))

pub own_operator : (o : Ops) (n : ℕ) (k : Op) → own_op o n ≡ Some k → (known o n ≡ true) × (op_number k ≡ n)
own_operator o n k e =
    ⊎_elim
    (λ t. (t, op_numbered n k (sym (cond-true (known o n) (op_of n) None t) ∙ e)))
    (λ t. let none : None ≡ Some k = sym (cond-false (known o n) (op_of n) None t) ∙ e in
    let z : ◌≡◌ {A = ℕ} 0 1 = cc in absurd (omega arith))
    (cases_Bool (known o n))

missing : (n m : ℕ) (a : Op) (rest : Option Op) → cond (eqb n m) (Some a) rest ≡ None → (eqb n m ≡ false) × (rest ≡ None)
missing n m a rest e =
    ⊎_elim
    (λ t. let some : Some a ≡ None = sym (cond-true (eqb n m) (Some a) rest t) ∙ e in absurd (none_some a (sym some)))
    (λ t. (t, sym (cond-false (eqb n m) (Some a) rest t) ∙ e))
    (cases_Bool (eqb n m))

unnumbered : (o : Ops) (n : ℕ) → op_of n ≡ None → known o n ≡ false
unnumbered o n e =
    let a = missing n 3 And _ e in
    let b = missing n 4 Or _ a.1 in
    let c = missing n 5 IfAnd _ b.1 in
    let d = missing n 6 IfOr _ c.1 in
    let f = missing n 7 Wire _ d.1 in
    let h = missing n 9 Grade _ f.1 in
    let e3 = a.0 in let e4 = b.0 in let e5 = c.0 in let e6 = d.0 in let e7 = f.0 in let e9 = h.0 in
    rw (e3, e4, e5, e6, e9, e7) refl

pub no_operator : (o : Ops) (n : ℕ) → own_op o n ≡ None → known o n ≡ false
no_operator o n e =
    ⊎_elim
    (λ t. unnumbered o n (sym (cond-true (known o n) (op_of n) None t) ∙ e))
    (λ t. t)
    (cases_Bool (known o n))

-- ---- the places

pub table_fits : (t : Table) → (view t).used ≤ room t
table_fits t = fits t.places

-- ---- a result that `?` passes on

pub refused : {T E : Type 0} (P : Result T E → Type 0) (r : Result T E) → is_err r ≡ true → ((f : E) → P (Err f)) → P r
refused P (Ok h) e each = absurd (false≢true e)
refused P (Err f) e each = each f

-- ---- the tests of a call

pub passes : (b : Bool) (f : TableFault) (later : Option TableFault) → b ≡ true → test b f later ≡ later
passes b f later e = ap (λ z. test z f later) e

pub fails : (b : Bool) (f : TableFault) (later : Option TableFault) → b ≡ false → test b f later ≡ Some f
fails b f later e = ap (λ z. test z f later) e
