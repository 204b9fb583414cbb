-- Lay and compare keep the law of runs, one line or pair at a time: the call so far is an event with the answers so far.
-- Assumes nothing.
use Rattle.std.proofs.Common.{◌≡◌, ℕ, zero, suc, ◌+◌, ◌<◌, ◌≤◌, Bool, true, false, cond, eqb, List, [], ◌∷◌, ◌++◌, map, length, get_or, take, drop, None, Ok, Option, Result, sym, refl, ap, ◌∙◌, subst, ap₂, append_assoc, append-nil, arith}
use Rattle.std.specs.List.{AllByRecursion}
use Rattle.std.proofs.lemmas.List.{take-append-drop, take_at, length-take-le, length-map, get_or-take, get_or_push}
use Rattle.std.proofs.lemmas.Bool.{cond-true, cond-false, eq-eqb, ne_eqb}
use Rattle.algebra.specs.Ops.{Ops}
use Rattle.algebra.specs.Laws.{Laws}
use Rattle.netlist.specs.declared.line.Line.{Line}
use Rattle.netlist.specs.Signals.{Signal, Agree, constant, turned, joined}
use Rattle.netlist.specs.Signals as signals
use Rattle.netlist.specs.Lines.{signal_at, line_signal, signals_after, line_signals}
use Rattle.netlist.specs.Findings.{zipped}
use Rattle.netlist.proofs.LineSignals.{signals_length, signals_more}
use Rattle.records.specs.declared.fault.TableFault.{TableFault}
use Rattle.records.specs.Stores.{Store, value}
use Rattle.records.specs.Rules.{Well}
use Rattle.memo.specs.Memos.{Pairs}
use Rattle.records.specs.Outcomes.{Shape, Meaning}
use Rattle.records.specs.Runs.{Answer, told, refused, lay, Run, answer_of, Entry, Book, step, all_booked, book, Stands, Kept}
use Rattle.records.proofs.Values.{lawful_within}
use Rattle.records.proofs.Alike.{agree_refl}
use Rattle.records.proofs.Books.{before_steps}
use Rattle.records.proofs.Stepping.{Stepped, one_step, inputs_kept, Walked, walked_none, walked_more}
use Rattle.records.proofs.Events.{kept_event, kept_more}

-- ---- lists

pub zipped_none : {X Y Z : Type 0} (f : X → Y → Z) (xs : List X) → zipped f xs [] ≡ []
unfolding zipped
zipped_none f [] = refl
zipped_none f (x ∷ xs) = refl

-- one item more of the shorter list
pub zipped_more : {X Y Z : Type 0} (f : X → Y → Z) (xs : List X) (ys : List Y) (x : X) (y : Y) → length ys < length xs
    → zipped f xs (ys ++ y ∷ []) ≡ zipped f xs ys ++ f (get_or xs (length ys) x) y ∷ []
unfolding zipped
zipped_more f [] ys x y h = absurd (omega arith)
zipped_more f (a ∷ xs) [] x y h = ap (λ l. f a y ∷ l) (zipped_none f xs)
zipped_more f (a ∷ xs) (b ∷ ys) x y h = ap (λ l. f a b ∷ l) (zipped_more f xs ys x y (omega arith))

-- ---- the signals of the lines so far

module _ (o : Ops) (n : ℕ) where
  after_append : (e : List Signal) (ls ms : List Line) → signals_after o n e (ls ++ ms) ≡ signals_after o n (signals_after o n e ls) ms
  unfolding signals_after
  after_append e [] ms = refl
  after_append e (l ∷ ls) ms = after_append (e ++ line_signal o n e l ∷ []) ls ms

  after_front : (e : List Signal) (ls : List Line) → (r : List Signal) × (signals_after o n e ls ≡ e ++ r)
  unfolding signals_after
  after_front e [] = ([], sym (append-nil e))
  after_front e (l ∷ ls) =
      let r = after_front (e ++ line_signal o n e l ∷ []) ls in
      (line_signal o n e l ∷ r.0, r.1 ∙ append_assoc e (line_signal o n e l ∷ []) r.0)

  -- the first lines have the first signals
  signals_take : (ls : List Line) (i : ℕ) → i ≤ length ls → take i (line_signals o n ls) ≡ line_signals o n (take i ls)
  unfolding line_signals
  signals_take ls i h =
      let front = line_signals o n (take i ls) in
      let r = after_front front (drop i ls) in
      ap (λ l. take i (line_signals o n l)) (sym (take-append-drop i ls))
      ∙ ap (take i) (after_append [] (take i ls) (drop i ls) ∙ r.1)
      ∙ take_at front r.0 i (signals_length o n (take i ls) ∙ length-take-le i ls h)

  -- the signal of a line, from those before it
  pub signal_here : (ls : List Line) (i : ℕ) (l : Line) → i < length ls → l ≡ get_or ls i l → signal_at (line_signals o n ls) i ≡ line_signal o n (take i (line_signals o n ls)) l
  signal_here ls i l h here =
      let front = line_signals o n (take i ls) in
      sym (get_or-take (i + 1) (line_signals o n ls) i (constant 0) (omega arith))
      ∙ ap (λ x. get_or x i (constant 0)) (signals_take ls (i + 1) (omega arith) ∙ signals_more o n ls i l h here)
      ∙ get_or_push front (line_signal o n front l) (constant 0) i (signals_length o n (take i ls) ∙ length-take-le i ls (omega arith))
      ∙ ap (λ x. line_signal o n x l) (sym (signals_take ls i (omega arith)))

  cond_agree : (c : Bool) (a a' b b' : Signal) → Agree n a a' → Agree n b b' → Agree n (cond c a b) (cond c a' b')
  cond_agree true a a' b b' e f = e
  cond_agree false a a' b b' e f = f

  -- it may be told from signals that agree with them
  line_agree : (xs ys : List Signal) (l : Line) → ((k : ℕ) → Agree n (signal_at xs k) (signal_at ys k)) → Agree n (line_signal o n xs l) (line_signal o n ys l)
  line_agree xs ys l same =
      cond_agree (eqb l.kind 0) _ _ _ _ (agree_refl n (signals.input n l.first))
      (cond_agree (eqb l.kind 1) _ _ _ _ (agree_refl n (constant l.first))
      (cond_agree (eqb l.kind 2) _ _ _ _ (λ p k. ap o.turn (same l.first p k))
      (cond_agree (eqb l.kind 8) _ _ _ _ (same l.first)
      (λ p k. ap₂ (o.op l.kind) (same l.first p k) (same l.second p k)))))

  -- the signal of an OUT line
  out_signal : (xs : List Signal) (l : Line) → l.kind ≡ 8 → line_signal o n xs l ≡ signal_at xs l.first
  out_signal xs l e =
      cond-false (eqb l.kind 0) _ _ (ne_eqb l.kind 0 (λ z. omega arith))
      ∙ cond-false (eqb l.kind 1) _ _ (ne_eqb l.kind 1 (λ z. omega arith))
      ∙ cond-false (eqb l.kind 2) _ _ (ne_eqb l.kind 2 (λ z. omega arith))
      ∙ cond-true (eqb l.kind 8) _ _ (eq-eqb l.kind 8 e)

-- ---- handles with signals

-- each handle is lawful and has the signal beside it
unfoldable pub Signalled : Ops → ℕ → Store → List ℕ → List Signal → Type 0
Signalled o n s [] ss = Unit {0}
Signalled o n s (h ∷ hs) [] = ⊥
Signalled o n s (h ∷ hs) (x ∷ ss) = Stands o n s (record { number = h; signal = x }) × Signalled o n s hs ss

module _ (o : Ops) (n : ℕ) (s : Store) where
  pub told_signalled : (ss : List Signal) (hs : List ℕ) (b : Book) → length hs ≤ length ss → AllByRecursion (Stands o n s) (all_booked (zipped step ss (map told hs)) b) → Signalled o n s hs ss
  unfolding Signalled zipped all_booked
  told_signalled ss [] b h all = tt
  told_signalled [] (x ∷ hs) b h all = absurd (omega arith)
  told_signalled (r ∷ ss) (x ∷ hs) b h all =
      let e : Entry = record { number = x; signal = r } in
      ((before_steps (Stands o n s) (zipped step ss (map told hs)) (e ∷ b) all).0, told_signalled ss hs (e ∷ b) (omega arith) all)

  pub signalled_here : (hs : List ℕ) (ss : List Signal) → Signalled o n s hs ss → (k : ℕ) → k < length hs → Stands o n s (record { number = get_or hs k 0; signal = signal_at ss k })
  unfolding Signalled
  signalled_here [] ss same k h = absurd (omega arith)
  signalled_here (x ∷ hs) [] same k h = absurd same
  signalled_here (x ∷ hs) (r ∷ ss) same zero h = same.0
  signalled_here (x ∷ hs) (r ∷ ss) same (suc k) h = signalled_here hs ss same.1 k (omega arith)

  signalled_at : (hs : List ℕ) (ss : List Signal) → Signalled o n s hs ss → (k : ℕ) → Agree n (signal_at (map (value o s) hs) k) (signal_at (take (length hs) ss) k)
  unfolding Signalled
  signalled_at [] ss same k = agree_refl n (constant 0)
  signalled_at (h ∷ hs) [] same k = absurd same
  signalled_at (h ∷ hs) (x ∷ ss) same zero = same.0.means
  signalled_at (h ∷ hs) (x ∷ ss) same (suc k) = signalled_at hs ss same.1 k

-- ---- lay

-- before the first line
pub kept_lay_none : {o : Ops} → Laws o → {s : Store} → Well s → (room : ℕ) (P : Pairs) (run : Run) (ls : List Line) → Kept o room run s P → Kept o room (lay ls [] ∷ run) s P
kept_lay_none {o} laws {s} w room P run ls =
    kept_event laws w room run (lay ls []) P P refl
    (λ holds. record {
      walked = subst (λ x. Walked o s.inputs room (book o s.inputs run) x s P) (sym (zipped_none step (line_signals o s.inputs ls))) (walked_none holds);
      findings = tt;
    })

-- the handles so far have the signals of their lines
laid_signalled : {o : Ops} {n room : ℕ} {b : Book} {s : Store} {P : Pairs} (ls : List Line) (hs : List ℕ) → length hs ≤ length ls → Walked o n room b (zipped step (line_signals o n ls) (map told hs)) s P → Signalled o n s hs (line_signals o n ls)
laid_signalled {o} {n} {room} {b} {s} ls hs h walked = told_signalled o n s (line_signals o n ls) hs b (omega (arith, signals_length o n ls)) walked.holds.handles

-- a line's step follows those before it
line_walked : {o : Ops} {n room : ℕ} {b : Book} {s t : Store} {P Q : Pairs} (ls : List Line) (hs : List ℕ) (a : Answer) → length hs < length ls
    → Walked o n room b (zipped step (line_signals o n ls) (map told hs)) s P
    → Stepped o n room (all_booked (zipped step (line_signals o n ls) (map told hs)) b) (step (signal_at (line_signals o n ls) (length hs)) a) t Q
    → Walked o n room b (zipped step (line_signals o n ls) (map told hs ++ a ∷ [])) t Q
line_walked {o} {n} {room} {b} {s} {t} {P} {Q} ls hs a h before after =
    let ss = line_signals o n ls in
    let e : zipped step ss (map told hs ++ a ∷ []) ≡ zipped step ss (map told hs) ++ step (signal_at ss (length hs)) a ∷ [] =
    zipped_more step ss (map told hs) (constant 0) a (omega (arith, length-map hs told, signals_length o n ls)) ∙ ap (λ i. zipped step ss (map told hs) ++ step (signal_at ss i) a ∷ []) (length-map hs told) in
    subst (λ x. Walked o n room b x t Q) (sym e) (walked_more (zipped step ss (map told hs)) (step (signal_at ss (length hs)) a) before after)

module _ {o : Ops} (laws : Laws o) {s t : Store} (w : Well s) (v : Well t) {room : ℕ} (fits : t.used ≤ room) (P Q : Pairs) (run : Run) (refusal : Option TableFault) (r : Result ℕ TableFault) (shape : Shape s t P Q refusal r) where
  -- one line more, made from the handles of the lines before it
  pub kept_line : (ls : List Line) (hs : List ℕ) (l : Line) → length hs < length ls → l ≡ get_or ls (length hs) l
      → Meaning o room s t P Q (line_signal o s.inputs (map (value o s) hs) l) r
      → Kept o room (lay ls (map told hs) ∷ run) s P → Kept o room (lay ls (map told hs ++ answer_of r ∷ []) ∷ run) t Q
  kept_line ls hs l h here meaning =
      kept_more laws v room run (lay ls (map told hs)) (lay ls (map told hs ++ answer_of r ∷ [])) P Q inputs (λ _ _ _. tt)
      (λ before. record { walked = line_walked ls hs (answer_of r) h before.walked (after before.walked); findings = tt })
    where
      n : ℕ
      n = t.inputs

      ss : List Signal
      ss = line_signals o n ls

      b : Book
      b = book o n run

      inputs : t.inputs ≡ s.inputs
      inputs = inputs_kept s t P Q refusal r shape

      meant : Signal
      meant = line_signal o s.inputs (map (value o s) hs) l

      after : Walked o n room b (zipped step ss (map told hs)) s P → Stepped o n room (all_booked (zipped step ss (map told hs)) b) (step (signal_at ss (length hs)) (answer_of r)) t Q
      after before =
          one_step laws w v fits refusal meant (signal_at ss (length hs)) r shape (meaning before.holds.sound before.holds.pairs)
          (λ p k.
          ap (λ m. line_signal o m (map (value o s) hs) l p) (sym inputs)
          ∙ line_agree o n (map (value o s) hs) (take (length hs) ss) l (signalled_at o n s hs ss (laid_signalled ls hs (omega arith) before)) p k
          ∙ ap (λ f. f p) (sym (signal_here o n ls (length hs) l h here)))
          before.holds

module _ {o : Ops} (laws : Laws o) {s : Store} (w : Well s) {room : ℕ} (fits : s.used ≤ room) (P : Pairs) (run : Run) (ls : List Line) (hs : List ℕ) where
  -- one line more that a test refuses
  pub kept_refused_line : length hs < length ls → Kept o room (lay ls (map told hs) ∷ run) s P → Kept o room (lay ls (map told hs ++ refused ∷ []) ∷ run) s P
  kept_refused_line h =
      kept_more laws w room run (lay ls (map told hs)) (lay ls (map told hs ++ refused ∷ [])) P P refl (λ _ _ _. tt)
      (λ before. record { walked = line_walked ls hs refused h before.walked (record { holds = before.walked.holds; judged = tt }); findings = tt })

  -- one OUT line more: it repeats the handle of an earlier line
  pub kept_out_line : (l : Line) → length hs < length ls → l ≡ get_or ls (length hs) l → l.kind ≡ 8 → l.first < length hs
      → Kept o room (lay ls (map told hs) ∷ run) s P → Kept o room (lay ls (map told hs ++ told (get_or hs l.first 0) ∷ []) ∷ run) s P
  kept_out_line l h here out earlier =
      kept_more laws w room run (lay ls (map told hs)) (lay ls (map told hs ++ told x ∷ [])) P P refl (λ _ _ _. tt)
      (λ before. record { walked = line_walked ls hs (told x) h before.walked (after before.walked); findings = tt })
    where
      n : ℕ
      n = s.inputs

      ss : List Signal
      ss = line_signals o n ls

      b : Book
      b = book o n run

      x : ℕ
      x = get_or hs l.first 0

      repeats : signal_at ss (length hs) ≡ signal_at ss l.first
      repeats =
          signal_here o n ls (length hs) l h here
          ∙ out_signal o n (take (length hs) ss) l out
          ∙ get_or-take (length hs) ss l.first (constant 0) earlier

      after : Walked o n room b (zipped step ss (map told hs)) s P → Stepped o n room (all_booked (zipped step ss (map told hs)) b) (step (signal_at ss (length hs)) (told x)) s P
      after before =
          let stands = signalled_here o n s hs ss (laid_signalled ls hs (omega arith) before) l.first earlier in
          one_step laws w w fits None (signal_at ss l.first) (signal_at ss (length hs)) (Ok x)
          (record { passed = refl; grows = record { inputs = refl; more = omega arith; same = λ p u. refl }; within = lawful_within o s x stands.lawful })
          (record {
            sound = before.holds.sound;
            pairs = before.holds.pairs;
            lawful = stands.lawful;
            means = stands.means;
            taken = λ p low high. absurd (omega arith);
          })
          (λ p k. ap (λ f. f p) (sym repeats))
          before.holds
