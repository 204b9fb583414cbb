-- The gravest grade of what is left of an order, one grade on; and what a handle of GRADE tells. Assumes nothing.
use Rattle.std.proofs.Common.{◌≡◌, ℕ, true, zero, suc, ◌+◌, ◌^◌, ◌<◌, ◌≤◌, List, length, get_or, drop, Some, None, Option, MatchOption, sym, refl, ap, ◌∙◌, subst, arith, add-one}
use Rattle.std.specs.Option.{IfSome, IsSomeAnd, option_map}
use Rattle.std.specs.Iterator.Runs.{Run, ItemsMapTo, AllItemsGive, IsFirstToGive, CallKeepsClosure}
use Rattle.std.specs.Fn.{Called}
use denote.Param.Members.{Mut}
use denote.Ref.{Bor}
use Rattle.std.proofs.lemmas.List.{drop_more, at_drop_all, get_or_default}
use Rattle.algebra.specs.Ops.{Ops}
use Rattle.algebra.specs.Laws.{Laws}
use Rattle.netlist.specs.declared.finding.Finding.{Finding}
use Rattle.netlist.specs.declared.finding.Difference.{Difference}
use Rattle.netlist.specs.declared.finding.Finding.TheVariants.{Clean, Differs}
use Rattle.netlist.specs.Signals.{Signal, joined}
use Rattle.netlist.specs.Findings.{first_below, differs_at, gravest, finding}
use Rattle.records.specs.Stores.{Store, value}
use Rattle.records.proofs.Grades.{gravest_alike}
use Rattle.checking.specs.Gradings.{Graded, difference_of}

differs_some : (s t : Signal) (v : ℕ) (x : Option ℕ) (d : Difference) (f : Finding) → Some d ≡ difference_of s t v x → differs_at s t v x f ≡ Differs d
differs_some s t v None d f e = absurd (let z : ◌≡◌ {A = ℕ} 0 1 = cc in omega arith)
differs_some s t v (Some p) d f e = cc

differs_none : (s t : Signal) (v : ℕ) (x : Option ℕ) (f : Finding) → None ≡ difference_of s t v x → differs_at s t v x f ≡ f
differs_none s t v None f e = refl
differs_none s t v (Some p) f e = absurd (let z : ◌≡◌ {A = ℕ} 0 1 = cc in omega arith)

module _ (m : ℕ) (g s t : Signal) (vs : List ℕ) (i v : ℕ) (h : i < length vs) (here : v ≡ get_or vs i v) where
  gravest_here : gravest m g s t (drop i vs) ≡ differs_at s t v (first_below m g v) (gravest m g s t (drop (i + 1) vs))
  unfolding gravest
  gravest_here =
      ap (gravest m g s t) (drop_more vs i v h)
      ∙ ap (λ w. differs_at s t w (first_below m g w) (gravest m g s t (drop (i + 1) vs))) (sym here)

  -- the grade at hand occurs
  pub gravest_found : (d : Difference) → Some d ≡ difference_of s t v (first_below m g v) → gravest m g s t (drop i vs) ≡ Differs d
  gravest_found d e = gravest_here ∙ differs_some s t v (first_below m g v) d _ e

  -- it does not
  pub gravest_more : None ≡ difference_of s t v (first_below m g v) → gravest m g s t (drop i vs) ≡ gravest m g s t (drop (i + 1) vs)
  gravest_more e = gravest_here ∙ differs_none s t v (first_below m g v) _ e

-- no grade is left
pub gravest_all : (m : ℕ) (g s t : Signal) (vs : List ℕ) (i : ℕ) → length vs ≤ i → gravest m g s t (drop i vs) ≡ Clean
unfolding gravest
gravest_all m g s t vs i h = at_drop_all (gravest m g s t) vs i h

-- the grades are tried in order, and the answer is that of the first that occurs
module _ (m : ℕ) (g s t : Signal) (vs : List ℕ) where
  abbrev pub tried : ℕ → Option Difference
  tried k = difference_of s t (get_or vs k 0) (first_below m g (get_or vs k 0))

  gravest_past : (n : ℕ) → n ≤ length vs → ((k : ℕ) → k < n → None ≡ tried k) → gravest m g s t vs ≡ gravest m g s t (drop n vs)
  gravest_past zero h none = refl
  gravest_past (suc n) h none =
      gravest_past n (omega arith) (λ k l. none k (omega arith))
      ∙ gravest_more m g s t vs n (get_or vs n 0) (omega arith) (get_or_default vs n 0 (get_or vs n 0) (omega arith)) (none n (omega arith))
      ∙ ap (λ k. gravest m g s t (drop k vs)) (add-one n)

  pub gravest_tried : (r : Option Difference) (f : Finding)
      → MatchOption r ((k : ℕ) → k < length vs → None ≡ tried k) (λ d. (i : ℕ) × (i < length vs) × (Some d ≡ tried i) × ((k : ℕ) → k < i → None ≡ tried k))
      → MatchOption r (f ≡ Clean) (λ d. f ≡ Differs d) → f ≡ gravest m g s t vs
  gravest_tried None f none e = e ∙ sym (gravest_past (length vs) (omega arith) none ∙ gravest_all m g s t vs (length vs) (omega arith))
  gravest_tried (Some d) f hit e =
      e ∙ sym (gravest_past hit.0 (let h = hit.1 in omega arith) hit.3 ∙ gravest_found m g s t vs hit.0 (get_or vs hit.0 0) hit.1 (get_or_default vs hit.0 0 (get_or vs hit.0 0) hit.1) d hit.2)

pub match_option : {X : Type 0} (A : Type 0) {P Q : X → Type 0} (r : Option X) → ((x : X) → P x → Q x) → MatchOption r A P → MatchOption r A Q
match_option A None f a = a
match_option A (Some x) f p = f x p

item_if : {X Y : Type 0} (v : X → Y) (P : X → Type 0) (o : Option X) (y : Y) → option_map v o ≡ Some y → IfSome o P → (x : X) × (v x ≡ y) × P x
item_if v P None y e p = absurd (let z : ◌≡◌ {A = ℕ} 0 1 = cc in omega arith)
item_if v P (Some x) y e p = (x, cc, p)

item_and : {X Y : Type 0} (v : X → Y) (P : X → Type 0) (o : Option X) (y : Y) → option_map v o ≡ Some y → IsSomeAnd o P → (x : X) × (v x ≡ y) × P x
item_and v P None y e p = absurd p
item_and v P (Some x) y e p = (x, cc, p)

-- what `find_map` answers over the list vs, where the closure answers `answer k` at place k
module _ {S F D : Type 0} {steps : S → Option (Bor ℕ) → S → Type 0} (p : Run steps) (g : Mut F (Bor ℕ × Unit {0}) (Option D)) (f : F) (vs : List ℕ) (items : ItemsMapTo p (λ y. y.now) vs) (answer : ℕ → Option D) (keeps : CallKeepsClosure g f)
    (means : (k : ℕ) (x : Bor ℕ) (q : Option D) → k < length vs → x.now ≡ get_or vs k 0 → Called g f (x, tt) q f → q ≡ answer k) where
  pub finds : (r : Option D) → MatchOption r ((p.whole ≡ true) × AllItemsGive p g f None) (λ y. (i : ℕ) × (i < p.len) × (p.len ≡ i + 1) × IsFirstToGive p g f (Some y) None i)
      → MatchOption r ((k : ℕ) → k < length vs → None ≡ answer k) (λ d. (i : ℕ) × (i < length vs) × (Some d ≡ answer i) × ((k : ℕ) → k < i → None ≡ answer k))
  finds None run = λ k h.
      let all = items.1 run.0 in
      let x = item_if (λ y. y.now) (λ x. Called g f (x, tt) None f) (p.at k) (get_or vs k 0) (items.2 k 0 (omega arith)) (run.1 keeps k) in
      means k x.0 None h x.1 x.2
  finds (Some d) run =
      let within = items.0 in
      let first = run.3 keeps in
      let inside : run.0 < length vs = omega (arith, run.1) in
      let x = item_and (λ y. y.now) (λ x. Called g f (x, tt) (Some d) f) (p.at run.0) (get_or vs run.0 0) (items.2 run.0 0 run.1) first.0 in (
        run.0,
        inside,
        means run.0 x.0 (Some d) inside x.1 x.2,
        λ k h.
            let y = item_and (λ y. y.now) (λ x. Called g f (x, tt) None f) (p.at k) (get_or vs k 0) (items.2 k 0 (omega (arith, run.1))) (first.1 k h) in
            means k y.0 None (omega arith) y.1 y.2,
      )

-- a grade of the order is a code
pub grave_code : {o : Ops} → Laws o → (vs : List ℕ) (i v : ℕ) → vs ≡ o.grave → i < length vs → v ≡ get_or vs i v → v < o.count
grave_code {o} laws vs i v same h here =
    let at : i < length o.grave = subst (λ l. i < length l) same h in
    let e : get_or o.grave i 0 ≡ v = ap (λ l. get_or l i 0) (sym same) ∙ get_or_default vs i 0 v h ∙ sym here in
    let p = laws.grave_some i at in
    let b = laws.op_below 9 p.0 p.1 in
    subst (λ k. k < o.count) (p.4 ∙ e) b

-- the finding of two handles, from the handle of their GRADE
pub graded_finding : {o : Ops} {s : Store} {g x y : ℕ} → Graded o s g x y → (vs : List ℕ) → vs ≡ o.grave
    → gravest (2 ^ s.inputs) (value o s g) (value o s x) (value o s y) vs ≡ finding o s.inputs (value o s x) (value o s y)
graded_finding {o} {s} {g} {x} {y} graded vs same =
    gravest_alike (2 ^ s.inputs) (value o s g) (joined o 9 (value o s x) (value o s y)) (value o s x) (value o s x) (value o s y) (value o s y) graded.means (λ p k. refl) (λ p k. refl) vs
    ∙ ap (gravest (2 ^ s.inputs) (joined o 9 (value o s x) (value o s y)) (value o s x) (value o s y)) same
