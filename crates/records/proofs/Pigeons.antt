-- Pigeonholes: where no two of m numbers share a place below k, m is at most k.
use Rattle.std.proofs.Common.{◌≡◌, ℕ, zero, suc, ◌<◌, ◌≤◌, ◌⊎◌, sym, ◌∙◌, inl, inr, suc-le-suc, zero-le, arith}
use native.Mathlib.Decide.{dec_lt}
use Rattle.std.proofs.lemmas.Bool.{cases_eq}

-- the place k is given up: who sat there moves to v
moved : (k v x : ℕ) → (x ≡ k) ⊎ (x ≡ k → ⊥) → ℕ
moved k v x (inl e) = v
moved k v x (inr d) = x

-- of two that differ from v and are below suc k, where v is too, the moved are below k, and equal only where the two were
moved_below : (k v x : ℕ) (c : (x ≡ k) ⊎ (x ≡ k → ⊥)) → v < suc k → x < suc k → (x ≡ v → ⊥) → moved k v x c < k
unfolding moved
moved_below k v x (inl e) hv hx d = let ne : v ≡ k → ⊥ = λ f. d (e ∙ sym f) in omega arith
moved_below k v x (inr ne) hv hx d = omega arith

moved_same : (k v x y : ℕ) (c : (x ≡ k) ⊎ (x ≡ k → ⊥)) (e : (y ≡ k) ⊎ (y ≡ k → ⊥)) → (x ≡ v → ⊥) → (y ≡ v → ⊥) → moved k v x c ≡ moved k v y e → x ≡ y
unfolding moved
moved_same k v x y (inl a) (inl b) dx dy h = a ∙ sym b
moved_same k v x y (inl a) (inr b) dx dy h = absurd (dy (sym h))
moved_same k v x y (inr a) (inl b) dx dy h = absurd (dx h)
moved_same k v x y (inr a) (inr b) dx dy h = h

pub pigeonhole : (m k : ℕ) (f : ℕ → ℕ) → ((i : ℕ) → i < m → f i < k) → ((i j : ℕ) → i < m → j < m → f i ≡ f j → i ≡ j) → m ≤ k
pigeonhole zero k f low once = zero-le
pigeonhole (suc m) zero f low once = let h : f 0 < 0 = low 0 (omega arith) in omega arith
pigeonhole (suc m) (suc k) f low once =
    suc-le-suc (pigeonhole m k
    (λ i. moved k (f m) (f i) (cases_eq (f i) k))
    (λ i h. moved_below k (f m) (f i) (cases_eq (f i) k) (low m (omega arith)) (low i (omega arith)) (other i h))
    (λ i j h l e. once i j (omega arith) (omega arith) (moved_same k (f m) (f i) (f j) (cases_eq (f i) k) (cases_eq (f j) k) (other i h) (other j l) e)))
  where
    other : (i : ℕ) → i < m → f i ≡ f m → ⊥
    other i h e = let s : i ≡ m = once i m (omega arith) (omega arith) e in omega arith

-- the same by a relation: each i below m has a place below k, and no two share one
pub pigeonhole_by : (m k : ℕ) (R : ℕ → ℕ → Type 0) → ((i : ℕ) → i < m → (j : ℕ) × (j < k) × R i j) → ((i i' j : ℕ) → i < m → i' < m → j < k → R i j → R i' j → i ≡ i') → m ≤ k
pigeonhole_by m k R place once = pigeonhole m k f
    (λ i h. (found i h).0)
    (λ i i' h h' e. once i i' (f i') h h' (found i' h').0 (rw e at (found i h).1) (found i' h').1)
  where
    choose : (i : ℕ) → Dec (i < m) → ℕ
    choose i (yes h) = (place i h).0
    choose i (no h) = 0

    chosen : (i : ℕ) (d : Dec (i < m)) → i < m → (choose i d < k) × R i (choose i d)
    chosen i (yes h) l = ((place i h).1, (place i h).2)
    chosen i (no h) l = absurd (h l)

    f : ℕ → ℕ
    f i = choose i (dec_lt i m)

    found : (i : ℕ) → i < m → (f i < k) × R i (f i)
    found i h = chosen i (dec_lt i m) h
