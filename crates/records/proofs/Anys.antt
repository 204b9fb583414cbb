-- What some member of a list is, by the list's shape, and by its places.
use Rattle.std.proofs.Common.{ℕ, zero, suc, ◌<◌, ◌⊎◌, List, [], ◌∷◌, ◌++◌, map, length, get_or, subst, inl, inr, ⊎_elim, suc-le-suc, le_of_suc-le-suc, not-suc-le-zero, arith}
use Rattle.std.proofs.lemmas.Bool.{cases_eq}
use Rattle.netlist.specs.Signals.{Signal}
use Rattle.netlist.specs.Parts.{below, concat}

abbrev pub Any : {X : Type 0} → (X → Type 0) → List X → Type 0
Any P [] = ⊥
Any P (x ∷ xs) = P x ⊎ Any P xs

pub any_weaker : {X : Type 0} (P Q : X → Type 0) → ((x : X) → P x → Q x) → (xs : List X) → Any P xs → Any Q xs
any_weaker P Q f [] a = absurd a
any_weaker P Q f (x ∷ xs) (inl p) = inl (f x p)
any_weaker P Q f (x ∷ xs) (inr a) = inr (any_weaker P Q f xs a)

-- ---- by places

pub any_at : {X : Type 0} (P : X → Type 0) (d : X) (xs : List X) (k : ℕ) → k < length xs → P (get_or xs k d) → Any P xs
any_at P d [] k h p = absurd (not-suc-le-zero h)
any_at P d (x ∷ xs) zero h p = inl p
any_at P d (x ∷ xs) (suc k) h p = inr (any_at P d xs k (le_of_suc-le-suc h) p)

pub any_place : {X : Type 0} (P : X → Type 0) (d : X) (xs : List X) → Any P xs → (k : ℕ) × (k < length xs) × P (get_or xs k d)
any_place P d [] a = absurd a
any_place P d (x ∷ xs) (inl p) = (0, omega arith, p)
any_place P d (x ∷ xs) (inr a) = let r = any_place P d xs a in (suc r.0, suc-le-suc r.1, r.2)

-- ---- by shape

pub any_map : {X Y : Type 0} (P : Y → Type 0) (f : X → Y) (xs : List X) → Any (λ x. P (f x)) xs → Any P (map f xs)
any_map P f [] a = a
any_map P f (x ∷ xs) (inl p) = inl p
any_map P f (x ∷ xs) (inr a) = inr (any_map P f xs a)

pub any_from_map : {X Y : Type 0} (P : Y → Type 0) (f : X → Y) (xs : List X) → Any P (map f xs) → Any (λ x. P (f x)) xs
any_from_map P f [] a = a
any_from_map P f (x ∷ xs) (inl p) = inl p
any_from_map P f (x ∷ xs) (inr a) = inr (any_from_map P f xs a)

pub any_append_left : {X : Type 0} (P : X → Type 0) (xs ys : List X) → Any P xs → Any P (xs ++ ys)
any_append_left P [] ys a = absurd a
any_append_left P (x ∷ xs) ys (inl p) = inl p
any_append_left P (x ∷ xs) ys (inr a) = inr (any_append_left P xs ys a)

pub any_append_right : {X : Type 0} (P : X → Type 0) (xs ys : List X) → Any P ys → Any P (xs ++ ys)
any_append_right P [] ys a = a
any_append_right P (x ∷ xs) ys a = inr (any_append_right P xs ys a)

pub any_from_append : {X : Type 0} (P : X → Type 0) (xs ys : List X) → Any P (xs ++ ys) → Any P xs ⊎ Any P ys
any_from_append P [] ys a = inr a
any_from_append P (x ∷ xs) ys (inl p) = inl (inl p)
any_from_append P (x ∷ xs) ys (inr a) = ⊎_elim (λ b. inl (inr b)) inr (any_from_append P xs ys a)

pub any_concat : (P : Signal → Type 0) (xss : List (List Signal)) → Any (Any P) xss → Any P (concat xss)
unfolding concat
any_concat P [] a = a
any_concat P (xs ∷ xss) (inl a) = any_append_left P xs (concat xss) a
any_concat P (xs ∷ xss) (inr a) = any_append_right P xs (concat xss) (any_concat P xss a)

pub any_from_concat : (P : Signal → Type 0) (xss : List (List Signal)) → Any P (concat xss) → Any (Any P) xss
unfolding concat
any_from_concat P [] a = a
any_from_concat P (xs ∷ xss) a = ⊎_elim inl (λ b. inr (any_from_concat P xss b)) (any_from_append P xs (concat xss) a)

pub any_below : (P : ℕ → Type 0) (m k : ℕ) → k < m → P k → Any P (below m)
unfolding below
any_below P zero k h p = absurd (not-suc-le-zero h)
any_below P (suc m) k h p = ⊎_elim (λ e. inl (subst P e p)) (λ d. inr (any_below P m k (omega arith) p)) (cases_eq k m)

pub any_from_below : (P : ℕ → Type 0) (m : ℕ) → Any P (below m) → (k : ℕ) × (k < m) × P k
unfolding below
any_from_below P zero a = absurd a
any_from_below P (suc m) (inl p) = (m, omega arith, p)
any_from_below P (suc m) (inr a) = let r = any_from_below P m a in let h : r.0 < m = r.1 in (r.0, omega arith, r.2)
