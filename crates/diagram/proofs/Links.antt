-- What one more record, and one fewer, leave of the chains. Assumes nothing.
use Rattle.std.proofs.Common.{◌≡◌, ℕ, ◌+◌, ◌-◌, ◌<◌, ◌≤◌, ◌≢◌, List, [], ◌∷◌, ◌++◌, length, get_or, take, set, replicate, sym, refl, ap, ◌∙◌, subst, ⊎_elim, arith}
use mathlib.Core.Logic.{∥∥₁_elim}
use native.Mathlib.Bridge.{le_prop}
use std.HLevel.{Π_prop, ⊥_prop}
use base.Stored.{Coded-set, coded_ℕ}
use Rattle.records.specs.declared.record.Record.{Record}
use Rattle.memo.specs.Buckets.{bucket_of}
use Rattle.records.specs.Keys.{blank, record_at, Keyed, Absent}
use Rattle.diagram.specs.Chains.{chain, chain_at, Chained}
use Rattle.std.proofs.lemmas.List.{get_or-take, get_or_append_left, get_or_push, length-take-le, length_push, get_or-replicate, get_or_past, length-replicate}
use Rattle.std.proofs.lemmas.Grind.{common_steps}
use Rattle.std.proofs.lemmas.Bool.{cases_eq, cases_lt}
use Rattle.std.proofs.lemmas.Nat.{and_le_r}

-- two records with the same key
abbrev SameKey : Record → Record → Type 0
SameKey r s = Keyed r s.input s.low s.high

chained_prop : (mask : ℕ) (rs : List Record) (heads next : List ℕ) → IsProp (Chained mask rs heads next)
chained_prop mask rs heads next a b =
    λ i. record {
      heads_low = Π_prop (λ b. le_prop) a.heads_low b.heads_low i;
      heads_own = λ c h. Coded-set coded_ℕ _ _ (a.heads_own c h) (b.heads_own c h) i;
      heads_all = Π_prop (λ q. Π_prop (λ _. le_prop)) a.heads_all b.heads_all i;
      nexts_low = Π_prop (λ p. Π_prop (λ _. le_prop)) a.nexts_low b.nexts_low i;
      nexts_own = λ p h. Coded-set coded_ℕ _ _ (a.nexts_own p h) (b.nexts_own p h) i;
      nexts_all = Π_prop (λ p. Π_prop (λ q. Π_prop (λ _. le_prop))) a.nexts_all b.nexts_all i;
      apart = Π_prop (λ p. Π_prop (λ q. Π_prop (λ _. ⊥_prop))) a.apart b.apart i;
    }

-- so it comes out of its truncation
pub chained : {mask : ℕ} {rs : List Record} {heads next : List ℕ} → ∥ Chained mask rs heads next ∥₁ → Chained mask rs heads next
chained {mask} {rs} {heads} {next} t = ∥∥₁_elim t (chained_prop mask rs heads next) (λ k. k)

-- what holds of v, and of each other element, holds at each place of the list with v at i
at_set : (P : ℕ → ℕ → Type 0) (l : List ℕ) (i j v : ℕ) → i < length l → P i v → (j ≢ i → P j (get_or l j 0)) → P j (get_or (set l i v) j 0)
at_set P l i j v h here there = grind (arith, common_steps, cases_eq j i)

-- what holds of v at the end, and of each other element, holds at each place of the list with v added
at_push : (P : ℕ → ℕ → Type 0) (l : List ℕ) (n j v : ℕ) → length l ≡ n → P n v → (j ≢ n → P j (get_or l j 0)) → P j (get_or (l ++ v ∷ []) j 0)
at_push P l n j v len here there = grind (arith, common_steps, cases_eq j n, get_or_push l v 0 n len)

pub within : (mask : ℕ) (r : Record) → chain mask r ≤ mask
unfolding bucket_of
within mask r = and_le_r _ _

-- a key decides the chain
pub keyed_chain : (mask : ℕ) (r : Record) (input low high : ℕ) → Keyed r input low high → chain mask r ≡ bucket_of mask input low high
keyed_chain mask r input low high k = cc

-- a search for a key has come to the link v: no place from there on up has the key
abbrev pub Sought : ℕ → List Record → ℕ → ℕ → ℕ → ℕ → Type 0
Sought mask rs input low high v =
    (v ≤ length rs) × (0 < v → chain_at mask rs (v - 1) ≡ bucket_of mask input low high) × ((q : ℕ) → q < length rs → Keyed (record_at rs q) input low high → q < v)

-- an empty table
pub empty : (mask n : ℕ) (rs : List Record) (heads next : List ℕ) → rs ≡ [] → heads ≡ replicate n 0 → Chained mask rs heads next
empty mask n rs heads next e f =
    let none : length rs ≡ 0 = ap length e in
    let zeros : (b : ℕ) → get_or heads b 0 ≡ 0 =
    λ b.
    ap (λ hs. get_or hs b 0) f
    ∙ ⊎_elim (λ h. get_or-replicate n b 0 0 h) (λ h. get_or_past (replicate n 0) b 0 (simp length-replicate h)) (cases_lt b n)
    in
    record {
      heads_low = λ b. omega (arith, zeros b);
      heads_own = λ b h. absurd (omega (arith, zeros b));
      heads_all = λ q h. absurd (omega arith);
      nexts_low = λ p h. absurd (omega arith);
      nexts_own = λ p h. absurd (omega arith);
      nexts_all = λ p q h. absurd (omega arith);
      apart = λ i j h. absurd (omega arith);
    }

module _ (mask : ℕ) (rs : List Record) (heads next : List ℕ) (old : Chained mask rs heads next) (masked : length heads ≡ mask + 1) where
  -- without the last record
  popped_at : (p : ℕ) → length rs ≡ p + 1 → Chained mask (take p rs) (set heads (chain_at mask rs p) (get_or next p 0)) (take p next)
  popped_at p e =
      let len : length (take p rs) ≡ p = length-take-le p rs (omega arith) in
      let same : (q : ℕ) → q < p → chain_at mask (take p rs) q ≡ chain_at mask rs q = λ q h. ap (chain mask) (get_or-take p rs q blank h) in
      let b = chain_at mask rs p in
      let v = get_or next p 0 in
      let lt : b < length heads = omega (arith, within mask (record_at rs p)) in
      let low : v ≤ p = old.nexts_low p (omega arith) in
      let on : (q : ℕ) → q < p → get_or (take p next) q 0 ≡ get_or next q 0 = λ q h. get_or-take p next q 0 h in
      let other : (c : ℕ) → c ≢ b → get_or heads c 0 ≤ p =
      λ c ne.
      ⊎_elim
      (λ top.
      let pred : get_or heads c 0 - 1 ≡ p = omega arith in
      absurd (ne (sym (old.heads_own c (omega arith)) ∙ ap (chain_at mask rs) pred)))
      (λ not. omega (arith, old.heads_low c))
      (cases_eq (get_or heads c 0) (p + 1))
      in
      record {
        heads_low = λ c. at_set (λ c w. w ≤ length (take p rs)) heads b c v lt (omega arith) (λ ne. omega (arith, other c ne));
        heads_own =
            λ c.
            at_set (λ c w. 0 < w → chain_at mask (take p rs) (w - 1) ≡ c) heads b c v lt
            (λ h. same (v - 1) (omega arith) ∙ old.nexts_own p (omega arith, h))
            (λ ne h. same (get_or heads c 0 - 1) (omega (arith, other c ne)) ∙ old.heads_own c h);
        heads_all =
            λ q h.
            subst (λ c. q < get_or (set heads b v) c 0) (sym (same q (omega arith)))
            (at_set (λ c w. chain_at mask rs q ≡ c → q < w) heads b (chain_at mask rs q) v lt
            (λ b-too. old.nexts_all p q (omega arith, omega arith, b-too))
            (λ ne mine. old.heads_all q (omega arith))
            refl);
        nexts_low = λ q h. omega (arith, on q (omega arith), old.nexts_low q (omega arith));
        nexts_own =
            λ q h.
            let l : q < p = omega arith in
            let some : 0 < get_or next q 0 = subst (λ w. 0 < w) (on q l) h.1 in
            subst (λ w. chain_at mask (take p rs) (w - 1) ≡ chain_at mask (take p rs) q) (sym (on q l))
            (same (get_or next q 0 - 1) (omega (arith, old.nexts_low q (omega arith))) ∙ old.nexts_own q (omega arith, some) ∙ sym (same q l));
        nexts_all =
            λ q s h.
            subst (λ w. s < w) (sym (on q (omega arith)))
            (old.nexts_all q s (h.0, omega arith, sym (same s (omega arith)) ∙ h.2 ∙ same q (omega arith)));
        apart =
            λ i j h.
            let alike = subst (λ r. SameKey r (record_at (take p rs) j)) (get_or-take p rs i blank (omega arith)) h.2 in
            old.apart i j (h.0, omega arith, subst (SameKey (record_at rs i)) (get_or-take p rs j blank (omega arith)) alike);
      }

  pub popped : (p b v : ℕ) → length rs ≡ p + 1 → b ≡ chain_at mask rs p → v ≡ get_or next p 0 → Chained mask (take p rs) (set heads b v) (take p next)
  popped p b v e same_bin same-link = rw (same_bin, same-link) (popped_at p e)

  -- with one more
  pushed_at : (r : Record) → length next ≡ length rs → Absent rs r.input r.low r.high → Chained mask (rs ++ r ∷ []) (set heads (chain mask r) (length rs + 1)) (next ++ get_or heads (chain mask r) 0 ∷ [])
  pushed_at r even absent =
      let n = length rs in
      let more = rs ++ r ∷ [] in
      let b = chain mask r in
      let v = get_or heads b 0 in
      let len : length more ≡ n + 1 = length_push rs r in
      let same : (q : ℕ) → q < n → chain_at mask more q ≡ chain_at mask rs q = λ q h. ap (chain mask) (get_or_append_left rs (r ∷ []) blank q h) in
      let new : chain_at mask more n ≡ b = ap (chain mask) (get_or_push rs r blank n refl) in
      let lt : b < length heads = omega (arith, within mask r) in
      let low : v ≤ n = old.heads_low b in
      record {
        heads_low = λ c. at_set (λ c w. w ≤ length more) heads b c (n + 1) lt (omega arith) (λ ne. omega (arith, old.heads_low c));
        heads_own =
            λ c.
            at_set (λ c w. 0 < w → chain_at mask more (w - 1) ≡ c) heads b c (n + 1) lt
            (λ h. let top : n + 1 - 1 ≡ n = omega arith in ap (chain_at mask more) top ∙ new)
            (λ ne h. same (get_or heads c 0 - 1) (omega (arith, old.heads_low c)) ∙ old.heads_own c h);
        heads_all =
            λ q h.
            at_set (λ c w. q < w) heads b (chain_at mask more q) (n + 1) lt (omega arith)
            (λ ne.
            ⊎_elim
            (λ e. absurd (ne (ap (chain_at mask more) e ∙ new)))
            (λ not. subst (λ c. q < get_or heads c 0) (sym (same q (omega arith))) (old.heads_all q (omega arith)))
            (cases_eq q n));
        nexts_low = λ p. at_push (λ p w. p < length more → w ≤ p) next n p v even (λ h. low) (λ ne h. old.nexts_low p (omega arith));
        nexts_own =
            λ p.
            at_push (λ p w. (p < length more) × (0 < w) → chain_at mask more (w - 1) ≡ chain_at mask more p) next n p v even
            (λ h. same (v - 1) (omega arith) ∙ old.heads_own b h.1 ∙ sym new)
            (λ ne h. same (get_or next p 0 - 1) (omega (arith, old.nexts_low p (omega arith))) ∙ old.nexts_own p (omega arith, h.1) ∙ sym (same p (omega arith)));
        nexts_all =
            λ p q.
            at_push (λ p w. (q < p) × (p < length more) × (chain_at mask more q ≡ chain_at mask more p) → q < w) next n p v even
            (λ h. subst (λ c. q < get_or heads c 0) (sym (same q h.0) ∙ h.2 ∙ new) (old.heads_all q h.0))
            (λ ne h. old.nexts_all p q (h.0, omega arith, sym (same q (omega arith)) ∙ h.2 ∙ same p (omega arith)));
        apart =
            λ i j h.
            let first = subst (λ s. SameKey s (record_at more j)) (get_or_append_left rs (r ∷ []) blank i (omega arith)) h.2 in
            ⊎_elim
            (λ e. absent i (omega arith) (subst (SameKey (record_at rs i)) (ap (record_at more) e ∙ get_or_push rs r blank n refl) first))
            (λ ne. old.apart i j (h.0, omega arith, subst (SameKey (record_at rs i)) (get_or_append_left rs (r ∷ []) blank j (omega arith)) first))
            (cases_eq j n);
      }

  pub pushed : (r : Record) (b v : ℕ) → length next ≡ length rs → Absent rs r.input r.low r.high → b ≡ chain mask r → v ≡ get_or heads b 0 → Chained mask (rs ++ r ∷ []) (set heads b (length rs + 1)) (next ++ v ∷ [])
  pushed r b v even absent same_bin same-link = rw (same-link, same_bin) (pushed_at r even absent)

  module _ (input low high : ℕ) where
    pub started : (b v : ℕ) → b ≡ bucket_of mask input low high → v ≡ get_or heads b 0 → Sought mask rs input low high v
    started b v same_bin same-link =
        rw same-link (
          old.heads_low b,
          λ h. old.heads_own b h ∙ same_bin,
          λ q h k. subst (λ c. q < get_or heads c 0) (keyed_chain mask (record_at rs q) input low high k ∙ sym same_bin) (old.heads_all q h),
        )

    pub passed : (v w : ℕ) → Sought mask rs input low high v → 0 < v → w ≡ get_or next (v - 1) 0 → (Keyed (record_at rs (v - 1)) input low high → ⊥) → Sought mask rs input low high w
    passed v w s some same-link not =
        rw same-link (
          omega (arith, old.nexts_low (v - 1) (omega arith)),
          λ h. old.nexts_own (v - 1) (omega arith, h) ∙ s.1 some,
          λ q h k.
              let other : q ≢ v - 1 = λ e. not (subst (λ p. Keyed (record_at rs p) input low high) e k) in
              old.nexts_all (v - 1) q (omega (arith, s.2 q h k), omega arith, keyed_chain mask (record_at rs q) input low high k ∙ sym (s.1 some)),
        )
