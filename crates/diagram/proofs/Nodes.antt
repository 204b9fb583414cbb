-- The chains of a table's nodes. Assumes nothing.
use Rattle.std.proofs.Common.{◌≡◌, ℕ, zero, suc, ◌+◌, ◌-◌, ◌<◌, ◌≤◌, List, [], ◌∷◌, ◌++◌, length, map, get_or, take, set, replicate, vec_items, vec_len, sym, refl, ap, ◌∙◌, subst, arith}
use Rattle.std.proofs.lemmas.List.{get_or-map, length-map, map-append, map-set, take-map}
use Rattle.diagram.specs.declared.places.link.Link.{Link}
use Rattle.diagram.specs.declared.places.Node.{Node}
use Rattle.diagram.specs.declared.places.Places.{Places}
use Rattle.memo.specs.Buckets.{bucket_of}
use Rattle.records.specs.Keys.{blank, record_at, Keyed, Absent}
use Rattle.diagram.specs.Chains.{records_of, links_of, rank, chain, Chained}
use Rattle.diagram.specs.Uses.{in_use, room_for}
use Rattle.diagram.proofs.Links.{chained, Sought, empty, popped, pushed, started, passed}

abbrev pub Tied : ℕ → List Node → List Link → Type 0
Tied mask ns hs = Chained mask (records_of ns) (map rank hs) (links_of ns)

none_of : (n : ℕ) (l : Link) → rank l ≡ 0 → map rank (replicate n l) ≡ replicate n 0
none_of zero l e = refl
none_of (suc n) l e = cc (none_of n l e)

-- no places in use, and no chain begun
pub tied_none : (mask n : ℕ) (ns : List Node) (hs : List Link) (l : Link) → rank l ≡ 0 → ns ≡ [] → hs ≡ replicate n l → Tied mask ns hs
tied_none mask n ns hs l none e f = empty mask n _ _ _ (ap records_of e) (ap (map rank) f ∙ none_of n l none)

abbrev pub mask_of : Places → ℕ
mask_of t = vec_len t.heads - 1

-- what each table holds to
module _ (t : Places) where
  abbrev ns : List Node
  ns = vec_items t.nodes

  abbrev hs : List Link
  hs = vec_items t.heads

  held : Tied (mask_of t) ns hs
  held = chained t.chained

  long : length (in_use t) ≡ length ns
  long = length-map ns _

  ranks : length (map rank hs) ≡ mask_of t + 1
  ranks = length-map hs rank ∙ omega arith

  pub fits : length (in_use t) ≤ room_for t
  fits = omega (arith, long, t.within)

  -- what a place or a head that is read has
  pub record_read : (p : ℕ) (n : Node) → n ≡ get_or ns p n → p < length ns → n.record ≡ record_at (in_use t) p
  record_read p n e h = ap (λ n. n.record) e ∙ sym (get_or-map (λ n. n.record) ns p n blank h)

  link_read : (p : ℕ) (n : Node) → n ≡ get_or ns p n → p < length ns → rank n.next ≡ get_or (links_of ns) p 0
  link_read p n e h = ap (λ n. rank n.next) e ∙ sym (get_or-map (λ n. rank n.next) ns p n 0 h)

  head_read : (b : ℕ) (l : Link) → l ≡ get_or hs b l → b < vec_len t.heads → rank l ≡ get_or (map rank hs) b 0
  head_read b l e h = ap rank e ∙ sym (get_or-map rank hs b l 0 (omega arith))

  -- without the last place
  pub tied_fewer : (m b : ℕ) (n : Node) (fewer : List Node) → m ≡ vec_len t.nodes → 0 < length (in_use t) → n ≡ get_or ns (m - 1) n → b ≡ chain (mask_of t) n.record → fewer ≡ take (m - 1) ns → Tied (mask_of t) fewer (set hs b n.next)
  tied_fewer m b n fewer len some e own f =
      let all = long in
      let h : m - 1 < length ns = omega arith in
      rw (f, ← take-map, ← take-map, map-set)
      (popped (mask_of t) (in_use t) (map rank hs) (links_of ns) held ranks (m - 1) b (rank n.next) (omega arith) (own ∙ ap (chain (mask_of t)) (record_read (m - 1) n e h)) (link_read (m - 1) n e h))

  -- with one more
  pub tied_more : (p b : ℕ) (n : Node) (l : Link) (more : List Node) → p ≡ vec_len t.nodes → rank l ≡ p + 1 → Absent (in_use t) n.record.input n.record.low n.record.high → b ≡ chain (mask_of t) n.record → b < vec_len t.heads → n.next ≡ get_or hs b n.next → more ≡ ns ++ n ∷ [] → Tied (mask_of t) more (set hs b l)
  tied_more p b n l more len to absent own h e f =
      let all = long in
      let top : length (in_use t) + 1 ≡ rank l = omega arith in
      let k = pushed (mask_of t) (in_use t) (map rank hs) (links_of ns) held ranks n.record b (rank n.next) (length-map ns _ ∙ sym long) absent own (head_read b n.next e h) in
      rw (f, map-append, map-append, map-set) (subst (λ z. Chained (mask_of t) (in_use t ++ n.record ∷ []) (set (map rank hs) b z) (links_of ns ++ rank n.next ∷ [])) top k)

  -- chains go down
  pub lower : (p : ℕ) (n : Node) → p < length (in_use t) → n ≡ get_or ns p n → rank n.next ≤ p
  lower p n l e = omega (arith, held.nexts_low p l, link_read p n e (omega (arith, long)))

  module _ (input low high : ℕ) where
    pub start_sought : (b : ℕ) (l : Link) → b ≡ bucket_of (mask_of t) input low high → b < vec_len t.heads → l ≡ get_or hs b l → Sought (mask_of t) (in_use t) input low high (rank l)
    start_sought b l own h e = started (mask_of t) (in_use t) (map rank hs) (links_of ns) held ranks input low high b (rank l) own (head_read b l e h)

    pub pass_sought : (p : ℕ) (n : Node) → Sought (mask_of t) (in_use t) input low high (p + 1) → n ≡ get_or ns p n → (Keyed n.record input low high → ⊥) → Sought (mask_of t) (in_use t) input low high (rank n.next)
    pass_sought p n s e not =
        let h : p < length ns = omega (arith, s.0, long) in
        let back : p + 1 - 1 ≡ p = omega arith in
        passed (mask_of t) (in_use t) (map rank hs) (links_of ns) held ranks input low high (p + 1) (rank n.next) s (omega arith)
        (link_read p n e h ∙ ap (λ q. get_or (links_of ns) q 0) (sym back))
        (λ k. not (subst (λ s. Keyed s input low high) (ap (record_at (in_use t)) back ∙ sym (record_read p n e h)) k))
