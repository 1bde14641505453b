-- The heaviest chain to a node is one, and none is heavier. Where a skeleton embeds, the sum of the weights is no less.
use Rattle.std.proofs.Common.{◌≡◌, ◌⊎◌, inl, inr, ℕ, zero, suc, ◌+◌, ◌-◌, ◌<◌, ◌≤◌, ◌^◌, Bool, true, false, if◌then◌else◌, List, [], ◌∷◌, map, refl, ap, ◌∙◌, subst, arith}
use Rattle.std.specs.Prelude.{Option, Some, None, min, max}
use Rattle.std.proofs.lemmas.Bool.{cases_lt}
use Rattle.cp_lists.specs.Lists.{item_at, IsIn, here, there, one_step, more_steps}
use Rattle.cp_lists.proofs.Items.{map_of_item}
use Rattle.cp_lists.proofs.Reached.{steps_append}
use Rattle.cp_model.specs.Term.{Term}
use Rattle.cp_model.specs.Bundle.{node_at}
use Rattle.cp_model.specs.Homomorphism.{SkeletonMap, mapped, IsHomomorphism, IsEmbedding, Embeds}
use Rattle.cp_model.specs.Same.{same_node}
use Rattle.cp_model.specs.Skeleton.{SkeletonStrand, instance, listener, term_event_at, Skeleton, OrderStep, along_strand_of, along_pair, Before}
use Rattle.cp_model.specs.declared.node.Node.{Node}
use Rattle.cp_model.specs.declared.node.OrderPair.{OrderPair}
use Rattle.cp_model.specs.declared.strand.Event.{Event}
use Rattle.cp_model.proofs.SameTests.{node_is, is_node}
use Rattle.cp_fingerprint.specs.Chains.{Chain, no_nodes, one_more, IsHeaviest, greatest, one_behind, along_strand, along_pairs, heaviest_within, heaviest, chains_on, chains_to, chains_from, chains_of}
use Rattle.cp_fingerprint.specs.Isomorphic.{IsIsomorphic}
use Rattle.cp_fingerprint.proofs.SharedMore.{IsRoleStrand}
use Rattle.cp_fingerprint.proofs.StrandSums.{sum_of, total, total_map, GoesToMore, GoApart, no_more_in_all}

pub greatest_is : greatest ≡ 2 ^ 64 - 1
unfolding greatest
greatest_is = refl

-- ---- a chain of that weight leads to the node

module _ (k : Skeleton) where
  chain_max : (y : Node) (m n : ℕ) → Chain k y m → Chain k y n → Chain k y (max m n)
  chain_max y m n c d = by (cases_lt m n)
    where
      by : (m < n) ⊎ (n ≤ m) → Chain k y (max m n)
      by (inl l) = let e : n ≡ max m n = omega (arith, l) in subst (Chain k y) e d
      by (inr l) = let e : m ≡ max m n = omega (arith, l) in subst (Chain k y) e c

  leads_behind : (s i n : ℕ) (o : Option (Event Term)) → term_event_at k.strands (node_at s (suc i)) ≡ o → Chain k (node_at s i) n → Chain k (node_at s (suc i)) (one_behind o n)
  leads_behind s i n None at c = no_nodes
  leads_behind s i n (Some e) at c = one_more c (one_step (along_strand_of at))

  module _ (weight : Node → ℕ) (lead : (y : Node) → Chain k y (weight y)) where
    leads_along_strand : (s i : ℕ) → Chain k (node_at s i) (along_strand k weight s i)
    leads_along_strand s zero = no_nodes
    leads_along_strand s (suc i) = leads_behind s i (weight (node_at s i)) (term_event_at k.strands (node_at s (suc i))) refl (lead (node_at s i))

    leads_along_pair : (y : Node) (p : OrderPair) → IsIn p k.pairs → (b : Bool) → same_node p.later y ≡ b → Chain k y (if b then suc (weight p.earlier) else 0)
    leads_along_pair y p i true e = subst (λ (z : Node). Chain k z (suc (weight p.earlier))) (node_is p.later y e) (one_more (lead p.earlier) (one_step (along_pair i)))
    leads_along_pair y p i false e = no_nodes

    leads_along_pairs : (y : Node) (ps : List OrderPair) → ((p : OrderPair) → IsIn p ps → IsIn p k.pairs) → Chain k y (along_pairs weight y ps)
    leads_along_pairs y [] among = no_nodes
    leads_along_pairs y (p ∷ ps) among =
        chain_max y (if same_node p.later y then suc (weight p.earlier) else 0) (along_pairs weight y ps) (leads_along_pair y p (among p here) (same_node p.later y) refl) (leads_along_pairs y ps (λ q i. among q (there i)))

  heaviest_leads : (m : ℕ) (y : Node) → Chain k y (heaviest_within k m y)
  heaviest_leads zero y = no_nodes
  heaviest_leads (suc m) y =
      let weight : Node → ℕ = λ x. heaviest_within k m x in
      chain_max y (along_strand k weight y.strand y.index) (along_pairs weight y k.pairs) (leads_along_strand weight (heaviest_leads m) y.strand y.index) (leads_along_pairs weight (heaviest_leads m) y k.pairs (λ p i. i))

  -- ---- no chain is heavier

  further : (x y : Node) (n : ℕ) → Chain k x n → Before k x y → Chain k y n
  further x y n no_nodes b = no_nodes
  further x y n (one_more c a) b = one_more c (steps_append a b)

  -- A way ends in a step from where it comes from, or from what that is before.
  record LastStep (x y : Node) : Type 0 where
    at : Node
    before : (x ≡ at) ⊎ Before k x at
    step : OrderStep k at y

  first_of_all : (x y z : Node) → OrderStep k x y → (y ≡ z) ⊎ Before k y z → Before k x z
  first_of_all x y z s (inl e) = subst (Before k x) e (one_step s)
  first_of_all x y z s (inr b) = more_steps s b

  last_step : (x y : Node) → Before k x y → LastStep x y
  last_step x y (one_step s) = record { at = x; before = inl refl; step = s }
  last_step x y (more_steps {y = z} s b) = let l = last_step z y b in record { at = l.at; before = inr (first_of_all x z l.at s l.before); step = l.step }

  still_leads : (x y : Node) (n : ℕ) → (x ≡ y) ⊎ Before k x y → Chain k x n → Chain k y n
  still_leads x y n (inl e) c = subst (λ (z : Node). Chain k z n) e c
  still_leads x y n (inr b) c = further x y n c b

  pair_counts : (weight : Node → ℕ) (p : OrderPair) (ps : List OrderPair) → IsIn p ps → suc (weight p.earlier) ≤ along_pairs weight p.later ps
  pair_counts weight p [] i = elim i [ ]
  pair_counts weight p (q ∷ ps) here =
      let e : (if same_node p.later p.later then suc (weight p.earlier) else 0) ≡ suc (weight p.earlier) = ap (λ (b : Bool). if b then suc (weight p.earlier) else 0) (is_node p.later p.later refl) in
      omega (arith, e)
  pair_counts weight p (q ∷ ps) (there i) = let h = pair_counts weight p ps i in omega (arith, h)

  pub step_counts : (m : ℕ) (x y : Node) → OrderStep k x y → suc (heaviest_within k m x) ≤ heaviest_within k (suc m) y
  step_counts m x y (along_strand_of {s = s} {i = i} at) =
      let e : one_behind (term_event_at k.strands (node_at s (suc i))) (heaviest_within k m (node_at s i)) ≡ suc (heaviest_within k m (node_at s i)) = ap (λ o. one_behind o (heaviest_within k m (node_at s i))) at in
      omega (arith, e)
  step_counts m x y (along_pair {p = p} i) = let h = pair_counts (λ z. heaviest_within k m z) p k.pairs i in omega (arith, h)

  pub none_heavier : (m n : ℕ) (y : Node) → n ≤ m → Chain k y n → n ≤ heaviest_within k m y
  none_heavier zero n y le c = omega (arith, le)
  none_heavier (suc m) n y le no_nodes = omega arith
  none_heavier (suc m) n y le (one_more {x = x} {n = o} c b) =
      let l = last_step x y b in
      let h : o ≤ heaviest_within k m l.at = none_heavier m o l.at (omega (arith, le)) (still_leads x l.at o l.before c) in
      let s : suc (heaviest_within k m l.at) ≤ heaviest_within k (suc m) y = step_counts m l.at y l.step in
      omega (arith, h, s)

  -- ---- its weight is within the bound

  behind_within : (o : Option (Event Term)) (m n : ℕ) → n ≤ m → one_behind o n ≤ suc m
  behind_within None m n le = omega arith
  behind_within (Some e) m n le = omega (arith, le)

  module _ (weight : Node → ℕ) (m : ℕ) (le : (y : Node) → weight y ≤ m) where
    strand_within : (s i : ℕ) → along_strand k weight s i ≤ suc m
    strand_within s zero = omega arith
    strand_within s (suc i) = behind_within (term_event_at k.strands (node_at s (suc i))) m (weight (node_at s i)) (le (node_at s i))

    pair_within : (n : ℕ) (b : Bool) → n ≤ m → (if b then suc n else 0) ≤ suc m
    pair_within n true l = omega (arith, l)
    pair_within n false l = omega arith

    pairs_within : (y : Node) (ps : List OrderPair) → along_pairs weight y ps ≤ suc m
    pairs_within y [] = omega arith
    pairs_within y (p ∷ ps) =
        let one = pair_within (weight p.earlier) (same_node p.later y) (le p.earlier) in
        let rest = pairs_within y ps in
        omega (arith, one, rest)

  pub heaviest_bounded : (m : ℕ) (y : Node) → heaviest_within k m y ≤ m
  heaviest_bounded zero y = omega arith
  heaviest_bounded (suc m) y =
      let one = strand_within (λ x. heaviest_within k m x) m (heaviest_bounded m) y.strand y.index in
      let other = pairs_within (λ x. heaviest_within k m x) m (heaviest_bounded m) y k.pairs in
      omega (arith, one, other)

pub is_heaviest : (k : Skeleton) (y : Node) → IsHeaviest k y (heaviest k y)
is_heaviest k y = record {
  leads = heaviest_leads k greatest y;
  none_heavier = λ n small c. none_heavier k greatest n y (let e = greatest_is in omega (arith, small, e)) c;
}

-- Along a step the weight is more, unless it is the greatest already.
pub step_rises : (k : Skeleton) (x y : Node) → OrderStep k x y → min (heaviest k x + 1) (2 ^ 64 - 1) ≤ heaviest k y
step_rises k x y s = by (cases_lt (heaviest k x) greatest)
  where
    by : (heaviest k x < greatest) ⊎ (greatest ≤ heaviest k x) → min (heaviest k x + 1) (2 ^ 64 - 1) ≤ heaviest k y
    by (inl l) =
        let h : suc (heaviest k x) ≤ heaviest k y = none_heavier k greatest (suc (heaviest k x)) y l (one_more (heaviest_leads k greatest x) (one_step s)) in
        omega (arith, h)
    by (inr l) =
        let h : heaviest k x ≤ heaviest k y = none_heavier k greatest (heaviest k x) y (heaviest_bounded k greatest x) (further k x y (heaviest k x) (heaviest_leads k greatest x) (one_step s)) in
        let e = greatest_is in
        omega (arith, l, h, e)

-- ---- embeddings

chain_there : (a b : Skeleton) (f : SkeletonMap) → IsHomomorphism a b f → (y : Node) (n : ℕ) → Chain a y n → Chain b (mapped f y) n
chain_there a b f h y n no_nodes = no_nodes
chain_there a b f h y n (one_more {x = x} {n = m} c before) = one_more (chain_there a b f h x m c) (h.ordered x y before)

pub heaviest_more : (a b : Skeleton) (f : SkeletonMap) → IsHomomorphism a b f → (y : Node) → heaviest a y ≤ heaviest b (mapped f y)
heaviest_more a b f h y = none_heavier b greatest (heaviest a y) (mapped f y) (heaviest_bounded a greatest y) (chain_there a b f h y (heaviest a y) (heaviest_leads a greatest y))

more_places : (k : Skeleton) (s m n d : ℕ) → n ≡ m + d → chains_on k s m ≤ chains_on k s n
more_places k s m n zero e = let r : chains_on k s n ≡ chains_on k s m = ap (chains_on k s) (let q : n ≡ m = omega (arith, e) in q) in omega (arith, r)
more_places k s m zero (suc d) e = absurd (omega (arith, e))
more_places k s m (suc n) (suc d) e = let h = more_places k s m n d (omega (arith, e)) in omega (arith, h)

-- Each strand with its number.
abbrev numbered : ℕ → List SkeletonStrand → List (ℕ × SkeletonStrand)
numbered s [] = []
numbered s (x ∷ xs) = (s, x) ∷ numbered (suc s) xs

of_numbered : (s : ℕ) (xs : List SkeletonStrand) (i : ℕ) (p : ℕ × SkeletonStrand) → item_at (numbered s xs) i ≡ Some p → (p.0 ≡ s + i) × (item_at xs i ≡ Some p.1)
of_numbered s [] i p e = absurd (cc)
of_numbered s (x ∷ xs) zero p e =
    let q : (s, x) ≡ p = cc in
    let n : s ≡ p.0 = ap (λ (r : ℕ × SkeletonStrand). r.0) q in
    (omega (arith, n), ap (λ (r : ℕ × SkeletonStrand). Some r.1) q)
of_numbered s (x ∷ xs) (suc i) p e = let h = of_numbered (suc s) xs i p e in let n : p.0 ≡ suc s + i = h.0 in (omega (arith, n), h.1)

to_numbered : (s : ℕ) (xs : List SkeletonStrand) (i n : ℕ) (x : SkeletonStrand) → n ≡ s + i → item_at xs i ≡ Some x → item_at (numbered s xs) i ≡ Some (n, x)
to_numbered s [] i n x e at = absurd (cc)
to_numbered s (y ∷ ys) zero n x e at =
    let same : y ≡ x = cc in
    let m : s ≡ n = omega (arith, e) in
    ap (λ (r : ℕ × SkeletonStrand). Some r) (λ j. (m j, same j))
to_numbered s (y ∷ ys) (suc i) n x e at = to_numbered (suc s) ys i n x (omega (arith, e)) at

module _ (k : Skeleton) where
  abbrev weigh : ℕ × SkeletonStrand → ℕ
  weigh p = chains_to k p.0 p.1

  sum_numbered : (s : ℕ) (xs : List SkeletonStrand) → sum_of weigh (numbered s xs) ≡ chains_from k s xs
  sum_numbered s [] = refl
  sum_numbered s (x ∷ xs) = ap (λ (n : ℕ). chains_to k s x + n) (sum_numbered (suc s) xs)

module _ (a b : Skeleton) (f : SkeletonMap) (emb : IsEmbedding a b f) where
  more_on : (s n : ℕ) → chains_on a s n ≤ chains_on b (f.strands s) n
  more_on s zero = omega arith
  more_on s (suc n) =
      let rest = more_on s n in
      let last = heaviest_more a b f emb.homomorphism (node_at s n) in
      omega (arith, rest, last)

  abbrev others : List ℕ
  others = map (weigh b) (numbered 0 b.strands)

  abbrev counts : ℕ × SkeletonStrand → Type 0
  counts p = IsRoleStrand p.1

  goes_to_more : (i s : ℕ) (x : SkeletonStrand) → s ≡ i → item_at a.strands i ≡ Some x → GoesToMore (weigh a) counts others (f.strands i) (s, x)
  goes_to_more i s (listener t) e at = inl refl
  goes_to_more i s (instance role height terms) e at =
      let g = emb.homomorphism.instances i role height terms at in
      let longer : chains_on b (f.strands i) height ≤ chains_on b (f.strands i) g.to_height =
      more_places b (f.strands i) height g.to_height (g.to_height - height) (let l = g.at_least in omega (arith, l)) in
      let here_more : chains_on a i height ≤ chains_on b (f.strands i) height = more_on i height in
      let same : chains_on a s height ≡ chains_on a i height = ap (λ (m : ℕ). chains_on a m height) e in
      inr (
        (role, (height, (terms, refl))),
        (
          chains_on b (f.strands i) g.to_height,
          map_of_item (weigh b) (numbered 0 b.strands) (f.strands i) (f.strands i, instance role g.to_height g.to_terms)
              (to_numbered 0 b.strands (f.strands i) (f.strands i) (instance role g.to_height g.to_terms) (omega arith) g.on_instance),
          omega (arith, longer, here_more, same),
        ),
      )

  strand_more : (i : ℕ) (p : ℕ × SkeletonStrand) → item_at (numbered 0 a.strands) i ≡ Some p → GoesToMore (weigh a) counts others (f.strands i) p
  strand_more i p e =
      let h = of_numbered 0 a.strands i p e in
      let n : p.0 ≡ 0 + i = h.0 in
      goes_to_more i p.0 p.1 (omega (arith, n)) h.1

  apart : GoApart counts (numbered 0 a.strands) f.strands
  apart i j x y at au p q e =
      emb.injective i j p.0 p.1.0 p.1.1.0 q.0 q.1.0 q.1.1.0 ((of_numbered 0 a.strands i x at).1 ∙ ap (λ (st : SkeletonStrand). Some st) p.1.1.1)
      ((of_numbered 0 a.strands j y au).1 ∙ ap (λ (st : SkeletonStrand). Some st) q.1.1.1) e

  chains_more : chains_from a 0 a.strands ≤ chains_from b 0 b.strands
  chains_more =
      let l : sum_of (weigh a) (numbered 0 a.strands) ≤ total others = no_more_in_all (weigh a) counts (numbered 0 a.strands) f.strands others strand_more apart in
      let one = sum_numbered a 0 a.strands in
      let other : total others ≡ chains_from b 0 b.strands = total_map (weigh b) (numbered 0 b.strands) ∙ sum_numbered b 0 b.strands in
      omega (arith, l, one, other)

kept_no_more : (m p q : ℕ) → p ≤ q → min p m ≤ min q m
kept_no_more m p q le = omega (arith, le)

pub chains_kept : (a b : Skeleton) → Embeds a b → chains_of a ≤ chains_of b
chains_kept a b h = kept_no_more (2 ^ 64 - 1) (chains_from a 0 a.strands) (chains_from b 0 b.strands) (chains_more a b h.0 h.1)

pub chains_same : (a b : Skeleton) → IsIsomorphic a b → chains_of a ≡ chains_of b
chains_same a b h = let one = chains_kept a b h.0 in let other = chains_kept b a h.1 in omega (arith, one, other)
