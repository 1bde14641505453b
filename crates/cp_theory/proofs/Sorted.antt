-- The nodes of a skeleton, each once, none before an earlier one of the list.
use Rattle.std.proofs.Common.{◌≡◌, ◌≢◌, ℕ, zero, suc, ◌+◌, List, [], ◌∷◌, ◌++◌, Option, Some, None, refl, sym, ap, ◌∙◌, subst, ◌⊎◌, inl, inr, arith}
use Rattle.cp_lists.specs.Lists.{item_at, IsIn, here, there, Steps, one_step, more_steps}
use Rattle.cp_model.specs.Term.{Term}
use Rattle.cp_model.specs.declared.strand.Event.{Event}
use Rattle.cp_model.specs.Bundle.{node_at}
use Rattle.cp_model.specs.declared.node.Node.{Node}
use Rattle.cp_model.specs.Skeleton.{SkeletonStrand, skeleton_trace, skeleton_trace_or_none, term_event_at, IsNodeOf, Skeleton, OrderStep, along_strand_of, along_pair, Before}
use Rattle.cp_model.specs.declared.node.OrderPair.{OrderPair}
use Rattle.cp_model.proofs.LawStandings.{strand_with_event}
use Rattle.cp_lists.proofs.Members.{in_append, in_append_left, in_append_right, head_or_behind, at_head, not_in_none}
use Rattle.cp_lists.proofs.Reached.{steps_append}
use Rattle.cp_theory.proofs.SameNodes.{same_number_or_not, same_node, same_node_or_not}

-- The newest first: no item has a step to one behind it, and each is there once.
abbrev pub Sorted : (Node → Node → Type 0) → List Node → Type 0
Sorted R [] = Unit {0}
Sorted R (y ∷ ys) = ((z : Node) → IsIn z ys → (R y z → ⊥) × (z ≢ y)) × Sorted R ys

pub record SortedList (R : Node → Node → Type 0) (xs : List Node) : Type 0 where
  pub items : List Node
  pub each : (x : Node) → IsIn x xs → IsIn x items
  pub only : (x : Node) → IsIn x items → IsIn x xs
  pub sorted : Sorted R items

-- The relation with the steps that go through a node.
abbrev Widened : (Node → Node → Type 0) → Node → Node → Node → Type 0
Widened R x a b = R a b ⊎ (R a x × R x b)

abbrev OrNot : Type 0 → Type 0
OrNot A = A ⊎ (A → ⊥)

both_or_not : {A B : Type 0} → OrNot A → OrNot B → OrNot (A × B)
both_or_not (inl a) (inl b) = inl (a, b)
both_or_not (inr a) b = inr (λ p. a p.0)
both_or_not (inl a) (inr b) = inr (λ p. b p.1)

either_or_not : {A B : Type 0} → OrNot A → OrNot B → OrNot (A ⊎ B)
either_or_not (inl a) b = inl (inl a)
either_or_not (inr a) (inl b) = inl (inr b)
either_or_not {A} {B} (inr a) (inr b) = inr none
  where
    none : A ⊎ B → ⊥
    none (inl x) = a x
    none (inr y) = b y

narrow_step : (R : Node → Node → Type 0) (x : Node) {a b : Node} → Widened R x a b → Steps R a b
narrow_step R x (inl r) = one_step r
narrow_step R x (inr r) = more_steps r.0 (one_step r.1)

narrow : (R : Node → Node → Type 0) (x : Node) {a b : Node} → Steps (Widened R x) a b → Steps R a b
narrow R x (one_step s) = narrow_step R x s
narrow R x (more_steps s p) = steps_append (narrow_step R x s) (narrow R x p)

weaker : (R : Node → Node → Type 0) (x : Node) (ys : List Node) → Sorted (Widened R x) ys → Sorted R ys
weaker R x [] s = tt
weaker R x (y ∷ ys) s = (λ z h. (λ r. (s.0 z h).0 (inl r), (s.0 z h).1), weaker R x ys s.1)

is_in_or_not : (x : Node) (ys : List Node) → OrNot (IsIn x ys)
is_in_or_not x [] = inr (λ h. elim h [ ])
is_in_or_not x (y ∷ ys) = of (same_node_or_not x y) (is_in_or_not x ys)
  where
    neither : (x ≡ y → ⊥) → (IsIn x ys → ⊥) → (x ≡ y) ⊎ IsIn x ys → ⊥
    neither n m (inl e) = n e
    neither n m (inr h) = m h

    of : OrNot (x ≡ y) → OrNot (IsIn x ys) → OrNot (IsIn x (y ∷ ys))
    of (inl e) h = inl (at_head e)
    of (inr n) (inl h) = inl (there h)
    of (inr n) (inr m) = inr (λ h. neither n m (head_or_behind h))

-- A node is put in front of the first that has a step to it.
module _ (R : Node → Node → Type 0) (dec : (a b : Node) → OrNot (R a b)) (acyclic : (n : Node) → Steps R n n → ⊥) (x : Node) where
  record Inserted (ys : List Node) : Type 0 where
    items : List Node
    each : (z : Node) → (z ≡ x) ⊎ IsIn z ys → IsIn z items
    only : (z : Node) → IsIn z items → (z ≡ x) ⊎ IsIn z ys
    sorted : Sorted R items

  insert : (ys : List Node) → (IsIn x ys → ⊥) → Sorted (Widened R x) ys → Inserted ys
  insert [] new s = record {
    items = x ∷ [];
    each = λ z h. first z h;
    only = λ z h. head_or_behind h;
    sorted = (λ z h. elim h [ ], tt);
  }
    where
      first : (z : Node) → (z ≡ x) ⊎ IsIn z [] → IsIn z (x ∷ [])
      first z (inl e) = at_head e
      first z (inr h) = elim h [ ]
  insert (y ∷ ys) new s = of (dec y x) (insert ys (λ h. new (there h)) s.1)
    where
      front : (z : Node) → (z ≡ x) ⊎ IsIn z (y ∷ ys) → IsIn z (x ∷ y ∷ ys)
      front z (inl e) = at_head e
      front z (inr h) = there h

      no_step : R y x → (z : Node) → (z ≡ y) ⊎ IsIn z ys → R x z → ⊥
      no_step r z (inl e) q = acyclic y (more_steps r (one_step (subst (R x) e q)))
      no_step r z (inr h) q = (s.0 z h).0 (inr (r, q))

      behind : (i : Inserted ys) (z : Node) → (z ≡ x) ⊎ IsIn z (y ∷ ys) → IsIn z (y ∷ i.items)
      behind i z (inl e) = there (i.each z (inl e))
      behind i z (inr h) = older (head_or_behind h)
        where
          older : (z ≡ y) ⊎ IsIn z ys → IsIn z (y ∷ i.items)
          older (inl e) = at_head e
          older (inr h') = there (i.each z (inr h'))

      back : (i : Inserted ys) (z : Node) → (z ≡ y) ⊎ IsIn z i.items → (z ≡ x) ⊎ IsIn z (y ∷ ys)
      back i z (inl e) = inr (at_head e)
      back i z (inr h) = later (i.only z h)
        where
          later : (z ≡ x) ⊎ IsIn z ys → (z ≡ x) ⊎ IsIn z (y ∷ ys)
          later (inl e) = inl e
          later (inr h') = inr (there h')

      apart : (R y x → ⊥) → (z : Node) → (z ≡ x) ⊎ IsIn z ys → (R y z → ⊥) × (z ≢ y)
      apart n z (inl e) = (λ r. n (subst (R y) e r), λ q. new (at_head (sym e ∙ q)))
      apart n z (inr h) = (λ r. (s.0 z h).0 (inl r), (s.0 z h).1)

      of : OrNot (R y x) → Inserted ys → Inserted (y ∷ ys)
      of (inl r) i = record {
        items = x ∷ y ∷ ys;
        each = front;
        only = λ z h. head_or_behind h;
        sorted = (λ z h. (no_step r z (head_or_behind h), λ q. new (subst (λ w. IsIn w (y ∷ ys)) q h)), weaker R x (y ∷ ys) s);
      }
      of (inr n) i = record {
        items = y ∷ i.items;
        each = behind i;
        only = λ z h. back i z (head_or_behind h);
        sorted = (λ z h. apart n z (i.only z h), i.sorted);
      }

pub sort : (xs : List Node) (R : Node → Node → Type 0) → ((a b : Node) → OrNot (R a b)) → ((n : Node) → Steps R n n → ⊥) → SortedList R xs
sort [] R dec acyclic = record { items = []; each = λ x h. h; only = λ x h. h; sorted = tt }
sort (x ∷ xs) R dec acyclic =
    of (is_in_or_not x xs) (sort xs R dec acyclic)
    (sort xs (Widened R x) (λ a b. either_or_not (dec a b) (both_or_not (dec a x) (dec x b))) (λ n p. acyclic n (narrow R x p)))
  where
    of : OrNot (IsIn x xs) → SortedList R xs → SortedList (Widened R x) xs → SortedList R (x ∷ xs)
    of (inl h) plain wide = record {
      items = plain.items;
      each = λ z i. again z (head_or_behind i);
      only = λ z i. there (plain.only z i);
      sorted = plain.sorted;
    }
      where
        again : (z : Node) → (z ≡ x) ⊎ IsIn z xs → IsIn z plain.items
        again z (inl e) = subst (λ w. IsIn w plain.items) (sym e) (plain.each x h)
        again z (inr i) = plain.each z i
    of (inr n) plain wide = record {
      items = placed.items;
      each = λ z i. placed.each z (known z (head_or_behind i));
      only = λ z i. back z (placed.only z i);
      sorted = placed.sorted;
    }
      where
        placed : Inserted R dec acyclic x wide.items
        placed = insert R dec acyclic x wide.items (λ h. n (wide.only x h)) wide.sorted

        known : (z : Node) → (z ≡ x) ⊎ IsIn z xs → (z ≡ x) ⊎ IsIn z wide.items
        known z (inl e) = inl e
        known z (inr i) = inr (wide.each z i)

        back : (z : Node) → (z ≡ x) ⊎ IsIn z wide.items → IsIn z (x ∷ xs)
        back z (inl e) = at_head e
        back z (inr i) = there (wide.only z i)

-- The nodes of a strand from place i on, and of the strands from number s on.
nodes_on : ℕ → ℕ → List (Event Term) → List Node
nodes_on s i [] = []
nodes_on s i (e ∷ es) = node_at s i ∷ nodes_on s (suc i) es

nodes_of : ℕ → List SkeletonStrand → List Node
nodes_of s [] = []
nodes_of s (x ∷ xs) = nodes_on s 0 (skeleton_trace x) ++ nodes_of (suc s) xs

node_on : (s i : ℕ) (es : List (Event Term)) (j : ℕ) {e : Event Term} → item_at es j ≡ Some e → IsIn (node_at s (i + j)) (nodes_on s i es)
unfolding nodes_on
node_on s i [] j h = absurd (cc)
node_on s i (x ∷ es) zero h = let q : i + zero ≡ i = omega arith in at_head (ap (node_at s) q)
node_on s i (x ∷ es) (suc j) h =
    let q : suc i + j ≡ i + suc j = omega arith in
    subst (λ m. IsIn (node_at s m) (node_at s i ∷ nodes_on s (suc i) es)) q (there (node_on s (suc i) es j h))

on_node : (s i : ℕ) (es : List (Event Term)) {n : Node} → IsIn n (nodes_on s i es) → (j : ℕ) × (n ≡ node_at s (i + j)) × (e : Event Term) × (item_at es j ≡ Some e)
unfolding nodes_on
on_node s i [] h = elim h [ ]
on_node s i (x ∷ es) {n} h = of (head_or_behind h) (λ h'. on_node s (suc i) es h')
  where
    of : (n ≡ node_at s i) ⊎ IsIn n (nodes_on s (suc i) es) →
        (IsIn n (nodes_on s (suc i) es) → (j : ℕ) × (n ≡ node_at s (suc i + j)) × (e : Event Term) × (item_at es j ≡ Some e)) →
        (j : ℕ) × (n ≡ node_at s (i + j)) × (e : Event Term) × (item_at (x ∷ es) j ≡ Some e)
    of (inl e) f = let q : i ≡ i + zero = omega arith in (zero, e ∙ ap (node_at s) q, x, refl)
    of (inr h') f =
        let r = f h' in
        let q : suc i + r.0 ≡ i + suc r.0 = omega arith in
        (suc r.0, r.1 ∙ ap (node_at s) q, r.2, r.3)

node_of : (s : ℕ) (xs : List SkeletonStrand) (a j : ℕ) {x : SkeletonStrand} {e : Event Term} → item_at xs a ≡ Some x → item_at (skeleton_trace x) j ≡ Some e → IsIn (node_at (s + a) j) (nodes_of s xs)
unfolding nodes_of
node_of s [] a j h g = absurd (cc)
node_of s (y ∷ xs) zero j {x} {e} h g =
    let p : x ≡ y = cc in
    let q : s ≡ s + zero = omega arith in
    let r : j ≡ zero + j = omega arith in
    in_append_left (nodes_of (suc s) xs)
    (subst (λ m. IsIn (node_at m j) (nodes_on s 0 (skeleton_trace y))) q
    (subst (λ m. IsIn (node_at s m) (nodes_on s 0 (skeleton_trace y))) (sym r) (node_on s 0 (skeleton_trace y) j (subst (λ z. item_at (skeleton_trace z) j ≡ Some e) p g))))
node_of s (y ∷ xs) (suc a) j h g =
    let q : suc s + a ≡ s + suc a = omega arith in
    subst (λ m. IsIn (node_at m j) (nodes_on s 0 (skeleton_trace y) ++ nodes_of (suc s) xs)) q
    (in_append_right (nodes_on s 0 (skeleton_trace y)) (node_of (suc s) xs a j h g))

abbrev IsThere : ℕ → List SkeletonStrand → Node → Type 0
IsThere s xs n = (a j : ℕ) × (x : SkeletonStrand) × (e : Event Term) × (n ≡ node_at (s + a) j) × (item_at xs a ≡ Some x) × (item_at (skeleton_trace x) j ≡ Some e)

of_node : (s : ℕ) (xs : List SkeletonStrand) {n : Node} → IsIn n (nodes_of s xs) → IsThere s xs n
unfolding nodes_of
of_node s [] h = elim h [ ]
of_node s (y ∷ xs) {n} h = of (in_append (nodes_on s 0 (skeleton_trace y)) (nodes_of (suc s) xs) h) (λ h'. of_node (suc s) xs h')
  where
    of : IsIn n (nodes_on s 0 (skeleton_trace y)) ⊎ IsIn n (nodes_of (suc s) xs) → (IsIn n (nodes_of (suc s) xs) → IsThere (suc s) xs n) → IsThere s (y ∷ xs) n
    of (inl h') f =
        let r = on_node s 0 (skeleton_trace y) h' in
        let p : s ≡ s + zero = omega arith in
        let q : zero + r.0 ≡ r.0 = omega arith in
        (zero, r.0, y, r.2, r.1 ∙ (λ i. node_at (p i) (q i)), refl, r.3)
    of (inr h') f =
        let r = f h' in
        let q : suc s + r.0 ≡ s + suc r.0 = omega arith in
        (suc r.0, r.1, r.2, r.3, r.4 ∙ ap (λ m. node_at m r.1) q, r.5, r.6)

-- A step of the order can be decided.
abbrev pub IsUp : Skeleton → Node → Node → Type 0
IsUp k a b = ((a.strand ≡ b.strand) × (b.index ≡ suc a.index)) × IsNodeOf k.strands b

abbrev pub IsPair : List OrderPair → Node → Node → Type 0
IsPair ps a b = (p : OrderPair) × IsIn p ps × (p.earlier ≡ a) × (p.later ≡ b)

up_step : (k : Skeleton) (a b : Node) → IsUp k a b → OrderStep k a b
up_step k a b u =
    let q : b ≡ node_at a.strand (suc a.index) = same_node (sym u.0.0) u.0.1 in
    subst (OrderStep k a) (sym q) (along_strand_of (subst (λ n. term_event_at k.strands n ≡ Some u.1.0) q u.1.1))

pair_step : (k : Skeleton) (a b : Node) → IsPair k.pairs a b → OrderStep k a b
pair_step k a b r = subst (λ n. OrderStep k n b) r.2 (subst (OrderStep k r.0.earlier) r.3 (along_pair r.1))

pub step_cases : (k : Skeleton) {a b : Node} → OrderStep k a b → IsUp k a b ⊎ IsPair k.pairs a b
step_cases k (along_strand_of {e = e} h) = inl ((refl, refl), (e, h))
step_cases k (along_pair {p = p} h) = inr (p, h, refl, refl)

node_or_not : (o : Option (Event Term)) → OrNot ((e : Event Term) × (o ≡ Some e))
node_or_not None = inr (λ r. let q : None ≡ Some r.0 = r.1 in absurd (cc))
node_or_not (Some e) = inl (e, refl)

pair_or_not : (ps : List OrderPair) (a b : Node) → OrNot (IsPair ps a b)
pair_or_not [] a b = inr (λ r. not_in_none r.1)
pair_or_not (p ∷ ps) a b = of (both_or_not (same_node_or_not p.earlier a) (same_node_or_not p.later b)) (pair_or_not ps a b)
  where
    neither : ((p.earlier ≡ a) × (p.later ≡ b) → ⊥) → (IsPair ps a b → ⊥) → (q : OrderPair) → (q ≡ p) ⊎ IsIn q ps → q.earlier ≡ a → q.later ≡ b → ⊥
    neither n m q (inl e) x y = n (subst (λ (z : OrderPair). (z.earlier ≡ a) × (z.later ≡ b)) e (x, y))
    neither n m q (inr h) x y = m (q, h, x, y)

    of : OrNot ((p.earlier ≡ a) × (p.later ≡ b)) → OrNot (IsPair ps a b) → OrNot (IsPair (p ∷ ps) a b)
    of (inl e) r = inl (p, here, e.0, e.1)
    of (inr n) (inl r) = inl (r.0, there r.1, r.2, r.3)
    of (inr n) (inr m) = inr (λ r. neither n m r.0 (head_or_behind r.1) r.2 r.3)

step_or_not : (k : Skeleton) (a b : Node) → OrNot (OrderStep k a b)
step_or_not k a b =
    of (either_or_not (both_or_not (both_or_not (same_number_or_not a.strand b.strand) (same_number_or_not b.index (suc a.index))) (node_or_not (term_event_at k.strands b))) (pair_or_not k.pairs a b))
  where
    step : IsUp k a b ⊎ IsPair k.pairs a b → OrderStep k a b
    step (inl u) = up_step k a b u
    step (inr r) = pair_step k a b r

    of : OrNot (IsUp k a b ⊎ IsPair k.pairs a b) → OrNot (OrderStep k a b)
    of (inl h) = inl (step h)
    of (inr n) = inr (λ s. n (step_cases k s))

-- The nodes of a skeleton without cycles in order.
pub record NodesInOrder (k : Skeleton) : Type 0 where
  pub items : List Node
  pub each : (n : Node) → IsNodeOf k.strands n → IsIn n items
  pub only : (n : Node) → IsIn n items → IsNodeOf k.strands n
  pub sorted : Sorted (OrderStep k) items

pub nodes_in_order : (k : Skeleton) → ((n : Node) → Before k n n → ⊥) → NodesInOrder k
nodes_in_order k acyclic =
    let s = sort (nodes_of 0 k.strands) (OrderStep k) (step_or_not k) acyclic in
    record {
      items = s.items;
      each = λ n h.
          let r = strand_with_event (item_at k.strands n.strand) n.index h.0 h.1 in
          let q : zero + n.strand ≡ n.strand = omega arith in
          s.each n (subst (λ m. IsIn (node_at m n.index) (nodes_of 0 k.strands)) q (node_of 0 k.strands n.strand n.index r.1 r.2));
      only = λ n h.
          let r = of_node 0 k.strands (s.only n h) in
          let q : zero + r.0 ≡ r.0 = omega arith in
          let e : n ≡ node_at r.0 r.1 = r.4 ∙ ap (λ m. node_at m r.1) q in
          (r.3, subst (λ (x : Node). term_event_at k.strands x ≡ Some r.3) (sym e) (subst (λ o. item_at (skeleton_trace_or_none o) r.1 ≡ Some r.3) (sym r.5) r.6));
      sorted = s.sorted;
    }
