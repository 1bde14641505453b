-- One strand more, alone or in a block, as the program tries it.
use Rattle.std.proofs.Common.{◌≡◌, inl, inr, ℕ, suc, ◌<◌, ◌≤◌, ◌+◌, List, [], ◌∷◌, ◌++◌, Some, length, sym, ap, ◌∙◌, subst, arith}
use native.Mathlib.Decide.{ℕ_discrete}
use Rattle.cp_lists.specs.Lists.{item_at}
use Rattle.cp_model.specs.Term.{Assignment}
use Rattle.cp_model.specs.Bindings.{bindings_of}
use Rattle.cp_model.specs.Strand.{Role}
use Rattle.cp_model.specs.Skeleton.{SkeletonStrand, instance, Skeleton}
use Rattle.cp_lists.proofs.Items.{item_below}
use Rattle.cp_unify.specs.Bindings.{Binding, Meets}
use Rattle.cp_model.specs.Extensions.{IsClosedPrefix}
use Rattle.cp_model.specs.Declares.{HasDeclaredPrefixes}
use Rattle.cp_strand.specs.View.{instance_view, InstanceData}
use Rattle.cp_collapse.specs.FirstPartitions.{IsPartitionOfFirst, IsExactFor, EqualAt, EqualsBlock}
use Rattle.cp_collapse.specs.Partials.{AlsoEqual, IsOfNoAssignment, MayNotJoin}
use Rattle.cp_collapse.specs.Partitions.{AreOfOneRole, IdentifiesValues}
use Rattle.cp_collapse.specs.Collapses.{IsNeverIdentified}
use Rattle.cp_collapse.proofs.Exact.{exact_same}
use Rattle.cp_collapse.proofs.ExactBlocks.{exact_block_passes, exact_block_last}
use Rattle.cp_collapse.proofs.OneStrandMore.{equal_at_instances, block_takes, block_before, block_has, never_joined}

-- ---- instances of one role

pub alike_back : (ss : List SkeletonStrand) (s t : ℕ) → AreOfOneRole ss s t → AreOfOneRole ss t s
alike_back ss s t a = record { role = a.role; height = a.height'; terms = a.terms'; first = a.second; height' = a.height; terms' = a.terms; second = a.first }

pub alike_then : (ss : List SkeletonStrand) (s t u : ℕ) → AreOfOneRole ss s t → AreOfOneRole ss t u → AreOfOneRole ss s u
alike_then ss s t u a b =
    let e : Some (instance a.role a.height' a.terms') ≡ Some (instance b.role b.height b.terms) = sym a.second ∙ b.first in
    let same : a.role ≡ b.role = cc in
    record { role = a.role; height = a.height; terms = a.terms; first = a.first; height' = b.height'; terms' = b.terms'; second = subst (λ (r : Role). item_at ss u ≡ Some (instance r b.height' b.terms')) (sym same) b.second }

module _ (ss : List SkeletonStrand) (s t : ℕ) (a b : InstanceData) (at : item_at ss s ≡ Some (instance_view a)) (bt : item_at ss t ≡ Some (instance_view b)) where
  viewed_first : item_at ss s ≡ Some (instance_view a)
  viewed_first = at

  viewed_second : item_at ss t ≡ Some (instance_view b)
  viewed_second = bt

  pub alike_if : a.role ≡ b.role → AreOfOneRole ss s t
  alike_if same = record {
    role = a.role;
    height = a.height;
    terms = bindings_of a.values;
    first = viewed_first;
    height' = b.height;
    terms' = bindings_of b.values;
    second = viewed_second ∙ ap (λ (r : Role). Some (instance r b.height (bindings_of b.values))) (sym same);
  }

  pub if_alike : AreOfOneRole ss s t → a.role ≡ b.role
  if_alike o =
      let e : Some (instance a.role a.height (bindings_of a.values)) ≡ Some (instance o.role o.height o.terms) = sym viewed_first ∙ o.first in
      let f : Some (instance b.role b.height (bindings_of b.values)) ≡ Some (instance o.role o.height' o.terms') = sym viewed_second ∙ o.second in
      let p : a.role ≡ o.role = cc in
      let q : b.role ≡ o.role = cc in
      p ∙ sym q

  -- Equal values of the strands are those of the instances.
  module _ (k : Skeleton) (same_strands : k.strands ≡ ss) (same : a.role ≡ b.role) (given : List Binding) where
    first_in : item_at k.strands s ≡ Some (instance a.role a.height (bindings_of a.values))
    first_in = ap (λ (xs : List SkeletonStrand). item_at xs s) same_strands ∙ viewed_first

    second_in : item_at k.strands t ≡ Some (instance a.role b.height (bindings_of b.values))
    second_in = ap (λ (xs : List SkeletonStrand). item_at xs t) same_strands ∙ viewed_second ∙ ap (λ (r : Role). Some (instance r b.height (bindings_of b.values))) (sym same)

    to_strands : (g : Assignment) → AlsoEqual given a b g → Meets g given × EqualAt k s t g
    to_strands g f = (f.0, equal_at_instances k s t g a.role a.height (bindings_of a.values) b.height (bindings_of b.values) first_in second_in f.1)

    of_strands : (g : Assignment) → Meets g given × EqualAt k s t g → AlsoEqual given a b g
    of_strands g f = (f.0, f.1 a.role a.height (bindings_of a.values) b.height (bindings_of b.values) first_in second_in)

    pub never_strands : IsOfNoAssignment (AlsoEqual given a b) → IsOfNoAssignment (λ g. Meets g given × EqualAt k s t g)
    never_strands never g f = never g (of_strands g f)

    pub exact_strands : (r : List Binding) → IsExactFor (AlsoEqual given a b) r → IsExactFor (λ g. Meets g given × EqualAt k s t g) r
    exact_strands r = exact_same (AlsoEqual given a b) (λ g. Meets g given × EqualAt k s t g) r to_strands of_strands

-- The role of an instance declares the variables of its prefix.
pub declared_at : (k : Skeleton) (s : ℕ) (a : InstanceData) → HasDeclaredPrefixes k → item_at k.strands s ≡ Some (instance_view a) → IsClosedPrefix a.role a.height
declared_at k s a all e = all s a.role a.height (bindings_of a.values) e

-- ---- strand by strand of a block

module _ (k : Skeleton) (n : ℕ) (p : List ℕ) (part : IsPartitionOfFirst k n p) (l : ℕ) where
  in_block : (i : ℕ) → AreOfOneRole k.strands n l → item_at p i ≡ Some l → Dec (i ≡ l) → AreOfOneRole k.strands i n
  in_block i a e (yes same) = subst (λ (m : ℕ). AreOfOneRole k.strands m n) (sym same) (alike_back k.strands n l a)
  in_block i a e (no ne) = alike_then k.strands i l n (part.alike i l e ne) (alike_back k.strands n l a)

  pub alike_in_block : (i : ℕ) → AreOfOneRole k.strands n l → item_at p i ≡ Some l → AreOfOneRole k.strands i n
  alike_in_block i a e = in_block i a e (ℕ_discrete i l)

  pub block_passed : (i : ℕ) (r : List Binding) → (item_at p i ≡ Some l → ⊥) → IsExactFor (EqualsBlock k p n l i) r → IsExactFor (EqualsBlock k p n l (i + 1)) r
  block_passed i r other x = let next : suc i ≡ i + 1 = omega arith in subst (λ (m : ℕ). IsExactFor (EqualsBlock k p n l m) r) next (exact_block_passes k n p part l i r other x)

  module _ (i : ℕ) (own : item_at p i ≡ Some l) (r : List Binding) (so_far : IsExactFor (EqualsBlock k p n l i) r) where
    pub block_taken : (q : List Binding) → IsExactFor (λ g. Meets g r × EqualAt k i n g) q → IsExactFor (EqualsBlock k p n l (i + 1)) q
    block_taken q x =
        let next : suc i ≡ i + 1 = omega arith in
        subst (λ (m : ℕ). IsExactFor (EqualsBlock k p n l m) q) next
        (exact_same (λ g. Meets g r × EqualAt k i n g) (EqualsBlock k p n l (suc i)) q
        (λ g f. block_takes k n p part l g i (so_far.sound g f.0) f.1)
        (λ g f. (so_far.general g (block_before k n p part l g i (suc i) (omega arith) f), block_has k n p part l g i own f))
        x)

    pub block_never : IsOfNoAssignment (λ g. Meets g r × EqualAt k i n g) → IsNeverIdentified k (p ++ (l ∷ []))
    block_never never = never_joined k n p part l i own (λ g f a. never g (so_far.general g f, a))

  -- All strands are tried.
  pub block_done : (i : ℕ) (r : List Binding) → length p ≤ i → IsExactFor (EqualsBlock k p n l i) r → IsExactFor (IdentifiesValues k (p ++ (l ∷ []))) r
  block_done i r done x = exact_block_last k n p part l r (exact_same (EqualsBlock k p n l i) (EqualsBlock k p n l n) r to from x)
    where
      to : (g : Assignment) → EqualsBlock k p n l i g → EqualsBlock k p n l n g
      to g f = let e = part.each in (f.0, λ t less at. f.1 t (omega (arith, less, e, done)) at)

      from : (g : Assignment) → EqualsBlock k p n l n g → EqualsBlock k p n l i g
      from g f = let e = part.each in (f.0, λ t less at. let b = item_below p t l at in f.1 t (omega (arith, b, e)) at)

-- ---- when it may not join

pub not_own_block : (k : Skeleton) (n : ℕ) (p : List ℕ) (l : ℕ) → l < n → (item_at p l ≡ Some l → ⊥) → MayNotJoin k n p l
not_own_block k n p l less none (inl e) = absurd (omega (arith, less, e))
not_own_block k n p l less none (inr m) = absurd (none m.1)

pub not_alike : (k : Skeleton) (n : ℕ) (p : List ℕ) (l : ℕ) → l < n → (AreOfOneRole k.strands n l → ⊥) → MayNotJoin k n p l
not_alike k n p l less none (inl e) = absurd (omega (arith, less, e))
not_alike k n p l less none (inr m) = absurd (none m.2)
