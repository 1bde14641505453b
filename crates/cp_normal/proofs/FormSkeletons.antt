-- A normal form of a skeleton over a protocol is one, is a normal form of itself, and its assumptions are true of it.
use Rattle.std.proofs.Common.{◌≡◌, ◌≢◌, ◌⊎◌, inl, inr, ◌<◌, ℕ, List, refl, sym, subst, arith}
use Rattle.cp_lists.specs.Lists.{IsIn}
use Rattle.cp_model.specs.Strand.{Protocol}
use Rattle.cp_model.specs.declared.strand.Event.TheVariants.{Send as send}
use Rattle.cp_model.specs.declared.node.Node.{Node}
use Rattle.cp_model.specs.Skeleton.{UniqueAt, Skeleton, Before, IsSkeleton}
use Rattle.cp_model.specs.declared.node.OrderPair.{OrderPair}
use Rattle.cp_model.specs.Realisation.{OriginatesAtTerm, KeepsAssumptions}
use Rattle.cp_theory.specs.Normal.{with_pairs}
use Rattle.cp_theory.proofs.Skeletons.{with_pairs_is_skeleton}
use Rattle.cp_normal.specs.Findings.{IsAddedPair, AreNormalPairs, IsContradictory}
use Rattle.cp_normal.specs.NormalForms.{none, IsNormal, IsNormalFormOf}
use Rattle.cp_normal.proofs.Losses.{only_origin_pairs}
use Rattle.cp_normal.proofs.Forms.{added_of}
use Rattle.cp_normal.proofs.Rounds.{narrows_is_skeleton}

-- ---- a skeleton, and a normal form of itself

in_own : (k : Skeleton) (pairs : List OrderPair) → AreNormalPairs k pairs → (p : OrderPair) → IsIn p pairs ⊎ IsAddedPair (with_pairs k pairs) p → IsIn p pairs
in_own k pairs normal p (inl i) = i
in_own k pairs normal p (inr a) = (normal p).1 (inr (added_of k pairs p a))

-- With the pairs that are added no more are.
normal_again : (k : Skeleton) (pairs : List OrderPair) → AreNormalPairs k pairs → AreNormalPairs (with_pairs k pairs) pairs
normal_again k pairs normal p = (λ i. inl i, in_own k pairs normal p)

pub between : (protocol : Protocol) (k : Skeleton) → IsSkeleton protocol k → (p : OrderPair) → IsIn p k.pairs ⊎ IsAddedPair k p → p.earlier.strand ≢ p.later.strand
between protocol k sk p (inl own) = (sk.order_pairs p own).between_strands
between protocol k sk p (inr added) = added.1

no_cycle_in : (k : Skeleton) (pairs : List OrderPair) → AreNormalPairs k pairs → (IsContradictory (with_pairs k pairs) → ⊥) → (n : Node) → Before (with_pairs k pairs) n n → ⊥
no_cycle_in k pairs normal consistent n before = consistent (inr (inr (inr (record { pairs = pairs; normal = normal_again k pairs normal; node = n; cycle = before }))))

with_normal_pairs : (protocol : Protocol) (k : Skeleton) (pairs : List OrderPair) → IsSkeleton protocol k → AreNormalPairs k pairs → (IsContradictory (with_pairs k pairs) → ⊥) → IsSkeleton protocol (with_pairs k pairs)
with_normal_pairs protocol k pairs sk normal consistent =
    with_pairs_is_skeleton protocol k pairs sk (only_origin_pairs k pairs normal) (λ p i. between protocol k sk p ((normal p).0 i)) (no_cycle_in k pairs normal consistent)

pub form_is_skeleton : (protocol : Protocol) (k r : Skeleton) → IsNormalFormOf k r → IsSkeleton protocol k → IsSkeleton protocol r
form_is_skeleton protocol k r f sk =
    subst (IsSkeleton protocol) (sym f.same)
    (with_normal_pairs protocol f.narrowed r.pairs (narrows_is_skeleton protocol f.by_steps sk) f.pairs (subst (λ (d : Skeleton). IsContradictory d → ⊥) f.same f.normal.consistent))

pub form_of_itself : (k r : Skeleton) → IsNormalFormOf k r → IsNormalFormOf r r
form_of_itself k r f = record {
  narrowed = r;
  by_steps = none;
  pairs = subst (λ (d : Skeleton). AreNormalPairs d d.pairs) (sym f.same) (normal_again f.narrowed r.pairs f.pairs);
  same = refl;
  normal = f.normal;
}

-- ---- assumptions

number_or_other : (i j : ℕ) → (i < j) ⊎ ((i ≡ j) ⊎ (j < i)) → (i ≡ j) ⊎ (i ≡ j → ⊥)
number_or_other i j (inl l) = inr (λ e. omega (arith, l, e))
number_or_other i j (inr (inl e)) = inl e
number_or_other i j (inr (inr l)) = inr (λ e. omega (arith, l, e))

compared : (i j : ℕ) → (i < j) ⊎ ((i ≡ j) ⊎ (j < i))
compared i j = grind arith

node_or_other : (m n : Node) → (m.strand ≡ n.strand) ⊎ (m.strand ≡ n.strand → ⊥) → (m.index ≡ n.index) ⊎ (m.index ≡ n.index → ⊥) → (m ≡ n) ⊎ (m ≢ n)
node_or_other m n (inl s) (inl i) = inl (λ x. record { strand = s x; index = i x })
node_or_other m n (inl s) (inr ne) = inr (λ e. ne (λ x. (e x).index))
node_or_other m n (inr ne) i = inr (λ e. ne (λ x. (e x).strand))

same_or_other : (m n : Node) → (m ≡ n) ⊎ (m ≢ n)
same_or_other m n = node_or_other m n (number_or_other m.strand n.strand (compared m.strand n.strand)) (number_or_other m.index n.index (compared m.index n.index))

only_at_origin : (k : Skeleton) → IsNormal k → (u : UniqueAt) (n : Node) → IsIn u k.assumptions.uniquely_originating → OriginatesAtTerm k u.value n → (n ≡ u.origin) ⊎ (n ≢ u.origin) → n ≡ u.origin
only_at_origin k normal u n i o (inl e) = e
only_at_origin k normal u n i o (inr ne) = absurd (normal.no_misplaced u n (record { listed = i; originates = o; elsewhere = ne }))

-- A recorded origin is lost only where an earlier event carries the value.
at_origin : (protocol : Protocol) (k : Skeleton) → IsSkeleton protocol k → IsNormal k → (u : UniqueAt) → IsIn u k.assumptions.uniquely_originating → OriginatesAtTerm k u.value u.origin
at_origin protocol k sk normal u i =
    let o = sk.origins u i in (
      record { role = o.role; height = o.height; terms = o.terms; on_instance = o.on_instance },
      record {
        sent = o.sent;
        transmission = o.transmission;
        carried = o.carried;
        first = λ j e l at c. normal.consistent (inr (inr (inl (record { entry = u; listed = i; lost = λ there. there.1.first j e l at c }))));
      },
    )

pub normal_keeps_assumptions : (protocol : Protocol) (k : Skeleton) → IsSkeleton protocol k → IsNormal k → KeepsAssumptions k
normal_keeps_assumptions protocol k sk normal = record {
  non = λ v n i o. normal.consistent (inl (record { value = v; listed = i; node = n; carried = record { event = send o.1.sent; there = o.1.transmission; carried = o.1.carried } }));
  unique = at_origin protocol k sk normal;
  only = λ u n i o. only_at_origin k normal u n i o (same_or_other n u.origin);
}
