-- Skeletons that differ in their tables of variables alone.
use Rattle.std.proofs.Common.{◌≡◌, List, ℕ, refl, sym, ap, ◌∙◌, subst}
use Rattle.cp_model.specs.Bindings.{Binding}
use Rattle.cp_model.specs.Strand.{Role, Protocol}
use Rattle.cp_model.specs.declared.variable.Declaration.{Declaration}
use Rattle.cp_model.specs.declared.node.Node.{Node}
use Rattle.cp_model.specs.declared.node.OrderPair.{OrderPair}
use Rattle.cp_model.specs.Skeleton.{UniqueAt, Skeleton, Before, IsOrderPair, IsOrigin, GivesAssumptions, IsSkeleton}
use Rattle.cp_model.proofs.LawOrder.{before_wider}
use Rattle.cp_order.specs.PredecessorNodes.{Target}
use Rattle.cp_skel.specs.Preceding.{ArePredecessors}
use Rattle.cp_skel.specs.Sound.{IsSound}
use Rattle.cp_skel.specs.Tables.{DiffersInTable}

-- One that has this table, and all else from another.
pub table_alone : (old new : Skeleton) (variables : List Declaration) → new ≡ record old { variables = variables } → DiffersInTable old new
table_alone old new variables e = e ∙ ap (λ (vs : List Declaration). record old { variables = vs }) (sym (ap (λ (k : Skeleton). k.variables) e))

pub same_alone : (old new : Skeleton) → new ≡ old → DiffersInTable old new
same_alone old new e = table_alone old new old.variables e

pub table_again : (old mid new : Skeleton) → DiffersInTable old mid → DiffersInTable mid new → DiffersInTable old new
table_again old mid new e f = f ∙ ap (λ (k : Skeleton). record k { variables = new.variables }) e

module _ (k : Skeleton) (table : List Declaration) where
  -- The skeleton with this table.
  abbrev pub tabled : Skeleton
  tabled = record k { variables = table }

  -- ---- the same order

  pub was_before : {x y : Node} → Before tabled x y → Before k x y
  was_before = before_wider tabled k refl (λ p i. i)

  pub still_before : {x y : Node} → Before k x y → Before tabled x y
  still_before = before_wider k tabled refl (λ p i. i)

  -- ---- a skeleton over a protocol

  pair_tabled : (p : OrderPair) → IsOrderPair k p → IsOrderPair tabled p
  pair_tabled p o = record { sent = o.sent; received = o.received; transmission = o.transmission; reception = o.reception; between_strands = o.between_strands }

  origin_tabled : (u : UniqueAt) → IsOrigin k u → IsOrigin tabled u
  origin_tabled u o = record { role = o.role; height = o.height; terms = o.terms; on_instance = o.on_instance; sent = o.sent; transmission = o.transmission; carried = o.carried }

  given_tabled : (s : ℕ) (role : Role) (height : ℕ) (terms : List Binding) → GivesAssumptions k s role height terms → GivesAssumptions tabled s role height terms
  given_tabled s role height terms g = record { non = g.non; penetrator_non = g.penetrator_non; unique = g.unique }

  pub skeleton_tabled : (protocol : Protocol) → IsSkeleton protocol k → IsSkeleton protocol tabled
  skeleton_tabled protocol sk = record {
    of_role = sk.of_role;
    heights = sk.heights;
    order_pairs = λ p i. pair_tabled p (sk.order_pairs p i);
    no_cycle = λ n before. sk.no_cycle n (was_before before);
    origins = λ u i. origin_tabled u (sk.origins u i);
    given = λ s role height terms at. given_tabled s role height terms (sk.given s role height terms at);
  }

  -- It is as sound.
  pub sound_tabled : IsSound k → IsSound tabled
  sound_tabled s = record {
    protocol = s.protocol;
    declared = s.declared;
    skeleton = skeleton_tabled s.protocol s.skeleton;
    in_range = s.in_range;
    assumed = record { non = s.assumed.non; penetrator_non = s.assumed.penetrator_non; unique = s.assumed.unique };
    ordered = λ p i. still_before (s.ordered p i);
  }

-- What precedes a node of one precedes it in the other.
pub preceded_in_table : (k l : Skeleton) → DiffersInTable k l → (n : Node) (leading : Target) → ArePredecessors k n leading → ArePredecessors l n leading
preceded_in_table k l differs n leading are = subst (λ (x : Skeleton). ArePredecessors x n leading) (sym differs) (record { there = are.there; along = are.along })
