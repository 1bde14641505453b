-- The tests of normalising, put together.
use Rattle.std.proofs.Common.{◌≡◌, ◌⊎◌, inl, inr, List, sym, subst}
use Rattle.cp_lists.specs.Lists.{IsIn}
use Rattle.cp_model.specs.declared.node.Node.{Node}
use Rattle.cp_model.specs.Skeleton.{UniqueAt, Skeleton, Before, IsOrderPair, IsOrigin}
use Rattle.cp_model.specs.declared.node.OrderPair.{OrderPair}
use Rattle.cp_collapse.specs.Property.{Has}
use Rattle.cp_collapse.specs.Cycles.{ClosesCycleAt}
use Rattle.cp_normal.specs.Findings.{CarriesNonOriginating, HasTwoOrigins, LosesOrigin, ClosesCycle, AreNormalPairs, IsContradictory}
use Rattle.cp_normal.proofs.Found.{unique_has, has_unique}
use Rattle.cp_normal.proofs.ClosedCycles.{closed_if_cycle, cycle_if_closed, cycle_of_these}

module _ (k : Skeleton) (pairs read : List OrderPair) (entries read_entries : List UniqueAt) (normal : AreNormalPairs k pairs) (is_read : read ≡ pairs)
    (are_uniques : entries ≡ k.assumptions.uniquely_originating) (entries_read : read_entries ≡ entries)
    (own : (p : OrderPair) → IsIn p k.pairs → IsOrderPair k p) (no_cycle : (n : Node) → Before k n n → ⊥) (origins : (u : UniqueAt) → IsIn u k.assumptions.uniquely_originating → IsOrigin k u) where
  pub cycle_if_found : Has (λ u. ClosesCycleAt read u.origin) read_entries → ClosesCycle k
  cycle_if_found h =
      let r : Has (λ u. ClosesCycleAt read u.origin) k.assumptions.uniquely_originating = unique_has k entries read_entries are_uniques entries_read (λ u. ClosesCycleAt read u.origin) h in
      cycle_if_closed k pairs normal own origins (subst (λ (ps : List OrderPair). Has (λ u. ClosesCycleAt ps u.origin) k.assumptions.uniquely_originating) is_read r)

  pub found_if_cycle : ClosesCycle k → Has (λ u. ClosesCycleAt read u.origin) read_entries
  found_if_cycle c =
      let r : Has (λ u. ClosesCycleAt pairs u.origin) k.assumptions.uniquely_originating = closed_if_cycle k pairs normal no_cycle c.node (cycle_of_these k pairs normal c) in
      let s : Has (λ u. ClosesCycleAt read u.origin) k.assumptions.uniquely_originating = subst (λ (ps : List OrderPair). Has (λ u. ClosesCycleAt ps u.origin) k.assumptions.uniquely_originating) (sym is_read) r in
      has_unique k entries read_entries are_uniques entries_read (λ u. ClosesCycleAt read u.origin) s

pub contradictory : (k : Skeleton) → CarriesNonOriginating k ⊎ (HasTwoOrigins k ⊎ LosesOrigin k) → IsContradictory k
contradictory k (inl c) = inl c
contradictory k (inr (inl t)) = inr (inl t)
contradictory k (inr (inr l)) = inr (inr (inl l))

pub consistent : (k : Skeleton) → (CarriesNonOriginating k ⊎ (HasTwoOrigins k ⊎ LosesOrigin k) → ⊥) → (ClosesCycle k → ⊥) → IsContradictory k → ⊥
consistent k refuted cycle (inl c) = refuted (inl c)
consistent k refuted cycle (inr (inl t)) = refuted (inr (inl t))
consistent k refuted cycle (inr (inr (inl l))) = refuted (inr (inr l))
consistent k refuted cycle (inr (inr (inr c))) = cycle c

-- A skeleton's own pairs close no cycle.
pub own_close_none : (k : Skeleton) → AreNormalPairs k k.pairs → ((n : Node) → Before k n n → ⊥) → ClosesCycle k → ⊥
own_close_none k normal no_cycle c = no_cycle c.node (cycle_of_these k k.pairs normal c)
