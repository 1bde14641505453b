-- Steps of generalising as the program takes them.
use Rattle.std.specs.Prelude.{◌<◌, ℕ, length}
use Rattle.cp_lists.specs.Lists.{IsIn}
use Rattle.cp_model.specs.declared.node.OrderPair.{OrderPair}
use Rattle.cp_model.specs.Skeleton.{Skeleton}
use Rattle.cp_normal.specs.Findings.{IsAddedPair}
use Rattle.cp_general.specs.Fit.{IsFit}
use Rattle.cp_general.specs.Steps.{Deletes, Weakens, IsCoveringPair, IsLowerPair}
use Rattle.cp_general.specs.Generalisation.{DeletesNone, IsMaximallyGeneral, GeneralisesTo}
use Rattle.cp_general.specs.ListedPairs.{ListsOrder}

-- Without strand number d the skeleton is never fit; nor is it without the pair p.
abbrev pub NeverDeletes : ℕ → Skeleton → Type 0
NeverDeletes d k = (h : Skeleton) → Deletes d k h → IsFit h → ⊥

abbrev pub NeverDrops : OrderPair → Skeleton → Type 0
NeverDrops p k = (h : Skeleton) → Weakens p k h → IsFit h → ⊥

-- h is fit, and k without strand number d.
pub record LeavesFit (d : ℕ) (k h : Skeleton) : Type 0 where
  pub deletes : Deletes d k h
  pub fit : IsFit h

-- The pair covers, and neither the problem states it nor a unique value adds it.
pub record MayDrop (p : OrderPair) (k : Skeleton) : Type 0 where
  pub covering : IsCoveringPair k p
  pub not_own : IsIn p k.from_problem.pairs → ⊥
  pub not_added : IsAddedPair k p → ⊥

-- A pair by which the skeleton is ordered, that neither the problem states nor a unique value adds.
pub record HasFreePair (k : Skeleton) : Type 0 where
  pub pair : OrderPair
  pub listed : IsIn pair k.pairs
  pub not_own : IsIn pair k.from_problem.pairs → ⊥
  pub not_added : IsAddedPair k pair → ⊥

-- h is fit, and k without the pair p; it lists the pairs of its order, and so fewer; and no strand of it can be deleted where none
-- of k can.
pub record LeavesFitOrder (p : OrderPair) (k h : Skeleton) : Type 0 where
  pub drops : Weakens p k h
  pub fit : IsFit h
  pub lists : ListsOrder h h.pairs
  pub fewer : length h.pairs < length k.pairs
  pub none : DeletesNone k → DeletesNone h

-- The lowest pair without which k is fit is dropped.
pub record WeakensFirst (k h : Skeleton) : Type 0 where
  pub pair : OrderPair
  pub leaves : LeavesFitOrder pair k h
  pub lower : (q : OrderPair) → IsLowerPair q pair → NeverDrops q k

-- h comes from k by one step or more: k generalises to whatever h does, and to h itself where no step applies to it.
pub record ComesBySteps (k h : Skeleton) : Type 0 where
  pub onward : (g : Skeleton) → GeneralisesTo h g → GeneralisesTo k g
  pub ends : IsMaximallyGeneral h → GeneralisesTo k h

-- On the way from k pairs are dropped: h comes from it by steps, is fit, lists the pairs of its order, and no strand of it can be
-- deleted.
pub record IsReachedByWeakening (k h : Skeleton) : Type 0 where
  pub comes : ComesBySteps k h
  pub fit : IsFit h
  pub lists : ListsOrder h h.pairs
  pub none : DeletesNone h
