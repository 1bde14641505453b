-- Generalising a skeleton: strands and pairs are taken away one by one, as long as that leaves it normal and realised.
use Rattle.std.specs.Prelude.{◌≡◌, ◌⊎◌, ◌<◌, ℕ}
use Rattle.cp_model.specs.declared.node.OrderPair.{OrderPair}
use Rattle.cp_model.specs.Skeleton.{Skeleton}
use Rattle.cp_roots.specs.Roots.{in_report_order}
use Rattle.cp_general.specs.Fit.{IsFit}
use Rattle.cp_general.specs.Steps.{Deletes, Weakens, IsLowerPair}

-- No strand can be deleted so that what is left is fit.
abbrev pub DeletesNone : Skeleton → Type 0
DeletesNone k = (d : ℕ) (h : Skeleton) → Deletes d k h → IsFit h → ⊥

-- No pair can be dropped so that what is left is fit.
abbrev pub WeakensNone : Skeleton → Type 0
WeakensNone k = (p : OrderPair) (h : Skeleton) → Weakens p k h → IsFit h → ⊥

-- No step applies to the skeleton: it is its own generalisation.
pub record IsMaximallyGeneral (k : Skeleton) : Type 0 where
  pub deletes_none : DeletesNone k
  pub drops_none : WeakensNone k

-- The first step that leaves the skeleton fit: a strand is deleted, that of the highest number first; where none can be, a
-- covering pair is dropped, the lowest first. After a deletion the assumptions stand in the order of a report.
pub data StepsTo (k : Skeleton) : Skeleton → Type 0 where
  deletes : {d : ℕ} {h : Skeleton} → Deletes d k h → IsFit h → ((e : ℕ) (g : Skeleton) → d < e → Deletes e k g → IsFit g → ⊥) → StepsTo k (in_report_order h)
  drops : {p : OrderPair} {h : Skeleton} → DeletesNone k → Weakens p k h → IsFit h → ((q : OrderPair) (g : Skeleton) → IsLowerPair q p → Weakens q k g → IsFit g → ⊥) → StepsTo k h

-- One step or more lead to the skeleton g, to which none applies; after each step the first is tried again.
pub data GeneralisesTo : Skeleton → Skeleton → Type 0 where
  last_step : {k g : Skeleton} → StepsTo k g → IsMaximallyGeneral g → GeneralisesTo k g
  next_step : {k h g : Skeleton} → StepsTo k h → GeneralisesTo h g → GeneralisesTo k g

-- g is the generalisation of k: k itself, where no step applies to it.
abbrev pub IsGeneralisationOf : Skeleton → Skeleton → Type 0
IsGeneralisationOf k g = (IsMaximallyGeneral k × (g ≡ k)) ⊎ GeneralisesTo k g
