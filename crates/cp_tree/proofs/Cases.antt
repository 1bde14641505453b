-- What becomes of a label, case by case.
use Rattle.std.specs.Prelude.{◌≡◌, ◌<◌, ◌≤◌, ℕ, List, [], ◌∷◌, length, map, true, false, Option, Some}
use Rattle.cp_model.specs.Strand.{Protocol}
use Rattle.cp_model.specs.declared.node.Node.{Node}
use Rattle.cp_model.specs.Skeleton.{Skeleton}
use Rattle.cp_model.specs.Derivable.{IsUnrealised}
use Rattle.cp_model.specs.Realisation.{AllDerivable}
use Rattle.cp_model.specs.Tree.{Label}
use Rattle.cp_model.specs.declared.tree.Mark.{Mark}
use Rattle.cp_model.specs.declared.tree.Mark.TheVariants.{Dead as dead, Seen as seen, LimitSteps as limit_steps, LimitStrands as limit_strands}
use Rattle.cp_model.specs.declared.tree.Limits.{Limits}
use Rattle.cp_derive.specs.Unrealised.{ListsUnrealised}
use Rattle.cp_shapes.specs.Shapes.{IsLeast}
use Rattle.cp_expansion.specs.Expansion.{Expansion, IsExpansionOf}
use Rattle.cp_general.specs.Generalisation.{IsMaximallyGeneral, GeneralisesTo}
use Rattle.cp_tree.specs.Resolves.{leaf, expanded, generalised}
use Rattle.cp_tree.specs.Made.{Made, made_of_child, made_of_generalisation, LabelLink, MayPointTo}

-- There is no label to which label m may point.
abbrev pub IsNew : List LabelLink → ℕ → Type 0
IsNew links m = (n : ℕ) → MayPointTo links m n → ⊥

-- What becomes of label i, which was made so when `before` of the labels in front of it had been expanded, and which labels are
-- then made from it. One that is dead from the start stays so, and no unrealised receptions are listed of it. Any other is seen in
-- the least label to which it may point, if there is any. Of those that are new one that is realised is marked by the candidates,
-- where it is its own generalisation, and else its generalisation is made from it; one that is unrealised is at the bound on
-- strands, listeners counted, where it has more; and else it is expanded, or, where as many labels were expanded as the step limit
-- says, at that limit.
pub data Becomes (protocol : Protocol) (limits : Limits) (links : List LabelLink) (marks : ℕ → Option Mark → Type 0) (i before : ℕ) (m : Made) : Label → List Made → Type 0 where
  is_dead : m.dead ≡ true → Becomes protocol limits links marks i before m (leaf m [] (Some dead)) []
  is_seen : {nodes : List Node} {n : ℕ} → m.dead ≡ false → ListsUnrealised m.skeleton nodes → IsLeast (MayPointTo links i) n → Becomes protocol limits links marks i before m (leaf m nodes (Some (seen n))) []
  is_realised : {mark : Option Mark} → m.dead ≡ false → IsNew links i → AllDerivable m.skeleton → IsMaximallyGeneral m.skeleton → marks i mark → Becomes protocol limits links marks i before m (leaf m [] mark) []
  is_generalised : {g : Skeleton} {child : ℕ} → m.dead ≡ false → IsNew links i → AllDerivable m.skeleton → GeneralisesTo m.skeleton g
      → Becomes protocol limits links marks i before m (generalised m child) (made_of_generalisation i g ∷ [])
  above_bound : {nodes : List Node} → m.dead ≡ false → IsNew links i → ListsUnrealised m.skeleton nodes → IsUnrealised m.skeleton → limits.strands < length m.skeleton.strands
      → Becomes protocol limits links marks i before m (leaf m nodes (Some limit_strands)) []
  at_limit : {nodes : List Node} → m.dead ≡ false → IsNew links i → ListsUnrealised m.skeleton nodes → IsUnrealised m.skeleton → length m.skeleton.strands ≤ limits.strands → before ≡ limits.steps
      → Becomes protocol limits links marks i before m (leaf m nodes (Some limit_steps)) []
  is_tested : {nodes : List Node} {e : Expansion} {children : List ℕ} → m.dead ≡ false → IsNew links i → ListsUnrealised m.skeleton nodes → IsUnrealised m.skeleton → length m.skeleton.strands ≤ limits.strands → before < limits.steps
      → IsExpansionOf protocol m.skeleton e → length children ≡ length e.children → Becomes protocol limits links marks i before m (expanded m nodes e children) (map (made_of_child i) e.children)
