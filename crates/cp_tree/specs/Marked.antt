-- What a label of a tree is, by its mark and by what was made from it.
use Rattle.std.specs.Prelude.{◌≡◌, ℕ, List, [], ◌∷◌, map, true, Some}
use Rattle.cp_lists.specs.Lists.{item_at}
use Rattle.cp_model.specs.Realisation.{AllDerivable}
use Rattle.cp_model.specs.Tree.{Label}
use Rattle.cp_model.specs.declared.tree.Operation.TheVariants.{Generalised as by_generalising}
use Rattle.cp_model.specs.declared.tree.Mark.TheVariants.{Seen as seen}
use Rattle.cp_shapes.specs.Shapes.{IsLeast, IsInstanceWithin}
use Rattle.cp_roots.specs.declared.root.Root.{Root}
use Rattle.cp_general.specs.Generalisation.{IsMaximallyGeneral, GeneralisesTo}
use Rattle.cp_tree.specs.Candidates.{IsCandidate}
use Rattle.cp_tree.specs.Made.{link_of, MayPointTo}
use Rattle.cp_tree.specs.Edges.{IsLeafLabel}

-- Label i is a shape among the labels: realised, its own generalisation, a leaf, and an instance of no other candidate: none
-- embeds in it, but those behind it in which it embeds too.
pub record IsShapeAmong (labels : List Label) (i : ℕ) (l : Label) : Type 0 where
  pub realised : AllDerivable l.skeleton
  pub most_general : IsMaximallyGeneral l.skeleton
  pub leaf : IsLeafLabel l
  pub no_instance : (j : ℕ) (m : Label) → item_at labels j ≡ Some m → IsCandidate m → IsInstanceWithin (map (λ (x : Label). x.skeleton) labels) i j → ⊥

-- Root number i is dead from the start.
pub record IsDeadRoot (roots : List Root) (i : ℕ) : Type 0 where
  pub root : Root
  pub at : item_at roots i ≡ Some root
  pub dead : root.dead ≡ true

-- Label i is marked as seen in the least label to which it may point.
pub record IsSeenInLeast (labels : List Label) (i : ℕ) (l : Label) : Type 0 where
  pub number : ℕ
  pub mark : l.mark ≡ Some (seen number)
  pub least : IsLeast (MayPointTo (map link_of labels) i) number

-- The label is realised, and its one child is what it generalises to.
pub record IsGeneralised (labels : List Label) (l : Label) : Type 0 where
  pub realised : AllDerivable l.skeleton
  pub number : ℕ
  pub one_child : l.children ≡ number ∷ []
  pub child : Label
  pub at : item_at labels number ≡ Some child
  pub operation : child.operation ≡ by_generalising
  pub generalises : GeneralisesTo l.skeleton child.skeleton
