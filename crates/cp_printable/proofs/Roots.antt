-- The roots of a problem bring in no strings.
use Rattle.std.proofs.Common.{◌⊎◌, ℕ, List}
use Rattle.cp_lists.specs.Lists.{IsIn}
use Rattle.cp_model.specs.Skeleton.{Skeleton}
use Rattle.cp_roots.specs.declared.root.Root.{Root}
use Rattle.cp_roots.specs.Roots.{AreRoots}
use Rattle.cp_roots.proofs.EachRoot.{each_root}
use Rattle.cp_printable.specs.Spelled.{IsSpelledSkeleton}
use Rattle.cp_printable.proofs.Under.{in_order_spelled}
use Rattle.cp_printable.proofs.Forms.{forms_spelled}
use Rattle.cp_printable.proofs.Collapses.{collapses_spelled}

module _ (S I : List ℕ → Type 0) (decide : (t : List ℕ) → S t ⊎ (S t → ⊥)) where
  pub roots_spelled : (k : Skeleton) (roots : List Root) → IsSpelledSkeleton S I k → AreRoots k roots → (root : Root) → IsIn root roots → IsSpelledSkeleton S I root.skeleton
  roots_spelled = each_root (IsSpelledSkeleton S I) (record {
    listed = in_order_spelled S I;
    forms = λ l rs has is. forms_spelled S I decide has is;
    collapses = λ l ls all is. collapses_spelled S I decide l is all.partitions ls all.each;
  })
