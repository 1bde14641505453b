use Rattle.cp_model.specs.Homomorphism.{SkeletonMap, IsEmbedding}
use Rattle.cp_hom.specs.PartialMaps.{partial_view, ExtendsPartial}
use Rattle.cp_hom.specs.OpenMaps.{branches_view, all_steps, AreOpen, IsWithinSome}
use Rattle.cp_hom.proofs.search.search.Given as goal

-- each embedding that follows the given partial map can still be found
abbrev pub invariant-loop-branch : goal.invariant-loop-branch
invariant-loop-branch l = record {
  are_open : AreOpen l.a l.b l.items (branches_view l.branches.items);
  none_lost : (f : SkeletonMap) → IsEmbedding l.a l.b f → ExtendsPartial f (partial_view l.fn.given) →
      IsWithinSome l.a l.b l.items f (branches_view l.branches.items);
}

abbrev pub decreases-loop-branch : goal.decreases-loop-branch
decreases-loop-branch l = all_steps l.b l.items (branches_view l.branches.items)
