-- The roots of a problem that maps to itself are sound.
use Rattle.std.proofs.Common.{◌≡◌, ℕ, List, ◌++◌, map, refl, sym, ap, ◌∙◌}
use Rattle.cp_model.specs.Strand.{Protocol}
use Rattle.cp_model.specs.declared.variable.Declaration.{Declaration}
use Rattle.cp_model.specs.Skeleton.{Skeleton, IsSkeleton}
use Rattle.cp_model.specs.PointOfView.{IsPointOfView}
use Rattle.cp_model.specs.declared.tree.Operation.TheVariants.{Collapsed as by_collapse}
use Rattle.cp_fingerprint.specs.FirstPlaces.{firsts}
use Rattle.cp_collapse.specs.Partitions.{place_in}
use Rattle.cp_collapse.specs.Collapses.{IsCollapse, AreCollapsesBy, no_collapses, collapse_by}
use Rattle.cp_normal.specs.Exact.{HasForms}
use Rattle.cp_normal.proofs.FormsOf.{are_normal_forms, lose_no_standing}
use Rattle.cp_roots.specs.Roots.{Root, living, AreFormsOfCollapses, no_collapses as none_of_none, forms_of_one, AreRoots}
use Rattle.cp_roots.specs.Sound.{AreSound}
use Rattle.cp_roots.specs.GatheredRoots.{AreNormalForms}
use Rattle.cp_roots.proofs.Firsts.{firsts_of_places}
use Rattle.cp_roots.proofs.EachCollapse.{AreOfEach}
use Rattle.cp_roots.proofs.SoundRoots.{are_sound}

-- The normal forms of the rules are normal forms, and lose no standing.
normal_forms : (l : Skeleton) (rs : List Skeleton) → HasForms l rs → AreNormalForms l rs
normal_forms l rs has = record { forms = are_normal_forms has; loses_none = λ protocol sl. lose_no_standing protocol l rs sl has; exact = has }

module _ (variables : List Declaration) (k : Skeleton) (own : IsPointOfView variables k) where
  -- The strands that go to one place are the block of a partition.
  partition_read : (p : List ℕ) (l : Skeleton) → IsCollapse k p l → firsts l.from_problem.strands ≡ p
  partition_read p l c = ap firsts (c.collapsed.from_problem.strands ∙ ap (map (place_in p)) own.strands) ∙ firsts_of_places k p c.partition

  -- The normal forms of collapses are those of each, one after the other.
  of_each : {ps : List (List ℕ)} {ls : List Skeleton} {roots : List Root} → AreCollapsesBy k ps ls → AreFormsOfCollapses ps ls roots → AreOfEach ls roots
  of_each no_collapses none_of_none = refl
  of_each (collapse_by {p = p} {l = l} c cs) (forms_of_one {rs = rs} {roots = others} has rest) =
      (rs, others, normal_forms l rs has, of_each cs rest, ap (λ (q : List ℕ). map (living (by_collapse q)) rs ++ others) (sym (partition_read p l c)))

  pub roots_sound : (protocol : Protocol) (roots : List Root) → IsSkeleton protocol k → AreRoots k roots → AreSound protocol k roots
  roots_sound protocol roots sk are =
      are_sound protocol variables k sk own are.forms are.collapses are.others roots (normal_forms k are.forms are.has_forms) are.are_collapses (of_each are.are_collapses.each are.of_collapses) are.whole
