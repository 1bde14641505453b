-- The roots as the program gathers them: normal forms that are put behind other roots.
use Rattle.cp_model.specs.declared.variable.Declaration.{Declaration}
use Rattle.std.specs.Prelude.{◌≡◌, List, ◌++◌, map}
use Rattle.cp_lists.specs.Lists.{IsIn}
use Rattle.cp_model.specs.Strand.{Protocol}
use Rattle.cp_model.specs.Skeleton.{Skeleton, IsSkeleton}
use Rattle.cp_model.specs.declared.tree.Operation.{Operation}
use Rattle.cp_model.specs.declared.tree.Operation.TheVariants.{Collapsed as by_collapse}
use Rattle.cp_theory.specs.Normal.{LosesNoStanding}
use Rattle.cp_skel.specs.Tables.{HaveTable}
use Rattle.cp_normal.specs.Exact.{HasForms}
use Rattle.cp_normal.specs.NormalForms.{IsNormalFormOf}
use Rattle.cp_fingerprint.specs.FirstPlaces.{firsts}
use Rattle.cp_roots.specs.Roots.{Root, living, first_roots}

-- The skeletons of the roots have these variables.
abbrev pub RootsHave : List Declaration → List Root → Type 0
RootsHave variables roots = (r : Root) → IsIn r roots → r.skeleton.variables ≡ variables

-- These are normal forms of k, those of the rules in their order, and lose no standing of k.
pub record AreNormalForms (k : Skeleton) (rs : List Skeleton) : Type 0 where
  pub forms : (r : Skeleton) → IsIn r rs → IsNormalFormOf k r
  pub loses_none : (protocol : Protocol) → IsSkeleton protocol k → LosesNoStanding protocol k rs
  pub exact : HasForms k rs

-- The roots, with a living one behind them for each of the forms, all made so. A living root has the assumptions of its
-- form in the order of a report.
pub record PutsForms (by : Operation) (forms : List Skeleton) (old new : List Root) : Type 0 where
  pub roots : new ≡ old ++ map (living by) forms
  pub variables : (variables : List Declaration) → RootsHave variables old → HaveTable variables forms → RootsHave variables new

-- The roots, with those that the normal forms of a collapse give behind them. It is by the partition of the strands that
-- go to one place.
pub record PutsCollapse (l : Skeleton) (old new : List Root) : Type 0 where
  pub forms : List Skeleton
  pub are_forms : AreNormalForms l forms
  pub roots : new ≡ old ++ map (living (by_collapse (firsts l.from_problem.strands))) forms
  pub variables : (variables : List Declaration) → RootsHave variables old → l.variables ≡ variables → RootsHave variables new

-- The first roots of a problem of these variables.
pub record AreFirstRoots (k : Skeleton) (variables : List Declaration) (roots : List Root) : Type 0 where
  pub forms : List Skeleton
  pub are_forms : AreNormalForms k forms
  pub whole : roots ≡ first_roots k forms
  pub same_variables : RootsHave variables roots
