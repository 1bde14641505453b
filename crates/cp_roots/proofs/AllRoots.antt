-- The first roots of a problem with those of its collapses behind them.
use Rattle.std.proofs.Common.{◌≡◌, List, ◌++◌, ap, ◌∙◌}
use Rattle.cp_model.specs.Strand.{Protocol}
use Rattle.cp_model.specs.declared.variable.Declaration.{Declaration}
use Rattle.cp_model.specs.Skeleton.{Skeleton, IsSkeleton}
use Rattle.cp_model.specs.PointOfView.{IsPointOfView}
use Rattle.cp_collapse.specs.Collapses.{AreCollapses}
use Rattle.cp_roots.specs.Roots.{Root, first_roots, AreRoots}
use Rattle.cp_roots.specs.Sound.{AreSound}
use Rattle.cp_skel.specs.Tables.{HaveTable}
use Rattle.cp_roots.specs.GatheredRoots.{RootsHave, AreFirstRoots}
use Rattle.cp_roots.proofs.EachCollapse.{are_roots}
use Rattle.cp_roots.proofs.RootsSoFar.{AreRootsOf}
use Rattle.cp_roots.proofs.SoundRoots.{are_sound}

-- What is promised of the roots of a problem.
pub record AreAllRoots (protocol : Protocol) (k : Skeleton) (names : List Declaration) (roots : List Root) : Type 0 where
  pub exact : AreRoots k roots
  pub sound : AreSound protocol k roots
  pub variables : RootsHave names roots

module _ (protocol : Protocol) (variables : List Declaration) (k : Skeleton) (sk : IsSkeleton protocol k) (own : IsPointOfView variables k) (collapses : List Skeleton) (are : AreCollapses k collapses) where
  module _ (names : List Declaration) (start now : List Root) (first : AreFirstRoots k names start) (all : AreRootsOf collapses start now) where
    whole : now ≡ first_roots k first.forms ++ all.others
    whole = all.roots ∙ ap (λ (rs : List Root). rs ++ all.others) first.whole

    pub all_roots : HaveTable names collapses → AreAllRoots protocol k names now
    all_roots have = record {
      exact = are_roots variables k own first.forms collapses all.others now first.are_forms are all.of_each whole;
      sound = are_sound protocol variables k sk own first.forms collapses all.others now first.are_forms are all.of_each whole;
      variables = all.have names first.same_variables have;
    }
