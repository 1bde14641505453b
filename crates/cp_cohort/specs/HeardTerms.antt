-- What is to be heard, as it is gathered.
use Rattle.std.specs.Prelude.{◌≡◌, List, [], ◌++◌}
use Rattle.cp_model.specs.Term.{Term}
use Rattle.cp_cohort.specs.GatheredLists.{EachGives, terms_onto}
use Rattle.cp_cohort.specs.Cohort.{GuardedTest, FreesCritical, OpensPattern}

-- The new terms are the old with what may set the critical term free behind them, each once.
pub record FreesOnto (q : GuardedTest) (old new : List Term) : Type 0 where
  pub frees : List Term
  pub critical : FreesCritical q frees
  pub onto : new ≡ terms_onto old frees

-- These are the terms to be heard.
pub record AreHeard (q : GuardedTest) (terms : List Term) : Type 0 where
  pub frees : List Term
  pub opens : List Term
  pub critical : FreesCritical q frees
  pub patterns : EachGives OpensPattern q.patterns opens
  pub each : terms ≡ terms_onto [] (frees ++ opens)
