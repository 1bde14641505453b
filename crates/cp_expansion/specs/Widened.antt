-- Which child widens a set of patterns, as the program finds it.
use Rattle.std.specs.Prelude.{◌≡◌, ℕ, List, true}
use Rattle.cp_model.specs.Skeleton.{Skeleton}
use Rattle.cp_model.specs.Tree.{Pattern}
use Rattle.cp_model.specs.declared.tree.Operation.TheVariants.{AddedStrand as by_added_strand}
use Rattle.cp_cohort.specs.declared.child.Child.{Child}
use Rattle.cp_cohort.specs.Widening as widening
use Rattle.cp_escape.specs.WidenedPattern.{WidensBy}
use Rattle.cp_expansion.specs.declared.widening_child.Widenings.{Widenings}

-- The child, with which a strand was added, gives this pattern.
pub record GivesPattern (k : Skeleton) (c : Child) (p : Pattern) : Type 0 where
  pub strand : ℕ
  pub added : c.operation ≡ by_added_strand strand
  pub widens : WidensBy k c.skeleton c.path p

-- The set may still be widened, and the child gives this pattern.
abbrev pub GivesWhileOpen : Widenings → Child → Pattern → Type 0
GivesWhileOpen w c p = (w.is_open ≡ true) × GivesPattern w.skeleton.now c p

-- The child at this place gives this pattern, and none before it gives one.
abbrev pub IsGiven : Skeleton → List Child → ℕ → Pattern → Type 0
IsGiven k = widening.IsGiven (GivesPattern k)
