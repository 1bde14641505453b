-- Operations by which children are made, and how a list of children grows.
use Rattle.std.specs.Prelude.{◌≡◌, List, ◌++◌}
use Rattle.cp_model.specs.declared.tree.Operation.{Operation}
use Rattle.cp_model.specs.declared.tree.Operation.TheVariants.{Contracted as by_contraction, Displaced as by_displacement, AddedStrand as by_added_strand, AddedListener as by_added_listener}
use Rattle.cp_cohort.specs.declared.child.Made.{Made}
use Rattle.cp_cohort.specs.declared.child.Made.TheVariants as ways
use Rattle.cp_cohort.specs.CoveringChildren.{Child}

abbrev pub operation_of_made : Made → Operation
operation_of_made (ways.Contracted n) = by_contraction n
operation_of_made (ways.Displaced n) = by_displacement n
operation_of_made (ways.AddedStrand s) = by_added_strand s
operation_of_made (ways.AddedListener s) = by_added_listener s

-- Behind the old children stand those that are given.
pub record PutsChildren (gives : List Child → Type 0) (old new : List Child) : Type 0 where
  pub added : List Child
  pub behind : new ≡ old ++ added
  pub given : gives added
