-- The values of assumptions.
use Rattle.std.specs.Prelude.{List, ◌++◌, map}
use Rattle.cp_model.specs.Term.{Term, atom_term}
use Rattle.cp_model.specs.Skeleton.{Assumptions}

-- The values of the three lists, as terms.
abbrev pub assumed_values : Assumptions → List Term
assumed_values a = (map atom_term a.non_originating ++ map atom_term a.penetrator_non_originating) ++ map (λ u. atom_term u.value) a.uniquely_originating
