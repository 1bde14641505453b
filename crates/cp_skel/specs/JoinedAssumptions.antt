-- Assumptions behind others.
use Rattle.std.specs.Prelude.{ℕ, ◌++◌, map}
use Rattle.cp_model.specs.Skeleton.{Assumptions}
use Rattle.cp_model.specs.Given.{atoms_onto, uniques_onto}
use Rattle.cp_strand.specs.declared.given.Given.{Given}
use Rattle.cp_strand.specs.Givens.{unique_on}

-- The lists of both, one behind the other.
abbrev pub joined_assumptions : Assumptions → Assumptions → Assumptions
joined_assumptions a b = record {
  non_originating = a.non_originating ++ b.non_originating;
  penetrator_non_originating = a.penetrator_non_originating ++ b.penetrator_non_originating;
  uniquely_originating = a.uniquely_originating ++ b.uniquely_originating;
}

-- Assumptions, and behind them those that are given to strand number s, each once.
abbrev pub with_these : ℕ → Given → Assumptions → Assumptions
with_these s g own = record {
  non_originating = atoms_onto own.non_originating g.non_originating.items;
  penetrator_non_originating = atoms_onto own.penetrator_non_originating g.penetrator_non_originating.items;
  uniquely_originating = uniques_onto own.uniquely_originating (map (unique_on s) g.uniquely_originating.items);
}
