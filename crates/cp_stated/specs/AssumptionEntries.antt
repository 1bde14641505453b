-- Single entries of assumptions.
use Rattle.std.specs.Prelude.{ℕ, List, [], ◌∷◌, ◌++◌, Bool, false, not, codes}
use Rattle.cp_base.specs.declared.place.Place.{Place}
use Rattle.cp_lists.specs.Lists.{item_at}
use Rattle.cp_model.specs.Term.{AtomTerm}
use Rattle.cp_model.specs.Skeleton.{SkeletonStrand, instance, listener, skeleton_trace, UniqueAt, Assumptions}
use Rattle.cp_model.specs.Given.{has_atom, given_non, given_penetrator_non}
use Rattle.cp_sexpr.specs.Syntax.{Form}
use Rattle.cp_language.specs.Faults.{place_of}
use Rattle.cp_report.specs.Misfits.{misfit_unless, unless_misfit}
use Rattle.cp_report.specs.Heads.{item_with}
use Rattle.cp_report.specs.Spelled.{Scope, atom_misfits, atom_in}
use Rattle.cp_report.specs.Skeletons.{scope_of, assumption_misfits, carries_value, uniques_misfits, has_uniques, uniques_under, values_misfits, all_uniques_misfits}

-- A value that is none of those before it.
abbrev pub atom_entry_misfits : Scope → List AtomTerm → Form → List Place
atom_entry_misfits s before f = unless_misfit (atom_misfits s f) (misfit_unless (not (has_atom before (atom_in s f))) (place_of f))

-- The strand is an instance with a transmission at this place that carries the value.
abbrev pub may_be_origin_on : SkeletonStrand → AtomTerm → ℕ → Bool
may_be_origin_on (listener t) v i = false
may_be_origin_on (instance role height terms) v i = carries_value v (item_at (skeleton_trace (instance role height terms)) i)

-- Where the unique values do not fit, of which the roles give these.
abbrev pub uniques_item_misfits : Place → List SkeletonStrand → List UniqueAt → List Form → List Place
uniques_item_misfits at strands given items =
    assumption_misfits at (item_with (codes "uniq-orig" ∷ []) items) (uniques_misfits (scope_of items) strands []) (has_uniques (uniques_under items) given)

abbrev pub no_assumptions : Assumptions
no_assumptions = record { non_originating = []; penetrator_non_originating = []; uniquely_originating = [] }

-- Where the assumptions of a label form that stands here do not fit.
abbrev pub assumptions_misfits : Place → List SkeletonStrand → List Form → List Place
assumptions_misfits at strands items =
    values_misfits at (codes "non-orig") (given_non strands) items
    ++ values_misfits at (codes "pen-non-orig") (given_penetrator_non strands) items
    ++ all_uniques_misfits at strands items
