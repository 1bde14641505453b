-- What the roles of strands give to a skeleton's assumptions, and lists in which each item stands once.
use Rattle.std.specs.Prelude.{◌&&◌, ◌||◌, nat_lt, ℕ, suc, List, [], ◌∷◌, ◌++◌, Bool, false, if◌then◌else◌, Option, Some, None}
use Rattle.std.specs.List.{filter}
use Rattle.cp_model.specs.Term.{AtomTerm, atom_term, variables_of_atom, apply_to_atom}
use Rattle.cp_model.specs.Bindings.{Binding, as_substitution}
use Rattle.cp_model.specs.Strand.{Role, variables_of_prefix}
use Rattle.cp_model.specs.Bundle.{node_at}
use Rattle.cp_model.specs.Skeleton.{SkeletonStrand, instance, listener, UniqueAt, Assumptions, Skeleton}
use Rattle.cp_model.specs.Same.{same_atom, same_node, origin_in, has_variables}

-- The value is one of these.
abbrev pub has_atom : List AtomTerm → AtomTerm → Bool
has_atom [] v = false
has_atom (w ∷ ws) v = same_atom w v || has_atom ws v

-- Behind the values that stand before, those of the list that did not stand yet, each once.
abbrev pub atoms_onto : List AtomTerm → List AtomTerm → List AtomTerm
atoms_onto before [] = before
atoms_onto before (v ∷ vs) = atoms_onto (if has_atom before v then before else before ++ v ∷ []) vs

-- The unique value with its origin is one of these.
abbrev pub has_unique : List UniqueAt → UniqueAt → Bool
has_unique [] u = false
has_unique (w ∷ ws) u = (same_atom w.value u.value && same_node w.origin u.origin) || has_unique ws u

-- Behind the unique values that stand before, those of the list that did not stand yet, each once.
abbrev pub uniques_onto : List UniqueAt → List UniqueAt → List UniqueAt
uniques_onto before [] = before
uniques_onto before (u ∷ us) = uniques_onto (if has_unique before u then before else before ++ u ∷ []) us

-- The values of a role's assumptions that apply to an instance.
abbrev pub applying : Role → ℕ → List Binding → List AtomTerm → List AtomTerm
applying role height terms [] = []
applying role height terms (v ∷ vs) =
    if has_variables (variables_of_prefix role height) (variables_of_atom v) then apply_to_atom (as_substitution terms) v ∷ applying role height terms vs else applying role height terms vs

-- The value on strand s with this origin, if there is one and the strand is high enough to have it.
abbrev pub unique_if_below : ℕ → ℕ → AtomTerm → Option ℕ → List UniqueAt
unique_if_below height s v None = []
unique_if_below height s v (Some i) = if nat_lt i height then record { value = v; origin = node_at s i } ∷ [] else []

-- The values of a role's unique assumptions that apply to the instance on strand s, with their origins.
abbrev pub applying_uniques : Role → ℕ → List Binding → ℕ → List AtomTerm → List UniqueAt
applying_uniques role height terms s [] = []
applying_uniques role height terms s (v ∷ vs) =
    unique_if_below height s (apply_to_atom (as_substitution terms) v) (origin_in role.trace (atom_term v)) ++ applying_uniques role height terms s vs

-- The non-originating values that the strands' roles give, in the order of the strands.
abbrev pub given_non : List SkeletonStrand → List AtomTerm
given_non [] = []
given_non (listener t ∷ ks) = given_non ks
given_non (instance role height terms ∷ ks) = applying role height terms role.non_originating ++ given_non ks

-- The values that the strands' roles give as ones that the penetrator does not originate, in the order of the strands.
abbrev pub given_penetrator_non : List SkeletonStrand → List AtomTerm
given_penetrator_non [] = []
given_penetrator_non (listener t ∷ ks) = given_penetrator_non ks
given_penetrator_non (instance role height terms ∷ ks) = applying role height terms role.penetrator_non_originating ++ given_penetrator_non ks

-- The unique values that the strands' roles give, in the order of the strands, of which the first has number s.
abbrev pub given_uniques : ℕ → List SkeletonStrand → List UniqueAt
given_uniques s [] = []
given_uniques s (listener t ∷ ks) = given_uniques (suc s) ks
given_uniques s (instance role height terms ∷ ks) = applying_uniques role height terms s role.uniquely_originating ++ given_uniques (suc s) ks

-- First the problem's own assumptions, and then those of the strands, each once.
abbrev pub with_given : List SkeletonStrand → Assumptions → Assumptions
with_given strands own = record {
  non_originating = atoms_onto own.non_originating (given_non strands);
  penetrator_non_originating = atoms_onto own.penetrator_non_originating (given_penetrator_non strands);
  uniquely_originating = uniques_onto own.uniquely_originating (given_uniques 0 strands);
}

-- Of these values those that are in the old list, each once: first the problem's own, then those that the strands give,
-- and then the rest.
abbrev pub listed_atoms : List AtomTerm → List AtomTerm → List AtomTerm → List AtomTerm
listed_atoms own given old = atoms_onto [] (filter (has_atom old) (own ++ given) ++ old)

-- The same of unique values with their origins.
abbrev pub listed_uniques : List UniqueAt → List UniqueAt → List UniqueAt → List UniqueAt
listed_uniques own given old = uniques_onto [] (filter (has_unique old) (own ++ given) ++ old)

-- The assumptions of a skeleton in the order in which a report lists them.
abbrev pub listed : Skeleton → Assumptions
listed k = record {
  non_originating = listed_atoms k.from_problem.assumptions.non_originating (given_non k.strands) k.assumptions.non_originating;
  penetrator_non_originating =
      listed_atoms k.from_problem.assumptions.penetrator_non_originating (given_penetrator_non k.strands) k.assumptions.penetrator_non_originating;
  uniquely_originating = listed_uniques k.from_problem.assumptions.uniquely_originating (given_uniques 0 k.strands) k.assumptions.uniquely_originating;
}
