-- The variables that occur in skeletons, and those that are declared.
use Rattle.std.specs.Prelude.{◌≡◌, ℕ, suc, List, [], ◌∷◌, ◌++◌, Option, Some, None}
use Rattle.cp_lists.specs.Lists.{item_at}
use Rattle.cp_model.specs.Term.{Sort, Variable, AtomTerm, variable_term, Term, variables_of_atom, variables_of}
use Rattle.cp_model.specs.Strand.{Declaration, variables_of_trace}
use Rattle.cp_model.specs.Skeleton.{SkeletonStrand, skeleton_trace, UniqueAt, Assumptions, Skeleton}

-- The variables that occur in strands, in values of atom sorts, in terms, and in unique values.
abbrev pub variables_of_strands : List SkeletonStrand → List Variable
variables_of_strands [] = []
variables_of_strands (s ∷ ss) = variables_of_trace (skeleton_trace s) ++ variables_of_strands ss

abbrev pub variables_of_atoms : List AtomTerm → List Variable
variables_of_atoms [] = []
variables_of_atoms (v ∷ vs) = variables_of_atom v ++ variables_of_atoms vs

abbrev pub variables_of_terms : List Term → List Variable
variables_of_terms [] = []
variables_of_terms (t ∷ ts) = variables_of t ++ variables_of_terms ts

abbrev pub variables_of_uniques : List UniqueAt → List Variable
variables_of_uniques [] = []
variables_of_uniques (u ∷ us) = variables_of_atom u.value ++ variables_of_uniques us

abbrev pub variables_of_assumptions : Assumptions → List Variable
variables_of_assumptions a = variables_of_atoms a.non_originating ++ variables_of_atoms a.penetrator_non_originating ++ variables_of_uniques a.uniquely_originating

-- The variables that occur in the strands and the assumptions of a skeleton.
abbrev pub variables_of_skeleton : Skeleton → List Variable
variables_of_skeleton k = variables_of_strands k.strands ++ variables_of_assumptions k.assumptions

-- The numbers from n on, as many as the list has items.
abbrev pub numbers_from : {A : Type 0} → ℕ → List A → List ℕ
numbers_from n [] = []
numbers_from n (x ∷ xs) = n ∷ numbers_from (suc n) xs

-- The declared variables as terms, the first of them having number n.
abbrev pub variable_terms : ℕ → List Declaration → List Term
variable_terms n [] = []
variable_terms n (d ∷ ds) = variable_term (record { sort = d.sort; number = n }) ∷ variable_terms (suc n) ds

abbrev pub declared_sort : Option Declaration → Option Sort
declared_sort None = None
declared_sort (Some d) = Some d.sort

-- A variable is the one declared at its number.
abbrev pub IsDeclared : List Declaration → Variable → Type 0
IsDeclared ds x = declared_sort (item_at ds x.number) ≡ Some x.sort
