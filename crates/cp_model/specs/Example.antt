-- An example: a skeleton of one strand that meets the premises of the laws about one sending strand.
use Rattle.std.specs.Prelude.{[], ◌∷◌, None, true, false}
use Rattle.cp_model.specs.Term.{text_sort, name_sort, pubk_term, KeyTerm, asymmetric_term, AtomTerm, text_variable, name_variable, key_term, atom_term, pair_term, enc_term}
use Rattle.cp_model.specs.Strand.{send, Role, Protocol}
use Rattle.cp_model.specs.Bundle.{node_at}
use Rattle.cp_model.specs.Skeleton.{instance, Assumptions, Skeleton}
use Rattle.cp_model.specs.Problem.{variable_terms}

-- The public key of name number 2, and its inverse.
abbrev pub example_key : KeyTerm
example_key = asymmetric_term false (pubk_term None 2)

abbrev pub example_inverse : AtomTerm
example_inverse = key_term (asymmetric_term true (pubk_term None 2))

-- The role "init": with a text n and two names a and b, it sends n and a under the public key of b. The private
-- key of b is non-originating, and n originates uniquely.
abbrev pub example_role : Role
example_role = record {
  name = 105 ∷ 110 ∷ 105 ∷ 116 ∷ [];
  variables = record { identifier = 110 ∷ []; sort = text_sort } ∷ record { identifier = 97 ∷ []; sort = name_sort } ∷ record { identifier = 98 ∷ []; sort = name_sort } ∷ [];
  trace = send (enc_term (pair_term (atom_term (text_variable 0)) (atom_term (name_variable 1))) example_key) ∷ [];
  non_originating = example_inverse ∷ [];
  penetrator_non_originating = [];
  uniquely_originating = text_variable 0 ∷ [];
}

-- The protocol "one" of that role alone.
abbrev pub example_protocol : Protocol
example_protocol = record { name = 111 ∷ 110 ∷ 101 ∷ []; roles = example_role ∷ [] }

abbrev pub example_assumptions : Assumptions
example_assumptions = record {
  non_originating = example_inverse ∷ [];
  penetrator_non_originating = [];
  uniquely_originating = record { value = text_variable 0; origin = node_at 0 0 } ∷ [];
}

-- One instance of the role, whole, as its own problem.
abbrev pub example_skeleton : Skeleton
example_skeleton = record {
  variables = example_role.variables;
  strands = instance example_role 1 [] ∷ [];
  pairs = [];
  assumptions = example_assumptions;
  from_problem = record { strands = 0 ∷ []; values = variable_terms 0 example_role.variables; assumptions = example_assumptions; pairs = [] };
}
