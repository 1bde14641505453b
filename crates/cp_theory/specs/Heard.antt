-- An example: a skeleton with a reception that meets the premises of the law.
use Rattle.std.specs.Prelude.{[], ◌∷◌}
use Rattle.cp_model.specs.Term.{text_variable, name_variable, Term, atom_term, pair_term, enc_term}
use Rattle.cp_model.specs.Bundle.{node_at}
use Rattle.cp_model.specs.Skeleton.{instance, listener, Skeleton}
use Rattle.cp_model.specs.declared.node.OrderPair.{OrderPair}
use Rattle.cp_model.specs.Problem.{variable_terms}
use Rattle.cp_model.specs.Example.{example_key, example_role, example_assumptions}

-- The message of the role "init".
abbrev pub heard_term : Term
heard_term = enc_term (pair_term (atom_term (text_variable 0)) (atom_term (name_variable 1))) example_key

abbrev pub heard_pair : OrderPair
heard_pair = record { earlier = node_at 0 0; later = node_at 1 0 }

-- An instance of the role, and a listener that hears its message after it was sent.
abbrev pub heard_skeleton : Skeleton
heard_skeleton = record {
  variables = example_role.variables;
  strands = instance example_role 1 [] ∷ listener heard_term ∷ [];
  pairs = heard_pair ∷ [];
  assumptions = example_assumptions;
  from_problem = record { strands = 0 ∷ []; values = variable_terms 0 example_role.variables; assumptions = example_assumptions; pairs = [] };
}
