-- An example: two strands of one role with different variables, and the skeleton that identifying them gives.
use Rattle.std.specs.Prelude.{List, [], ◌∷◌, ◌==◌, if◌then◌else◌}
use Rattle.cp_model.specs.Term.{text_variable, atom_term, Substitution}
use Rattle.cp_model.specs.Bindings.{Binding, bindings_of}
use Rattle.cp_model.specs.Identity.{unchanged}
use Rattle.cp_model.specs.Skeleton.{instance, Assumptions, FromProblem, Skeleton}
use Rattle.cp_model.specs.Problem.{variable_terms}
use Rattle.cp_theory.specs.Normal.{from_problem_under}
use Rattle.cp_theory.specs.RepeatedText.{said, heard_declaration, repeater}

abbrev pub no_assumptions : Assumptions
no_assumptions = record { non_originating = []; penetrator_non_originating = []; uniquely_originating = [] }

-- The second repeater's variables have numbers from 2 on.
abbrev pub other_texts : List Binding
other_texts = bindings_of (variable_terms 2 repeater.variables)

-- Its variables, where both heard one text.
abbrev pub one_heard : List Binding
one_heard = bindings_of (atom_term (text_variable 2) ∷ atom_term (text_variable 1) ∷ [])

-- A repeater who has heard a text, and one who has also said a text.
abbrev pub two_repeaters : Skeleton
two_repeaters = record {
  variables = said ∷ heard_declaration ∷ said ∷ heard_declaration ∷ [];
  strands = instance repeater 1 [] ∷ instance repeater 2 other_texts ∷ [];
  pairs = [];
  assumptions = no_assumptions;
  from_problem = record { strands = 0 ∷ 1 ∷ []; values = variable_terms 0 (said ∷ heard_declaration ∷ said ∷ heard_declaration ∷ []); assumptions = no_assumptions; pairs = [] };
}

-- Both heard one text.
abbrev pub same_heard : Substitution
same_heard = record unchanged { texts = λ n. if n == 3 then 1 else n }

-- A way from the problem both of whose strands go to one.
abbrev pub to_one_strand : FromProblem → FromProblem
to_one_strand f = record { strands = 0 ∷ 0 ∷ []; values = f.values; assumptions = f.assumptions; pairs = f.pairs }

-- They are one, at the first's place, and as far as the second.
abbrev pub one_repeater : Skeleton
one_repeater = record {
  variables = two_repeaters.variables;
  strands = instance repeater 2 one_heard ∷ [];
  pairs = [];
  assumptions = no_assumptions;
  from_problem = to_one_strand (from_problem_under same_heard two_repeaters.from_problem);
}
