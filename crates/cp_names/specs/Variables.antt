-- Variables that the printer meets.
use Rattle.std.specs.Prelude.{List, []}
use Rattle.cp_model.specs.Term.{Term, tag_term, atom_term, pair_term, enc_term, variables_of_atom}
use Rattle.cp_model.specs.declared.variable.Variable.{Variable}

-- The variables of an atom; of a tag there are none, and of any other term it says nothing.
abbrev pub variables_of_leaf : Term → List Variable
variables_of_leaf (tag_term t) = []
variables_of_leaf (atom_term a) = variables_of_atom a
variables_of_leaf (pair_term a b) = []
variables_of_leaf (enc_term a k) = []
