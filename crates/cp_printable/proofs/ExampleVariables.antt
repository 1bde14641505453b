-- The labels of the example's tree have their variables.
use Rattle.std.proofs.Common.{◌<◌, List, [], ◌∷◌, length, refl, arith}
use Rattle.std.specs.Prelude.{◌^◌}
use Rattle.cp_lists.specs.Lists.{IsIn, here, there}
use Rattle.cp_lists.proofs.Members.{not_in_none}
use Rattle.cp_model.specs.declared.variable.Variable.{Variable}
use Rattle.cp_model.specs.declared.variable.Declaration.{Declaration}
use Rattle.cp_model.specs.Problem.{IsDeclared}
use Rattle.cp_model.specs.Tree.{Label}
use Rattle.cp_model.specs.PrefixVariables.{prefix_variables}
use Rattle.cp_theory.specs.EncryptionExamples.{locker}
use Rattle.cp_cohort.specs.CoveringChildren.{declarations_among}
use Rattle.cp_tree.specs.Example.{heard_label, sent_label, heard_tree}
use Rattle.cp_language.specs.Report.{occurring, HasItsVariables}
use Rattle.cp_printable.specs.Example.{heard_problem}

abbrev AllDeclared : List Declaration → List Variable → Type 0
AllDeclared ds [] = Unit {0}
AllDeclared ds (x ∷ xs) = IsDeclared ds x × AllDeclared ds xs

each_declared : (ds : List Declaration) (xs : List Variable) → AllDeclared ds xs → (x : Variable) → IsIn x xs → IsDeclared ds x
each_declared ds [] all x i = absurd (not_in_none i)
each_declared ds (y ∷ ys) all x here = all.0
each_declared ds (y ∷ ys) all x (there i) = each_declared ds ys all.1 x i

heard_variables : HasItsVariables heard_problem heard_label
heard_variables = record {
  later = [];
  variables = refl;
  declared = each_declared heard_label.skeleton.variables (occurring heard_label) (refl, (refl, (refl, (refl, (refl, (refl, (refl, (refl, (refl, tt)))))))));
}

sent_variables : HasItsVariables heard_problem sent_label
sent_variables = record {
  later = declarations_among locker (prefix_variables locker 1);
  variables = refl;
  declared = each_declared sent_label.skeleton.variables (occurring sent_label) (refl, (refl, (refl, (refl, (refl, (refl, (refl, (refl, (refl, tt)))))))));
}

pub have_variables : (l : Label) → IsIn l heard_tree.labels → HasItsVariables heard_problem l
have_variables l here = heard_variables
have_variables l (there here) = sent_variables
have_variables l (there (there i)) = absurd (not_in_none i)

pub are_few : (l : Label) → IsIn l heard_tree.labels → length l.skeleton.variables < 2 ^ 64
are_few l here = omega arith
are_few l (there here) = omega arith
are_few l (there (there i)) = absurd (not_in_none i)
