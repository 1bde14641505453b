-- The roles that are read declare the variables of their events.
use Rattle.std.proofs.Common.{◌≡◌, List, [], ◌∷◌, subst}
use Rattle.cp_lists.specs.Lists.{IsIn}
use Rattle.cp_model.specs.Term.{Term}
use Rattle.cp_model.specs.declared.variable.Variable.{Variable}
use Rattle.cp_model.specs.Strand.{Role, variables_of_trace}
use Rattle.cp_model.specs.declared.strand.Event.{Event}
use Rattle.cp_model.specs.declared.variable.Declaration.{Declaration}
use Rattle.cp_model.specs.Problem.{IsDeclared}
use Rattle.cp_sexpr.specs.Syntax.{Form}
use Rattle.cp_language.specs.Roles.{events_stated, roles_in}
use Rattle.cp_model.specs.Declares.{DeclaresItsVariables}
use Rattle.cp_language.proofs.Roles.{trace_declared, roles_declare}

-- no events have no variables
pub no_events : (ds : List Declaration) (es : List (Event Term)) → es ≡ [] → (x : Variable) → IsIn x (variables_of_trace es) → IsDeclared ds x
no_events ds [] e x i = elim i [ ]
no_events ds (f ∷ es) e x i = absurd (cc)

pub events_read : (ds : List Declaration) (es : List (Event Term)) (f : Form) → es ≡ events_stated ds f → (x : Variable) → IsIn x (variables_of_trace es) → IsDeclared ds x
events_read ds es f e x i = trace_declared ds f x (subst (λ (gs : List (Event Term)). IsIn x (variables_of_trace gs)) e i)

pub no_roles : (rs : List Role) → rs ≡ [] → (role : Role) → IsIn role rs → DeclaresItsVariables role
no_roles [] e role i = elim i [ ]
no_roles (r ∷ rs) e role i = absurd (cc)

pub roles_read : (rs : List Role) (fs : List Form) → rs ≡ roles_in fs → (role : Role) → IsIn role rs → DeclaresItsVariables role
roles_read rs fs e role i = roles_declare fs role (subst (λ (qs : List Role). IsIn role qs) e i)
