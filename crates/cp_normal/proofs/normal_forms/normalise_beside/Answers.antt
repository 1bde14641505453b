use Rattle.std.proofs.Common.{List, subst}
use Rattle.cp_unify.specs.Bindings.{Binding}
use Rattle.cp_normal.specs.Formed.{AreFormsBeside}
use Rattle.cp_normal.proofs.normal_forms.normalise_beside.Goals as goal

pub returns : goal.returns
returns c = record { forms = subst (λ (bs : List Binding). AreFormsBeside c.args.k bs c.in_ok-found.found.forms.items) c.in_ok-substitution.ensures c.in_ok-found.ensures.forms }
