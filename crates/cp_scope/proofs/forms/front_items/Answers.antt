use Rattle.std.proofs.Common.{map, sym, ap, ◌∙◌}
use Rattle.cp_sexpr.specs.View.{view}
use Rattle.cp_language.specs.Roles.{front_of}
use Rattle.cp_scope.proofs.Items.{front-of}
use Rattle.cp_scope.proofs.forms.front_items.Goals as goal

pub returns-in-Some : goal.returns-in-Some
returns-in-Some c =
    sym (ap (λ fs. front_of (map view fs)) c.in-Some.ensures.cases.0 ∙ front-of c.in-Some.front.now c.in-Some.field-0-0.now)
