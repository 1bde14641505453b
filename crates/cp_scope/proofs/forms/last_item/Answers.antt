use Rattle.std.proofs.Common.{map, sym, ap, ◌∙◌}
use Rattle.cp_sexpr.specs.View.{view}
use Rattle.cp_language.specs.Roles.{last_form}
use Rattle.cp_scope.proofs.Items.{last-of}
use Rattle.cp_scope.proofs.forms.last_item.Goals as goal

pub returns-in-Some : goal.returns-in-Some
returns-in-Some c =
    sym (ap (λ fs. last_form (map view fs)) c.in-Some.ensures.cases.0 ∙ last-of c.in-Some.field-0-1.now c.in-Some.last.now)
