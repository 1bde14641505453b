use Rattle.std.proofs.Common.{map, sym, ap, ◌∙◌}
use Rattle.cp_base.specs.declared.place.Code.TheVariants.{BadShape}
use Rattle.cp_sexpr.specs.View.{view}
use Rattle.cp_language.specs.Faults.{fault}
use Rattle.cp_scope.specs.FirstFault.{first_onto}
use Rattle.cp_scope.proofs.Items.{exceeds-fault, exceeds-none}
use Rattle.cp_scope.proofs.faults.exceeds.Goals as goal

pub returns-in-Some : goal.returns-in-Some
returns-in-Some c =
    c.note.ensures ∙ ap (λ at. first_onto c.args.first.now (fault at BadShape)) c.place_of.ensures
    ∙ ap (first_onto c.args.first.now) (sym (exceeds-fault c.args.count (map view c.args.items.now) (view c.in-Some.item.now) c.in-Some.ensures))

pub returns-in_default : goal.returns-in_default
returns-in_default c =
    sym (ap (first_onto c.args.first.now) (exceeds-none c.args.count (map view c.args.items.now) c.in_default.ensures))
