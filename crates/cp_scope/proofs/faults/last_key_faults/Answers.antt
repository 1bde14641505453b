use Rattle.std.proofs.Common.{map, sym, ap, ◌∙◌}
use Rattle.cp_base.specs.declared.place.Code.TheVariants.{KeySort}
use Rattle.cp_sexpr.specs.View.{view}
use Rattle.cp_language.specs.Faults.{fault_unless, place_of}
use Rattle.cp_scope.specs.FirstFault.{first_onto}
use Rattle.cp_scope.proofs.Items.{last_key-fault, last_key-none}
use Rattle.cp_scope.proofs.faults.last_key_faults.Goals as goal

pub returns-in-Some : goal.returns-in-Some
returns-in-Some c =
    c.note_unless.ensures ∙ ap (λ at. first_onto c.args.first.now (fault_unless c.has_key_sort.result at KeySort)) c.place_of.ensures
    ∙ ap (λ b. first_onto c.args.first.now (fault_unless b (place_of (view c.in-Some.item.now)) KeySort)) c.has_key_sort.ensures
    ∙ ap (first_onto c.args.first.now) (sym (last_key-fault c.args.variables.now (map view c.args.items.now) (view c.in-Some.item.now) c.in-Some.ensures))

pub returns-in_default : goal.returns-in_default
returns-in_default c =
    sym (ap (first_onto c.args.first.now) (last_key-none c.args.variables.now (map view c.args.items.now) c.in_default.ensures))
