use Rattle.std.proofs.Common.{map, option_map}
use Rattle.cp_sexpr.specs.View.{view}
use Rattle.cp_roles.specs.Mapped.{mapped_names}
use Rattle.cp_roles.proofs.Maplets.{maplet-read}
use Rattle.cp_roles.proofs.faults.maplet_items_faults.Goals as goal

pub returns : goal.returns
returns c =
    maplet-read c.args.role.now c.args.height c.args.variables.now (mapped_names (map view c.args.before.now)) c.args.place c.args.items.now c.in-Some.rest.now c.in-Some.form.now
    (option_map (λ f. view f.now) c.item_at-term.result) c.args.first.now c.lacks.new.first c.mapped_faults.new.first c.second_term_faults.new.first c.exceeds.new.first
    c.in-Some.ensures.cases.0 c.item_at-term.ensures c.lacks.ensures c.mapped_faults.ensures c.second_term_faults.ensures c.exceeds.ensures
