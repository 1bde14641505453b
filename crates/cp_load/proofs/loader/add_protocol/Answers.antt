use Rattle.std.proofs.Common.{map, sym, ap, ◌∙◌}
use Rattle.cp_sexpr.specs.View.{view}
use Rattle.cp_language.specs.Roles.{protocol_faults}
use Rattle.cp_roles.specs.Above.{protocols_view}
use Rattle.cp_scope.specs.FirstFault.{first_onto}
use Rattle.cp_roles.proofs.ProtocolNames.{names_more}
use Rattle.cp_load.proofs.TopForms.{faults-turned}
use Rattle.cp_load.proofs.loader.add_protocol.Goals as goal

pub returns-clause-faults : goal.returns-clause-faults
returns-clause-faults c =
    c.in_ok-protocol.ensures.faults
    ∙ ap (λ ns. first_onto c.args.first.now (protocol_faults ns c.args.place (map view c.args.items.now))) c.requires
    ∙ ap (first_onto c.args.first.now) (faults-turned (protocols_view c.args.above.now.items) c.args.place (map view c.args.items.now))

pub returns-clause-names : goal.returns-clause-names
returns-clause-names c =
    names_more (λ p. p.value) c.args.above.now.items c.push-2.new.self.items c.in_ok-protocol-2.protocol c.args.names.now c.push.new.self _ c.requires c.in_ok-push.ensures
    (c.in_ok-name.ensures ∙ c.as_str.ensures ∙ c.name.ensures ∙ sym (ap (λ p. p.name) c.in_ok-protocol-2.ensures.ok)) c.in_ok-push-2.ensures.items
