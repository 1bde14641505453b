use Rattle.std.proofs.Common.{[], sym, ap, ◌∙◌, option_map}
use Rattle.std.proofs.lemmas.List.{drop_all}
use Rattle.cp_roles.specs.Above.{protocols_view}
use Rattle.cp_roles.proofs.ProtocolNames.{last_named, named-turned}
use Rattle.cp_roles.proofs.protocols.protocol_named.Goals as goal

pub returns : goal.returns
returns c =
    let found = option_map (λ p. p.now.value) c.loop-protocol.found in
    ap (λ ps. last_named found (protocols_view ps) c.args.name.now) (sym (drop_all c.loop-protocol.protocol-index c.args.protocols.now c.loop-protocol-test.false))
    ∙ c.loop-protocol.invariant ∙ named-turned (protocols_view c.args.protocols.now) [] c.args.name.now
