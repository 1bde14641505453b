use Rattle.std.proofs.Common.{◌≡◌, drop, None, option_map}
use Rattle.cp_roles.specs.Above.{protocols_view}
use Rattle.cp_roles.proofs.ProtocolNames.{last_named}
use Rattle.cp_roles.proofs.protocols.protocol_named.Given as goal

abbrev pub invariant-loop-protocol : goal.invariant-loop-protocol
invariant-loop-protocol l =
    last_named (option_map (λ p. p.now.value) l.found) (protocols_view (drop l.protocol-index l.protocols)) l.name ≡ last_named None (protocols_view l.protocols) l.name
