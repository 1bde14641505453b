use Rattle.std.proofs.Common.{ap, ◌∙◌}
use Rattle.cp_base.specs.declared.place.Code.TheVariants.{BadShape}
use Rattle.cp_sexpr.specs.View.{view}
use Rattle.cp_language.specs.Faults.{fault, place_of}
use Rattle.cp_language.specs.Terms.{term_faults}
use Rattle.cp_scope.specs.FirstFault.{first_onto}
use Rattle.cp_scope.proofs.Firsts.{first_then_three}
use Rattle.cp_roles.proofs.EventFaults.{three_messages}
use Rattle.cp_roles.proofs.events.message_faults.Goals as goal

pub returns-in-len3-up : goal.returns-in-len3-up
returns-in-len3-up c =
    let ds = c.args.variables.now in
    let o = c.args.first.now in
    let p = c.term_faults-in-len3-up.new.first in
    let q = c.term_faults-in-len3-up-2.new.first in
    first_then_three o p q c.note-in-len3-up.new.self
    (term_faults ds (view c.channel-item.result)) (term_faults ds (view c.message-item-2.result)) (fault (place_of (view c.more-item.result)) BadShape)
    c.term_faults-in-len3-up.ensures c.term_faults-in-len3-up-2.ensures (c.note-in-len3-up.ensures ∙ ap (λ at. first_onto q (fault at BadShape)) c.place_of.ensures)
    ∙ ap (first_onto o) (three_messages ds c.args.place c.args.items.now c.channel-item.result c.message-item-2.result c.more-item.result c.in-len3-up.len_at_least c.channel-item.is c.message-item-2.is c.more-item.is)
