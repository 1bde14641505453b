use Rattle.std.proofs.Common.{sym, ap, subst, ◌∙◌, Some}
use Rattle.cp_model.proofs.CarriedParts.{not_both}
use Rattle.cp_model.specs.Skeleton.{Before}
use Rattle.cp_general.specs.Needed.{loses}
use Rattle.cp_general.proofs.NeededParts.{what_is_sent, nothing_sent}
use Rattle.cp_general.proofs.needed.sent_apart.Goals as goal

pub returns-then-not-is_by_role : goal.returns-then-not-is_by_role
returns-then-not-is_by_role c = λ t s. absurd (not_both (sym c.is_by_role.ensures ∙ c.if-not-is_by_role.true) s.sends.by_role)

pub returns-then-loses : goal.returns-then-loses
returns-then-loses c = λ t s. absurd (not_both s.apart (sym (ap (loses c.args.part) c.node-node.ensures) ∙ sym c.loses.ensures ∙ c.if-loses.true))

pub returns-then-not-has : goal.returns-then-not-has
returns-then-not-has c = λ t s. absurd (not_both c.if-not-has.true (c.has.ensures.1 (subst (λ n. Before c.args.preceding.now.skeleton n c.args.preceding.now.node) (sym c.node-node.ensures) s.sends.before)))

pub returns-in-Send : goal.returns-in-Send
returns-in-Send c = λ t s. ap Some (what_is_sent c.args.located.now.event _ t (sym c.event.ensures ∙ c.in-Send.is) s.sends.sends)

pub returns-in-Receive : goal.returns-in-Receive
returns-in-Receive c = λ t s. absurd (nothing_sent c.args.located.now.event _ t (sym c.event.ensures ∙ c.in-Receive.is) s.sends.sends)
