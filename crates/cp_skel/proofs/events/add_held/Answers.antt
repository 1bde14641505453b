use Rattle.std.proofs.Common.{ℕ, ◌++◌, List, map, ap, ◌∙◌, rules, tests}
use Rattle.std.proofs.lemmas.Result.{on_ok_weaker}
use Rattle.std.proofs.lemmas.Iterator.{YieldsList-from_map, YieldsList-from_slice}
use Rattle.std.proofs.lemmas.Iterator.Adapters.{items_from_extend}
use Rattle.std.proofs.lemmas.Iterator.Consumers.{YieldsList-from_enumerate}
use Rattle.std.specs.List.{enumerate_from}
use Rattle.cp_model.specs.Term.{Term}
use Rattle.cp_model.specs.Bundle.{node_at}
use Rattle.cp_model.specs.declared.strand.Event.{Event}
use Rattle.cp_skel.specs.Events.{LocatedEvent}
use Rattle.cp_skel.proofs.NumberedEvents.{numbered}
use Rattle.cp_skel.proofs.events.add_held.Goals as goal

pub returns : goal.returns
returns c =
    let h : ℕ × Event Term → LocatedEvent = λ p. record { node = node_at c.args.number p.0; event = p.1; by_role = c.args.by_role } in
    on_ok_weaker c.extend.result (λ gives. gives.0 ∙ ap (λ (os : List LocatedEvent). c.args.occurrences.now.items ++ os) (numbered c.args.number 0 c.args.by_role c.args.events.now))
    (items_from_extend {all = map h (enumerate_from 0 c.args.events.now)} c.extend.result c.extend.ensures.ran
    (YieldsList-from_map _ h (YieldsList-from_enumerate (YieldsList-from_slice c.args.events.now (cc)) (cc)) c.map.ensures.closure (λ x r q k. search (rules, tests))))
