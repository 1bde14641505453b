use Rattle.std.proofs.Common.{◌≡◌, Some, None, map, subst}
use Rattle.cp_lists.specs.Lists.{item_at}
use Rattle.cp_model.specs.RunView.{trace_view}
use Rattle.cp_model.specs.FirstCarriers.{IsFirstCarrying}
use Rattle.cp_lists.proofs.Items.{map_of_read}
use Rattle.cp_model.proofs.FirstCarriers.{not_none}
use Rattle.cp_model.proofs.origin.first_on_strand.Goals as goal

pub returns-in-None : goal.returns-in-None
returns-in-None c = λ carries.
    let there : item_at (map trace_view c.args.strands.now) c.args.node.strand ≡ Some (trace_view c.in-Some.strand.now) =
    map_of_read trace_view c.args.strands.now c.args.node.strand c.in-Some.strand.now c.in-Some.ensures.lookup.3.0 c.in-Some.ensures.lookup.1 in
    let none : IsFirstCarrying c.args.message.now (trace_view c.in-Some.strand.now) None =
    subst (λ es. IsFirstCarrying c.args.message.now es None) c.deref.ensures.value c.in-None.ensures in
    absurd (not_none _ _ _ carries _ there none)
