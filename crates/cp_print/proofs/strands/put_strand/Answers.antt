use Rattle.std.proofs.Common.{◌≡◌, true, ap}
use Rattle.cp_language.specs.Report.{strand_form}
use Rattle.cp_model.specs.Skeleton.{listener}
use Rattle.cp_strand.specs.View.{instance_view}
use Rattle.cp_print.specs.Named.{named_in}
use Rattle.cp_print.specs.Spelled.{item_text}
use Rattle.cp_print.proofs.SpelledItems.{same_text}
use Rattle.cp_print.proofs.strands.put_strand.Goals as goal

pub returns-in-Instance : goal.returns-in-Instance
returns-in-Instance c =
    let e : instance_view c.in-Instance.instance.now ≡ c.args.strand.now = c.in-Instance.ensures in
    same_text (ap (λ s. item_text true (strand_form (named_in c.args.naming.now) s)) e) c.put_instance.ensures

pub returns-in-Listener : goal.returns-in-Listener
returns-in-Listener c =
    let e : listener c.in-Listener.message.now ≡ c.args.strand.now = c.in-Listener.ensures in
    same_text (ap (λ s. item_text true (strand_form (named_in c.args.naming.now) s)) e) c.put_listener.ensures
