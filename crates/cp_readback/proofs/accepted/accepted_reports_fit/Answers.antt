use Rattle.cp_readback.proofs.AcceptedTrees.{labels_accepted, trees_fit, stated_again, printed_again}
use Rattle.cp_readback.proofs.accepted.accepted_reports_fit.Goals as goal

pub returns : goal.returns
returns c = record { accepted = labels_accepted; fits = trees_fit; stated = stated_again; printed = λ fs gs none whole same. printed_again fs none whole gs same }
