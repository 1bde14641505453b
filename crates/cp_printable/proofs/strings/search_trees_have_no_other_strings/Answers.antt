use Rattle.cp_lists.specs.Lists.{IsIn}
use Rattle.cp_lists.proofs.Members.{in_or_not}
use Rattle.cp_lists.proofs.SameLists.{text_or_other}
use Rattle.cp_printable.proofs.Labels.{labels_spelled}
use Rattle.cp_printable.proofs.strings.search_trees_have_no_other_strings.Goals as goal

pub returns : goal.returns
returns c protocol k variables limits t strings identifiers declares roles declared spelled own sk of =
    labels_spelled (λ s. IsIn s strings) (λ s. IsIn s identifiers) (in_or_not text_or_other strings) protocol declares roles k variables limits t sk own spelled declared of
