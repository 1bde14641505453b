use Rattle.cp_collapse.proofs.StatedCollapse.{collapse_keeps}
use Rattle.cp_collapse.proofs.collapse_laws.collapses_keep_what_is_stated.Goals as goal

pub returns : goal.returns
returns c = collapse_keeps
