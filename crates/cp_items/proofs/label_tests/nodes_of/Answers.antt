use Rattle.std.proofs.Common.{rules}
use Rattle.std.specs.Prelude.{Some}
use Rattle.cp_sexpr.specs.Syntax.{Form}
use Rattle.cp_sexpr.specs.View.{view}
use Rattle.cp_language.specs.Problems.{option_node}
use Rattle.cp_report.specs.Skeletons.{node_or_first}
use Rattle.cp_lists.proofs.Collected.{all_from_slice}
use Rattle.cp_items.proofs.label_tests.nodes_of.Goals as goal

pub returns : goal.returns
returns c =
    all_from_slice c.map.result (λ (f : Form). node_or_first (option_node (Some f))) view c.args.items.now c.collect.result c.collect.ensures.ran (search rules) c.map.ensures.closure (λ x y q k. search rules)
