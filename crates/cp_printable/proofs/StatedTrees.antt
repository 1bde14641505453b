-- The tree that a search makes can be stated.
use Rattle.std.proofs.Common.{◌<◌, length}
use Rattle.std.specs.Prelude.{◌^◌}
use Rattle.cp_lists.specs.Lists.{IsIn}
use Rattle.cp_lists.proofs.Items.{at_place}
use Rattle.cp_model.specs.Strand.{Role}
use Rattle.cp_model.specs.PointOfView.{IsPointOfView}
use Rattle.cp_model.specs.Tree.{Label, Tree, IsLabelOf, IsTrueOf}
use Rattle.cp_model.specs.declared.tree.Limits.{Limits}
use Rattle.cp_model.specs.Declares.{DeclaresItsVariables}
use Rattle.cp_tree.specs.Searched.{IsTreeOf}
use Rattle.cp_language.specs.Problems.{Problem}
use Rattle.cp_language.specs.Report.{HasItsVariables}
use Rattle.cp_report.specs.FittingTrees.{TreeFits}
use Rattle.cp_printable.proofs.LabelPatterns.{label_patterns}
use Rattle.cp_printable.proofs.LabelPlaces.{label_placed, label_children}
use Rattle.cp_printable.proofs.ProblemMaps.{maps_all}
use Rattle.cp_printable.proofs.LabelFields.{label_unrealised, label_test, label_escape, label_mark}

module _ (p : Problem) (limits : Limits) (t : Tree) (declares : (role : Role) → IsIn role p.protocol.roles → DeclaresItsVariables role) (own : IsPointOfView p.variables p.skeleton)
    (truth : IsTrueOf p.protocol p.skeleton limits t) (of : IsTreeOf p.protocol p.skeleton p.variables limits t) (variables : (l : Label) → IsIn l t.labels → HasItsVariables p l)
    (few : (l : Label) → IsIn l t.labels → length l.skeleton.variables < 2 ^ 64) where
  pub tree_fits : TreeFits p t
  tree_fits i l at =
      let from = of.from_roots in
      let listed = at_place t.labels i l at in
      let label : IsLabelOf p.protocol p.skeleton l = truth.labels i l at in
      let placed = label_placed p limits of.roots t of.are_roots from i l at in
      record {
        variables = variables l listed;
        few = few l listed;
        stated = label.stated;
        consistent = record {
          skeleton = label.skeleton;
          maps_all = maps_all p l.skeleton own label.from_problem;
          operation = placed.operation;
          parent = placed.parents;
          unrealised = label_unrealised p.protocol p.variables limits of.roots t from i l at;
          test = label_test p.protocol p.variables limits of.roots t from i l at;
          patterns = label_patterns p.protocol declares p.variables p.skeleton limits of.roots t own of.are_roots from (λ j m there. (truth.labels j m there).skeleton) i l at;
          escape = label_escape p.protocol p.variables limits of.roots t from i l at;
          children = label_children p limits of.roots t of.are_roots from i l at;
          mark = label_mark p.protocol p.variables limits of.roots t from i l at;
        };
      }
