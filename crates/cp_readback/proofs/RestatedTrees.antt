-- Forms without misfits are a report of trees that can be stated: those that they denote, with other names.
use Rattle.std.proofs.Common.{◌≡◌, ◌+◌, ◌<◌, ◌^◌, List, [], ◌∷◌, ◌++◌, length, refl, subst, arith}
use Rattle.std.specs.Prelude.{map}
use Rattle.cp_lists.proofs.Items.{at_place, item_of_map}
use Rattle.cp_lists.proofs.Members.{in_append_left, in_append_right}
use Rattle.cp_model.specs.PointOfView.{IsPointOfView}
use Rattle.cp_model.specs.Problem.{variables_of_strands, variables_of_atoms, variables_of_uniques}
use Rattle.cp_model.specs.Senders.{ArePaired}
use Rattle.cp_model.specs.Skeleton.{Skeleton}
use Rattle.cp_model.specs.Tree.{Label, Tree}
use Rattle.cp_model.proofs.OccurringVariables.{in_atoms, in_uniques}
use Rattle.cp_sexpr.specs.Syntax.{Forms}
use Rattle.cp_language.specs.Faults.{items_of}
use Rattle.cp_language.specs.Problems.{Problem}
use Rattle.cp_language.specs.Input.{Entry}
use Rattle.cp_report.specs.FittingTrees.{FitsIn, TreeFits, problems_in}
use Rattle.cp_report.specs.ReadBack.{sections_of, input_forms, misfits, report_of}
use Rattle.cp_report.specs.UpToNames.{IsSameLabel, IsSameTree, IsSameEntry}
use Rattle.cp_report.proofs.OwnStated.{AreOver}
use Rattle.cp_readback.specs.AcceptedLabels.{HasCompleteLabels, CanBeRestated}
use Rattle.cp_readback.proofs.AcceptedTrees.{IsWellFormed, IsAccepted, problem_well_formed, paired_with, input_faultless, all_accepted}
use Rattle.cp_readback.proofs.ShiftedLabels.{shifted_label, shifted_same, shifted_fits}

-- ---- one tree

-- The variables of what a problem states itself are declared.
own_over : (p : Problem) → IsPointOfView p.variables p.skeleton → AreOver p.variables p.skeleton.from_problem.assumptions
own_over p own = record {
  non = λ v m x i. own.closed x (in_append_right (variables_of_strands k.strands)
      (in_append_left (variables_of_uniques k.assumptions.uniquely_originating) (in_append_left (variables_of_atoms k.assumptions.penetrator_non_originating) (in_atoms k.assumptions.non_originating v x (own.assumed.non v m) i))));
  penetrator_non = λ v m x i. own.closed x (in_append_right (variables_of_strands k.strands)
      (in_append_left (variables_of_uniques k.assumptions.uniquely_originating) (in_append_right (variables_of_atoms k.assumptions.non_originating) (in_atoms k.assumptions.penetrator_non_originating v x (own.assumed.penetrator_non v m) i))));
  unique = λ u m x i. own.closed x (in_append_right (variables_of_strands k.strands)
      (in_append_right (variables_of_atoms k.assumptions.non_originating ++ variables_of_atoms k.assumptions.penetrator_non_originating) (in_uniques k.assumptions.uniquely_originating u x (own.assumed.unique u m) i)));
}
  where
    k : Skeleton
    k = p.skeleton

-- The label behind the problem's variables.
abbrev label_behind : Problem → Label → Label
label_behind p l = shifted_label (length p.variables) p.variables l

-- The tree with the variables of each label behind the problem's.
abbrev tree_behind : Problem → Tree → Tree
tree_behind p t = record { labels = map (label_behind p) t.labels; outcome = t.outcome }

-- It fits, if the labels are complete;
behind_fits : (p : Problem) → IsWellFormed p → (t : Tree) → IsAccepted p t → HasCompleteLabels p t → TreeFits p (tree_behind p t)
behind_fits p well t accepted complete i m at =
    let r = item_of_map (label_behind p) t.labels i m at in
    let c = complete r.0 (at_place t.labels i r.0 r.1) in
    let small : length p.variables + length r.0.skeleton.variables < 2 ^ 64 = c.few in
    subst (λ (l : Label). FitsIn p (map (label_behind p) t.labels) i l) r.2 (shifted_fits p (own_over p well.own) t.labels i r.0 (accepted well (omega (arith, small)) i r.0 r.1) c)

-- and it is the same, label by label,
same_labels : (p : Problem) (ls : List Label) → ArePaired IsSameLabel (map (label_behind p) ls) ls
same_labels p [] = tt
same_labels p (l ∷ ls) = (shifted_same (length p.variables) p.variables l, same_labels p ls)

-- and as a tree.
same_tree : (p : Problem) (t : Tree) → IsSameTree (tree_behind p t) t
same_tree p t = record { labels = same_labels p t.labels; outcome = refl }

-- ---- all trees

-- Trees that fit the problems, and are the same as these.
record Restates (ps : List Problem) (ts : List Tree) : Type 0 where
  trees : List Tree
  fit : ArePaired TreeFits ps trees
  same : ArePaired IsSameTree trees ts

-- For each problem and its tree there is one.
restates : (ps : List Problem) (ts : List Tree) → ArePaired (λ p t. TreeFits p (tree_behind p t)) ps ts → Restates ps ts
restates [] [] h = record { trees = []; fit = tt; same = tt }
restates [] (t ∷ ts) h = absurd h
restates (p ∷ ps) [] h = absurd h
restates (p ∷ ps) (t ∷ ts) h = let r = restates ps ts h.1 in record { trees = tree_behind p t ∷ r.trees; fit = (h.0, r.fit); same = (same_tree p t, r.same) }

-- Entries are the same as themselves.
same_entries : (es : List Entry) → ArePaired IsSameEntry es es
same_entries [] = tt
same_entries (e ∷ es) = (record { form = refl; protocol = refl; problem = refl }, same_entries es)

-- Forms without misfits whose labels are complete.
pub restated : (fs : Forms) → misfits fs ≡ [] → ArePaired HasCompleteLabels (problems_in (report_of fs).entries) (report_of fs).trees → CanBeRestated fs
restated fs none complete =
    let ps = problems_in (report_of fs).entries in
    let ts = (report_of fs).trees in
    let fit = paired_with IsAccepted HasCompleteLabels (λ p t. TreeFits p (tree_behind p t)) ps ts (all_accepted fs none) complete
    (λ p m t a c. behind_fits p (problem_well_formed (input_forms (sections_of (items_of fs)).sections) (input_faultless fs none) p m) t a c) in
    let r = restates ps ts fit in
    record { trees = r.trees; stated = record { well_formed = input_faultless fs none; fit = r.fit }; report = record { fits = none; same = record { entries = same_entries (report_of fs).entries; trees = r.same } } }
