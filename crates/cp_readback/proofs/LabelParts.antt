-- What a label form denotes, part by part.
use Rattle.std.proofs.Common.{◌≡◌, List, [], ◌∷◌, false, drop, map, ap, ◌∙◌}
use Rattle.std.specs.Prelude.{Some, codes}
use Rattle.cp_model.specs.declared.variable.Declaration.{Declaration}
use Rattle.cp_model.specs.Tree.{Label}
use Rattle.cp_model.specs.declared.variable.Variable.{Variable}
use Rattle.cp_sexpr.specs.Syntax.{Form}
use Rattle.cp_language.specs.Problems.{option_node, number_of, Problem}
use Rattle.cp_report.specs.Heads.{entries_under, item_with, mark_heads}
use Rattle.cp_report.specs.Spelled.{Scope, pattern_of}
use Rattle.cp_report.specs.Skeletons.{declarations_of_label, scope_of, node_or_first, skeleton_stated}
use Rattle.cp_report.specs.Labels.{number_in_front, operation_by, word_of_label, test_of, label_by}
use Rattle.cp_readback.specs.Parts.{mark_of_item}

-- The scope of the variables that items declare, without locals.
pub scope-is : (items : List Form) (ds : List Declaration) (ls : List Variable) → ds ≡ declarations_of_label items → ls ≡ []
    → (let s : Scope = record { variables = ds; in_pattern = false; locals = ls } in s) ≡ scope_of items
scope-is items ds ls declared none = λ i. record { variables = declared i; in_pattern = false; locals = none i }

-- A label with the parts that items state is the label that they denote.
pub label-is : (p : Problem) (items all : List Form) (l : Label) → items ≡ all
    → l.parent ≡ number_in_front (entries_under (codes "parent") items)
    → l.operation ≡ operation_by (word_of_label items) (drop 1 (entries_under (codes "by") items))
    → l.skeleton ≡ skeleton_stated p items
    → l.unrealised ≡ map (λ f. node_or_first (option_node (Some f))) (entries_under (codes "unrealised") items)
    → l.test ≡ test_of (scope_of items) (item_with (codes "test" ∷ []) items)
    → l.escape ≡ map (pattern_of (declarations_of_label items)) (entries_under (codes "escape") items)
    → l.children ≡ map number_of (entries_under (codes "children") items) → l.mark ≡ mark_of_item (item_with mark_heads items)
    → l ≡ label_by p all
label-is p items all l same parent operation skeleton unrealised test escape children mark =
    let is : l ≡ label_by p items =
    λ i. record { parent = parent i; operation = operation i; skeleton = skeleton i; unrealised = unrealised i; test = test i; escape = escape i; children = children i; mark = mark i } in
    is ∙ ap (label_by p) same
