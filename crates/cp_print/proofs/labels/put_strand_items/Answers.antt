use Rattle.std.proofs.Common.{true, List, ℕ, Bool, [], ◌∷◌, ◌++◌, codes, map, ap, ap₂, ◌∙◌}
use Rattle.cp_model.specs.declared.variable.Declaration.{Declaration}
use Rattle.cp_language.specs.Printed.{headed_list}
use Rattle.cp_language.specs.Report.{item_unless_empty, parent_items, operation_words, strand_form}
use Rattle.cp_print.specs.MarkedForms.{vars_by}
use Rattle.cp_print.specs.Named.{named_in}
use Rattle.cp_print.specs.Spelled.{items_text}
use Rattle.cp_print.proofs.SpelledItems.{then_items, one_item, same_text}
use Rattle.cp_print.proofs.labels.put_strand_items.Goals as goal

pub returns : goal.returns
returns c =
    let l = c.args.label.now in
    let vs = c.args.variables.now in
    let parent = parent_items l.parent in
    let by = headed_list (codes "by") (operation_words l.operation) in
    let listed : List (List ℕ) → List Bool → List Declaration → List ℕ = λ ns ms ds. items_text true (item_unless_empty (codes "vars") (vars_by ns ms 0 ds)) in
    let vars = item_unless_empty (codes "vars") (vars_by vs.names.items vs.flags.items 0 vs.declared.items) in
    let strands = map (strand_form (named_in c.args.naming.now)) in
    let put_vars = same_text (ap (λ ns. listed ns c.deref-2.result.now c.deref-3.result.now) c.deref.ensures.value ∙ ap₂ (listed vs.names.items) c.deref-2.ensures.value c.deref-3.ensures.value) c.put_vars.ensures in
    let put_strands = same_text (ap (λ ss. items_text true (strands ss)) c.strands.ensures) c.put_strands.ensures in
    then_items true (parent ++ by ∷ [] ++ vars) (strands l.skeleton.strands) (then_items true (parent ++ by ∷ []) vars (then_items true parent (by ∷ []) c.put_parent.ensures (one_item true by c.put_operation.ensures)) put_vars) put_strands
