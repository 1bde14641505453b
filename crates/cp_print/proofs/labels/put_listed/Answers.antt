use Rattle.std.proofs.Common.{rules, ◌∙◌, true, IsTrue, List, ℕ, ◌++◌, codes, map, sym, ap}
use Rattle.cp_language.specs.Printed.{atom_form}
use Rattle.cp_language.specs.Report.{named_by, item_unless_empty, unique_form}
use Rattle.cp_model.specs.Skeleton.{Assumptions}
use Rattle.cp_print.specs.Spelled.{items_text}
use Rattle.cp_print.proofs.SpelledItems.{same_text, failed}
use Rattle.cp_print.proofs.labels.put_listed.Goals as goal

-- the text of these assumptions
abbrev assumptions_text : List (List ℕ) → Assumptions → List ℕ
assumptions_text names a =
    let atom = atom_form (named_by names) in
    items_text true (item_unless_empty (codes "non-orig") (map atom a.non_originating)
    ++ item_unless_empty (codes "pen-non-orig") (map atom a.penetrator_non_originating)
    ++ item_unless_empty (codes "uniq-orig") (map (unique_form (named_by names)) a.uniquely_originating))

pub returns-then-is_listed : goal.returns-then-is_listed
returns-then-is_listed c =
    let listed : IsTrue c.is_listed.result = search rules in
    same_text (ap (assumptions_text c.args.names.now) (c.assumptions.ensures ∙ sym (c.is_listed.ensures listed))) c.put_assumptions.ensures

pub returns-in-Ok : goal.returns-in-Ok
returns-in-Ok c = same_text (ap (assumptions_text c.args.names.now) c.in-Ok.ensures) c.put_assumptions-in-Ok.ensures

pub returns-in-Err : goal.returns-in-Err
returns-in-Err c = failed _ c.fail.ensures
