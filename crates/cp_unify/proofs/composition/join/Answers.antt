use Rattle.std.proofs.Common.{refl, sym, ◌∙◌}
use Rattle.std.proofs.lemmas.Result.{IfOk-weaker}
use Rattle.cp_lists.proofs.Appended.{none_counted}
use Rattle.cp_unify.proofs.Composed.{joined_before_none, joined_after_none}
use Rattle.cp_unify.proofs.composition.join.Goals as goal

pub returns-then-is_empty : goal.returns-then-is_empty
returns-then-is_empty c =
    IfOk-weaker c.copy.result _ _
    (λ s same. joined_before_none c.args.first.now c.args.second.now s (sym c.bindings.ensures ∙ none_counted c.bindings.result.now _ refl (sym c.is_empty.ensures ∙ c.if-is_empty.true)) same)
    c.copy.ensures

pub returns-then-is_empty-2 : goal.returns-then-is_empty-2
returns-then-is_empty-2 c =
    IfOk-weaker c.copy-then-is_empty-2.result _ _
    (λ s same. joined_after_none c.args.first.now c.args.second.now s (sym c.bindings-2.ensures ∙ none_counted c.bindings-2.result.now _ refl (sym c.is_empty-2.ensures ∙ c.if-is_empty-2.true)) same)
    c.copy-then-is_empty-2.ensures
