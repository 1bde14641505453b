use Rattle.std.proofs.Common.{ap, ◌∙◌}
use Rattle.std.proofs.lemmas.Result.{IfOk-weaker}
use Rattle.cp_search.specs.declared.expanded.Expanded.{Expanded}
use Rattle.cp_search.proofs.label_search.expand_to.Goals as goal

pub returns-clause-made : goal.returns-clause-made
returns-clause-made c =
    IfOk-weaker c.of-3.result _ _
    (λ b e. (
      c.in_ok-children.ensures.made,
      ap (λ (x : Expanded). x.children) e ∙ c.of-2.ensures ∙ c.in_ok-children.ensures.numbers,
      ap (λ (x : Expanded). x.skeleton) e,
      ap (λ (x : Expanded). x.test) e,
      ap (λ (x : Expanded). x.patterns) e ∙ c.of.ensures,
    ))
    c.of-3.ensures
