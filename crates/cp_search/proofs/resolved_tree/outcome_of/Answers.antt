use Rattle.cp_model.proofs.CarriedParts.{not_both}
use Rattle.cp_tree.specs.Searched.{some_at_step_limit, some_at_strand_limit, none_at_limit}
use Rattle.cp_search.proofs.resolved_tree.outcome_of.Goals as goal

pub returns-then-is_marked : goal.returns-then-is_marked
returns-then-is_marked c = some_at_step_limit (c.is_marked.ensures.0 c.if-is_marked.true)

pub returns-then-is_marked-2 : goal.returns-then-is_marked-2
returns-then-is_marked-2 c = some_at_strand_limit (λ h. not_both c.if-is_marked.false (c.is_marked.ensures.1 h)) (c.is_marked-2.ensures.0 c.if-is_marked-2.true)

pub returns : goal.returns
returns c = none_at_limit (λ h. not_both c.if-is_marked.false (c.is_marked.ensures.1 h)) (λ h. not_both c.if-is_marked-2.false (c.is_marked-2.ensures.1 h))
