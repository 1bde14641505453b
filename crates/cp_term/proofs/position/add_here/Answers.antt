use Rattle.std.proofs.Common.{[], ◌∷◌, ◌++◌, ap, sym, ◌∙◌}
use Rattle.cp_term.proofs.Behind.{added_here, none_here}
use Rattle.cp_term.proofs.position.add_here.Goals as goal

pub returns-in_ok-push : goal.returns-in_ok-push
returns-in_ok-push g c =
    c.in_ok-push.ensures.items ∙ ap (λ path. c.args.found.now.items ++ (path ∷ [])) c.in_ok-path.ensures
    ∙ sym (added_here _ _ _ (sym c.passes.ensures ∙ c.if-passes.true))

pub returns-else-passes : goal.returns-else-passes
returns-else-passes g c = sym (none_here _ _ _ (sym c.passes.ensures ∙ c.if-passes.false))
