use Rattle.std.proofs.Common.{[], ◌∷◌, ◌++◌, ap, ◌∙◌}
use Rattle.cp_sexpr.proofs.Spelled.{OnErr-from}
use Rattle.cp_print.proofs.Writings.{written_one, front_one, front_whole}
use Rattle.cp_print.proofs.report.end_form.Goals as goal

pub returns-clause-ok : goal.returns-clause-ok
returns-clause-ok c old f g =
    written_one old _ c.put_back.new.list.items _ f (c.put_back.ensures.items ∙ (g.whole c.in_ok-put_back.ensures.ok).1) (c.in_ok-push.ensures.items ∙ ap (λ n. c.args.ends.now.items ++ n ∷ []) (c.len.ensures ∙ c.put_back.new.list.ok.0))

pub returns-in_err-put_back-clause-err : goal.returns-in_err-put_back-clause-err
returns-in_err-put_back-clause-err c old f g = OnErr-from c.from_residual.result (front_one old c.put_back.new.list.items f (g.part.0, g.part.1, g.part.2, c.put_back.ensures.items ∙ g.part.3))

pub returns-in_err-push-clause-err : goal.returns-in_err-push-clause-err
returns-in_err-push-clause-err c old f g = OnErr-from c.from_residual-in_err-push.result (front_whole old c.put_back.new.list.items f (c.put_back.ensures.items ∙ (g.whole c.in_ok-put_back.ensures.ok).1))
