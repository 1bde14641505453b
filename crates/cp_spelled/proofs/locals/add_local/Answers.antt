use Rattle.std.proofs.Common.{◌++◌, sym, ap, ◌∙◌}
use Rattle.std.proofs.lemmas.List.{append-nil}
use Rattle.cp_report.specs.Spelled.{local_at}
use Rattle.cp_spelled.proofs.locals.add_local.Goals as goal

pub returns-in_default : goal.returns-in_default
returns-in_default c =
    sym (append-nil c.args.out.now.items) ∙ ap (λ o. c.args.out.now.items ++ local_at c.args.place o) c.in_default.ensures

pub returns : goal.returns
returns c =
    c.in_ok-push.ensures.items
    ∙ ap (λ o. c.args.out.now.items ++ local_at c.args.place o) c.in-Some.ensures
