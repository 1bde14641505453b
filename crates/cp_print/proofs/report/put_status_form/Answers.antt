use Rattle.std.proofs.Common.{subst}
use Rattle.cp_base.specs.Growing.{Grows}
use Rattle.cp_language.specs.Report.{status_form}
use Rattle.cp_sexpr.specs.Spelling.{top_spelling}
use Rattle.cp_print.proofs.report.put_status_form.Goals as goal

pub returns-clause-ok : goal.returns-clause-ok
returns-clause-ok c =
    let form = status_form c.args.tree.now in
    c.end_form.ensures.ok c.args.out.now.items form (subst (λ g. Grows g c.put_status.new.out (top_spelling form)) c.taken-text.ensures c.put_status.ensures)

pub returns-clause-err : goal.returns-clause-err
returns-clause-err c =
    let form = status_form c.args.tree.now in
    c.end_form.ensures.err c.args.out.now.items form (subst (λ g. Grows g c.put_status.new.out (top_spelling form)) c.taken-text.ensures c.put_status.ensures)
