use Rattle.std.proofs.lemmas.Result.{on_ok_weaker}
use Rattle.cp_cohort.specs.Views.{operation_of_made}
use Rattle.cp_cohort.proofs.ContractedChildren.{forms_put}
use Rattle.cp_cohort.proofs.contracted.put_forms.Goals as goal

pub returns : goal.returns
returns c =
    on_ok_weaker c.put_children.result
    (λ e. forms_put c.args.skeleton c.in_ok-forms.forms.items (operation_of_made c.args.made) c.args.path.now c.args.children.now.items c.put_children.new.children.items c.in_ok-forms.ensures.variables c.in_ok-forms.ensures.exact e)
    c.put_children.ensures
