use Rattle.std.proofs.Common.{◌∙◌}
use Rattle.std.proofs.lemmas.Result.{IfOk-weaker}
use Rattle.cp_normal.specs.Leaves.{of_item}
use Rattle.cp_normal.specs.declared.form.Form.{Form}
use Rattle.cp_normal.proofs.NarrowingSteps.{branches_narrowed, leaves_are_beside, settled_keep, ends_beside, settled_beside, none_kept, settled_kept}
use Rattle.cp_normal.proofs.beside.forms_beside.Goals as goal

pub returns-in-Ends-clause-forms : goal.returns-in-Ends-clause-forms
returns-in-Ends-clause-forms c =
    ends_beside (record { skeleton = c.args.k; substitution = c.args.beside }) c.new.result.items (rw c.in-Ends.is at c.in_ok-next_of.ensures) c.new.ensures.items

pub returns-in-Ends-clause-settled : goal.returns-in-Ends-clause-settled
returns-in-Ends-clause-settled c settled = none_kept (record { skeleton = c.args.k; substitution = c.args.beside }) c.new.result.items c.new.ensures.items

pub returns-in_ok-candidates-in-Branches-clause-forms : goal.returns-in_ok-candidates-in-Branches-clause-forms
returns-in_ok-candidates-in-Branches-clause-forms c =
    let f : Form = record { skeleton = c.args.k; substitution = c.args.beside } in
    let next = rw c.in-Branches.is at c.in_ok-next_of.ensures in
    let narrowed = branches_narrowed f c.in-Branches.misplaced.value c.in-Branches.misplaced.node c.deref.result.now c.in_ok-candidates-in-Branches.candidates.items next.0 next.1 (c.deref.ensures.value ∙ next.2) c.in_ok-candidates-in-Branches.ensures in
    IfOk-weaker c.forms_among.result _ _ (λ found made. leaves_are_beside f found.forms.items (of_item narrowed made.0)) c.forms_among.ensures

pub returns-in_ok-candidates-in-Branches-clause-settled : goal.returns-in_ok-candidates-in-Branches-clause-settled
returns-in_ok-candidates-in-Branches-clause-settled c =
    let f : Form = record { skeleton = c.args.k; substitution = c.args.beside } in
    let next = rw c.in-Branches.is at c.in_ok-next_of.ensures in
    let narrowed = branches_narrowed f c.in-Branches.misplaced.value c.in-Branches.misplaced.node c.deref.result.now c.in_ok-candidates-in-Branches.candidates.items next.0 next.1 (c.deref.ensures.value ∙ next.2) c.in_ok-candidates-in-Branches.ensures in
    IfOk-weaker c.forms_among.result _ _ (λ found made settled. settled_keep f c.in_ok-candidates-in-Branches.candidates.items found.forms.items narrowed made.0 (made.1 settled)) c.forms_among.ensures

pub returns-in_ok-forms-in-Settles-clause-forms : goal.returns-in_ok-forms-in-Settles-clause-forms
returns-in_ok-forms-in-Settles-clause-forms c =
    settled_beside (record { skeleton = c.args.k; substitution = c.args.beside }) c.in_ok-normal-in-Settles.normal _ c.in_ok-normal-in-Settles.ensures c.in_ok-forms-in-Settles.ensures.items

pub returns-in_ok-forms-in-Settles-clause-settled : goal.returns-in_ok-forms-in-Settles-clause-settled
returns-in_ok-forms-in-Settles-clause-settled c settled =
    settled_kept (record { skeleton = c.args.k; substitution = c.args.beside }) c.in_ok-normal-in-Settles.normal _ c.in_ok-normal-in-Settles.ensures c.in_ok-forms-in-Settles.ensures.items
