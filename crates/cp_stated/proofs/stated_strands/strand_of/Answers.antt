use Rattle.std.proofs.Common.{sym, ap, ◌∙◌, if◌then◌else◌}
use Rattle.std.proofs.lemmas.Result.{IfOk-weaker}
use Rattle.cp_lists.specs.Lists.{item_at}
use Rattle.cp_model.specs.Skeleton.{listener}
use Rattle.cp_sexpr.specs.View.{view}
use Rattle.cp_language.specs.Problems.{first_form}
use Rattle.cp_roles.specs.Named.{shared_roles_view}
use Rattle.cp_report.specs.Heads.{forms_after_head}
use Rattle.cp_report.specs.Skeletons.{term_or_tag, instance_of_entries}
use Rattle.cp_spelled.specs.Views.{scope_view}
use Rattle.cp_stated.proofs.Entered.{first-item}
use Rattle.cp_stated.proofs.stated_strands.strand_of.Goals as goal

pub returns-then-has_head : goal.returns-then-has_head
returns-then-has_head c =
    let roles = shared_roles_view c.args.roles.now in
    let s = scope_view c.args.scope in
    let f = view c.args.form.now in
    IfOk-weaker c.instance_of.result _ _
    (λ k h. h ∙ ap (instance_of_entries roles s) c.items_behind-items.ensures
    ∙ ap (λ b. if b then instance_of_entries roles s (forms_after_head f) else listener (term_or_tag s (first_form (forms_after_head f)))) (sym (sym c.has_head.ensures ∙ c.if-has_head.true))) c.instance_of.ensures

pub returns : goal.returns
returns c =
    let roles = shared_roles_view c.args.roles.now in
    let s = scope_view c.args.scope in
    let f = view c.args.form.now in
    let message = c.in_ok-message.ensures ∙ ap (term_or_tag s) (c.item_at.ensures ∙ ap (λ fs. item_at fs 0) c.items_behind-items.ensures ∙ first-item (forms_after_head f)) in
    IfOk-weaker c.listener.result _ _
    (λ k h. h ∙ ap listener message
    ∙ ap (λ b. if b then instance_of_entries roles s (forms_after_head f) else listener (term_or_tag s (first_form (forms_after_head f)))) (sym (sym c.has_head.ensures ∙ c.if-has_head.false))) c.listener.ensures
