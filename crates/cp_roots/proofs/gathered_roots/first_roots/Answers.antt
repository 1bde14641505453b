use Rattle.std.proofs.Common.{refl, sym, ap, ◌∙◌}
use Rattle.cp_lists.proofs.Appended.{none_counted}
use Rattle.cp_model.specs.Skeleton.{Skeleton}
use Rattle.cp_roots.proofs.PutForms.{dead_root, living_roots}
use Rattle.cp_roots.proofs.gathered_roots.first_roots.Goals as goal

pub returns-then-is_empty : goal.returns-then-is_empty
returns-then-is_empty c =
    dead_root c.args.problem.now c.in_ok-copy.field-0 c.in_ok-copy.ensures.same (ap (λ (k : Skeleton). k.variables) c.in_ok-copy.ensures.same) c.in_ok-copy-2.field-0 _ c.in_ok-forms.forms.items c.new-roots.result.items c.push.new.self.items
    (none_counted c.in_ok-forms.forms.items _ c.in_ok-forms.forms.ok.0 (sym c.is_empty.ensures ∙ c.if-is_empty.true))
    (record { forms = c.in_ok-forms.ensures.forms; loses_none = c.in_ok-forms.ensures.loses_none; exact = c.in_ok-forms.ensures.exact })
    c.in_ok-copy-2.ensures.same (ap (λ (k : Skeleton). k.variables) c.in_ok-copy-2.ensures.same) refl c.new-roots.ensures.items c.in_ok-push.ensures.items

pub returns : goal.returns
returns c =
    living_roots c.args.problem.now c.in_ok-copy.field-0 c.in_ok-copy.ensures.same (ap (λ (k : Skeleton). k.variables) c.in_ok-copy.ensures.same) c.in_ok-forms.forms.items _ c.new-roots.result.items c.put_forms.new.roots.items
    c.in_ok-forms.forms.ok.0 (sym c.is_empty.ensures ∙ c.if-is_empty.false)
    (record { forms = c.in_ok-forms.ensures.forms; loses_none = c.in_ok-forms.ensures.loses_none; exact = c.in_ok-forms.ensures.exact })
    c.in_ok-forms.ensures.variables c.new-roots.ensures.items c.in_ok-put_forms.ensures
