use Rattle.std.proofs.Common.{sym, ◌∙◌}
use Rattle.std.proofs.lemmas.List.{nil_from_length}
use Rattle.cp_roots.proofs.PutForms.{next_put, all_put}
use Rattle.cp_roots.proofs.gathered_roots.put_forms.Goals as goal

pub loop-skeleton-preserved : goal.loop-skeleton-preserved
loop-skeleton-preserved c =
    next_put c.args.operation.now _ c.loop-skeleton.rest.items c.pop.new.self.items _ c.loop-skeleton.roots.items c.push.new.self.items c.in_ok-operation.operation c.in-Some.skeleton c.list_assumptions.new.self
    c.loop-skeleton.invariant c.in-Some.ensures.items c.in_ok-list_assumptions.ensures.listed c.in_ok-list_assumptions.ensures.variables c.in_ok-operation.ensures c.in_ok-push.ensures.items

pub returns : goal.returns
returns c =
    all_put c.args.operation.now c.args.forms.items _ c.loop-skeleton.rest.items _ c.loop-skeleton.roots.items c.reverse.ensures.items
    (nil_from_length c.loop-skeleton.rest.items (sym c.loop-skeleton.rest.ok.0 ∙ c.in_default.ensures.cases.0)) c.loop-skeleton.invariant
