use Rattle.std.proofs.Common.{◌≡◌, ap, subst, ◌∙◌}
use Rattle.cp_model.specs.Skeleton.{SkeletonStrand, skeleton_trace}
use Rattle.cp_model.specs.Declares.{DeclaresItsVariables}
use Rattle.cp_unify.specs.Bindings.{as_substitution}
use Rattle.cp_strand.specs.Givens.{IsGivenBy}
use Rattle.cp_strand.specs.View.{InstanceData, instance_view}
use Rattle.cp_collapse.proofs.Held.{changed_instance, held_events, held_given}
use Rattle.cp_collapse.proofs.substituted.with_values.Goals as goal

pub holding-requires : goal.holding-requires
holding-requires c =
    let i = c.args.instance.now in
    let s = as_substitution c.args.s.now in
    let declares : DeclaresItsVariables i.role = subst DeclaresItsVariables (c.deref-2.ensures ∙ c.role-role.ensures) c.is_sound.ensures in
    let same : record i { values = c.args.values.items } ≡ c.new-changed.result =
    changed_instance i c.new-changed.result c.args.values.items _ _ c.new-changed.ensures (c.in_ok-clone.ensures.cases ∙ c.role-role.ensures) c.height.ensures in
    let events = c.in-Some-Some.events.now in
    let given = c.in-Some-Some.given.now in
    record {
      events =
          subst (λ (j : InstanceData). c.in_ok-events-in-Some-Some.events.items ≡ skeleton_trace (instance_view j)) same
          (held_events s i c.args.values.items declares c.requires.values events c.in_ok-events-in-Some-Some.events.items (c.in-Some-Some.ensures ∙ ap skeleton_trace c.requires.strand) c.in_ok-events-in-Some-Some.ensures);
      given =
          subst (λ (j : InstanceData). IsGivenBy (instance_view j) c.in_ok-given-in-Some-Some.given) same
          (held_given s i c.args.values.items declares c.requires.values given c.in_ok-given-in-Some-Some.given (subst (λ (k : SkeletonStrand). IsGivenBy k given) c.requires.strand c.in-Some-Some.ensures') c.in_ok-given-in-Some-Some.ensures);
    }
