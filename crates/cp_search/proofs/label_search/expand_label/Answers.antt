use Rattle.std.proofs.Common.{◌≡◌, IsNone, refl, sym, subst, ◌∙◌}
use Rattle.std.proofs.lemmas.Result.{IfOk-weaker}
use Rattle.cp_model.specs.PointOfView.{HasDeclaredVariables}
use Rattle.cp_model.specs.Skeleton.{Skeleton, IsSkeleton}
use Rattle.cp_derive.specs.Unrealised.{ListsUnrealised}
use Rattle.cp_expansion.specs.Expansion.{IsExpansionOf}
use Rattle.cp_expansion.specs.Views.{expansion_by}
use Rattle.cp_search.proofs.LabelExpanded.{label_expanded}
use Rattle.cp_search.proofs.label_search.expand_label.Goals as goal

pub expand-requires : goal.expand-requires
expand-requires c =
    let label = c.label-label.result.now in
    let is : label.skeleton ≡ c.with_events.result = sym c.with_events.ensures in
    let lives = c.requires.unrealised label c.label-label.ensures in
    let sound = c.requires.sound.each c.args.number label c.label-label.ensures in
    let lists = subst (λ ns. ListsUnrealised label.skeleton ns) (sym c.as_slice.ensures) ((c.are_found.ensures.each c.args.number label c.label-label.ensures).listed lives.0) in
    record {
      skeleton = subst (λ (k : Skeleton). IsSkeleton c.args.protocol.now k) is sound.skeleton;
      declared = subst (λ (k : Skeleton). HasDeclaredVariables k.variables k) is sound.declared;
      listed = subst (λ (k : Skeleton). ListsUnrealised k c.as_slice.result.now) is lists;
    }

pub unreachable-requires : goal.unreachable-requires
unreachable-requires c =
    let lives = c.requires.unrealised c.label-label.result.now c.label-label.ensures in
    let none : IsNone c.in_ok-test.field-0 = subst IsNone (sym c.in_default.is) refl in
    lives.1 (sym c.as_slice.ensures ∙ (c.in_ok-test.ensures.none).0 none)

pub returns-clause-expanded : goal.returns-clause-expanded
returns-clause-expanded c =
    let label = c.label-label.result.now in
    let lives = c.requires.unrealised label c.label-label.ensures in
    let found : IsExpansionOf c.args.protocol.now c.with_events.result (expansion_by c.in-Some.test c.in-Some.expansion) = rw c.in-Some.is at c.in_ok-test.ensures.exact in
    let exact = subst (λ (k : Skeleton). IsExpansionOf c.args.protocol.now k (expansion_by c.in-Some.test c.in-Some.expansion)) c.with_events.ensures found in
    IfOk-weaker c.expand_to.result _ _
    (λ e h. label_expanded c.args.protocol.now c.args.number c.args.queue.now.made c.expand_to.new.queue.made label c.in-Some.test c.in-Some.expansion e c.requires.sound c.label-label.ensures lives
    ((c.are_found.ensures.each c.args.number label c.label-label.ensures).listed lives.0) (λ vs k own. c.expansions_are_sound.ensures c.args.protocol.now vs k c.is_sound.ensures own) exact
    h.0 h.1 h.2 h.3 h.4)
    c.expand_to.ensures.made
