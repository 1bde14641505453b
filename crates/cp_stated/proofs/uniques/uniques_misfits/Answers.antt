use Rattle.std.proofs.Common.{List, [], ◌∷◌, ◌++◌, ◌≡◌, refl, ap, ◌∙◌}
use Rattle.cp_model.specs.Skeleton.{UniqueAt}
use Rattle.cp_sexpr.specs.View.{view}
use Rattle.cp_report.specs.Skeletons.{unique_of, unique_misfits, uniques_misfits}
use Rattle.cp_spelled.specs.FirstMisfit.{first_onto}
use Rattle.cp_spelled.specs.Views.{scope_view}
use Rattle.cp_spelled.proofs.Declared.{each-made}
use Rattle.cp_stated.proofs.FormLists.{gathered-taken}
use Rattle.cp_stated.proofs.uniques.uniques_misfits.Goals as goal

pub loop-item-preserved : goal.loop-item-preserved
loop-item-preserved c =
    let s = scope_view c.args.scope in
    let ks = c.args.strands.now in
    let f = view c.item-item.result in
    let uniques = c.loop-item.uniques.items in
    let pushed : c.push.new.self.items ≡ uniques ++ unique_of s f ∷ [] = c.in_ok-push.ensures.items ∙ ap (λ (u : UniqueAt). uniques ++ u ∷ []) c.in_ok-unique.ensures in
    let asked = c.unique_misfits.ensures ∙ ap (λ (us : List UniqueAt). first_onto c.loop-item.first (unique_misfits s ks us f)) c.deref.ensures.value in (
      gathered-taken (λ b g. b ++ unique_of s g ∷ []) (unique_misfits s ks) (uniques_misfits s ks) c.args.items.now c.loop-item.item-index (λ b g fs. refl) c.item-item.result c.loop-item-test.true c.item-item.is
          uniques c.push.new.self.items c.loop-item.first c.unique_misfits.new.first _ pushed asked c.loop-item.invariant.0,
      each-made c.args.items.now c.loop-item.item-index (unique_of s) c.item-item.result c.loop-item-test.true c.item-item.is uniques c.push.new.self.items _ pushed c.loop-item.invariant.1,
    )
