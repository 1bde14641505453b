use Rattle.std.proofs.lemmas.Option.{IfSome_then}
use Rattle.std.proofs.lemmas.Result.{IfOk-weaker}
use Rattle.std.proofs.Common.{◌≡◌, refl, ap, ◌∙◌}
use Rattle.cp_model.specs.Skeleton.{Skeleton}
use Rattle.cp_expansion.specs.ChosenNode.{chosen}
use Rattle.cp_expansion.proofs.Chosen.{none_left, chosen_test, chosen_some}
use Rattle.cp_expansion.proofs.chosen_test.test_of.Goals.{After-chosen}
use Rattle.cp_expansion.proofs.chosen_test.test_of.Goals as goal

-- what is chosen of the skeleton's nodes
is_chosen : (c : After-chosen) → c.chosen.result ≡ chosen c.args.k.now c.args.unrealised.now
is_chosen c = c.chosen.ensures ∙ ap (λ (k : Skeleton). chosen k c.args.unrealised.now) c.skeleton.ensures

pub returns-in_default-clause-none : goal.returns-in_default-clause-none
returns-in_default-clause-none c =
    ((λ e. none_left c.args.k.now c.args.unrealised.now c.chosen.result (is_chosen (goal.at.returns-in_default-clause-none c).After-chosen) c.in_default.not-Some), λ e. refl)

pub returns-clause-skeleton : goal.returns-clause-skeleton
returns-clause-skeleton c = IfOk-weaker c.test_at.result _ _ (λ t h. IfSome_then t h (λ x there. there.0)) c.test_at.ensures.there

pub returns-clause-test : goal.returns-clause-test
returns-clause-test c =
    chosen_test c.args.k.now c.args.unrealised.now c.chosen.result c.in-Some.node c.requires.listed (is_chosen (goal.at.returns-clause-test c).After-chosen) c.in-Some.is c.test_at.result c.test_at.ensures.there c.test_at.ensures.first

pub returns-clause-none : goal.returns-clause-none
returns-clause-none c =
    chosen_some c.args.k.now c.args.unrealised.now c.chosen.result c.in-Some.node c.requires.listed (is_chosen (goal.at.returns-clause-none c).After-chosen) c.in-Some.is c.test_at.result c.test_at.ensures.none
