use Rattle.std.proofs.Common.{◌≡◌}
use Rattle.std.proofs.lemmas.Result.{IfOk-weaker}
use Rattle.cp_unify.specs.Joined.{joined_bindings}
use Rattle.cp_unify.proofs.Composed.{joined_applies, joined_values, joined_no_new}
use Rattle.cp_unify.proofs.composition.compose.Goals as goal

pub returns-clause-plain : goal.returns-clause-plain
returns-clause-plain c =
    IfOk-weaker c.join.result (λ s. s ≡ joined_bindings c.args.first.now c.args.second.now) _ (λ s e. joined_applies c.args.first.now c.args.second.now s e) c.join.ensures

pub returns-clause-value : goal.returns-clause-value
returns-clause-value c =
    IfOk-weaker c.join.result (λ s. s ≡ joined_bindings c.args.first.now c.args.second.now) _ (λ s e. joined_values c.args.first.now c.args.second.now s e) c.join.ensures

pub returns-clause-no_new : goal.returns-clause-no_new
returns-clause-no_new c =
    IfOk-weaker c.join.result (λ s. s ≡ joined_bindings c.args.first.now c.args.second.now) _ (λ s e. joined_no_new c.args.first.now c.args.second.now s e) c.join.ensures
