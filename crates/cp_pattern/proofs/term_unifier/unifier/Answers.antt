use Rattle.std.proofs.lemmas.Result.{IfOk-weaker}
use Rattle.cp_pattern.proofs.Unifiers.{some_unifier, unifier_within, no_unifier}
use Rattle.cp_pattern.proofs.term_unifier.unifier.Goals as goal

pub returns : goal.returns
returns c = record {
  some = IfOk-weaker c.unify.result _ _ (λ answer h. some_unifier c.args.a.now c.args.b.now _ c.new-nothing.ensures answer h) c.unify.ensures.some;
  within = IfOk-weaker c.unify.result _ _ (λ answer h. unifier_within c.args.a.now c.args.b.now _ c.new-nothing.ensures answer h) c.unify.ensures.some;
  none = IfOk-weaker c.unify.result _ _ (λ answer h. no_unifier c.args.a.now c.args.b.now _ c.new-nothing.ensures answer h) c.unify.ensures.none;
}
