use Rattle.std.proofs.Common.{map, ap, ◌∙◌}
use Rattle.std.proofs.lemmas.Result.{IfOk-weaker}
use Rattle.cp_model.specs.Term.{apply_to}
use Rattle.cp_theory.specs.Normal.{assumptions_under}
use Rattle.cp_unify.specs.Bindings.{as_substitution}
use Rattle.cp_collapse.proofs.substituted.FromProblemSubstituted.under.Goals as goal

pub returns : goal.returns
returns c =
    let own = c.args.self.now in
    let f = as_substitution c.args.s.now in
    IfOk-weaker c.with_values.result _ _
    (λ p h. h ∙ (λ i. record {
      strands = own.strands;
      values = (c.in_ok-values.ensures ∙ ap (map (apply_to f)) c.values.ensures) i;
      assumptions = (c.in_ok-assumptions.ensures ∙ ap (assumptions_under f) c.assumptions.ensures) i;
      pairs = own.pairs;
    })) c.with_values.ensures
