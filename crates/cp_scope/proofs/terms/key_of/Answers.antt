use Rattle.std.proofs.Common.{false, option_map, sym, ap, ◌∙◌}
use Rattle.std.proofs.lemmas.Result.{IfOk-weaker}
use Rattle.cp_model.specs.Term.{asymmetric_term, pubk_term}
use Rattle.cp_language.specs.Terms.{as_name, key_as_term}
use Rattle.cp_scope.proofs.terms.key_of.Goals as goal

pub returns-then-private : goal.returns-then-private
returns-then-private c =
    let pair = pubk_term (option_map (λ s. s.now) c.args.purpose) (as_name c.args.name.now) in
    let key = c.in_ok-key.ensures.plain (as_name c.args.name.now) c.in_ok-name.ensures in
    IfOk-weaker c.invert.result _ _ (λ t h. h (asymmetric_term false pair) key ∙ ap (λ b. key_as_term (asymmetric_term b pair)) (sym c.if-private.true)) c.invert.ensures.plain
