use Rattle.std.proofs.Common.{◌≡◌, [], refl, sym, ◌∙◌, subst}
use Rattle.std.specs.Prelude.{◌↔◌, IsTrue}
use Rattle.std.proofs.lemmas.Result.{IfOk-weaker}
use Rattle.cp_lists.proofs.Appended.{none_counted}
use Rattle.cp_model.proofs.CarriedParts.{not_both}
use Rattle.cp_model.specs.Term.{Term, apply_to}
use Rattle.cp_unify.specs.Bindings.{as_substitution}
use Rattle.cp_pattern.proofs.Matched.{tells_image}
use Rattle.cp_pattern.proofs.pattern_matches.matches.Goals as goal

pub returns-then-is_empty : goal.returns-then-is_empty
returns-then-is_empty c =
    let p = c.args.pattern.now in
    let s = as_substitution c.args.from.now in
    let none : p.locals ≡ [] = sym c.locals.ensures.variables ∙ none_counted c.locals.result.now _ refl (sym c.is_empty.ensures ∙ c.if-is_empty.true) in
    IfOk-weaker c.is_image.result _ _
    (λ answer image. tells_image p s c.args.term.now none answer (subst (λ (t : Term). IsTrue answer ↔ (apply_to s t ≡ c.args.term.now)) c.term.ensures.term image)) c.is_image.ensures

pub returns-then-branch : goal.returns-then-branch
returns-then-branch c = (λ e. absurd (not_both refl e), λ m. absurd (c.in_ok-keys_differ.ensures c.if-branch.true m))
