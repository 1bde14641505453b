use Rattle.std.proofs.Common.{sym, ap, ◌∙◌}
use Rattle.std.proofs.lemmas.List.{append-nil}
use Rattle.cp_model.specs.Bindings.{bindings_of}
use Rattle.cp_model.specs.Strand.{Role}
use Rattle.cp_model.specs.Given.{applying}
use Rattle.cp_strand.proofs.given.given_to.Goals as goal

pub returns : goal.returns
returns c =
    let i = c.args.instance.now in
    record {
      non = c.in_ok-non_originating.ensures ∙ ap (applying i.role i.height (bindings_of i.values)) (c.non_originating.ensures ∙ ap (λ (r : Role). r.non_originating) (c.deref.ensures ∙ c.role-role.ensures)) ∙ sym (append-nil _);
      penetrator_non = c.in_ok-penetrator_non_originating.ensures ∙ ap (applying i.role i.height (bindings_of i.values)) (c.penetrator_non_originating.ensures ∙ ap (λ (r : Role). r.penetrator_non_originating) (c.deref-2.ensures ∙ c.role-role.ensures)) ∙ sym (append-nil _);
      unique = λ s. c.in_ok-uniquely_originating.ensures s ∙ sym (append-nil _);
    }
