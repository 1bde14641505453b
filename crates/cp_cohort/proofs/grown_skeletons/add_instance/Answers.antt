use Rattle.std.proofs.Common.{◌≡◌, ◌++◌, length, ap, ◌∙◌}
use Rattle.cp_model.specs.Strand.{Role}
use Rattle.cp_model.specs.PrefixVariables.{added_variables}
use Rattle.cp_theory.specs.Fresh.{fresh_terms}
use Rattle.cp_cohort.specs.CoveringChildren.{declarations_among}
use Rattle.cp_cohort.proofs.FitValues.{terms_fit, added_by, declared_by}
use Rattle.cp_cohort.proofs.grown_skeletons.add_instance.Goals as goal

pub add_strand-requires : goal.add_strand-requires
add_strand-requires c =
    let are : c.deref-2.result.now ≡ fresh_terms (length c.args.k.now.variables) (added_variables c.args.role.now.value 0 c.args.height) =
    c.deref-2.ensures.value ∙ c.in_ok-values.ensures.values ∙ ap (λ (r : Role). fresh_terms (length c.args.k.now.variables) (added_variables r 0 c.args.height)) c.deref.ensures in
    record {
      height = c.requires.height;
      values = terms_fit c.args.k.now c.args.height c.declare_added.new.k c.in_ok-values.ensures.rest c.args.role.now.value c.deref-2.result.now are;
    }

pub returns : goal.returns
returns c =
    let are : c.deref-2.result.now ≡ fresh_terms (length c.args.k.now.variables) (added_variables c.args.role.now.value 0 c.args.height) =
    c.deref-2.ensures.value ∙ c.in_ok-values.ensures.values ∙ ap (λ (r : Role). fresh_terms (length c.args.k.now.variables) (added_variables r 0 c.args.height)) c.deref.ensures in
    let more : c.declare_added.new.k.variables ≡ c.args.k.now.variables ++ declarations_among c.args.role.now.value (added_variables c.args.role.now.value 0 c.args.height) =
    c.in_ok-values.ensures.declared ∙ ap (λ (r : Role). c.args.k.now.variables ++ declarations_among r (added_variables r 0 c.args.height)) c.deref.ensures in
    record {
      adds = added_by c.args.k.now c.args.height c.declare_added.new.k c.in_ok-values.ensures.rest c.args.role.now.value c.deref-2.result.now are c.add_strand.new.self c.in_ok-add_strand.ensures.changed;
      variables = declared_by c.args.k.now c.args.height c.declare_added.new.k c.in_ok-values.ensures.rest c.args.role.now.value c.deref-2.result.now are c.add_strand.new.self more c.add_strand.ensures.variables;
    }
