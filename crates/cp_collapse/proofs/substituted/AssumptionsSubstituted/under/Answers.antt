use Rattle.std.proofs.Common.{map, ap, ◌∙◌}
use Rattle.cp_model.specs.Term.{apply_to_atom}
use Rattle.cp_theory.specs.Normal.{unique_under}
use Rattle.cp_unify.specs.Bindings.{as_substitution}
use Rattle.cp_skel.proofs.ThreeLists.{of_lists}
use Rattle.cp_collapse.proofs.substituted.AssumptionsSubstituted.under.Goals as goal

pub returns : goal.returns
returns c =
    let f = as_substitution c.args.s.now in
    let atoms = map (apply_to_atom f) in
    let uniques = map (unique_under f) in
    of_lists c.each_under.result c.each_under-2.result c.each_under-3.result c.of.result c.each_under.ensures c.each_under-2.ensures c.each_under-3.ensures
    c.of.ensures.non c.of.ensures.penetrator_non c.of.ensures.unique
    (λ u v w a p q r h i j l. record {
      non_originating = (h ∙ p ∙ ap atoms c.non_originating.ensures) l;
      penetrator_non_originating = (i ∙ q ∙ ap atoms c.penetrator_non_originating.ensures) l;
      uniquely_originating = (j ∙ r ∙ ap uniques c.uniquely_originating.ensures) l;
    })
