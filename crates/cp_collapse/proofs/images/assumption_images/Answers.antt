use Rattle.std.proofs.Common.{[], map, ap, ◌∙◌}
use Rattle.cp_model.specs.Given.{atoms_onto, uniques_onto}
use Rattle.cp_model.specs.Term.{apply_to_atom}
use Rattle.cp_unify.specs.Bindings.{as_substitution}
use Rattle.cp_skel.proofs.ThreeLists.{of_lists}
use Rattle.cp_collapse.specs.Collapses.{unique_in}
use Rattle.cp_collapse.proofs.images.assumption_images.Goals as goal

pub returns : goal.returns
returns c =
    let f = as_substitution c.args.way.terms.now in
    of_lists c.atom_images.result c.atom_images-2.result c.unique_images.result c.of.result c.atom_images.ensures c.atom_images-2.ensures c.unique_images.ensures
    c.of.ensures.non c.of.ensures.penetrator_non c.of.ensures.unique
    (λ u v w a p q r h i j l. record {
      non_originating = (h ∙ p ∙ ap (λ vs. atoms_onto [] (map (apply_to_atom f) vs)) c.non_originating.ensures) l;
      penetrator_non_originating = (i ∙ q ∙ ap (λ vs. atoms_onto [] (map (apply_to_atom f) vs)) c.penetrator_non_originating.ensures) l;
      uniquely_originating = (j ∙ r ∙ ap (λ us. uniques_onto [] (map (unique_in c.args.way.lowest.now f) us)) c.uniquely_originating.ensures) l;
    })
