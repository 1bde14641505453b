use Rattle.std.proofs.Common.{map, ap, ◌∙◌}
use Rattle.std.specs.List.{filter}
use Rattle.cp_model.specs.Term.{apply_to_atom}
use Rattle.cp_model.specs.Homomorphism.{substitution_by}
use Rattle.cp_model.specs.Stated.{unique_image}
use Rattle.cp_model.specs.Given.{has_atom, has_unique}
use Rattle.cp_report.specs.Skeletons.{map_by}
use Rattle.cp_skel.proofs.ThreeLists.{of_lists}
use Rattle.cp_stated.proofs.images.images_among.Goals as goal

pub returns : goal.returns
returns c =
    let f = apply_to_atom (substitution_by c.args.values.now) in
    let g = unique_image (map_by c.args.strands.now c.args.values.now) in
    let non = ap (λ vs. filter (has_atom vs) (map f c.non_originating.result.now)) c.non_originating-2.ensures ∙ ap (λ vs. filter (has_atom c.args.listed.now.non_originating) (map f vs)) c.non_originating.ensures in
    let penetrator_non =
    ap (λ vs. filter (has_atom vs) (map f c.penetrator_non_originating.result.now)) c.penetrator_non_originating-2.ensures
    ∙ ap (λ vs. filter (has_atom c.args.listed.now.penetrator_non_originating) (map f vs)) c.penetrator_non_originating.ensures in
    let uniques =
    ap (λ us. filter (has_unique us) (map g c.uniquely_originating.result.now)) c.uniquely_originating-2.ensures
    ∙ ap (λ us. filter (has_unique c.args.listed.now.uniquely_originating) (map g us)) c.uniquely_originating.ensures in
    of_lists c.values_among.result c.values_among-2.result c.uniques_among.result c.of.result c.values_among.ensures c.values_among-2.ensures c.uniques_among.ensures
    c.of.ensures.non c.of.ensures.penetrator_non c.of.ensures.unique
    (λ u v w a p q r h i j l. record { non_originating = (h ∙ p ∙ non) l; penetrator_non_originating = (i ∙ q ∙ penetrator_non) l; uniquely_originating = (j ∙ r ∙ uniques) l })
