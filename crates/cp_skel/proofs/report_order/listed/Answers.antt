use Rattle.std.proofs.Common.{◌≡◌, ◌++◌, [], ap, ap₂, ◌∙◌}
use Rattle.std.specs.List.{filter}
use Rattle.cp_model.specs.Given.{has_atom, atoms_onto, has_unique, uniques_onto, with_given}
use Rattle.cp_skel.specs.JoinedAssumptions.{joined_assumptions}
use Rattle.cp_skel.proofs.ThreeLists.{of_lists}
use Rattle.cp_skel.proofs.EachOnce.{stated_first, listed-given}
use Rattle.cp_skel.proofs.report_order.listed.Goals as goal

pub returns : goal.returns
returns c =
    let k = c.args.skeleton.now in
    let own = c.assumptions-own.result.now in
    let stated = joined_assumptions own c.in_ok-given.given in
    let given : stated ≡ with_given k.strands k.from_problem.assumptions =
    c.in_ok-given.ensures ∙ ap₂ (λ ss a. with_given ss a) c.strands.ensures (c.assumptions-own.ensures ∙ ap (λ f. f.assumptions) c.from_problem.ensures) in
    of_lists c.stated_first.result c.stated_first-2.result c.stated_first-3.result c.of.result c.stated_first.ensures c.stated_first-2.ensures c.stated_first-3.ensures
    c.of.ensures.non c.of.ensures.penetrator_non c.of.ensures.unique
    (λ u v w a p q r h i j.
    let non = h ∙ p
    ∙ ap₂ (λ xs ys. atoms_onto [] (filter (has_atom ys) xs ++ ys)) (ap₂ (λ xs ys. xs ++ ys) c.non_originating.ensures c.non_originating-2.ensures)
    (c.non_originating-3.ensures ∙ ap (λ a. a.non_originating) c.assumptions-old.ensures) in
    let penetrator_non = i ∙ q
    ∙ ap₂ (λ xs ys. atoms_onto [] (filter (has_atom ys) xs ++ ys)) (ap₂ (λ xs ys. xs ++ ys) c.penetrator_non_originating.ensures c.penetrator_non_originating-2.ensures)
    (c.penetrator_non_originating-3.ensures ∙ ap (λ a. a.penetrator_non_originating) c.assumptions-old.ensures) in
    let unique = j ∙ r
    ∙ ap₂ (λ xs ys. uniques_onto [] (filter (has_unique ys) xs ++ ys)) (ap₂ (λ xs ys. xs ++ ys) c.uniquely_originating.ensures c.uniquely_originating-2.ensures)
    (c.uniquely_originating-3.ensures ∙ ap (λ a. a.uniquely_originating) c.assumptions-old.ensures) in
    let parts : a ≡ stated_first stated k.assumptions =
    λ l. record { non_originating = non l; penetrator_non_originating = penetrator_non l; uniquely_originating = unique l } in
    parts ∙ ap (λ s. stated_first s k.assumptions) given ∙ listed-given k)
