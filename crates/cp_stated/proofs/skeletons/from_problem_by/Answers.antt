use Rattle.std.proofs.Common.{rules, ◌≡◌, ℕ, List, map, ap, ◌∙◌}
use Rattle.cp_lists.proofs.Collected.{if_mapped}
use Rattle.std.specs.List.{filter}
use Rattle.cp_model.specs.Term.{Term}
use Rattle.cp_model.specs.Stated.{pair_image}
use Rattle.cp_report.specs.Skeletons.{map_by, images_among, is_in_order}
use Rattle.cp_stated.proofs.skeletons.from_problem_by.Goals as goal

pub returns : goal.returns
returns c =
    let ts = c.args.to_strands.items in
    let vs = c.args.values.items in
    let listed = c.args.assumptions.now in
    let keep = is_in_order c.args.strands.now c.args.pairs.now in
    let images =
    c.in_ok-images.ensures ∙ ap (λ (x : List ℕ). images_among listed (map_by x c.deref-2.result.now) c.assumptions.result.now) c.deref.ensures.value
    ∙ ap (λ (x : List Term). images_among listed (map_by ts x) c.assumptions.result.now) c.deref-2.ensures.value ∙ ap (images_among listed (map_by ts vs)) c.assumptions.ensures in
    let ordered =
    ap (λ (x : List ℕ). filter keep (map (pair_image (map_by x c.deref-4.result.now)) c.pairs.result.now)) c.deref-3.ensures.value
    ∙ ap (λ (x : List Term). filter keep (map (pair_image (map_by ts x)) c.pairs.result.now)) c.deref-4.ensures.value ∙ ap (λ ps. filter keep (map (pair_image (map_by ts vs)) ps)) c.pairs.ensures in
    if_mapped c.pairs_in_order.result c.map.result (λ pairs way made k.
    let is : way ≡ record { strands = ts; values = vs; assumptions = c.in_ok-images.images; pairs = pairs.items } = search rules in
    is ∙ (λ i. record { strands = ts; values = vs; assumptions = images i; pairs = (made ∙ ordered) i })) c.pairs_in_order.ensures c.map.ensures.cases
