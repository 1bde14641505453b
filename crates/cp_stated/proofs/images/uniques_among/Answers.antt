use Rattle.std.proofs.Common.{rules, map, ap, ◌∙◌}
use Rattle.std.specs.Prelude.{Ok}
use Rattle.std.specs.List.{filter}
use Rattle.std.proofs.lemmas.Fn.{filter_same}
use Rattle.std.proofs.lemmas.List.{map-id}
use Rattle.cp_model.specs.Stated.{unique_image}
use Rattle.cp_model.specs.Given.{has_unique}
use Rattle.cp_report.specs.Skeletons.{map_by}
use Rattle.cp_lists.proofs.Collected.{made_from_slice}
use Rattle.cp_stated.proofs.images.uniques_among.Goals as goal

pub returns : goal.returns
returns c =
    let make = unique_image (map_by c.args.strands.now c.args.values.now) in
    let keep = has_unique c.args.listed.now in
    filter_same _ keep _ (λ x b q k. search rules) c.in_ok-images.images.items c.retain.new.self.items c.retain.ensures.filtered
    ∙ ap (filter keep) (made_from_slice make (λ x. x) c.args.own.now (Ok c.in_ok-images.images) (λ x y q k. search rules) c.in_ok-images.ensures.runs c.map.ensures.runs c.iter.ensures.runs c.iter.ensures.rest
    ∙ ap (map make) (map-id c.args.own.now))
