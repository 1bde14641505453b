use Rattle.std.proofs.Common.{rules, [], map, ◌∙◌, sym}
use Rattle.std.proofs.lemmas.Result.{IfOk-weaker}
use Rattle.cp_lists.proofs.Collected.{collected_from_slice}
use Rattle.cp_roles.proofs.Instantiation.{same_items}
use Rattle.cp_roles.proofs.instances.copies_of.Goals as goal

pub returns : goal.returns
returns c =
    let ds = c.args.declarations.now in
    IfOk-weaker c.try_collect.result _ _ (λ v h. sym (same_items v.items) ∙ h ∙ same_items ds)
    (collected_from_slice (λ d. d) (λ d. d) ds c.try_collect.result (λ x y q k. search rules) c.try_collect.ensures.runs c.map.ensures.runs c.iter.ensures.runs c.iter.ensures.rest)
