use Rattle.std.proofs.Common.{ap, ◌∙◌}
use Rattle.cp_base.specs.Growing.{Growth}
use Rattle.cp_model.specs.Term.{Term}
use Rattle.std.proofs.lemmas.Result.{IfOk-weaker}
use Rattle.cp_general.proofs.NeededParts.{all_assumed, assumed_in}
use Rattle.cp_general.proofs.needed.assumed_apart.Goals as goal

pub returns : goal.returns
returns c =
    IfOk-weaker c.finish.result _ _ (λ ts is. assumed_in c.args.part c.args.assumptions.now _ _ _ ts.items c.non_originating.ensures c.penetrator_non_originating.ensures c.uniquely_originating.ensures (all_assumed _ _ _ c.from_items-values.result c.add_atoms.new.terms c.add_atoms-2.new.terms c.add_uniques.new.terms ts.items (ap (λ (g : Growth Term). g.items) c.from_items-values.ensures ∙ c.new.ensures.items) c.add_atoms.ensures c.add_atoms-2.ensures c.add_uniques.ensures is))
    c.finish.ensures.ok
