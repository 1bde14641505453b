use Rattle.std.proofs.Common.{ℕ, ◌++◌, ◌∷◌, [], Option, map, ap, ◌∙◌}
use Rattle.cp_sexpr.specs.View.{view}
use Rattle.cp_report.specs.Labels.{stated_parent}
use Rattle.cp_spelled.proofs.Declared.{each-made, all-made}
use Rattle.cp_readback.specs.Families.{child_from}
use Rattle.cp_readback.proofs.Relations.{family-taken, family-done, children_at}
use Rattle.cp_readback.proofs.parents.family_of.Goals as goal

pub loop-number-preserved : goal.loop-number-preserved
loop-number-preserved c = (
  each-made c.args.labels.now c.loop-number.number stated_parent c.index-labels-number.result c.loop-number-test.true c.index-labels-number.is c.loop-number.parents.items c.push.new.self.items _
      (c.in_ok-push.ensures.items ∙ ap (λ (o : Option ℕ). c.loop-number.parents.items ++ o ∷ []) c.stated_parent.ensures) c.loop-number.invariant.0,
  family-taken c.args.labels.now c.loop-number.number (child_from 0 (map view c.args.labels.now)) c.loop-number.children c.index-labels-number.result c.loop-number-test.true c.index-labels-number.is
      c.add_children.new.children c.in_ok-add_children.ensures c.loop-number.invariant.1,
)

pub returns-clause-stated : goal.returns-clause-stated
returns-clause-stated c = record {
  parents = all-made c.args.labels.now c.loop-number.number stated_parent c.loop-number-test.false c.loop-number.parents.items _ c.loop-number.invariant.0;
  children = children_at (map view c.args.labels.now) c.loop-number.children
      (family-done c.args.labels.now c.loop-number.number (child_from 0 (map view c.args.labels.now)) c.loop-number.children c.loop-number-test.false c.loop-number.invariant.1);
}
