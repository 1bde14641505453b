use Rattle.std.proofs.Common.{inl, sym, ap, ◌∙◌}
use Rattle.cp_lists.proofs.Members.{item_is_in}
use Rattle.cp_model.specs.Term.{atom_term}
use Rattle.cp_general.specs.Needed.{loses, IsValueApart}
use Rattle.cp_general.proofs.NeededParts.{added_to}
use Rattle.cp_general.proofs.needed.add_uniques.Goals as goal

pub loop-unique-init : goal.loop-unique-init
loop-unique-init c = λ t m. inl m

pub loop-unique-preserved : goal.loop-unique-preserved
loop-unique-preserved c =
    let unique = c.unique-item.result in
    added_to (IsValueApart c.args.part c.args.uniques.now) c.copy.result c.args.terms.now c.loop-unique.terms c.push_made.new.self c.as_term.result.now c.push_made.ensures.ok c.push_made.ensures.err
    c.copy.ensures
    (record {
      entry = unique;
      listed = item_is_in c.args.uniques.now c.loop-unique.unique-index unique c.loop-unique-test.true c.unique-item.is;
      apart = sym (c.loses.ensures ∙ ap (loses c.args.part) c.origin.ensures) ∙ c.if-loses.false;
      same = sym (c.as_term.ensures ∙ ap atom_term c.value.ensures);
    }) c.loop-unique.invariant
