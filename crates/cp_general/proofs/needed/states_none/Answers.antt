use Rattle.std.proofs.Common.{refl, sym, ◌∙◌}
use Rattle.cp_lists.proofs.Appended.{none_counted}
use Rattle.cp_general.proofs.needed.states_none.Goals as goal

pub returns : goal.returns
returns c = λ t. record {
  non = sym c.non_originating.ensures ∙ none_counted c.non_originating.result.now _ refl (sym c.is_empty.ensures ∙ c.if-not-is_empty.false);
  penetrator_non = sym c.penetrator_non_originating.ensures ∙ none_counted c.penetrator_non_originating.result.now _ refl (sym c.is_empty-2.ensures ∙ t);
}
