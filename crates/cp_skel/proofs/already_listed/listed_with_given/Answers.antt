use Rattle.std.proofs.Common.{map, ap}
use Rattle.cp_model.specs.Given.{has_atom, atoms_onto, has_unique, uniques_onto}
use Rattle.cp_strand.specs.Givens.{unique_on}
use Rattle.cp_skel.proofs.AlreadyListed.{list_moved}
use Rattle.cp_skel.proofs.already_listed.listed_with_given.Goals as goal

pub returns : goal.returns
returns c = record {
  non = list_moved has_atom atoms_onto _ _ _ _ _ _ c.non_originating.ensures c.deref.ensures.value c.in_ok-non_originating.ensures;
  penetrator_non = list_moved has_atom atoms_onto _ _ _ _ _ _ c.penetrator_non_originating.ensures c.deref-2.ensures.value c.in_ok-penetrator_non_originating.ensures;
  unique = list_moved has_unique uniques_onto _ _ _ _ _ _ c.uniquely_originating.ensures (ap (map (unique_on c.args.number)) c.deref-3.ensures.value) c.in_ok-uniquely_originating.ensures;
}
