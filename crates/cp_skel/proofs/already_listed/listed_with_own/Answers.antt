use Rattle.cp_model.specs.Given.{has_atom, atoms_onto, has_unique, uniques_onto}
use Rattle.cp_skel.proofs.AlreadyListed.{list_moved}
use Rattle.cp_skel.proofs.already_listed.listed_with_own.Goals as goal

pub returns : goal.returns
returns c = record {
  non = list_moved has_atom atoms_onto _ _ _ _ 0 _ c.non_originating-2.ensures c.non_originating.ensures c.in_ok-non_originating.ensures;
  penetrator_non = list_moved has_atom atoms_onto _ _ _ _ 0 _ c.penetrator_non_originating-2.ensures c.penetrator_non_originating.ensures c.in_ok-penetrator_non_originating.ensures;
  unique = list_moved has_unique uniques_onto _ _ _ _ 0 _ c.uniquely_originating-2.ensures c.uniquely_originating.ensures c.in_ok-uniquely_originating.ensures;
}
