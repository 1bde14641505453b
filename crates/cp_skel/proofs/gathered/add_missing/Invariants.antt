use Rattle.std.proofs.Common.{◌≡◌, ◌++◌, drop}
use Rattle.cp_lists.specs.Lists.{IsIn}
use Rattle.cp_skel.specs.KeyTable.{HasKey}
use Rattle.cp_skel.proofs.gathered.add_missing.Given as goal

abbrev pub invariant-loop-item : goal.invariant-loop-item
invariant-loop-item g l = record {
  put : g.T.Gathered.onto (l.old ++ l.more.items) (drop l.item-index l.given) ≡ g.T.Gathered.onto (l.old ++ l.initial.more.items) l.given;
  keyed : (v : _) → IsIn v (l.old ++ l.more.items) → HasKey l.keys (g.T.Gathered.key v);
}
