use Rattle.std.proofs.Common.{◌≡◌, drop}
use Rattle.std.specs.List.{filter}
use Rattle.cp_skel.proofs.gathered.add_stated.Given as goal

abbrev pub invariant-loop-item : goal.invariant-loop-item
invariant-loop-item g l = g.T.Gathered.onto l.listed.items (filter (g.T.Gathered.among l.old) (drop l.item-index l.stated)) ≡ g.T.Gathered.onto l.initial.listed.items (filter (g.T.Gathered.among l.old) l.stated)
