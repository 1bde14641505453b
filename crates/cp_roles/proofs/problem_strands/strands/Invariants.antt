use Rattle.std.proofs.Common.{length, map, drop}
use Rattle.cp_sexpr.specs.View.{view}
use Rattle.cp_language.specs.Problems.{strands_from}
use Rattle.cp_roles.specs.Named.{shared_roles_view}
use Rattle.cp_roles.proofs.Strandwise.{AreLeft}
use Rattle.cp_roles.proofs.problem_strands.strands.Given as goal

abbrev pub invariant-loop-item : goal.invariant-loop-item
invariant-loop-item l =
    AreLeft (strands_from (shared_roles_view l.roles) l.declared (length l.initial.all.items) (map view l.items))
    (strands_from (shared_roles_view l.roles) l.declared (length l.all.items) (map view (drop l.item-index l.items)))
    l.strands.items l.initial.all.items l.all.items
