use Rattle.std.proofs.Common.{◌≡◌, ◌++◌, map, drop}
use Rattle.cp_unify.specs.Bindings.{as_substitution}
use Rattle.cp_collapse.proofs.substituted.each_under.Given as goal

-- The items so far and those of what is left are those of all.
abbrev pub invariant-loop-item : goal.invariant-loop-item
invariant-loop-item g l =
    let f = g.T.Substituted.becomes (as_substitution l.s) in
    l.all.items ++ map f (drop l.item-index l.items) ≡ map f l.items
