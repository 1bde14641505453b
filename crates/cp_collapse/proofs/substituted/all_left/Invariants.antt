use Rattle.std.proofs.Common.{◌≡◌, map, drop}
use Rattle.cp_unify.specs.Bindings.{as_substitution}
use Rattle.cp_collapse.proofs.substituted.all_left.Given as goal

-- If what is left stays, then all does.
abbrev pub invariant-loop-item : goal.invariant-loop-item
invariant-loop-item g l =
    let f = g.T.Substituted.becomes (as_substitution l.s) in
    map f (drop l.item-index l.items) ≡ drop l.item-index l.items → map f l.items ≡ l.items
