use Rattle.std.proofs.Common.{◌≡◌, ◌≤◌, ◌++◌, drop}
use Rattle.cp_model.specs.Strand.{variables_of_prefix}
use Rattle.cp_model.specs.PrefixVariables.{is_added}
use Rattle.cp_strand.specs.Valued.{valued}
use Rattle.cp_strand.proofs.instance_terms.terms_of.Given as goal

-- the terms so far and those of what is left are the terms of all
abbrev pub invariant-loop-number : goal.invariant-loop-number
invariant-loop-number l =
    let wanted = is_added (variables_of_prefix l.role l.before) (variables_of_prefix l.role l.height) in
    (l.terms.items ++ valued wanted l.old l.number (drop l.number l.declaration-items) (drop l.next l.values)
    ≡ valued wanted l.old 0 l.declaration-items l.values) × (l.next ≤ l.number)
