use Rattle.std.proofs.Common.{rules, ◌≡◌, ◌∙◌, ◌++◌, ◌∷◌, [], ap}
use Rattle.cp_collapse.proofs.PartialLists.{joins_alone}
use Rattle.cp_collapse.proofs.partitions.alone.Goals as goal

pub returns : goal.returns
returns c =
    let same : c.in_ok-clone.field-0.value ≡ c.args.partial.now.bindings.value = search rules in
    λ k part x. joins_alone k c.args.number c.args.partial.now (record { lowest = c.in_ok-with_entry.field-0; bindings = c.in_ok-clone.field-0 })
    (c.in_ok-with_entry.ensures ∙ ap (λ xs. xs ++ (c.args.number ∷ [])) c.deref.ensures.value) same part x
