use Rattle.std.proofs.Common.{rules, ◌≡◌, ◌++◌, map, ap₂, ◌∙◌, List}
use Rattle.cp_term.specs.declared.variable.Entry.{Entry}
use Rattle.cp_term.specs.Entries.{declared_by}
use Rattle.cp_term.proofs.CopiedEntries.{both_copied}
use Rattle.cp_term.proofs.variable.VarTable.all_shared.Goals as goal

pub returns : goal.returns
returns c =
    let whole : map declared_by c.extend_with_clones-2.new.self.items ≡ c.args.self.now =
    both_copied _ _ _ _ _ c.in_ok-entries.ensures.items c.in_ok-extend_with_clones.ensures.items c.in_ok-extend_with_clones-2.ensures.items
    ∙ ap₂ (λ (some others : List Entry). map declared_by some ++ map declared_by others) c.entries_of.ensures.entries c.deref.ensures.value
    ∙ c.self.view_is in
    search rules
