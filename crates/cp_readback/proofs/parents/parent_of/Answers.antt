use Rattle.std.proofs.Common.{sym, ap, ◌∙◌}
use Rattle.cp_lists.specs.Lists.{item_at}
use Rattle.cp_readback.specs.Families.{labels_of}
use Rattle.cp_readback.proofs.Relations.{parent-read, parent-none}
use Rattle.cp_readback.proofs.parents.parent_of.Goals as goal

pub returns-in-Some : goal.returns-in-Some
returns-in-Some c =
    parent-read (labels_of c.args.family.now) c.args.label c.in-Some.parent.now
    (sym (c.in-Some.ensures ∙ ap (λ os. item_at os c.args.label) (c.deref.ensures.value ∙ c.requires.parents)))

pub returns-in-None : goal.returns-in-None
returns-in-None c =
    parent-none (labels_of c.args.family.now) c.args.label
    (sym (c.in-None.ensures ∙ ap (λ os. item_at os c.args.label) (c.deref.ensures.value ∙ c.requires.parents)))
