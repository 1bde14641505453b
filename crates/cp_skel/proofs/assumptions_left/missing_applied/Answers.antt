use Rattle.std.proofs.Common.{◌++◌, ap, ap₂, ◌∙◌}
use Rattle.std.proofs.lemmas.List.{append-nil}
use Rattle.cp_model.specs.Given.{atoms_onto}
use Rattle.cp_skel.proofs.assumptions_left.missing_applied.Goals as goal

pub returns : goal.returns
returns c =
    let old = c.args.old.now in
    c.in_ok-add_missing.ensures
    ∙ ap₂ (λ xs ys. atoms_onto xs ys) (ap (λ xs. old ++ xs) c.new-more.ensures.items ∙ append-nil old) (c.deref.ensures.value ∙ c.in_ok-applied.ensures)
