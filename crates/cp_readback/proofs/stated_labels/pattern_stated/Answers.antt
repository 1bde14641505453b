use Rattle.cp_readback.proofs.stated_labels.pattern_stated.Goals as goal

pub returns : goal.returns
returns c = rw c.in-Some.is at c.in_ok-pattern.ensures
