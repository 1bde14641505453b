use Rattle.cp_cohort.proofs.grown_skeletons.with_instance.Goals as goal

pub add_instance-requires : goal.add_instance-requires
add_instance-requires c = record { height = c.requires.height }

pub returns : goal.returns
returns c = (c.in_ok-add_instance.ensures.adds, c.in_ok-add_instance.ensures.variables)
