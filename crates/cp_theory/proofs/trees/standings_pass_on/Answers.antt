use Rattle.cp_theory.proofs.NoStandingLost.{covered}
use Rattle.cp_theory.proofs.LabelDescents.{passes_on_to_embedding}
use Rattle.cp_theory.proofs.FactorsThroughMaps.{left_out_factors}
use Rattle.cp_theory.proofs.trees.standings_pass_on.Goals as goal

pub returns-clause-none_left_out : goal.returns-clause-none_left_out
returns-clause-none_left_out c = λ protocol problem k ks in_range leaves b f h. left_out_factors protocol problem k ks b f h in_range leaves

pub returns-clause-embedding : goal.returns-clause-embedding
returns-clause-embedding c = passes_on_to_embedding

pub returns-clause-none_lost : goal.returns-clause-none_lost
returns-clause-none_lost c = λ protocol problem k ks loses b f h is stands apart. covered protocol problem k ks b f h loses is stands apart

pub returns-clause-nowhere : goal.returns-clause-nowhere
returns-clause-nowhere c = λ protocol problem k none b f h is stands apart factors. absurd (none b h is stands apart)
