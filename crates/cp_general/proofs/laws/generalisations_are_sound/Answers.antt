use Rattle.cp_general.proofs.SoundGeneralisations.{is_fit, is_most_general, embeds_back, is_skeleton, keeps_assumptions, is_realised, are_declared, sound_from}
use Rattle.cp_general.proofs.laws.generalisations_are_sound.Goals as goal

pub returns : goal.returns
returns c = record {
  skeleton = λ protocol k g sk r. is_skeleton protocol r sk;
  embeds = λ protocol k g sk r. embeds_back r;
  stated = λ protocol variables problem k g sp own sk carries stated r.
      (sound_from protocol variables problem sp own r (record { skeleton = sk; carries = carries; stated = stated })).stated;
  from_problem = λ protocol variables problem k g sp own sk stated carries r.
      (sound_from protocol variables problem sp own r (record { skeleton = sk; carries = carries; stated = stated })).carries;
  declared = λ variables k g declared r. are_declared variables r declared;
  assumptions = λ protocol k g sk r. keeps_assumptions protocol r sk;
  realised = λ protocol k g sk r. is_realised protocol r sk;
  fit = λ k g r. is_fit r;
  most_general = λ k g r. is_most_general r;
}
