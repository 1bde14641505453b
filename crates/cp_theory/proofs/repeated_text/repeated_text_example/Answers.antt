use Rattle.cp_lists.specs.Lists.{here}
use Rattle.cp_theory.proofs.Spoken.{is_skeleton, is_bundle, stands, apart, originates, elsewhere, branches, origin_pair}
use Rattle.cp_theory.proofs.repeated_text.repeated_text_example.Goals as goal

pub returns-clause-skeleton : goal.returns-clause-skeleton
returns-clause-skeleton c = is_skeleton

pub returns-clause-bundle : goal.returns-clause-bundle
returns-clause-bundle c = is_bundle

pub returns-clause-stands : goal.returns-clause-stands
returns-clause-stands c = stands

pub returns-clause-apart : goal.returns-clause-apart
returns-clause-apart c = apart

pub returns-clause-listed : goal.returns-clause-listed
returns-clause-listed c = here

pub returns-clause-originates : goal.returns-clause-originates
returns-clause-originates c = originates

pub returns-clause-elsewhere : goal.returns-clause-elsewhere
returns-clause-elsewhere c = elsewhere

pub returns-clause-branches : goal.returns-clause-branches
returns-clause-branches c = branches

pub returns-clause-origin_pair : goal.returns-clause-origin_pair
returns-clause-origin_pair c = origin_pair
