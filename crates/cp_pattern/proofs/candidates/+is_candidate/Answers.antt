use Rattle.std.proofs.Common.{◌∙◌}
use Rattle.cp_pattern.proofs.Alike.{variable_candidate, akey_candidate, skey_candidate}
use Rattle.cp_pattern.proofs.CandidateParts.{leaf_left}
use Rattle.cp_pattern.proofs.candidates.+is_candidate.Goals as goal

pub returns-in-Tag : goal.returns-in-Tag
returns-in-Tag t c = leaf_left c.args.critical.now c.args.term.now c.parts.sought.now c.parts.there.now c.parts.invariant.0 _ _ c.in-Tag.ensures c.is_tag.ensures

pub returns-in-Variable : goal.returns-in-Variable
returns-in-Variable t c = variable_candidate _ c.parts.sought.now c.parts.there.now _ _ c.is_of_sort.ensures c.in-Variable.ensures ∙ c.parts.invariant.0

pub returns-in-Inverse : goal.returns-in-Inverse
returns-in-Inverse t c = akey_candidate _ c.parts.sought.now c.parts.there.now _ _ c.is_of_sort-in-Inverse.ensures c.in-Inverse.ensures ∙ c.parts.invariant.0

pub returns-in-Pubk : goal.returns-in-Pubk
returns-in-Pubk t c = akey_candidate _ c.parts.sought.now c.parts.there.now _ _ c.is_of_sort-in-Pubk.ensures c.in-Pubk.ensures ∙ c.parts.invariant.0

pub returns-in-Ltk : goal.returns-in-Ltk
returns-in-Ltk t c = skey_candidate _ c.parts.sought.now c.parts.there.now _ c.is_of_sort-in-Ltk.ensures c.in-Ltk.ensures ∙ c.parts.invariant.0
