use Rattle.std.proofs.Common.{◌↔◌, take}
use Rattle.cp_lists.specs.Lists.{IsIn}
use Rattle.cp_model.specs.Term.{AtomTerm}
use Rattle.cp_skel.specs.Kinds.{stated_as}
use Rattle.cp_skel.specs.Deletion.{IsGivenElsewhere}
use Rattle.cp_skel.proofs.assumptions_left.given_elsewhere.Given as goal

-- what is given by the strands so far but the one
abbrev pub invariant-loop-number : goal.invariant-loop-number
invariant-loop-number l = (v : AtomTerm) → IsIn v l.given.items ↔ IsGivenElsewhere (stated_as l.kind) (take l.number l.strands) l.gone v
