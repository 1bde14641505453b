use Rattle.std.proofs.Common.{List, sym, subst}
use Rattle.cp_normal.specs.Leaves.{HasOpen}
use Rattle.cp_normal.specs.declared.form.Form.{Form}
use Rattle.cp_normal.specs.declared.rewriting.Candidate.{Candidate}
use Rattle.cp_normal.proofs.NarrowingSteps.{narrowing_falls, is_shut}
use Rattle.cp_normal.proofs.beside.forms_among.Goals as goal

pub each_leaves-requires : goal.each_leaves-requires
each_leaves-requires c = narrowing_falls

pub returns : goal.returns
returns c = (
  c.in_ok-forms.ensures,
  λ settled unfinished. is_shut c.some_is_open-are_settled.result settled (c.some_is_open-are_settled.ensures.1 (subst (λ (cs : List (Candidate Form Form)). HasOpen cs) (sym c.deref.ensures.value) unfinished)),
)
