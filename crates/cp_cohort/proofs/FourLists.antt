-- The four lists of children, one behind another.
use Rattle.std.proofs.Common.{append_assoc, ◌≡◌, List, [], ◌++◌, ap, ◌∙◌}
use Rattle.cp_model.specs.Problem.{numbers_from}
use Rattle.cp_model.specs.Strand.{Protocol}
use Rattle.cp_cohort.specs.GatheredLists.{EachGives}
use Rattle.cp_cohort.specs.CoveringChildren.{Child}
use Rattle.cp_cohort.specs.Cohort.{GuardedTest, AreContracted, DisplacesStrand, AddsEvent, AreListeners, IsCohort}
use Rattle.cp_cohort.specs.Views.{PutsChildren}

abbrev pub all_put : (protocol : Protocol) (q : GuardedTest) (none one two three four : List Child) → none ≡ [] → PutsChildren (AreContracted q) none one → PutsChildren (EachGives (DisplacesStrand q) (numbers_from 0 q.skeleton.strands)) one two →
    PutsChildren (EachGives (λ role. EachGives (AddsEvent q role) (numbers_from 0 role.trace)) protocol.roles) two three → PutsChildren (AreListeners q) three four → IsCohort protocol q four
all_put protocol q none one two three four empty a b c d = record {
  contracted = a.added;
  displaced = b.added;
  added = c.added;
  listeners = d.added;
  are_contracted = a.given;
  are_displaced = b.given;
  are_added = c.given;
  are_listeners = d.given;
  whole = d.behind ∙ ap (λ zs. zs ++ d.added) (c.behind ∙ ap (λ zs. zs ++ c.added) (b.behind ∙ ap (λ zs. zs ++ b.added) (a.behind ∙ ap (λ zs. zs ++ a.added) empty)))
      ∙ append_assoc (a.added ++ b.added) c.added d.added ∙ append_assoc a.added b.added (c.added ++ d.added);
}
