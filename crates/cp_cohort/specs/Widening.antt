-- Children that are made until one gives a pattern.
use Rattle.std.specs.Prelude.{◌≡◌, ◌<◌, ℕ, List, length, Option, Some, None}
use Rattle.cp_lists.specs.Lists.{item_at, IsIn}
use Rattle.cp_model.specs.Strand.{Protocol}
use Rattle.cp_model.specs.Tree.{Pattern}
use Rattle.cp_cohort.specs.declared.child.Child.{Child}
use Rattle.cp_cohort.specs.declared.widening.Widening.{Widening}
use Rattle.cp_cohort.specs.Cohort.{GuardedTest, AreFirstAdded, IsCohort}
use Rattle.cp_cohort.specs.Views.{PutsChildren}

-- None of the first n children gives a pattern.
abbrev pub NoneGives : (Child → Pattern → Type 0) → List Child → ℕ → Type 0
NoneGives gives cs n = (i : ℕ) (c : Child) (p : Pattern) → i < n → item_at cs i ≡ Some c → gives c p → ⊥

-- The child at this place gives this pattern, and none before it gives one.
pub record IsGiven (gives : Child → Pattern → Type 0) (cs : List Child) (place : ℕ) (p : Pattern) : Type 0 where
  pub child : Child
  pub at : item_at cs place ≡ Some child
  pub gives_it : gives child p
  pub first : NoneGives gives cs place

-- The first of the children that gives a pattern, with the pattern; none where none gives one.
abbrev pub FindsWidening : (Child → Pattern → Type 0) → List Child → Option Widening → Type 0
FindsWidening gives cs None = NoneGives gives cs (length cs)
FindsWidening gives cs (Some w) = IsGiven gives cs w.child w.pattern

-- All of them, unless a child gives a pattern; then the first of them.
abbrev pub until : (all first : List Child → Type 0) → Option Widening → List Child → Type 0
until all first None = all
until all first (Some w) = first

-- Behind the old children stand all those that are given, or the first of them up to one that gives a pattern.
pub record PutsUntil (gives : Child → Pattern → Type 0) (all first : List Child → Type 0) (old new : List Child) (found : Option Widening) : Type 0 where
  pub puts : PutsChildren (until all first found) old new
  pub finds : NoneGives gives old (length old) → FindsWidening gives new found

-- The cohort of the test, in which no child with an added strand gives a pattern; or the first of the children with an added
-- strand, the first of which to give a pattern is found.
abbrev pub IsCohortUntil : (Child → Pattern → Type 0) → Protocol → GuardedTest → List Child → Option Widening → Type 0
IsCohortUntil gives protocol q cs None = (is : IsCohort protocol q cs) × ((c : Child) (p : Pattern) → IsIn c is.added → gives c p → ⊥)
IsCohortUntil gives protocol q cs (Some w) = AreFirstAdded protocol q cs × IsGiven gives cs w.child w.pattern
