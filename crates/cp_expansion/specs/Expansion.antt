-- The expansion of an unrealised skeleton: its test, the patterns that guard it, and the children of the test.
use Rattle.std.specs.Prelude.{◌≡◌, ◌<◌, ◌≤◌, ℕ, List, [], ◌∷◌, ◌++◌, length}
use Rattle.cp_lists.specs.Lists.{IsIn}
use Rattle.cp_model.specs.Strand.{Protocol}
use Rattle.cp_model.specs.Skeleton.{Skeleton}
use Rattle.cp_model.specs.Tree.{Pattern, Test}
use Rattle.cp_model.specs.declared.tree.Operation.TheVariants.{AddedStrand as by_added_strand}
use Rattle.cp_skel.specs.Tables.{DiffersInTable}
use Rattle.cp_cohort.specs.declared.child.Child.{Child}
use Rattle.cp_cohort.specs.Cohort.{GuardedTest, guarded_test_of, AreFirstAdded, IsCohort}
use Rattle.cp_escape.specs.Escape.{IsFirstWith, IsEscape}
use Rattle.cp_escape.specs.WidenedPattern.{WidensBy}
use Rattle.cp_expansion.specs.ChosenTest.{IsTestOf}

-- The child, with which a strand was added, gives a pattern that widens the set.
pub record IsWidening (q : GuardedTest) (c : Child) : Type 0 where
  pub strand : ℕ
  pub added : c.operation ≡ by_added_strand strand
  pub pattern : Pattern
  pub widens : WidensBy q.skeleton c.skeleton c.path pattern

-- The test under one pattern more, where the variables of the child from which that comes are declared.
abbrev pub asked_under : GuardedTest → Child → Pattern → GuardedTest
asked_under q c p = record q { skeleton = record q.skeleton { variables = c.skeleton.variables }; patterns = q.patterns ++ p ∷ [] }

-- The most patterns of a set that is widened is one less.
abbrev pub most_patterns : ℕ
most_patterns = 32

-- A test is asked under more and more patterns: the first child with an added strand that gives a pattern adds it, and the
-- children are made anew; until none gives one, or there are as many patterns as may be. The second test is the last one, and
-- these are its children.
pub data AreWidened (protocol : Protocol) : GuardedTest → GuardedTest → List Child → Type 0 where
  has_most : {q : GuardedTest} {children : List Child} → most_patterns ≤ length q.patterns → IsCohort protocol q children → AreWidened protocol q q children
  none_widens : {q : GuardedTest} {children : List Child} → length q.patterns < most_patterns → (is : IsCohort protocol q children) → ((c : Child) → IsIn c is.added → IsWidening q c → ⊥) → AreWidened protocol q q children
  one_widens : {q last : GuardedTest} {before children : List Child} {c : Child} → length q.patterns < most_patterns → AreFirstAdded protocol q before → IsFirstWith (IsWidening q) before c → (w : IsWidening q c)
      → AreWidened protocol (asked_under q c w.pattern) last children → AreWidened protocol q last children

-- A test with the patterns under which its children are made, and the skeleton, which declares the locals of the patterns too.
pub record Expansion : Type 0 where
  pub test : Test
  pub skeleton : Skeleton
  pub patterns : List Pattern
  pub children : List Child

-- The test of a skeleton under these patterns.
abbrev pub guarded_test_about : Skeleton → Test → List Pattern → GuardedTest
guarded_test_about k t ps = guarded_test_of k t.node t.critical ps

-- The expansion of the skeleton: its test is asked first under the patterns of the escape set. Nothing but variables is added.
pub record IsExpansionOf (protocol : Protocol) (k : Skeleton) (e : Expansion) : Type 0 where
  pub test : IsTestOf k e.test.node e.test.critical
  pub escape : List Pattern
  pub is_escape : IsEscape k e.test.node e.test.critical escape
  pub widened : AreWidened protocol (guarded_test_about k e.test escape) (guarded_test_about e.skeleton e.test e.patterns) e.children
  pub table : DiffersInTable k e.skeleton
