-- What is asked under more and more patterns goes on meeting what the law of cohorts wants.
use Rattle.std.proofs.Common.{List, [], ◌∷◌, ◌++◌, refl}
use Rattle.cp_lists.specs.Lists.{IsIn}
use Rattle.cp_model.specs.Strand.{Role, Protocol}
use Rattle.cp_model.specs.Skeleton.{Skeleton, IsSkeleton}
use Rattle.cp_model.specs.PointOfView.{HasDeclaredVariables}
use Rattle.cp_model.specs.Declares.{DeclaresItsVariables}
use Rattle.cp_theory.specs.Critical.{IsTest}
use Rattle.cp_theory.specs.Guards.{Guards}
use Rattle.cp_cohort.specs.declared.child.Child.{Child}
use Rattle.cp_cohort.specs.Cohort.{GuardedTest, AreFirstAdded, IsCohort}
use Rattle.cp_cohort.specs.Sound.{IsSoundChild}
use Rattle.cp_cohort.proofs.SoundChildren.{first_added_sound}
use Rattle.cp_escape.proofs.EscapeGuards.{first_is_in}
use Rattle.cp_escape.proofs.Widened.{guards_still}
use Rattle.cp_expansion.proofs.OnceMore.{declared_more}
use Rattle.cp_derive.proofs.InTable.{test_in_table}
use Rattle.cp_expansion.proofs.Tables.{skeleton_in_table, declared_in_table, guards_in_table}
use Rattle.cp_expansion.specs.Expansion.{IsWidening, asked_under, AreWidened, has_most, none_widens, one_widens}

-- What the law of cohorts wants of a guarded test.
pub record IsWellAsked (protocol : Protocol) (q : GuardedTest) : Type 0 where
  pub skeleton : IsSkeleton protocol q.skeleton
  pub declared : HasDeclaredVariables q.skeleton.variables q.skeleton
  pub test : IsTest q.skeleton q.node q.critical
  pub guards : Guards q.patterns q.skeleton q.node q.critical

module _ (protocol : Protocol) (declares : (role : Role) → IsIn role protocol.roles → DeclaresItsVariables role) where
  -- The first children with an added strand are sound.
  pub first_sound : (q : GuardedTest) (children : List Child) (c : Child) → IsWellAsked protocol q → AreFirstAdded protocol q children → IsIn c children → IsSoundChild protocol q c
  first_sound q children c well start i = first_added_sound protocol q well.skeleton declares well.declared well.test well.guards children start c i

  pub asked_on : (q : GuardedTest) (c : Child) → IsWellAsked protocol q → IsSoundChild protocol q c → (w : IsWidening q c) → IsWellAsked protocol (asked_under q c w.pattern)
  asked_on q c well s w =
      let tabled : Skeleton = record q.skeleton { variables = c.skeleton.variables } in
      record {
        skeleton = skeleton_in_table q.skeleton tabled refl protocol well.skeleton;
        declared = declared_in_table q.skeleton tabled refl c.skeleton.variables (declared_more q.skeleton.variables c.skeleton.variables q.skeleton s.more well.declared);
        test = test_in_table q.skeleton tabled refl q.node q.critical well.test;
        guards = guards_in_table q.skeleton tabled refl (q.patterns ++ w.pattern ∷ []) q.node q.critical (guards_still q.skeleton c.skeleton q.node q.critical c.path w.pattern w.widens q.patterns well.guards);
      }

  -- So does the last test, and the children are its cohort.
  pub last_asked : {q last : GuardedTest} {children : List Child} → AreWidened protocol q last children → IsWellAsked protocol q → IsWellAsked protocol last × IsCohort protocol last children
  last_asked (has_most most is) well = (well, is)
  last_asked (none_widens fewer is none) well = (well, is)
  last_asked (one_widens {q = q} {before = before} {c = c} fewer start first w rest) well = last_asked rest (asked_on q c well (first_sound q before c well start (first_is_in first)) w)
