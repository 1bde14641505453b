-- Each expansion of a sound label is sound.
use Rattle.std.proofs.Common.{◌≡◌, ℕ, List, [], map, true, false, refl, subst}
use Rattle.cp_lists.specs.Lists.{IsIn}
use Rattle.cp_lists.proofs.Members.{into_map, from_map}
use Rattle.cp_model.specs.Term.{Term}
use Rattle.cp_model.specs.Strand.{Role, Protocol}
use Rattle.cp_model.specs.declared.variable.Declaration.{Declaration}
use Rattle.cp_model.specs.Bundle.{Bundle}
use Rattle.cp_model.specs.declared.node.Node.{Node}
use Rattle.cp_model.specs.Skeleton.{Skeleton}
use Rattle.cp_model.specs.Standing.{Standing}
use Rattle.cp_model.specs.PointOfView.{IsPointOfView}
use Rattle.cp_model.specs.Tree.{Pattern}
use Rattle.cp_model.specs.Declares.{DeclaresItsVariables}
use Rattle.cp_normal.proofs.FormSkeletons.{normal_keeps_assumptions}
use Rattle.cp_theory.specs.Critical.{IsTest}
use Rattle.cp_theory.specs.Guards.{Guards}
use Rattle.cp_theory.specs.NoneLeftOut.{GoesOn, IsComplete}
use Rattle.cp_theory.proofs.NoneLeftOut.{covering_leaves_none_out}
use Rattle.cp_skel.specs.Tables.{DiffersInTable}
use Rattle.cp_roots.specs.Roots.{in_report_order}
use Rattle.cp_roots.proofs.InReportOrder.{skeleton_listed, assumptions_listed, carries_listed, stated_listed, stands_listed, apart_listed, declared_listed}
use Rattle.cp_cohort.specs.declared.child.Child.{Child}
use Rattle.cp_cohort.specs.Cohort.{GuardedTest, IsCohort}
use Rattle.cp_cohort.specs.Sound.{IsSoundChild}
use Rattle.cp_cohort.proofs.CohortCovers.{cohort_covers}
use Rattle.cp_cohort.proofs.SoundChildren.{sound_child}
use Rattle.cp_cohort.specs.GatheredLists.{terms_onto}
use Rattle.cp_escape.specs.Escape.{IsEscape}
use Rattle.cp_escape.proofs.EscapeGuards.{escape_guards}
use Rattle.cp_expansion.specs.Expansion.{guarded_test_about, Expansion, IsExpansionOf}
use Rattle.cp_expansion.proofs.Tables.{carries_in_table, stated_in_table, complete_from_table}
use Rattle.cp_tree.specs.Made.{Made, made_of_child}
use Rattle.cp_tree.specs.Sound.{IsSoundMade, ExpandsSoundly}
use Rattle.cp_expansion.proofs.TestsAreTests.{is_test}
use Rattle.cp_tree.proofs.NormalChildren.{normal_child}
use Rattle.cp_tree.proofs.AskedOn.{IsWellAsked, last_asked}

-- An escape set guards the test.
escape_set_guards : (k : Skeleton) (n : Node) (c : Term) (ps : List Pattern) → IsTest k n c → IsEscape k n c ps → Guards ps k n c
escape_set_guards k n c ps test is =
    escape_guards k n c (terms_onto [] is.encryptions) ps (record { sent = is.sent; before = is.before; encryptions = is.encryptions; each = is.each; once = refl }) is.once test

-- What is asked first of what is sound is well asked.
pub well_asked : (protocol : Protocol) (problem : Skeleton) (m : Made) (e : Expansion) → IsSoundMade protocol problem m → (is : IsExpansionOf protocol m.skeleton e) → IsWellAsked protocol (guarded_test_about m.skeleton e.test is.escape)
well_asked protocol problem m e sound is =
    let test : IsTest m.skeleton e.test.node e.test.critical = is_test m.skeleton e.test.node e.test.critical is.test in
    record { skeleton = sound.skeleton; declared = sound.declared; test = test; guards = escape_set_guards m.skeleton e.test.node e.test.critical is.escape test is.is_escape }

-- What goes on to skeletons goes on to these with their assumptions in the order of a report.
goes_on_listed : (k : Skeleton) (children : List Child) (b : Bundle) (h : Standing) → GoesOn (map (λ (c : Child). c.skeleton) children) k b h → GoesOn (map (λ (c : Child). in_report_order c.skeleton) children) k b h
goes_on_listed k children b h g =
    let m = from_map (λ (d : Child). d.skeleton) children g.listed in
    let listed : IsIn (in_report_order m.0.skeleton) (map (λ (d : Child). in_report_order d.skeleton) children) = into_map (λ (d : Child). in_report_order d.skeleton) m.1 in
    record {
      skeleton = in_report_order g.skeleton;
      listed = subst (λ (x : Skeleton). IsIn (in_report_order x) (map (λ (d : Child). in_report_order d.skeleton) children)) m.2 listed;
      standing = g.standing;
      stands = stands_listed g.skeleton b g.standing g.stands;
      apart = apart_listed g.skeleton g.standing g.apart;
      along = g.along;
      in_place = g.in_place;
      through = record { nodes = g.through.nodes; values = g.through.values; problem_strands = g.through.problem_strands; problem_values = g.through.problem_values };
    }

module _ (protocol : Protocol) (variables : List Declaration) (problem : Skeleton) (declares : (role : Role) → IsIn role protocol.roles → DeclaresItsVariables role) (own : IsPointOfView variables problem) where
  child_is_sound : (q : GuardedTest) (children : List Child) → IsWellAsked protocol q → IsCohort protocol q children → (m : Made) → DiffersInTable m.skeleton q.skeleton → IsSoundMade protocol problem m → (i : ℕ) (c : Child) → IsIn c children → IsSoundMade protocol problem (made_of_child i c)
  child_is_sound q children well is m differs sound i c listed =
      let s : IsSoundChild protocol q c = sound_child protocol q children well.skeleton declares well.declared well.test well.guards is c listed in
      let k = s.keeps variables problem own (carries_in_table m.skeleton q.skeleton differs problem sound.from_problem) in
      let normal = normal_child q protocol children is c listed in
      record {
        skeleton = skeleton_listed c.skeleton protocol s.skeleton;
        from_problem = carries_listed c.skeleton problem k.0;
        stated = stated_listed c.skeleton problem (k.1 (stated_in_table m.skeleton q.skeleton differs problem sound.stated));
        declared = declared_listed c.skeleton c.skeleton.variables s.declared;
        assumptions = λ lives. assumptions_listed c.skeleton (normal_keeps_assumptions protocol c.skeleton s.skeleton normal);
        nowhere = λ d. absurd (let e : false ≡ true = d in cc);
      }

  none_left_out : (q : GuardedTest) (children : List Child) → IsWellAsked protocol q → IsCohort protocol q children → IsComplete protocol q.skeleton (map (λ (c : Child). c.skeleton) children)
  none_left_out q children well is =
      covering_leaves_none_out protocol q.skeleton q.node q.critical q.patterns (map (λ (d : Child). d.skeleton) children) well.skeleton well.test well.guards (cohort_covers protocol q children well.skeleton declares well.declared well.test well.guards is)

  pub expands_soundly : ExpandsSoundly protocol problem
  expands_soundly m e sound lives unrealised is =
      let well = well_asked protocol problem m e sound is in
      let last = last_asked protocol declares is.widened well in
      let q : GuardedTest = guarded_test_about e.skeleton e.test e.patterns in
      record {
        children = λ i c listed. child_is_sound q e.children last.0 last.1 m is.table sound i c listed;
        leaves_none_out = λ b h bundle stands apart. goes_on_listed m.skeleton e.children b h (complete_from_table m.skeleton e.skeleton is.table protocol (map (λ (c : Child). c.skeleton) e.children) (none_left_out q e.children last.0 last.1) b h bundle stands apart);
      }
