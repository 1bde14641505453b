use Rattle.std.proofs.Common.{◌≡◌, ◌↔◌, true, ℕ, Some, List, ◌++◌, ◌∷◌, [], ◌+◌, ◌<◌, length, sym, ap, subst, ◌∙◌, arith}
use Rattle.std.proofs.lemmas.List.{length-append}
use Rattle.std.proofs.lemmas.Result.{IfOk-weaker}
use Rattle.std.specs.Prelude.{IfOk}
use Rattle.cp_lists.specs.Lists.{item_at}
use Rattle.cp_model.specs.PointOfView.{HasDeclaredVariables}
use Rattle.cp_model.specs.Skeleton.{Skeleton, IsSkeleton}
use Rattle.cp_model.specs.Tree.{Pattern}
use Rattle.cp_skel.specs.Tables.{DiffersInTable}
use Rattle.cp_skel.proofs.TableAlone.{table_alone, same_alone, table_again}
use Rattle.cp_derive.specs.AtNode.{SkeletonNode}
use Rattle.cp_derive.specs.AtTest.{SkeletonTest}
use Rattle.cp_cohort.specs.Cohort.{GuardedTest, guarded_test_of, AreFirstAdded}
use Rattle.cp_cohort.specs.Widening.{IsCohortUntil}
use Rattle.cp_expansion.specs.Expansion.{AreWidened}
use Rattle.cp_expansion.specs.Views.{last_test}
use Rattle.cp_expansion.proofs.WidenedOnce.{widened_once_more, found_none, found_one}
use Rattle.cp_lists.proofs.Items.{item_of_read}
use Rattle.cp_theory.specs.Guards.{Guards}
use Rattle.cp_expansion.specs.Widened.{GivesWhileOpen, IsGiven}
use Rattle.cp_expansion.proofs.Tables.{skeleton_in_table, guards_in_table}
use Rattle.cp_expansion.proofs.OnceMore.{place_below, given_child, IsNext, grown_declared, table_behind, next_test, last_is, if_widened}
use Rattle.cp_expansion.proofs.expansion.+widened.Goals.{After-skeleton-k, In-Some, In_ok-grown, In_ok-push}
use Rattle.cp_expansion.proofs.expansion.+widened.Goals as goal

-- the skeleton of the test
the_skeleton : (t : ℕ) (c : After-skeleton-k t) → c.skeleton-k.result.now ≡ c.args.test.skeleton
the_skeleton t c = c.skeleton-k.ensures ∙ ap (λ (n : SkeletonNode). n.skeleton) c.at-place.ensures

-- the test under its patterns
abbrev asked : SkeletonTest → List Pattern → GuardedTest
asked x ps = guarded_test_of x.skeleton x.node x.critical ps

-- there are fewer patterns than may be, and the first child that gives one
found : (t : ℕ) (c : In-Some t) → c.skeleton-k.result.now ≡ c.args.test.skeleton →
    (length c.args.patterns.items < 32) × AreFirstAdded c.args.protocol.now (asked c.args.test c.args.patterns.items) c.in_ok-children.field-0.children.items
    × IsGiven c.args.test.skeleton c.in_ok-children.field-0.children.items c.in-Some.widening.child c.in-Some.widening.pattern
found t c is =
    let fewer : (c.of-source.result.is_open ≡ true) ↔ (length c.args.patterns.items < 32) = rw c.deref.ensures.value at c.of-source.ensures.open in
    let all : IsCohortUntil (GivesWhileOpen c.of-source.result) c.args.protocol.now (asked c.args.test c.args.patterns.items) c.in_ok-children.field-0.children.items c.in_ok-children.field-0.widening =
    rw c.deref-2.ensures.value at c.in_ok-children.ensures.exact in
    found_one c.args.protocol.now (asked c.args.test c.args.patterns.items) c.of-source.result.is_open fewer c.of-source.result.skeleton.now (c.of-source.ensures.skeleton ∙ is)
    c.in_ok-children.field-0.children.items c.in_ok-children.field-0.widening all c.in-Some.widening c.in-Some.is

-- the skeleton with more variables
grew : (t : ℕ) (c : In_ok-grown t) → c.skeleton-k.result.now ≡ c.args.test.skeleton → c.in_ok-grown.grown ≡ record c.args.test.skeleton { variables = c.variables.result.now }
grew t c is = c.in_ok-grown.ensures ∙ ap (λ (s : Skeleton). record s { variables = c.variables.result.now }) is

-- one pattern more, that of the first child that gives one, and the table of that child
next : (t : ℕ) (c : In_ok-push t) → IsGiven c.args.test.skeleton c.in_ok-children.field-0.children.items c.in-Some.widening.child c.in-Some.widening.pattern
    → c.in_ok-grown.grown ≡ record c.args.test.skeleton { variables = c.variables.result.now }
    → IsNext c.args.test.skeleton c.in_ok-grown.grown c.args.patterns.items c.push.new.self.items c.in_ok-children.field-0.children.items c.in-Some.widening.child c.in-Some.widening.pattern c.index.result.now
next t c g more =
    let k = c.args.test.skeleton in
    let cs = c.in_ok-children.field-0.children.items in
    let place = c.in-Some.widening.child in
    let p = c.in-Some.widening.pattern in
    record {
      given = g;
      read = item_of_read cs place c.index.result.now (place_below k cs place p g) c.index.ensures;
      sound = λ d listed. (c.in_ok-children.ensures.sound (record { skeleton = c.requires.skeleton; declared = c.requires.declared }) d listed).more;
      grew = more ∙ ap (λ vs. record k { variables = vs }) c.variables.ensures;
      pushed = c.in_ok-push.ensures.items;
    }

pub returns-in_default-clause-widened : goal.returns-in_default-clause-widened
returns-in_default-clause-widened t c =
    let cs = c.in_ok-children.field-0.children.items in
    let x = c.args.test in
    let q = asked x c.args.patterns.items in
    let is = the_skeleton t (goal.at.returns-in_default-clause-widened t c).After-skeleton-k in
    let fewer : (c.of-source.result.is_open ≡ true) ↔ (length c.args.patterns.items < 32) = rw c.deref.ensures.value at c.of-source.ensures.open in
    let all : IsCohortUntil (GivesWhileOpen c.of-source.result) c.args.protocol.now q cs c.in_ok-children.field-0.widening = rw c.deref-2.ensures.value at c.in_ok-children.ensures.exact in
    let widened : AreWidened c.args.protocol.now q q cs =
    found_none c.args.protocol.now q c.of-source.result.is_open fewer c.of-source.result.skeleton.now (c.of-source.ensures.skeleton ∙ is) cs c.in_ok-children.field-0.widening all c.in_default.is in
    subst (λ z. AreWidened c.args.protocol.now q z cs) (last_is x.skeleton c.in_ok-skeleton.skeleton x.node x.critical c.into_test.result c.args.patterns.items (c.in_ok-skeleton.ensures.same ∙ is) c.into_test.ensures) widened

pub index-requires : goal.index-requires
index-requires t c =
    let at = goal.at.index-requires t c in
    let g = (found t at.In-Some (the_skeleton t at.After-skeleton-k)).2 in
    let below : c.in-Some.widening.child < length c.in_ok-children.field-0.children.items = place_below c.args.test.skeleton c.in_ok-children.field-0.children.items c.in-Some.widening.child c.in-Some.widening.pattern g in
    grind (arith, below)

pub with_variables-requires : goal.with_variables-requires
with_variables-requires t c =
    let x = c.args.test in
    let cs = c.in_ok-children.field-0.children.items in
    let place = c.in-Some.widening.child in
    let p = c.in-Some.widening.pattern in
    let at = goal.at.with_variables-requires t c in
    let is = the_skeleton t at.After-skeleton-k in
    let g = (found t at.In-Some (the_skeleton t at.After-skeleton-k)).2 in
    let read : item_at cs place ≡ Some c.index.result.now = item_of_read cs place c.index.result.now (place_below x.skeleton cs place p g) c.index.ensures in
    let behind = table_behind x.skeleton cs place p c.index.result.now c.variables.result.now g read
    (λ d listed. (c.in_ok-children.ensures.sound (record { skeleton = c.requires.skeleton; declared = c.requires.declared }) d listed).more) c.variables.ensures in
    record { more = (behind.0, behind.1 ∙ ap (λ (s : Skeleton). s.variables ++ behind.0) (sym is)) }

pub in_table-requires : goal.in_table-requires
in_table-requires t c =
    let at = goal.at.in_table-requires t c in
    record { table = table_alone c.args.test.skeleton c.in_ok-grown.grown c.variables.result.now (grew t at.In_ok-grown (the_skeleton t at.After-skeleton-k)) }

pub widened-requires : goal.widened-requires
widened-requires t c =
    let x = c.args.test in
    let k = x.skeleton in
    let cs = c.in_ok-children.field-0.children.items in
    let place = c.in-Some.widening.child in
    let p = c.in-Some.widening.pattern in
    let at = goal.at.widened-requires t c in
    let is = the_skeleton t at.After-skeleton-k in
    let n = next t at.In_ok-push (found t at.In-Some (the_skeleton t at.After-skeleton-k)).2 (grew t at.In_ok-grown is) in
    let differs : DiffersInTable k c.in_ok-grown.grown = table_alone k c.in_ok-grown.grown c.index.result.now.skeleton.variables n.grew in
    let guards : Guards (c.args.patterns.items ++ p ∷ []) k x.node x.critical =
    c.widening_keeps_guards.ensures c.args.patterns.items k n.given.child.skeleton x.node x.critical n.given.child.path p c.requires.guards n.given.gives_it.widens in
    let fewer : length c.args.patterns.items < 32 = (found t at.In-Some (the_skeleton t at.After-skeleton-k)).0 in
    let longer : length c.push.new.self.items ≡ length c.args.patterns.items + 1 = ap length n.pushed ∙ length-append c.args.patterns.items (p ∷ []) in (
      omega (arith, fewer, longer, c.decreases),
      (
        subst (λ (z : SkeletonTest). IsSkeleton c.args.protocol.now z.skeleton) (sym c.in_table.ensures) (skeleton_in_table k c.in_ok-grown.grown differs c.args.protocol.now c.requires.skeleton),
        (
          subst (λ (z : SkeletonTest). HasDeclaredVariables z.skeleton.variables z.skeleton) (sym c.in_table.ensures)
              (grown_declared k c.in_ok-grown.grown c.args.patterns.items c.push.new.self.items cs place p c.index.result.now n c.requires.declared),
          subst (λ (z : SkeletonTest). Guards c.push.new.self.items z.skeleton z.node z.critical) (sym c.in_table.ensures)
              (guards_in_table k c.in_ok-grown.grown differs c.push.new.self.items x.node x.critical (subst (λ ps. Guards ps k x.node x.critical) (sym n.pushed) guards)),
        ),
      ),
    )

pub returns-clause-test : goal.returns-clause-test
returns-clause-test t c = subst (λ (z : SkeletonTest). IfOk c.widened.result (λ r. r.0 ≡ record { node = z.node; critical = z.critical })) c.in_table.ensures c.widened.ensures.test

pub returns-clause-widened : goal.returns-clause-widened
returns-clause-widened t c =
    let x = c.args.test in
    let cs = c.in_ok-children.field-0.children.items in
    let place = c.in-Some.widening.child in
    let p = c.in-Some.widening.pattern in
    let at = goal.at.returns-clause-widened t c in
    let is = the_skeleton t at.After-skeleton-k in
    let n = next t at.In_ok-push (found t at.In-Some (the_skeleton t at.After-skeleton-k)).2 (grew t at.In_ok-grown is) in
    let one = found t at.In-Some is in
    let next_one = next_test x.skeleton c.in_ok-grown.grown x.node x.critical c.args.patterns.items c.push.new.self.items p c.index.result.now n.given.child (given_child x.skeleton cs place p c.index.result.now n.given n.read) n.grew n.pushed in
    if_widened c.args.protocol.now (guarded_test_of x.skeleton x.node x.critical c.args.patterns.items) (guarded_test_of c.in_ok-grown.grown x.node x.critical c.push.new.self.items) (λ r. last_test r.0 r.1) (λ r. r.1.children.items) c.widened.result
    (λ q children h. widened_once_more c.args.protocol.now (guarded_test_of x.skeleton x.node x.critical c.args.patterns.items) (guarded_test_of c.in_ok-grown.grown x.node x.critical c.push.new.self.items) q cs children place p n.given one.0 one.1 next_one h)
    (subst (λ (z : SkeletonTest). IfOk c.widened.result (λ r. AreWidened c.args.protocol.now (guarded_test_of z.skeleton z.node z.critical c.push.new.self.items) (last_test r.0 r.1) r.1.children.items)) c.in_table.ensures c.widened.ensures.widened)

pub returns-in_default-clause-table : goal.returns-in_default-clause-table
returns-in_default-clause-table t c =
    same_alone c.args.test.skeleton c.in_ok-skeleton.skeleton (c.in_ok-skeleton.ensures.same ∙ the_skeleton t (goal.at.returns-in_default-clause-table t c).After-skeleton-k)

pub returns-clause-table : goal.returns-clause-table
returns-clause-table t c =
    let at = goal.at.returns-clause-table t c in
    let x = c.args.test in
    let grown = c.in_ok-grown.grown in
    let differs : DiffersInTable x.skeleton grown = table_alone x.skeleton grown c.variables.result.now (grew t at.In_ok-grown (the_skeleton t at.After-skeleton-k)) in
    IfOk-weaker c.widened.result _ _ (λ r h. table_again x.skeleton grown r.1.skeleton differs h)
    (subst (λ (z : SkeletonTest). IfOk c.widened.result (λ r. DiffersInTable z.skeleton r.1.skeleton)) c.in_table.ensures c.widened.ensures.table)
