-- What is asked for as patterns are added, one after the other.
use Rattle.std.proofs.Common.{◌≡◌, ℕ, ◌<◌, List, [], ◌∷◌, ◌++◌, length, Option, Some, None, Result, Ok, Err, IfOk, refl, sym, ap, subst, ◌∙◌}
use Rattle.cp_lists.specs.Lists.{item_at, IsIn}
use Rattle.cp_lists.proofs.Items.{item_below, item_still, at_place}
use Rattle.cp_model.specs.Term.{Term}
use Rattle.cp_model.specs.declared.variable.Variable.{Variable}
use Rattle.cp_model.specs.Strand.{Protocol}
use Rattle.cp_model.specs.declared.variable.Declaration.{Declaration}
use Rattle.cp_model.specs.declared.node.Node.{Node}
use Rattle.cp_model.specs.Skeleton.{Skeleton}
use Rattle.cp_model.specs.Problem.{declared_sort, IsDeclared}
use Rattle.cp_model.specs.PointOfView.{HasDeclaredVariables}
use Rattle.cp_model.specs.Tree.{Pattern, Test}
use Rattle.cp_cohort.specs.declared.child.Child.{Child}
use Rattle.cp_cohort.specs.Cohort.{GuardedTest, guarded_test_of}
use Rattle.cp_cohort.specs.Way.{DeclaresMore}
use Rattle.cp_expansion.specs.Expansion.{asked_under, AreWidened}
use Rattle.cp_expansion.specs.Widened.{IsGiven}
use Rattle.cp_expansion.proofs.Tables.{declared_in_table}

-- ---- the child that widens

pub place_below : (k : Skeleton) (cs : List Child) (place : ℕ) (p : Pattern) → IsGiven k cs place p → place < length cs
place_below k cs place p g = item_below cs place g.child g.at

pub given_child : (k : Skeleton) (cs : List Child) (place : ℕ) (p : Pattern) (c : Child) → (g : IsGiven k cs place p) → item_at cs place ≡ Some c → g.child ≡ c
given_child k cs place p c g at = let e : Some g.child ≡ Some c = sym g.at ∙ at in cc

pub listed_child : (k : Skeleton) (cs : List Child) (place : ℕ) (p : Pattern) → (g : IsGiven k cs place p) → IsIn g.child cs
listed_child k cs place p g = at_place cs place g.child g.at

-- ---- tables

still_declared : (ds more : List Declaration) (x : Variable) → IsDeclared ds x → IsDeclared (ds ++ more) x
still_declared ds more x d = still (item_at ds x.number) refl d
  where
    still : (o : Option Declaration) → item_at ds x.number ≡ o → declared_sort o ≡ Some x.sort → IsDeclared (ds ++ more) x
    still None e f = absurd (cc)
    still (Some y) e f = ap declared_sort (item_still ds more x.number y e) ∙ f

pub declared_more : (ds es : List Declaration) (k : Skeleton) → DeclaresMore ds es → HasDeclaredVariables ds k → HasDeclaredVariables es k
declared_more ds es k m h = record {
  occurring = λ x at. subst (λ fs. IsDeclared fs x) (sym m.behind) (still_declared ds m.more x (h.occurring x at));
  mapped = λ t x listed at. subst (λ fs. IsDeclared fs x) (sym m.behind) (still_declared ds m.more x (h.mapped t x listed at));
}

-- ---- the next test

-- One pattern more, and the table of the child that gives it.
pub record IsNext (k grown : Skeleton) (old new : List Pattern) (cs : List Child) (place : ℕ) (p : Pattern) (child : Child) : Type 0 where
  pub given : IsGiven k cs place p
  pub read : item_at cs place ≡ Some child
  pub sound : (c : Child) → IsIn c cs → DeclaresMore k.variables c.skeleton.variables
  pub grew : grown ≡ record k { variables = child.skeleton.variables }
  pub pushed : new ≡ old ++ p ∷ []

pub grown_declared : (k grown : Skeleton) (old new : List Pattern) (cs : List Child) (place : ℕ) (p : Pattern) (child : Child) → IsNext k grown old new cs place p child → HasDeclaredVariables k.variables k
    → HasDeclaredVariables grown.variables grown
grown_declared k grown old new cs place p child n h =
    let is : n.given.child ≡ child = given_child k cs place p child n.given n.read in
    let more : DeclaresMore k.variables child.skeleton.variables = subst (λ (c : Child). DeclaresMore k.variables c.skeleton.variables) is (n.sound n.given.child (listed_child k cs place p n.given)) in
    subst (λ (s : Skeleton). HasDeclaredVariables s.variables s) (sym n.grew)
    (declared_in_table k (record k { variables = child.skeleton.variables }) refl child.skeleton.variables (declared_more k.variables child.skeleton.variables k more h))

pub table_behind : (k : Skeleton) (cs : List Child) (place : ℕ) (p : Pattern) (child : Child) (vs : List Declaration) → (g : IsGiven k cs place p) → item_at cs place ≡ Some child
    → ((c : Child) → IsIn c cs → DeclaresMore k.variables c.skeleton.variables) → vs ≡ child.skeleton.variables → (rest : List Declaration) × (vs ≡ k.variables ++ rest)
table_behind k cs place p child vs g at sound is =
    let same : g.child ≡ child = given_child k cs place p child g at in
    let more : DeclaresMore k.variables child.skeleton.variables = subst (λ (c : Child). DeclaresMore k.variables c.skeleton.variables) same (sound g.child (listed_child k cs place p g)) in
    (more.more, is ∙ more.behind)

pub next_test : (k grown : Skeleton) (n : Node) (c : Term) (old new : List Pattern) (p : Pattern) (child : Child) (g : Child) → g ≡ child → grown ≡ record k { variables = child.skeleton.variables } → new ≡ old ++ p ∷ []
    → guarded_test_of grown n c new ≡ asked_under (guarded_test_of k n c old) g p
next_test k grown n c old new p child g is grew pushed =
    ap (λ (s : Skeleton). guarded_test_of s n c new) grew
    ∙ ap (λ (ps : List Pattern). guarded_test_of (record k { variables = child.skeleton.variables }) n c ps) pushed
    ∙ ap (λ (d : Child). asked_under (guarded_test_of k n c old) d p) (sym is)

-- The last test: of the copy of the skeleton, by what the test came to.
pub last_is : (k copied : Skeleton) (n : Node) (c : Term) (t : Test) (ps : List Pattern) → copied ≡ k → t ≡ record { node = n; critical = c } → guarded_test_of k n c ps ≡ guarded_test_of copied t.node t.critical ps
last_is k copied n c t ps e f = ap (λ (s : Skeleton). guarded_test_of s n c ps) (sym e) ∙ ap (λ (x : Test). guarded_test_of copied x.node x.critical ps) (sym f)

pub if_widened : {A E : Type 0} (protocol : Protocol) (first next : GuardedTest) (last : A → GuardedTest) (children : A → List Child) (r : Result A E) → ((q : GuardedTest) (cs : List Child) → AreWidened protocol next q cs → AreWidened protocol first q cs)
    → IfOk r (λ a. AreWidened protocol next (last a) (children a)) → IfOk r (λ a. AreWidened protocol first (last a) (children a))
if_widened protocol first next last children (Ok a) on h = on (last a) (children a) h
if_widened protocol first next last children (Err e) on h = tt
