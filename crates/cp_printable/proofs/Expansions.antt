-- Tests, escape sets and widened patterns have no other strings than their skeletons, and so neither have expansions.
use Rattle.std.proofs.Common.{◌≡◌, ◌⊎◌, ℕ, List, [], ◌∷◌, ◌++◌, length, map, sym, subst, ⊎_elim}
use Rattle.cp_lists.specs.Lists.{IsIn}
use Rattle.cp_lists.proofs.Members.{not_in_none, only_item, in_append_right, in_pushed, from_map}
use Rattle.cp_model.specs.Term.{Term}
use Rattle.cp_model.specs.declared.variable.Variable.{Variable}
use Rattle.cp_model.specs.Strand.{payload, Role, Protocol}
use Rattle.cp_model.specs.declared.strand.Event.TheVariants.{Send as send, Receive as recv}
use Rattle.cp_model.specs.declared.variable.Declaration.{Declaration}
use Rattle.cp_model.specs.Bundle.{node_at}
use Rattle.cp_model.specs.declared.node.Node.{Node}
use Rattle.cp_model.specs.Skeleton.{Skeleton}
use Rattle.cp_model.specs.Problem.{IsDeclared}
use Rattle.cp_model.specs.PointOfView.{HasDeclaredVariables}
use Rattle.cp_model.specs.Tree.{Pattern}
use Rattle.cp_model.specs.declared.step.Step.{Step}
use Rattle.cp_model.specs.Declares.{DeclaresItsVariables}
use Rattle.cp_skel.specs.Events.{LocatedEvent, events_of}
use Rattle.cp_skel.proofs.EventLists.{listed_event}
use Rattle.cp_cohort.specs.declared.child.Child.{Child}
use Rattle.cp_cohort.specs.Cohort.{GuardedTest, IsCohort}
use Rattle.cp_cohort.specs.GatheredLists.{EachGives, terms_onto}
use Rattle.cp_cohort.specs.Way.{DeclaresMore}
use Rattle.cp_cohort.specs.Sound.{IsSoundChild}
use Rattle.cp_cohort.proofs.Listed.{given, those_have, of_terms_onto}
use Rattle.cp_cohort.proofs.Settled.{above_variables, event_declared}
use Rattle.cp_escape.specs.Escape.{GivesClosed, positions_of, whole_pattern, IsEscape}
use Rattle.cp_escape.specs.WidenedPattern.{WidensBy}
use Rattle.cp_expansion.specs.ChosenTest.{IsTestOf}
use Rattle.cp_expansion.specs.Expansion.{IsWidening, asked_under, AreWidened, has_most, none_widens, one_widens, guarded_test_about, Expansion, IsExpansionOf}
use Rattle.cp_escape.proofs.EscapeGuards.{first_is_in}
use Rattle.cp_tree.proofs.AskedOn.{IsWellAsked, first_sound, asked_on}
use Rattle.cp_printable.specs.Spelled.{IsSpelledTerm, AreSpelledDeclarations, IsSpelledRole, IsSpelledSkeleton}
use Rattle.cp_printable.proofs.Under.{event_spelled, table_spelled}
use Rattle.cp_printable.proofs.Enclosed.{first_above_spelled, underivable_spelled}
use Rattle.cp_printable.proofs.OpenedPatterns.{AreNamed, still_named, named_as_declared}
use Rattle.cp_printable.proofs.Children.{IsSpelledGuardedTest, IsSpelledChild, cohort_spelled, first_spelled}

pub record IsSpelledExpansion (S I : List ℕ → Type 0) (e : Expansion) : Type 0 where
  pub variables : AreSpelledDeclarations I e.skeleton.variables
  pub critical : IsSpelledTerm S e.test.critical
  pub patterns : (p : Pattern) → IsIn p e.patterns → IsSpelledTerm S p.term
  pub children : (c : Child) → IsIn c e.children → IsSpelledChild S I c

-- ---- one round

module _ (S I : List ℕ → Type 0) where
  -- The critical term is a component of a message that is received.
  test_spelled : (k : Skeleton) (n : Node) (c : Term) → IsSpelledSkeleton S I k → IsTestOf k n c → IsSpelledTerm S c
  test_spelled k n c is test = underivable_spelled S test.message test.path c (event_spelled S I k n (recv test.message) is test.reception) test.critical

  -- An encryption of the escape set encloses a position of a message that is sent.
  closed_spelled : (k : Skeleton) (n : Node) (c : Term) (o : LocatedEvent) (es : List Term) → IsSpelledSkeleton S I k → IsIn o (events_of k) → EachGives (GivesClosed k n (payload o.event)) (positions_of c (payload o.event)) es
      → (e : Term) → IsIn e es → IsSpelledTerm S e
  closed_spelled k n c o es is listed each e i =
      let r = given each e i in
      let message : IsSpelledTerm S (payload o.event) = event_spelled S I k o.node o.event is (listed_event k o listed) in
      let same : e ≡ r.gives_it.encryption = only_item (subst (IsIn e) r.gives_it.alone r.among) in
      subst (IsSpelledTerm S) (sym same) (first_above_spelled S (payload o.event) r.giver r.gives_it.encryption message r.gives_it.outermost)

  escape_spelled : (k : Skeleton) (n : Node) (c : Term) (ps : List Pattern) → IsSpelledSkeleton S I k → IsEscape k n c ps → (p : Pattern) → IsIn p ps → IsSpelledTerm S p.term
  escape_spelled k n c ps is escape p i =
      let m = from_map whole_pattern (terms_onto [] escape.encryptions) (subst (IsIn p) escape.once i) in
      let listed : IsIn m.0 escape.encryptions = ⊎_elim (λ none. absurd (not_in_none none)) (λ j. j) (of_terms_onto [] escape.encryptions m.0 m.1) in
      let r = given escape.each m.0 listed in
      subst (λ (q : Pattern). IsSpelledTerm S q.term) m.2 (closed_spelled k n c r.giver r.given is (those_have escape.before r.giver r.listed).0 r.gives_it m.0 r.among)

  -- A pattern that widens the set encloses a position of a message that the child sends.
  widening_spelled : (k l : Skeleton) (path : List Step) (p : Pattern) → IsSpelledSkeleton S I l → WidensBy k l path p → IsSpelledTerm S p.term
  widening_spelled k l path p is w =
      first_above_spelled S w.message path p.term (event_spelled S I l (node_at (length k.strands) w.sends.index) (send w.message) is w.sends.sends) w.outermost

-- ---- all rounds

-- Each local of a pattern that widens the set is a variable of the child, and so declared there.
local_declared : (k l : Skeleton) (path : List Step) (p : Pattern) (ds : List Declaration) → HasDeclaredVariables ds l → WidensBy k l path p → (x : Variable) → IsIn x p.locals → IsDeclared ds x
local_declared k l path p ds has w x i =
    event_declared ds l has (node_at (length k.strands) w.sends.index) (send w.message) w.sends.sends x
    (above_variables w.message path p.term (first_is_in w.outermost) x ((w.locals.exactly x).0 i).0)

module _ (S I : List ℕ → Type 0) (decide : (t : List ℕ) → S t ⊎ (S t → ⊥)) (protocol : Protocol) (declares : (role : Role) → IsIn role protocol.roles → DeclaresItsVariables role)
    (roles : (role : Role) → IsIn role protocol.roles → IsSpelledRole S I role) where
  child_spelled : (q : GuardedTest) (children : List Child) → IsWellAsked protocol q → IsSpelledGuardedTest S I q → IsCohort protocol q children → (c : Child) → IsIn c children → IsSpelledChild S I c
  child_spelled q children well = cohort_spelled S I decide protocol declares roles q children well.skeleton

  -- One pattern more, behind those that stand.
  patterns_have : (P : Pattern → Type 0) (ps : List Pattern) (p : Pattern) → ((q : Pattern) → IsIn q ps → P q) → P p → (q : Pattern) → IsIn q (ps ++ p ∷ []) → P q
  patterns_have P ps p all this q i = ⊎_elim (all q) (λ (same : p ≡ q). subst P same this) (in_pushed ps p q i)

  -- The variables that a child declares beside those of the test's skeleton are named as such.
  more_spelled : (ds es : List Declaration) (m : DeclaresMore ds es) → AreSpelledDeclarations I es → AreSpelledDeclarations I m.more
  more_spelled ds es m all d i = all d (subst (IsIn d) (sym m.behind) (in_append_right ds i))

  named_on : (ds es : List Declaration) (p : Pattern) → DeclaresMore ds es → AreSpelledDeclarations I es → AreNamed I ds p → AreNamed I es p
  named_on ds es p m all named = subst (λ (fs : List Declaration). AreNamed I fs p) (sym m.behind) (still_named I ds m.more p (more_spelled ds es m all) named)

  widened_on : (q : GuardedTest) (c : Child) → IsSpelledGuardedTest S I q → IsSpelledChild S I c → IsSoundChild protocol q c → (w : IsWidening q c) → IsSpelledGuardedTest S I (asked_under q c w.pattern)
  widened_on q c asked child sound w = record {
    variables = child.variables;
    skeleton = table_spelled S I q.skeleton c.skeleton.variables asked.skeleton;
    critical = asked.critical;
    patterns = patterns_have (λ p. IsSpelledTerm S p.term) q.patterns w.pattern asked.patterns (widening_spelled S I q.skeleton c.skeleton c.path w.pattern child.skeleton w.widens);
    named = patterns_have (AreNamed I c.skeleton.variables) q.patterns w.pattern (λ p i. named_on q.skeleton.variables c.skeleton.variables p sound.more child.variables (asked.named p i))
        (named_as_declared I c.skeleton.variables w.pattern child.variables (local_declared q.skeleton c.skeleton c.path w.pattern c.skeleton.variables sound.declared w.widens));
  }

  -- The test that is asked last, and its children.
  record IsSpelledLast (last : GuardedTest) (children : List Child) : Type 0 where
    question : IsSpelledGuardedTest S I last
    each : (c : Child) → IsIn c children → IsSpelledChild S I c

  last_spelled : {q last : GuardedTest} {children : List Child} → AreWidened protocol q last children → IsWellAsked protocol q → IsSpelledGuardedTest S I q → IsSpelledLast last children
  last_spelled (has_most {q = q} {children = children} most is) well asked = record { question = asked; each = child_spelled q children well asked is }
  last_spelled (none_widens {q = q} {children = children} fewer is none) well asked = record { question = asked; each = child_spelled q children well asked is }
  last_spelled (one_widens {q = q} {before = before} {c = c} fewer start first w rest) well asked =
      let i = first_is_in first in
      let s = first_sound protocol declares q before c well start i in
      last_spelled rest (asked_on protocol declares q c well s w) (widened_on q c asked (first_spelled S I decide protocol declares roles q before well.skeleton asked start c i) s w)

  -- The patterns of an escape set have no locals.
  whole_named : (ds : List Declaration) (es : List Term) (p : Pattern) → IsIn p (map whole_pattern es) → AreNamed I ds p
  whole_named ds es p i x local = let m = from_map whole_pattern es i in absurd (not_in_none (subst (λ (q : Pattern). IsIn x q.locals) (sym m.2) local))

  asked_first : (k : Skeleton) (e : Expansion) → AreSpelledDeclarations I k.variables → IsSpelledSkeleton S I k → (of : IsExpansionOf protocol k e) → IsSpelledGuardedTest S I (guarded_test_about k e.test of.escape)
  asked_first k e declared is of = record {
    variables = declared;
    skeleton = is;
    critical = test_spelled S I k e.test.node e.test.critical is of.test;
    patterns = escape_spelled S I k e.test.node e.test.critical of.escape is of.is_escape;
    named = λ p i. whole_named k.variables (terms_onto [] of.is_escape.encryptions) p (subst (IsIn p) of.is_escape.once i);
  }

  pub expansion_spelled : (k : Skeleton) (e : Expansion) → AreSpelledDeclarations I k.variables → IsSpelledSkeleton S I k → (of : IsExpansionOf protocol k e) → IsWellAsked protocol (guarded_test_about k e.test of.escape) → IsSpelledExpansion S I e
  expansion_spelled k e declared is of well =
      let last = last_spelled of.widened well (asked_first k e declared is of) in
      record { variables = last.question.variables; critical = last.question.critical; patterns = last.question.patterns; children = last.each }
