-- The labels of a tree declare their variables, the problem's first.
use Rattle.std.proofs.Common.{◌≡◌, ◌⊎◌, inl, inr, ℕ, zero, suc, ◌<◌, List, [], map, Some, None, refl, sym, ap, ◌∙◌, subst, ⊎_elim, arith}
use Rattle.cp_lists.specs.Lists.{item_at, IsIn}
use Rattle.cp_lists.proofs.Items.{item_of_map, front_or_behind, at_place}
use Rattle.cp_lists.proofs.Members.{in_append}
use Rattle.cp_model.specs.Term.{variables_of}
use Rattle.cp_model.specs.declared.variable.Variable.{Variable}
use Rattle.cp_model.specs.Strand.{Role, Protocol}
use Rattle.cp_model.specs.declared.variable.Declaration.{Declaration}
use Rattle.cp_model.specs.Skeleton.{Skeleton}
use Rattle.cp_model.specs.Problem.{variables_of_skeleton, IsDeclared}
use Rattle.cp_model.specs.PointOfView.{HasDeclaredVariables}
use Rattle.cp_model.specs.Tree.{Pattern, Test, Label, Tree}
use Rattle.cp_model.specs.declared.tree.Limits.{Limits}
use Rattle.cp_model.proofs.OccurringVariables.{term_with}
use Rattle.cp_theory.specs.Normal.{variables_of_terms}
use Rattle.cp_model.specs.Declares.{DeclaresItsVariables}
use Rattle.cp_theory.specs.Critical.{used_variables}
use Rattle.cp_theory.specs.Matches.{IsFreeIn}
use Rattle.cp_roots.specs.declared.root.Root.{Root}
use Rattle.cp_roots.specs.Sound.{AreSound}
use Rattle.cp_cohort.specs.declared.child.Child.{Child}
use Rattle.cp_cohort.specs.Cohort.{GuardedTest, IsCohort}
use Rattle.cp_cohort.specs.Way.{DeclaresMore}
use Rattle.cp_cohort.proofs.SoundChildren.{more_itself, more_then, sound_child}
use Rattle.cp_expansion.specs.Expansion.{guarded_test_about, Expansion, IsExpansionOf, AreWidened, has_most, none_widens, one_widens}
use Rattle.cp_general.proofs.SoundGeneralisations.{same_table}
use Rattle.cp_tree.specs.Made.{Made, made_of_root, link_of}
use Rattle.cp_tree.specs.Searched.{IsMarkedAmong, IsTreeFrom}
use Rattle.cp_tree.proofs.Cases.{Becomes, is_dead, is_seen, is_realised, is_generalised, above_bound, at_limit, is_tested}
use Rattle.cp_tree.specs.Sound.{IsSoundMade, ExpandsSoundly}
use Rattle.cp_tree.specs.LabelVariables.{DeclaresItsOwn}
use Rattle.cp_escape.proofs.EscapeGuards.{first_is_in}
use Rattle.cp_tree.proofs.AskedOn.{IsWellAsked, first_sound, asked_on, last_asked}
use Rattle.cp_tree.proofs.SoundExpansions.{well_asked}
use Rattle.cp_tree.proofs.Settled.{IsMadeOfChild, IsMadeOfGeneralisation, made_from}
use Rattle.cp_tree.proofs.SoundOrGeneralised.{IsSoundLabel, label_declared, where_unrealised}
use Rattle.cp_tree.proofs.SoundLabels.{settled_here, becomes_here, comes_behind, label_sound, sound_below, made}

-- ---- what is declared

used_declared : (ds : List Declaration) (k : Skeleton) (x : Variable) → HasDeclaredVariables ds k → IsIn x (used_variables k) → IsDeclared ds x
used_declared ds k x h i =
    ⊎_elim (h.occurring x) (λ j. let r = term_with k.from_problem.values x j in h.mapped r.0 x r.1 r.2) (in_append (variables_of_skeleton k) (variables_of_terms k.from_problem.values) i)

-- ---- what is asked of a skeleton last has the variables of what is asked first

module _ (protocol : Protocol) (declares : (role : Role) → IsIn role protocol.roles → DeclaresItsVariables role) where
  child_more : (q : GuardedTest) (children : List Child) (c : Child) → IsWellAsked protocol q → IsCohort protocol q children → IsIn c children → DeclaresMore q.skeleton.variables c.skeleton.variables
  child_more q children c well is i = (sound_child protocol q children well.skeleton declares well.declared well.test well.guards is c i).more

  last_more : {q last : GuardedTest} {children : List Child} → AreWidened protocol q last children → IsWellAsked protocol q → DeclaresMore q.skeleton.variables last.skeleton.variables
  last_more (has_most {q = q} most is) well = more_itself q.skeleton.variables
  last_more (none_widens {q = q} fewer is none) well = more_itself q.skeleton.variables
  last_more (one_widens {q = q} {last = last} {before = before} {c = c} fewer start first w rest) well =
      let s = first_sound protocol declares q before c well start (first_is_in first) in
      more_then q.skeleton.variables c.skeleton.variables last.skeleton.variables s.more (last_more rest (asked_on protocol declares q c well s w))

  -- What an expansion declares.
  record Declares (k : Skeleton) (e : Expansion) : Type 0 where
    more : DeclaresMore k.variables e.skeleton.variables
    declared : HasDeclaredVariables e.skeleton.variables e.skeleton
    critical : (x : Variable) → IsIn x (variables_of e.test.critical) → IsDeclared e.skeleton.variables x
    patterns : (p : Pattern) (x : Variable) → IsIn p e.patterns → IsFreeIn x p → IsDeclared e.skeleton.variables x
    children : (c : Child) → IsIn c e.children → DeclaresMore e.skeleton.variables c.skeleton.variables

  expansion_declares : (problem : Skeleton) (m : Made) (e : Expansion) → IsSoundMade protocol problem m → IsExpansionOf protocol m.skeleton e → Declares m.skeleton e
  expansion_declares problem m e sound is =
      let well = well_asked protocol problem m e sound is in
      let last = last_asked protocol declares is.widened well in
      record {
        more = last_more is.widened well;
        declared = last.0.declared;
        critical = λ x i. used_declared e.skeleton.variables e.skeleton x last.0.declared (last.0.guards.used_by_critical x i);
        patterns = λ p x i free. used_declared e.skeleton.variables e.skeleton x last.0.declared (last.0.guards.used_by_patterns p x i free);
        children = λ c i. child_more (guarded_test_about e.skeleton e.test e.patterns) e.children c last.0 last.1 i;
      }

  module _ (variables : List Declaration) (limits : Limits) (roots : List Root) (tree : Tree) (from : IsTreeFrom protocol variables limits roots tree) (k : Skeleton) (sound : AreSound protocol k roots)
      (declared : (i : ℕ) (root : Root) → item_at roots i ≡ Some root → HasDeclaredVariables variables root.skeleton) (expands : ExpandsSoundly protocol k) where
    -- What is made from a label declares what that does.
    more_made : (number : ℕ) (so m : Made) → IsMadeOfChild protocol limits (map link_of tree.labels) (IsMarkedAmong from.candidates) number so m ⊎ IsMadeOfGeneralisation protocol limits (map link_of tree.labels) (IsMarkedAmong from.candidates) number so m
        → IsSoundLabel protocol k so → DeclaresMore variables so.skeleton.variables → DeclaresMore variables m.skeleton.variables
    more_made number so m (inl c) parent_sound parent_more =
        let d = expansion_declares k so c.expansion (where_unrealised protocol k so parent_sound c.unrealised) c.is_expansion in
        let child : DeclaresMore variables c.child.skeleton.variables =
        more_then variables so.skeleton.variables c.child.skeleton.variables parent_more (more_then so.skeleton.variables c.expansion.skeleton.variables c.child.skeleton.variables d.more (d.children c.child c.listed)) in
        subst (λ (x : Made). DeclaresMore variables x.skeleton.variables) c.is_made child
    more_made number so m (inr c) parent_sound parent_more = subst (λ (x : Made). DeclaresMore variables x.skeleton.variables) c.is_made (subst (DeclaresMore variables) (sym (same_table so.skeleton.variables c.generalises refl)) parent_more)

    more_below : (n i : ℕ) (m : Made) → i < n → item_at (made protocol variables limits roots tree from) i ≡ Some m → DeclaresMore variables m.skeleton.variables
    more_below zero i m l at = absurd (omega (arith, l))
    more_below (suc n) i m l at =
        ⊎_elim
        (λ (front : item_at (map made_of_root roots) i ≡ Some m).
        let r = item_of_map made_of_root roots i m front in
        subst (λ (x : Made). DeclaresMore variables x.skeleton.variables) r.2 (subst (DeclaresMore variables) (sym (from.declared r.0 (at_place roots i r.0 r.1))) (more_itself variables)))
        (λ (listed : IsIn m from.children).
        let f = made_from protocol limits (map link_of tree.labels) (IsMarkedAmong from.candidates) 0 0 (made protocol variables limits roots tree from) tree.labels from.children from.settled m listed in
        let number : f.number ≡ f.place = (let w = f.number_is in omega (arith, w)) in
        let parent : m.parent ≡ Some f.place = f.is_made.parent ∙ ap Some number in
        let before : f.place < i = comes_behind protocol variables limits roots tree from f.place i m at parent in
        let parent_sound : IsSoundLabel protocol k f.so = sound_below protocol variables limits roots tree from k sound declared expands n f.place f.so (omega (arith, l, before)) f.at_made in
        let parent_more : DeclaresMore variables f.so.skeleton.variables = more_below n f.place f.so (omega (arith, l, before)) f.at_made in
        more_made f.number f.so m f.is_made.way parent_sound parent_more)
        (front_or_behind (map made_of_root roots) from.children i m at)

    declares_leaf : (m : Made) (l : Label) → DeclaresMore variables m.skeleton.variables → HasDeclaredVariables m.skeleton.variables m.skeleton → l.skeleton ≡ m.skeleton → l.test ≡ None → l.escape ≡ [] → DeclaresItsOwn variables l
    declares_leaf m l more has same no_test no_pattern = record {
      more = subst (λ (k : Skeleton). DeclaresMore variables k.variables) (sym same) more;
      skeleton = subst (λ (k : Skeleton). HasDeclaredVariables k.variables k) (sym same) has;
      test = λ t x e i. absurd (cc (e, no_test));
      patterns = λ p x i free. let none : IsIn p [] = subst (λ (ps : List Pattern). IsIn p ps) no_pattern i in elim none [ ];
    }

    declares_by : (i before : ℕ) (m : Made) (l : Label) (gives : List Made) → Becomes protocol limits (map link_of tree.labels) (IsMarkedAmong from.candidates) i before m l gives → IsSoundLabel protocol k m → DeclaresMore variables m.skeleton.variables → DeclaresItsOwn variables l
    declares_by i before m _ _ (is_dead d) s more = declares_leaf m _ more (label_declared protocol k m s) refl refl refl
    declares_by i before m _ _ (is_seen lives lists least) s more = declares_leaf m _ more (label_declared protocol k m s) refl refl refl
    declares_by i before m _ _ (is_realised lives new derivable own mark) s more = declares_leaf m _ more (label_declared protocol k m s) refl refl refl
    declares_by i before m _ _ (is_generalised lives new derivable generalises) s more = declares_leaf m _ more (label_declared protocol k m s) refl refl refl
    declares_by i before m _ _ (above_bound lives new lists unrealised above) s more = declares_leaf m _ more (label_declared protocol k m s) refl refl refl
    declares_by i before m _ _ (at_limit lives new lists unrealised within steps) s more = declares_leaf m _ more (label_declared protocol k m s) refl refl refl
    declares_by i before m _ _ (is_tested {e = e} lives new lists unrealised within steps is count) s more =
        let d = expansion_declares k m e (where_unrealised protocol k m s unrealised) is in
        record {
          more = more_then variables m.skeleton.variables e.skeleton.variables more d.more;
          skeleton = subst (HasDeclaredVariables e.skeleton.variables) is.table d.declared;
          test = λ t x same x_in. d.critical x (subst (λ (u : Test). IsIn x (variables_of u.critical)) (let f : Some e.test ≡ Some t = same in let g : e.test ≡ t = cc in sym g) x_in);
          patterns = d.patterns;
        }

    pub declares_own : (i : ℕ) (l : Label) → item_at tree.labels i ≡ Some l → DeclaresItsOwn variables l
    declares_own i l at =
        let s = settled_here protocol variables limits roots tree from i l at in
        declares_by i s.expanded_before s.so l s.gives (becomes_here protocol variables limits roots tree from i l s) (label_sound protocol variables limits roots tree from k sound declared expands i l at s)
        (more_below (suc i) i s.so (omega arith) s.at_made)
