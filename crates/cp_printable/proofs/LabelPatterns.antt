-- The variables of the labels of a tree are declared, so that what is asked of them is well asked, and their patterns are patterns.
use Rattle.std.proofs.Common.{◌≡◌, ◌⊎◌, inl, inr, ℕ, zero, suc, ◌<◌, List, [], map, Some, refl, sym, ap, ◌∙◌, subst, ⊎_elim, arith}
use Rattle.cp_lists.specs.Lists.{item_at, IsIn}
use Rattle.cp_lists.proofs.Items.{item_of_map, at_place, front_or_behind}
use Rattle.cp_lists.proofs.Members.{not_in_none}
use Rattle.cp_model.specs.Strand.{Role, Protocol}
use Rattle.cp_model.specs.declared.variable.Declaration.{Declaration}
use Rattle.cp_model.specs.Skeleton.{Skeleton, IsSkeleton}
use Rattle.cp_model.specs.PointOfView.{HasDeclaredVariables, IsPointOfView}
use Rattle.cp_model.specs.Pattern.{IsPattern}
use Rattle.cp_model.specs.Tree.{Pattern, Label, Tree}
use Rattle.cp_model.specs.declared.tree.Limits.{Limits}
use Rattle.cp_model.specs.Declares.{DeclaresItsVariables}
use Rattle.cp_skel.specs.Tables.{DiffersInTable}
use Rattle.cp_roots.specs.declared.root.Root.{Root}
use Rattle.cp_roots.specs.Roots.{AreRoots}
use Rattle.cp_roots.proofs.InReportOrder.{declared_listed}
use Rattle.cp_roots.proofs.VariablesOfRoots.{roots_declared}
use Rattle.cp_cohort.specs.declared.child.Child.{Child}
use Rattle.cp_cohort.specs.Cohort.{IsCohort}
use Rattle.cp_cohort.specs.GatheredLists.{terms_onto}
use Rattle.cp_cohort.proofs.SoundChildren.{sound_child}
use Rattle.cp_escape.proofs.EscapeGuards.{escape_guards}
use Rattle.cp_expansion.specs.Expansion.{guarded_test_about, Expansion, IsExpansionOf}
use Rattle.cp_expansion.proofs.Tables.{skeleton_in_table}
use Rattle.cp_expansion.proofs.TestsAreTests.{is_test}
use Rattle.cp_general.proofs.SoundGeneralisations.{same_table, are_declared}
use Rattle.cp_tree.specs.Made.{Made, made_of_root, LabelLink, link_of}
use Rattle.cp_tree.specs.Searched.{IsMarkedAmong, IsTreeFrom}
use Rattle.cp_tree.proofs.Cases.{Becomes, is_dead, is_seen, is_realised, is_generalised, above_bound, at_limit, is_tested}
use Rattle.cp_tree.proofs.AskedOn.{IsWellAsked, last_asked}
use Rattle.cp_tree.proofs.Settled.{IsMadeOfChild, IsMadeOfGeneralisation, made_from}
use Rattle.cp_tree.proofs.OwnVariables.{own_declared}
use Rattle.cp_tree.proofs.SoundLabels.{made, settled_here, becomes_here, comes_behind, skeleton_here, made_label}

-- Skeletons that differ in their tables alone do so both ways.
table_back : (k l : Skeleton) → DiffersInTable k l → DiffersInTable l k
table_back k l differs = sym (ap (λ (x : Skeleton). record x { variables = k.variables }) differs)

module _ (protocol : Protocol) (declares : (role : Role) → IsIn role protocol.roles → DeclaresItsVariables role) where
  -- ---- one expansion

  module _ (k : Skeleton) (e : Expansion) (sk : IsSkeleton protocol k) (declared : HasDeclaredVariables k.variables k) (is : IsExpansionOf protocol k e) where
    asked_first : IsWellAsked protocol (guarded_test_about k e.test is.escape)
    asked_first =
        let x = is.is_escape in
        let test = is_test k e.test.node e.test.critical is.test in
        record {
          skeleton = sk;
          declared = declared;
          test = test;
          guards = escape_guards k e.test.node e.test.critical (terms_onto [] x.encryptions) is.escape (record { sent = x.sent; before = x.before; encryptions = x.encryptions; each = x.each; once = refl }) x.once test;
        }

    asked_last : IsWellAsked protocol (guarded_test_about e.skeleton e.test e.patterns) × IsCohort protocol (guarded_test_about e.skeleton e.test e.patterns) e.children
    asked_last = last_asked protocol declares is.widened asked_first

    pub expansion_patterns : (q : Pattern) → IsIn q e.patterns → IsPattern q
    expansion_patterns = asked_last.0.guards.patterns

    pub child_declared : (c : Child) → IsIn c e.children → HasDeclaredVariables c.skeleton.variables c.skeleton
    child_declared c i =
        let well = asked_last.0 in
        (sound_child protocol (guarded_test_about e.skeleton e.test e.patterns) e.children well.skeleton declares well.declared well.test well.guards asked_last.1 c i).declared

  -- ---- all labels

  -- The variables of what was made are declared.
  abbrev IsDeclaredMade : Made → Type 0
  IsDeclaredMade m = HasDeclaredVariables m.skeleton.variables m.skeleton

  module _ (variables : List Declaration) (k : Skeleton) (limits : Limits) (roots : List Root) (tree : Tree) (own : IsPointOfView variables k) (are : AreRoots k roots) (from : IsTreeFrom protocol variables limits roots tree)
      (skeletons : (i : ℕ) (l : Label) → item_at tree.labels i ≡ Some l → IsSkeleton protocol l.skeleton) where
    abbrev MadeHere : List Made
    MadeHere = made protocol variables limits roots tree from

    abbrev links : List LabelLink
    links = map link_of tree.labels

    made_skeleton : (i : ℕ) (m : Made) → item_at MadeHere i ≡ Some m → IsSkeleton protocol m.skeleton
    made_skeleton i m at =
        let h = made_label protocol variables limits roots tree from i m at in
        subst (λ (x : Made). IsSkeleton protocol x.skeleton) h.same
        (skeleton_in_table h.label.skeleton h.settled.so.skeleton (table_back h.settled.so.skeleton h.label.skeleton (skeleton_here protocol variables limits roots tree from i h.label h.settled)) protocol (skeletons i h.label h.at))

    root_declared : (i : ℕ) (m : Made) → item_at (map made_of_root roots) i ≡ Some m → IsDeclaredMade m
    root_declared i m at =
        let r = item_of_map made_of_root roots i m at in
        subst IsDeclaredMade r.2 (subst (λ (ds : List Declaration). HasDeclaredVariables ds r.0.skeleton) (sym (from.declared r.0 (at_place roots i r.0 r.1))) (roots_declared variables k roots (own_declared variables k own) are i r.0 r.1))

    -- What was made from a skeleton with declared variables.
    given_declared : (i : ℕ) (so x : Made) → IsSkeleton protocol so.skeleton → IsDeclaredMade so → IsMadeOfChild protocol limits links (IsMarkedAmong from.candidates) i so x ⊎ IsMadeOfGeneralisation protocol limits links (IsMarkedAmong from.candidates) i so x → IsDeclaredMade x
    given_declared i so x sk declared (inl c) = subst IsDeclaredMade c.is_made (declared_listed c.child.skeleton c.child.skeleton.variables (child_declared so.skeleton c.expansion sk declared c.is_expansion c.child c.listed))
    given_declared i so x sk declared (inr c) = subst IsDeclaredMade c.is_made (subst (λ (ds : List Declaration). HasDeclaredVariables ds c.skeleton) (sym (same_table so.skeleton.variables c.generalises refl)) (are_declared so.skeleton.variables c.generalises declared))

    -- What was made at each place below n.
    declared_below : (n i : ℕ) (m : Made) → i < n → item_at MadeHere i ≡ Some m → IsDeclaredMade m
    declared_below zero i m l at = absurd (omega (arith, l))
    declared_below (suc n) i m l at =
        ⊎_elim
        (λ (front : item_at (map made_of_root roots) i ≡ Some m). root_declared i m front)
        (λ (listed : IsIn m from.children).
        let f = made_from protocol limits links (IsMarkedAmong from.candidates) 0 0 MadeHere tree.labels from.children from.settled m listed in
        let number : f.number ≡ f.place = (let w = f.number_is in omega (arith, w)) in
        let before : f.place < i = comes_behind protocol variables limits roots tree from f.place i m at (f.is_made.parent ∙ ap Some number) in
        given_declared f.number f.so m (made_skeleton f.place f.so f.at_made) (declared_below n f.place f.so (omega (arith, l, before)) f.at_made) f.is_made.way)
        (front_or_behind (map made_of_root roots) from.children i m at)

    patterns_by : (i before : ℕ) (m : Made) (l : Label) (gives : List Made) → Becomes protocol limits links (IsMarkedAmong from.candidates) i before m l gives
        → IsSkeleton protocol m.skeleton → IsDeclaredMade m → (q : Pattern) → IsIn q l.escape → IsPattern q
    patterns_by i before m l gives (is_dead d) sk declared q p = absurd (not_in_none p)
    patterns_by i before m l gives (is_seen d u s) sk declared q p = absurd (not_in_none p)
    patterns_by i before m l gives (is_realised d n a g s) sk declared q p = absurd (not_in_none p)
    patterns_by i before m l gives (is_generalised d n a to) sk declared q p = absurd (not_in_none p)
    patterns_by i before m l gives (above_bound d n u r b) sk declared q p = absurd (not_in_none p)
    patterns_by i before m l gives (at_limit d n u r b e) sk declared q p = absurd (not_in_none p)
    patterns_by i before m l gives (is_tested {e = e} d n u r b c is s) sk declared q p = expansion_patterns m.skeleton e sk declared is q p

    -- The patterns of each label are patterns.
    pub label_patterns : (i : ℕ) (l : Label) → item_at tree.labels i ≡ Some l → (q : Pattern) → IsIn q l.escape → IsPattern q
    label_patterns i l at =
        let s = settled_here protocol variables limits roots tree from i l at in
        patterns_by i s.expanded_before s.so l s.gives (becomes_here protocol variables limits roots tree from i l s) (made_skeleton i s.so s.at_made) (declared_below (suc i) i s.so (omega arith) s.at_made)
