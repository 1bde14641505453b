-- The labels of a search's tree have no other strings and no other identifiers than the problem and the protocol's roles.
use Rattle.std.proofs.Common.{◌≡◌, ◌⊎◌, inl, inr, ℕ, zero, suc, ◌<◌, List, [], map, Option, Some, None, refl, sym, ap, ◌∙◌, subst, ⊎_elim, arith}
use Rattle.cp_lists.specs.Lists.{item_at, IsIn}
use Rattle.cp_lists.proofs.Items.{at_place, place_of, item_of_map, front_or_behind}
use Rattle.cp_lists.proofs.Members.{not_in_none}
use Rattle.cp_model.specs.Strand.{Role, Protocol}
use Rattle.cp_model.specs.declared.variable.Declaration.{Declaration}
use Rattle.cp_model.specs.Skeleton.{Skeleton, IsSkeleton}
use Rattle.cp_model.specs.Derivable.{IsUnrealised}
use Rattle.cp_model.specs.PointOfView.{HasDeclaredVariables, IsPointOfView}
use Rattle.cp_model.specs.Tree.{Test, Label, Tree}
use Rattle.cp_model.specs.declared.tree.Mark.{Mark}
use Rattle.cp_model.specs.declared.tree.Limits.{Limits}
use Rattle.cp_model.specs.Declares.{DeclaresItsVariables}
use Rattle.cp_roots.specs.declared.root.Root.{Root}
use Rattle.cp_roots.specs.Roots.{AreRoots}
use Rattle.cp_roots.specs.Sound.{AreSound}
use Rattle.cp_expansion.specs.Expansion.{Expansion, IsExpansionOf}
use Rattle.cp_general.proofs.SoundGeneralisations.{same_table}
use Rattle.cp_tree.specs.Made.{Made, made_of_root, LabelLink, link_of}
use Rattle.cp_tree.specs.Searched.{IsMarkedAmong, IsTreeFrom, IsTreeOf}
use Rattle.cp_tree.proofs.Cases.{Becomes, is_dead, is_seen, is_realised, is_generalised, above_bound, at_limit, is_tested}
use Rattle.cp_tree.proofs.Settled.{IsMadeOfChild, IsMadeOfGeneralisation, made_from}
use Rattle.cp_tree.proofs.SoundOrGeneralised.{IsSoundLabel, where_unrealised}
use Rattle.cp_tree.proofs.SoundExpansions.{well_asked, expands_soundly}
use Rattle.cp_tree.proofs.SoundLabels.{made, settled_here, becomes_here, comes_behind, sound_below}
use Rattle.cp_printable.specs.Spelled.{IsSpelledTerm, AreSpelledDeclarations, IsSpelledRole, IsSpelledSkeleton, IsSpelledLabel}
use Rattle.cp_printable.proofs.Under.{table_spelled, in_order_spelled}
use Rattle.cp_printable.proofs.Roots.{roots_spelled}
use Rattle.cp_printable.proofs.Generalised.{generalised_spelled}
use Rattle.cp_printable.proofs.Expansions.{IsSpelledExpansion, expansion_spelled}
use Rattle.cp_printable.proofs.OwnVariables.{own_roots_declared}
use Rattle.cp_roots.proofs.RootsAreSound.{roots_sound}

-- What was made so has admitted strings and identifiers.
record IsSpelledMade (S I : List ℕ → Type 0) (m : Made) : Type 0 where
  variables : AreSpelledDeclarations I m.skeleton.variables
  skeleton : IsSpelledSkeleton S I m.skeleton

module _ (S I : List ℕ → Type 0) (decide : (t : List ℕ) → S t ⊎ (S t → ⊥)) (protocol : Protocol) (declares : (role : Role) → IsIn role protocol.roles → DeclaresItsVariables role)
    (roles : (role : Role) → IsIn role protocol.roles → IsSpelledRole S I role) where
  -- ---- one label

  -- What is made of it expands as such.
  made_expands : (k : Skeleton) (m : Made) (e : Expansion) → IsSoundLabel protocol k m → IsUnrealised m.skeleton → IsSpelledMade S I m → IsExpansionOf protocol m.skeleton e → IsSpelledExpansion S I e
  made_expands k m e sound unrealised is of =
      expansion_spelled S I decide protocol declares roles m.skeleton e is.variables is.skeleton of (well_asked protocol k m e (where_unrealised protocol k m sound unrealised) of)

  -- What is made from a label.
  given_spelled : (k : Skeleton) (limits : Limits) (links : List LabelLink) (marks : ℕ → Option Mark → Type 0) (i : ℕ) (so x : Made) → IsSoundLabel protocol k so → IsSpelledMade S I so
      → IsMadeOfChild protocol limits links marks i so x ⊎ IsMadeOfGeneralisation protocol limits links marks i so x → IsSpelledMade S I x
  given_spelled k limits links marks i so x sound is (inl c) =
      let child = (made_expands k so c.expansion sound c.unrealised is c.is_expansion).children c.child c.listed in
      subst (IsSpelledMade S I) c.is_made (record { variables = child.variables; skeleton = in_order_spelled S I c.child.skeleton child.skeleton })
  given_spelled k limits links marks i so x sound is (inr c) =
      subst (IsSpelledMade S I) c.is_made (record {
        variables = subst (λ (ds : List Declaration). AreSpelledDeclarations I ds) (sym (same_table so.skeleton.variables c.generalises refl)) is.variables;
        skeleton = generalised_spelled S I c.generalises is.skeleton;
      })

  -- What becomes of it, where it is not expanded.
  leaf_spelled : (m : Made) (l : Label) → IsSpelledMade S I m → l.skeleton ≡ m.skeleton → l.test ≡ None → l.escape ≡ [] → IsSpelledLabel S I l
  leaf_spelled m l is same_skeleton no_test no_pattern = record {
    variables = subst (λ (k : Skeleton). AreSpelledDeclarations I k.variables) (sym same_skeleton) is.variables;
    skeleton = subst (IsSpelledSkeleton S I) (sym same_skeleton) is.skeleton;
    test = λ t e. absurd (cc (e, no_test));
    escape = λ p i. absurd (not_in_none (subst (IsIn p) no_pattern i));
  }

  becomes_spelled : (k : Skeleton) (limits : Limits) (links : List LabelLink) (marks : ℕ → Option Mark → Type 0) (i before : ℕ) (m : Made) (l : Label) (gives : List Made) → Becomes protocol limits links marks i before m l gives
      → IsSoundLabel protocol k m → IsSpelledMade S I m → IsSpelledLabel S I l
  becomes_spelled k limits links marks i before m _ _ (is_dead d) sound is = leaf_spelled m _ is refl refl refl
  becomes_spelled k limits links marks i before m _ _ (is_seen lives lists least) sound is = leaf_spelled m _ is refl refl refl
  becomes_spelled k limits links marks i before m _ _ (is_realised lives new derivable own mark) sound is = leaf_spelled m _ is refl refl refl
  becomes_spelled k limits links marks i before m _ _ (is_generalised lives new derivable generalises) sound is = leaf_spelled m _ is refl refl refl
  becomes_spelled k limits links marks i before m _ _ (above_bound lives new lists unrealised above) sound is = leaf_spelled m _ is refl refl refl
  becomes_spelled k limits links marks i before m _ _ (at_limit lives new lists unrealised within steps) sound is = leaf_spelled m _ is refl refl refl
  becomes_spelled k limits links marks i before m _ _ (is_tested {e = e} lives new lists unrealised within steps of count) sound is =
      let x = made_expands k m e sound unrealised is of in
      record {
        variables = x.variables;
        skeleton = table_spelled S I m.skeleton e.skeleton.variables is.skeleton;
        test = λ t same. subst (λ (u : Test). IsSpelledTerm S u.critical) (let f : Some e.test ≡ Some t = same in let g : e.test ≡ t = cc in g) x.critical;
        escape = x.patterns;
      }

  -- ---- all labels

  module _ (k : Skeleton) (variables : List Declaration) (limits : Limits) (roots : List Root) (tree : Tree) (sk : IsSkeleton protocol k) (own : IsPointOfView variables k) (is : IsSpelledSkeleton S I k)
      (declared : AreSpelledDeclarations I variables) (are : AreRoots k roots) (from : IsTreeFrom protocol variables limits roots tree) where
    abbrev made_here : List Made
    made_here = made protocol variables limits roots tree from

    sound_roots : AreSound protocol k roots
    sound_roots = roots_sound variables k own protocol roots sk are

    declared_roots : (i : ℕ) (root : Root) → item_at roots i ≡ Some root → HasDeclaredVariables variables root.skeleton
    declared_roots = own_roots_declared variables k roots own are

    -- Each label is sound, or was made by generalising.
    made_sound : (i : ℕ) (m : Made) → item_at made_here i ≡ Some m → IsSoundLabel protocol k m
    made_sound i m at = sound_below protocol variables limits roots tree from k sound_roots declared_roots (expands_soundly protocol variables k declares own) (suc i) i m (omega arith) at

    root_spelled : (i : ℕ) (m : Made) → item_at (map made_of_root roots) i ≡ Some m → IsSpelledMade S I m
    root_spelled i m at =
        let r = item_of_map made_of_root roots i m at in
        subst (IsSpelledMade S I) r.2 (record {
          variables = subst (λ (ds : List Declaration). AreSpelledDeclarations I ds) (sym (from.declared r.0 (at_place roots i r.0 r.1))) declared;
          skeleton = roots_spelled S I decide k roots is are r.0 (at_place roots i r.0 r.1);
        })

    -- What was made at each place below n: a label comes behind the one from which it was made.
    spelled_below : (n i : ℕ) (m : Made) → i < n → item_at made_here i ≡ Some m → IsSpelledMade S I m
    spelled_below zero i m l at = absurd (omega (arith, l))
    spelled_below (suc n) i m l at =
        ⊎_elim
        (λ (front : item_at (map made_of_root roots) i ≡ Some m). root_spelled i m front)
        (λ (listed : IsIn m from.children).
        let f = made_from protocol limits (map link_of tree.labels) (IsMarkedAmong from.candidates) 0 0 made_here tree.labels from.children from.settled m listed in
        let number : f.number ≡ f.place = (let w = f.number_is in omega (arith, w)) in
        let before : f.place < i = comes_behind protocol variables limits roots tree from f.place i m at (f.is_made.parent ∙ ap Some number) in
        given_spelled k limits (map link_of tree.labels) (IsMarkedAmong from.candidates) f.number f.so m (made_sound f.place f.so f.at_made) (spelled_below n f.place f.so (omega (arith, l, before)) f.at_made) f.is_made.way)
        (front_or_behind (map made_of_root roots) from.children i m at)

    label_spelled : (i : ℕ) (l : Label) → item_at tree.labels i ≡ Some l → IsSpelledLabel S I l
    label_spelled i l at =
        let s = settled_here protocol variables limits roots tree from i l at in
        becomes_spelled k limits (map link_of tree.labels) (IsMarkedAmong from.candidates) i s.expanded_before s.so l s.gives (becomes_here protocol variables limits roots tree from i l s) (made_sound i s.so s.at_made)
        (spelled_below (suc i) i s.so (omega arith) s.at_made)

  pub labels_spelled : (k : Skeleton) (variables : List Declaration) (limits : Limits) (t : Tree) → IsSkeleton protocol k → IsPointOfView variables k → IsSpelledSkeleton S I k → AreSpelledDeclarations I variables → IsTreeOf protocol k variables limits t
      → (l : Label) → IsIn l t.labels → IsSpelledLabel S I l
  labels_spelled k variables limits t sk own is declared of l i =
      let at = place_of i in
      label_spelled k variables limits of.roots t sk own is declared of.are_roots of.from_roots at.0 l at.1
