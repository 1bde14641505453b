-- What is true of the roots of a problem.
use Rattle.std.proofs.Common.{◌≡◌, ◌⊎◌, inl, inr, ℕ, true, false, List, [], ◌∷◌, ◌++◌, Some, map, refl, sym, subst}
use Rattle.cp_lists.proofs.Items.{place_of, at_place}
use Rattle.cp_lists.specs.Lists.{item_at, IsIn, here, there}
use Rattle.cp_model.specs.Strand.{Protocol}
use Rattle.cp_model.specs.declared.variable.Declaration.{Declaration}
use Rattle.cp_model.specs.Bundle.{Bundle, IsBundle}
use Rattle.cp_model.specs.Skeleton.{Skeleton, IsSkeleton}
use Rattle.cp_model.specs.Realisation.{KeepsAssumptions}
use Rattle.cp_model.specs.Standing.{Standing, StandsIn, StandsApart}
use Rattle.cp_model.specs.Homomorphism.{CarriesHomomorphism, FactorsThrough}
use Rattle.cp_model.specs.PointOfView.{IsPointOfView}
use Rattle.cp_model.specs.Stated.{KeepsStated}
use Rattle.cp_model.specs.declared.tree.Operation.{Operation}
use Rattle.cp_model.specs.declared.tree.Operation.TheVariants.{Problem as by_problem, Collapsed as by_collapse}
use Rattle.cp_lists.proofs.Members.{in_append, in_append_left, in_append_right, in_cases, into_map, from_map}
use Rattle.cp_model.proofs.SingleMaps.{itself, states_itself, own_carries}
use Rattle.cp_model.proofs.StatedItself.{keeps_its_own}
use Rattle.cp_theory.proofs.Under.{factors_then}
use Rattle.cp_normal.specs.NormalForms.{IsNormalFormOf}
use Rattle.cp_collapse.specs.Collapses.{IsCollapse, AreCollapsesBy, no_collapses, collapse_by, AreCollapses}
use Rattle.cp_normal.proofs.Homomorphic.{form_carries}
use Rattle.cp_normal.proofs.StatedForms.{form_keeps}
use Rattle.cp_collapse.proofs.StatedCollapse.{collapse_keeps}
use Rattle.cp_normal.proofs.FormSkeletons.{form_is_skeleton, normal_keeps_assumptions}
use Rattle.cp_collapse.proofs.CollapsesCover.{collapses_are_complete}
use Rattle.cp_collapse.proofs.MergedSkeletons.{merged_is_skeleton}
use Rattle.cp_fingerprint.specs.FirstPlaces.{firsts}
use Rattle.cp_roots.specs.Roots.{Root, living, first_roots}
use Rattle.cp_roots.specs.Sound.{StandsThroughRoot, AreSound}
use Rattle.cp_roots.specs.GatheredRoots.{AreNormalForms}
use Rattle.cp_roots.proofs.InReportOrder.{skeleton_listed, assumptions_listed, carries_listed, stated_listed, stands_listed, apart_listed, factors_listed}
use Rattle.cp_roots.proofs.CollapseMap.{collapse_carries}
use Rattle.cp_roots.proofs.EachCollapse.{AreOfEach, roots_of, listed_of}

-- What is true of one root.
record IsSoundRoot (protocol : Protocol) (k : Skeleton) (root : Root) : Type 0 where
  skeleton : IsSkeleton protocol root.skeleton
  assumptions : root.dead ≡ false → KeepsAssumptions root.skeleton
  from_problem : CarriesHomomorphism k root.skeleton
  stated : KeepsStated k root.skeleton
  nowhere : root.dead ≡ true → (b : Bundle) (g : Standing) → IsBundle protocol b → StandsIn root.skeleton b g → StandsApart root.skeleton g → ⊥

not_true : {A : Type 0} → false ≡ true → A
not_true e = absurd (cc)

not_false : {A : Type 0} → true ≡ false → A
not_false e = absurd (cc)

-- The standing of the problem goes through a normal form of a skeleton that it goes through.
through_form : (protocol : Protocol) (k l : Skeleton) (rs : List Skeleton) (by : Operation) (roots : List Root) → IsSkeleton protocol l → AreNormalForms l rs → ((r : Root) → IsIn r (map (living by) rs) → IsIn r roots) →
    (b : Bundle) (h g : Standing) → IsBundle protocol b → StandsIn l b g → StandsApart l g → FactorsThrough k h l g → StandsThroughRoot k roots b h
through_form protocol k l rs by roots sl f listed b h g is stands apart factors =
    let a = f.loses_none protocol sl b g is stands apart in
    let n = place_of (listed (living by a.skeleton) (into_map (living by) a.listed)) in
    record {
      number = n.0;
      root = living by a.skeleton;
      at = n.1;
      lives = refl;
      standing = g;
      stands = stands_listed a.skeleton b g a.stands;
      apart = apart_listed a.skeleton g a.apart;
      factors = factors_listed a.skeleton k h g (factors_then k l a.skeleton h g g factors a.factors);
    }

among_first : (k : Skeleton) (forms : List Skeleton) (r : Root) → IsIn r (map (living by_problem) forms) → IsIn r (first_roots k forms)
among_first k [] r i = elim i [ ]
among_first k (f ∷ fs) r i = i

module _ (protocol : Protocol) (variables : List Declaration) (k : Skeleton) (sk : IsSkeleton protocol k) (own : IsPointOfView variables k) where
  form_is_sound : (l r : Skeleton) (by : Operation) → IsSkeleton protocol l → CarriesHomomorphism k l → KeepsStated k l → IsNormalFormOf l r → IsSoundRoot protocol k (living by r)
  form_is_sound l r by sl carries keeps f =
      let sr = form_is_skeleton protocol l r f sl in
      record {
        skeleton = skeleton_listed r protocol sr;
        assumptions = λ e. assumptions_listed r (normal_keeps_assumptions protocol r sr f.normal);
        from_problem = carries_listed r k (form_carries variables k (itself own) l r f carries);
        stated = stated_listed r k (form_keeps variables k (states_itself own) l r f carries keeps);
        nowhere = λ e. not_true e;
      }

  forms_are_sound : (l : Skeleton) (rs : List Skeleton) (by : Operation) → IsSkeleton protocol l → CarriesHomomorphism k l → KeepsStated k l → ((r : Skeleton) → IsIn r rs → IsNormalFormOf l r) → (root : Root) → IsIn root (map (living by) rs) → IsSoundRoot protocol k root
  forms_are_sound l rs by sl carries keeps forms root i =
      let r = from_map (living by) rs i in
      subst (IsSoundRoot protocol k) r.2 (form_is_sound l r.0 by sl carries keeps (forms r.0 r.1))

  dead_is_sound : AreNormalForms k [] → IsSoundRoot protocol k (record { operation = by_problem; skeleton = k; dead = true })
  dead_is_sound f = record {
    skeleton = sk;
    assumptions = λ e. not_false e;
    from_problem = own_carries variables k (itself own);
    stated = keeps_its_own variables k (states_itself own);
    nowhere = λ e b g is stands apart. let a = f.loses_none protocol sk b g is stands apart in elim a.listed [ ];
  }

  first_are_sound : (forms : List Skeleton) → AreNormalForms k forms → (root : Root) → IsIn root (first_roots k forms) → IsSoundRoot protocol k root
  first_are_sound [] f root here = dead_is_sound f
  first_are_sound [] f root (there i) = elim i [ ]
  first_are_sound (r ∷ rs) f root i = forms_are_sound k (r ∷ rs) by_problem sk (own_carries variables k (itself own)) (keeps_its_own variables k (states_itself own)) f.forms root i

  -- ---- the collapses

  collapse_is_skeleton : (p : List ℕ) (l : Skeleton) → IsCollapse k p l → IsSkeleton protocol l
  collapse_is_skeleton p l c = merged_is_skeleton k l p c.collapsed protocol sk c.no_cycle

  pub listed_is_skeleton : {ps : List (List ℕ)} {ls : List Skeleton} → AreCollapsesBy k ps ls → (l : Skeleton) → IsIn l ls → IsSkeleton protocol l
  listed_is_skeleton no_collapses l i = elim i [ ]
  listed_is_skeleton (collapse_by {p = p} {l = m} c cs) l here = collapse_is_skeleton p m c
  listed_is_skeleton (collapse_by c cs) l (there i) = listed_is_skeleton cs l i

  either_is_sound : (root : Root) (xs ys : List Root) → ((r : Root) → IsIn r xs → IsSoundRoot protocol k r) → ((r : Root) → IsIn r ys → IsSoundRoot protocol k r) → IsIn root (xs ++ ys) → IsSoundRoot protocol k root
  either_is_sound root xs ys left right i = elim (in_append xs ys i) [ inl j ↦ left root j | inr j ↦ right root j ]

  each_is_sound : {ps : List (List ℕ)} {ls : List Skeleton} → AreCollapsesBy k ps ls → (roots : List Root) → AreOfEach ls roots → (root : Root) → IsIn root roots → IsSoundRoot protocol k root
  each_is_sound no_collapses roots none root i = elim (subst (IsIn root) none i) [ ]
  each_is_sound (collapse_by {p = p} {l = l} c cs) roots (rs, others, f, rest, e) root i =
      either_is_sound root (roots_of l rs) others
      (forms_are_sound l rs (by_collapse (firsts l.from_problem.strands)) (collapse_is_skeleton p l c) (collapse_carries protocol variables k l p sk own c.collapsed)
      (collapse_keeps protocol variables k k l p sk (states_itself own) sk (own_carries variables k (itself own)) c.collapsed (keeps_its_own variables k (states_itself own))) f.forms)
      (each_is_sound cs others rest) (subst (IsIn root) e i)

  -- ---- all roots

  module _ (forms ls : List Skeleton) (others roots : List Root) (f : AreNormalForms k forms) (a : AreCollapses k ls) (each : AreOfEach ls others) (e : roots ≡ first_roots k forms ++ others) where
    root_is_sound : (i : ℕ) (root : Root) → item_at roots i ≡ Some root → IsSoundRoot protocol k root
    root_is_sound i root at = either_is_sound root (first_roots k forms) others (first_are_sound forms f) (each_is_sound a.each others each) (subst (IsIn root) e (at_place roots i root at))

    first_listed : (r : Root) → IsIn r (map (living by_problem) forms) → IsIn r roots
    first_listed r i = subst (IsIn r) (sym e) (in_append_left others (among_first k forms r i))

    other_listed : (r : Root) → IsIn r others → IsIn r roots
    other_listed r i = subst (IsIn r) (sym e) (in_append_right (first_roots k forms) i)

    goes_through : (b : Bundle) (h g : Standing) (l : Skeleton) → IsBundle protocol b → (k ≡ l) ⊎ IsIn l ls → StandsIn l b g → StandsApart l g → FactorsThrough k h l g → StandsThroughRoot k roots b h
    goes_through b h g l is (inl same) stands apart factors =
        through_form protocol k l forms by_problem roots (subst (IsSkeleton protocol) same sk) (subst (λ (m : Skeleton). AreNormalForms m forms) same f) first_listed b h g is stands apart factors
    goes_through b h g l is (inr i) stands apart factors =
        let t = listed_of ls others l each i in
        through_form protocol k l t.0 (by_collapse (firsts l.from_problem.strands)) roots (listed_is_skeleton a.each l i) t.1 (λ r j. other_listed r (t.2 r j)) b h g is stands apart factors

    covers : (b : Bundle) (h : Standing) → IsBundle protocol b → StandsIn k b h → StandsThroughRoot k roots b h
    covers b h is stands =
        let c = collapses_are_complete protocol k ls sk a b h is stands in
        goes_through b h c.standing c.skeleton is (in_cases c.listed) c.stands c.apart c.factors

    pub are_sound : AreSound protocol k roots
    are_sound = record {
      skeletons = λ i root at. (root_is_sound i root at).skeleton;
      assumptions = λ i root at lives. (root_is_sound i root at).assumptions lives;
      from_problem = λ i root at. (root_is_sound i root at).from_problem;
      stated = λ i root at. (root_is_sound i root at).stated;
      nowhere = λ i root at dead. (root_is_sound i root at).nowhere dead;
      covers = covers;
    }
