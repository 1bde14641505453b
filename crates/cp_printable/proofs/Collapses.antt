-- Collapses bring in no strings.
use Rattle.std.proofs.Common.{◌≡◌, ◌⊎◌, ℕ, List, Some, sym, ap, ◌∙◌, subst}
use Rattle.cp_lists.specs.Lists.{item_at, IsIn, here, there}
use Rattle.cp_lists.proofs.Items.{at_place, place_of}
use Rattle.cp_lists.proofs.Members.{from_map}
use Rattle.cp_model.specs.Term.{value_of, variable_term, AtomTerm, AgreeOnTerms, Assignment, after, Substitution, apply_to_atom, apply_to, composed}
use Rattle.cp_model.specs.Bindings.{Binding, as_substitution}
use Rattle.cp_model.specs.declared.variable.Variable.{Variable}
use Rattle.cp_model.specs.Strand.{Role, variables_of_prefix}
use Rattle.cp_model.specs.Skeleton.{SkeletonStrand, instance, listener, UniqueAt, Assumptions, Skeleton}
use Rattle.cp_model.proofs.Gathered.{atoms, uniques}
use Rattle.cp_model.proofs.LawTerms.{value_after, term_composed}
use Rattle.cp_unify.proofs.Free.{free}
use Rattle.cp_collapse.specs.Partitions.{IsPartitionByRole, IdentifiesValues}
use Rattle.cp_collapse.specs.Collapses.{unique_in, assumptions_in, IsCollapsed, AreCollapsesBy, no_collapses, collapse_by}
use Rattle.cp_collapse.proofs.AssumptionImages.{AreImages, AreAssumptionsIn, assumptions_are, gathered_images}
use Rattle.cp_collapse.proofs.StrandsOfCollapses.{strand_comes}
use Rattle.cp_collapse.proofs.VariablesOfCollapses.{value_composed}
use Rattle.cp_printable.specs.Spelled.{IsSpelledTerm, IsSpelledAtom, AreSpelledAtoms, IsSpelledStrand, AreSpelledAssumptions, IsSpelledSkeleton}
use Rattle.cp_printable.proofs.Under.{GivesStrings, atom_under, term_under}
use Rattle.cp_printable.proofs.NoOtherStrings.{same_left, leaving_out, gives_only}

-- ---- under a substitution that gives admitted strings

module _ (S I : List ℕ → Type 0) (f : Substitution) (gives : GivesStrings S f) where
  atom_images : (vs ws : List AtomTerm) → AreImages (apply_to_atom f) vs ws → AreSpelledAtoms S vs → AreSpelledAtoms S ws
  atom_images vs ws are all w i =
      let m = (are w).0 i in
      subst (IsSpelledAtom S) m.2 (atom_under S I f m.0 gives (all m.0 m.1))

  unique_images : (p : List ℕ) (us ws : List UniqueAt) → AreImages (unique_in p f) us ws → ((u : UniqueAt) → IsIn u us → IsSpelledAtom S u.value) → (w : UniqueAt) → IsIn w ws → IsSpelledAtom S w.value
  unique_images p us ws are all w i =
      let m = (are w).0 i in
      subst (λ (u : UniqueAt). IsSpelledAtom S u.value) m.2 (atom_under S I f m.0.value gives (all m.0 m.1))

  assumption_images : (p : List ℕ) (a b : Assumptions) → AreAssumptionsIn p f a b → AreSpelledAssumptions S a → AreSpelledAssumptions S b
  assumption_images p a b are is = record {
    non = atom_images a.non_originating b.non_originating are.non is.non;
    penetrator_non = atom_images a.penetrator_non_originating b.penetrator_non_originating are.penetrator_non is.penetrator_non;
    unique = unique_images p a.uniquely_originating b.uniquely_originating are.unique is.unique;
  }

  own_images : (p : List ℕ) (a : Assumptions) → AreAssumptionsIn p f a (assumptions_in p f a)
  own_images p a = record {
    non = gathered_images atoms (apply_to_atom f) a.non_originating;
    penetrator_non = gathered_images atoms (apply_to_atom f) a.penetrator_non_originating;
    unique = gathered_images uniques (unique_in p f) a.uniquely_originating;
  }

  -- An instance whose terms are those of another under the substitution.
  instance_image : (role : Role) (height : ℕ) (terms to : List Binding) → AgreeOnTerms (variables_of_prefix role height) (composed (as_substitution terms) f) (as_substitution to) →
      IsSpelledStrand S I (instance role height terms) → IsSpelledStrand S I (instance role height to)
  instance_image role height terms to agree is = (
    is.0,
    λ x i.
        let e : apply_to f (apply_to (as_substitution terms) (variable_term x)) ≡ apply_to (as_substitution to) (variable_term x) = sym (term_composed (as_substitution terms) f (variable_term x)) ∙ agree x i in
        subst (IsSpelledTerm S) e (term_under S I f (apply_to (as_substitution terms) (variable_term x)) gives (is.1 x i)),
  )

module _ (S I : List ℕ → Type 0) (decide : (t : List ℕ) → S t ⊎ (S t → ⊥)) where
  module _ (k : Skeleton) (is : IsSpelledSkeleton S I k) (p : List ℕ) (l : Skeleton) (part : IsPartitionByRole k p) (collapsed : IsCollapsed k p l) where
    abbrev f : Substitution
    f = collapsed.unifier

    -- ---- what the unifier gives

    strand_spelled : (n : ℕ) (st : SkeletonStrand) → item_at k.strands n ≡ Some st → IsSpelledStrand S I st
    strand_spelled n st at = is.strands st (at_place k.strands n st at)

    term_of_instance : (n : ℕ) (role : Role) (height : ℕ) (terms : List Binding) → item_at k.strands n ≡ Some (instance role height terms) → (x : Variable) → IsIn x (variables_of_prefix role height) →
        IsSpelledTerm S (apply_to (as_substitution terms) (variable_term x))
    term_of_instance n role height terms at = (strand_spelled n (instance role height terms) at).1

    -- Where other purposes are left out equal values stay equal.
    still_identifies : (g : Assignment) → IdentifiesValues k p g → IdentifiesValues k p (leaving_out S decide g)
    still_identifies g identifies n m role height terms height' terms' at au together x i j =
        let h = leaving_out S decide g in
        let a = apply_to (as_substitution terms) (variable_term x) in
        let b = apply_to (as_substitution terms') (variable_term x) in
        let equal : value_of g a ≡ value_of g b =
        sym (value_after g (as_substitution terms) (variable_term x)) ∙ identifies n m role height terms height' terms' at au together x i j ∙ value_after g (as_substitution terms') (variable_term x) in
        value_after h (as_substitution terms) (variable_term x)
        ∙ same_left S decide g a b (term_of_instance n role height terms at x i) (term_of_instance m role height' terms' au x j) equal
        ∙ sym (value_after h (as_substitution terms') (variable_term x))

    -- The values under the unifier are equal.
    identifies_itself : IdentifiesValues k p (after free f)
    identifies_itself n m role height terms height' terms' at au together x i j =
        value_composed f (as_substitution terms) x
        ∙ ap (value_of free) (collapsed.most_general.identifies n m role height terms height' terms' at au together x i j)
        ∙ sym (value_composed f (as_substitution terms') x)

    gives : GivesStrings S f
    gives = gives_only S decide (IdentifiesValues k p) f still_identifies identifies_itself collapsed.most_general.general

    -- ---- strands

    comes : (place : ℕ) (st : SkeletonStrand) → item_at l.strands place ≡ Some st → IsSpelledStrand S I st
    comes =
        strand_comes k l p part collapsed (IsSpelledStrand S I)
        (λ n role height terms to at agree. instance_image S I f gives role height terms to agree (strand_spelled n (instance role height terms) at)) (λ n t at. term_under S I f t gives (strand_spelled n (listener t) at))

    -- ---- the whole collapse

    collapse_spelled : IsSpelledSkeleton S I l
    collapse_spelled = record {
      strands = λ st i. let r = place_of i in comes r.0 st r.1;
      assumptions = assumption_images S I f gives p k.assumptions l.assumptions (assumptions_are k l p collapsed) is.assumptions;
      values = λ t i.
          let m = from_map (apply_to f) k.from_problem.values (subst (IsIn t) collapsed.from_problem.values i) in
          subst (IsSpelledTerm S) m.2 (term_under S I f m.0 gives (is.values m.0 m.1));
      own = subst (AreSpelledAssumptions S) (sym collapsed.from_problem.assumptions)
          (assumption_images S I f gives p k.from_problem.assumptions (assumptions_in p f k.from_problem.assumptions) (own_images S I f gives p k.from_problem.assumptions) is.own);
    }

  pub collapses_spelled : (k : Skeleton) → IsSpelledSkeleton S I k → (ps : List (List ℕ)) (ls : List Skeleton) → AreCollapsesBy k ps ls → (l : Skeleton) → IsIn l ls → IsSpelledSkeleton S I l
  collapses_spelled k is _ _ no_collapses l i = elim i [ ]
  collapses_spelled k is _ _ (collapse_by {p = p} {l = m} {ps = ps} {ls = ls} one more) l here = collapse_spelled k is p m one.partition one.collapsed
  collapses_spelled k is _ _ (collapse_by {p = p} {l = m} {ps = ps} {ls = ls} one more) l (there i) = collapses_spelled k is ps ls more l i
