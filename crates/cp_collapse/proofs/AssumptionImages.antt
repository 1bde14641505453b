-- The assumptions of a collapse are exactly the images of the skeleton's, in the order of the report.
use Rattle.std.proofs.Common.{◌≡◌, ◌↔◌, ℕ, List, [], map, sym, ap, ◌∙◌, subst, Bool, ⊎_elim}
use Rattle.cp_lists.specs.Lists.{IsIn}
use Rattle.cp_lists.proofs.Members.{from_map, into_map}
use Rattle.cp_model.specs.Term.{Substitution, apply_to_atom}
use Rattle.cp_model.specs.Given.{listed}
use Rattle.cp_model.specs.Skeleton.{Assumptions, Skeleton}
use Rattle.cp_model.specs.GivenAssumptions.{HasEachOnce}
use Rattle.cp_skel.proofs.EachOnce.{listed-non, listed-penetrator-non, listed-unique, stays-listed}
use Rattle.cp_model.proofs.Gathered.{IsGathering, onto-takes, onto-only, atoms, uniques}
use Rattle.cp_collapse.specs.Collapses.{unique_in, assumptions_in, IsCollapsed}
use Rattle.cp_collapse.specs.Property.{Has}

-- The items of one list are exactly the images of those of the other.
abbrev pub AreImages : {A B : Type 0} → (A → B) → List A → List B → Type 0
AreImages f xs ys = (y : _) → IsIn y ys ↔ Has (λ x. f x ≡ y) xs

-- Each of the lists of assumptions holds exactly the images of the other's.
pub record AreAssumptionsIn (p : List ℕ) (f : Substitution) (a b : Assumptions) : Type 0 where
  pub non : AreImages (apply_to_atom f) a.non_originating b.non_originating
  pub penetrator_non : AreImages (apply_to_atom f) a.penetrator_non_originating b.penetrator_non_originating
  pub unique : AreImages (unique_in p f) a.uniquely_originating b.uniquely_originating

-- Images that are gathered, each once, are exactly the images.
pub gathered_images : {A B : Type 0} {has : List B → B → Bool} {onto : List B → List B → List B} → IsGathering has onto → (f : A → B) (xs : List A) → AreImages f xs (onto [] (map f xs))
gathered_images g f xs y = (
  λ i. from_map f xs (⊎_elim (λ j. elim j [ ]) (λ j. j) (onto-only g [] (map f xs) y i)),
  λ h. onto-takes g [] (map f xs) y (subst (λ z. IsIn z (map f xs)) h.2 (into_map f h.1)),
)

listed_images : {A B : Type 0} (f : A → B) (xs : List A) (ys zs : List B) → HasEachOnce ys zs → AreImages f xs ys → AreImages f xs zs
listed_images f xs ys zs e h y = (λ i. (h y).0 ((e.same y).0 i), λ j. (e.same y).1 ((h y).1 j))

module _ (p : List ℕ) (f : Substitution) (a : Assumptions) (l : Skeleton) where
  -- The skeleton with the images in the place of its assumptions.
  abbrev with_images : Skeleton
  with_images = record l { assumptions = assumptions_in p f a }

  listed_are_images : AreAssumptionsIn p f a (listed with_images)
  listed_are_images = record {
    non = listed_images (apply_to_atom f) a.non_originating with_images.assumptions.non_originating (listed with_images).non_originating (listed-non with_images) (gathered_images atoms (apply_to_atom f) a.non_originating);
    penetrator_non =
        listed_images (apply_to_atom f) a.penetrator_non_originating with_images.assumptions.penetrator_non_originating (listed with_images).penetrator_non_originating (listed-penetrator-non with_images)
        (gathered_images atoms (apply_to_atom f) a.penetrator_non_originating);
    unique = listed_images (unique_in p f) a.uniquely_originating with_images.assumptions.uniquely_originating (listed with_images).uniquely_originating (listed-unique with_images) (gathered_images uniques (unique_in p f) a.uniquely_originating);
  }

-- The assumptions of a collapse are the images of the skeleton's.
pub assumptions_are : (k l : Skeleton) (p : List ℕ) (c : IsCollapsed k p l) → AreAssumptionsIn p c.unifier k.assumptions l.assumptions
assumptions_are k l p c = subst (AreAssumptionsIn p c.unifier k.assumptions) (sym c.assumptions) (listed_are_images p c.unifier k.assumptions l)

-- They are in the order of the report.
pub assumptions_listed : (k l : Skeleton) (p : List ℕ) → IsCollapsed k p l → l.assumptions ≡ listed l
assumptions_listed k l p c =
    let m = with_images p c.unifier k.assumptions l in
    c.assumptions ∙ sym (stays-listed m) ∙ ap (λ (a : Assumptions). listed (record l { assumptions = a })) (sym c.assumptions)
