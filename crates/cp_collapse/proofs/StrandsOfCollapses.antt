-- What the strands of a collapse come of.
use Rattle.std.proofs.Common.{◌≡◌, ℕ, List, Some, sym, ap, ◌∙◌, subst}
use Rattle.cp_lists.specs.Lists.{item_at}
use Rattle.cp_model.specs.Term.{Term, AgreeOnTerms, Substitution, apply_to, composed}
use Rattle.cp_model.specs.Bindings.{Binding, as_substitution}
use Rattle.cp_model.specs.Strand.{Role, variables_of_prefix}
use Rattle.cp_model.specs.Skeleton.{SkeletonStrand, instance, listener, Skeleton}
use Rattle.cp_collapse.specs.Partitions.{IsPartitionByRole, place_in}
use Rattle.cp_collapse.specs.Collapses.{IsCollapsed}
use Rattle.cp_collapse.proofs.Places.{strand_at_place}

-- A property of strands holds of what each instance and each listener of the skeleton is under the unifier.
module _ (k l : Skeleton) (p : List ℕ) (part : IsPartitionByRole k p) (collapsed : IsCollapsed k p l) (P : SkeletonStrand → Type 0)
    (of_instance : (n : ℕ) (role : Role) (height : ℕ) (terms to : List Binding) → item_at k.strands n ≡ Some (instance role height terms) → AgreeOnTerms (variables_of_prefix role height) (composed (as_substitution terms) collapsed.unifier) (as_substitution to) → P (instance role height to))
    (of_listener : (n : ℕ) (t : Term) → item_at k.strands n ≡ Some (listener t) → P (listener (apply_to collapsed.unifier t))) where
  abbrev f : Substitution
  f = collapsed.unifier

  instance_comes : (place : ℕ) (role : Role) (height : ℕ) (terms : List Binding) → item_at l.strands place ≡ Some (instance role height terms) → P (instance role height terms)
  instance_comes place role height terms at =
      let one = collapsed.tallest place role height terms at in
      let go = collapsed.instances one.strand role height one.terms one.on_instance in
      let e : Some (instance role go.to_height go.to_terms) ≡ Some (instance role height terms) = sym go.on_instance ∙ ap (item_at l.strands) one.at_place ∙ at in
      let same : go.to_terms ≡ terms = cc in
      let agree : AgreeOnTerms (variables_of_prefix role height) (composed (as_substitution one.terms) f) (as_substitution terms) = subst (λ (d : List Binding). AgreeOnTerms (variables_of_prefix role height) (composed (as_substitution one.terms) f) (as_substitution d)) same go.equal_terms in
      of_instance one.strand role height one.terms terms one.on_instance agree

  from_strand : (place n : ℕ) (t : Term) (own : SkeletonStrand) → item_at l.strands place ≡ Some (listener t) → place_in p n ≡ place → item_at k.strands n ≡ Some own → P (listener t)
  from_strand place n t (instance role height terms) at there_is own =
      let go = collapsed.instances n role height terms own in
      let e : Some (instance role go.to_height go.to_terms) ≡ Some (listener t) = sym go.on_instance ∙ ap (item_at l.strands) there_is ∙ at in
      absurd (cc)
  from_strand place n t (listener u) at there_is own =
      let e : Some (listener (apply_to f u)) ≡ Some (listener t) = sym (collapsed.listeners n u own) ∙ ap (item_at l.strands) there_is ∙ at in
      let same : apply_to f u ≡ t = cc in
      subst (λ (w : Term). P (listener w)) same (of_listener n u own)

  -- Then it holds of each strand of the collapse.
  pub strand_comes : (place : ℕ) (st : SkeletonStrand) → item_at l.strands place ≡ Some st → P st
  strand_comes place (instance role height terms) at = instance_comes place role height terms at
  strand_comes place (listener t) at = let own = strand_at_place k.strands l.strands p part.each collapsed.count place (listener t) at in from_strand place own.0 t own.1 at own.2 own.3
