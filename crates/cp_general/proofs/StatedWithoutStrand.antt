-- A skeleton without a strand to which no strand of the problem goes keeps what the problem states, and carries the homomorphism
-- from it.
use Rattle.std.proofs.Common.{◌≡◌, ◌≢◌, inl, inr, ℕ, ◌<◌, List, Some, map, length, refl, sym, ap, ◌∙◌, subst}
use Rattle.cp_lists.specs.Lists.{item_at, IsIn}
use Rattle.cp_lists.proofs.Items.{item_below, map_of_item}
use Rattle.cp_lists.proofs.Mapped.{map_then, map_alike}
use Rattle.cp_model.specs.Term.{AtomTerm, Term, Substitution, apply_to, apply_to_atom, composed, AgreeOnTerms}
use Rattle.cp_model.specs.Bindings.{Binding, as_substitution}
use Rattle.cp_model.specs.Strand.{Role, Protocol, variables_of_prefix}
use Rattle.cp_model.specs.declared.variable.Declaration.{Declaration}
use Rattle.cp_model.specs.Bundle.{node_at}
use Rattle.cp_model.specs.declared.node.Node.{Node}
use Rattle.cp_model.specs.declared.node.OrderPair.{OrderPair}
use Rattle.cp_model.specs.Skeleton.{instance, listener, UniqueAt, Skeleton, Before, IsSkeleton}
use Rattle.cp_model.specs.Homomorphism.{SkeletonMap, mapped, GoesToInstance, substitution_by, number_or, strand_in, map_from_problem, CarriesHomomorphism}
use Rattle.cp_model.specs.PointOfView.{IsPointOfView}
use Rattle.cp_model.specs.Stated.{unique_image, pair_image, IsImageOfOne, AreImages, KeepsStated}
use Rattle.cp_model.proofs.SingleMaps.{states_itself}
use Rattle.cp_skel.specs.Deletion.{renumbered, node_renumbered, unique_renumbered, pair_renumbered, IsOriginOn, IsPairOn}
use Rattle.cp_skel.proofs.NumbersWithout.{renumbered_apart}
use Rattle.cp_skel.proofs.PairsWithout.{in_left, was_left}
use Rattle.cp_skel.proofs.FromProblemWithout.{in_range_without, assumed_without, ordered_without}
use Rattle.cp_collapse.proofs.StatedCollapse.{origin_below, before_below, pair_below}
use Rattle.cp_general.specs.Steps.{Deletes}
use Rattle.cp_general.proofs.ProblemStrands.{strand_below, entry_at, entry_in}
use Rattle.cp_general.proofs.DeletedStrands.{strand_stays, deleted_is_skeleton}
use Rattle.cp_general.proofs.HomomorphismByStated.{homomorphism_by_stated}

module _ (protocol : Protocol) (variables : List Declaration) (problem k h : Skeleton) (sp : IsSkeleton protocol problem) (own : IsPointOfView variables problem) (carries : CarriesHomomorphism problem k)
    (keeps : KeepsStated problem k) (d : ℕ) (del : Deletes d k h) where
  abbrev first : SkeletonMap
  first = map_from_problem k

  abbrev last : SkeletonMap
  last = map_from_problem h

  -- ---- the map

  off : (s : ℕ) → s < length problem.strands → first.strands s ≢ d
  off s below e = del.no_image (subst (λ (n : ℕ). IsIn n k.from_problem.strands) e (entry_in variables problem own k carries s below))

  goes : (s : ℕ) → s < length problem.strands → last.strands s ≡ renumbered d (first.strands s)
  goes s below =
      ap (λ (ns : List ℕ). strand_in ns s) del.from_problem.strands
      ∙ ap (number_or s) (map_of_item (renumbered d) k.from_problem.strands s (first.strands s) (entry_at variables problem own k carries s below))

  same_terms : first.terms ≡ last.terms
  same_terms = ap substitution_by (sym del.from_problem.values)

  node_goes : (n : Node) → n.strand < length problem.strands → mapped last n ≡ node_renumbered d (mapped first n)
  node_goes n below i = node_at (goes n.strand below i) n.index

  unique_goes : (u : UniqueAt) → IsIn u problem.from_problem.assumptions.uniquely_originating → unique_image last u ≡ unique_renumbered d (unique_image first u)
  unique_goes u i j = record { value = apply_to_atom (sym same_terms j) u.value; origin = node_goes u.origin (origin_below protocol variables problem sp (states_itself own) u i) j }

  pair_goes : (p : OrderPair) → IsIn p problem.from_problem.pairs → pair_image last p ≡ pair_renumbered d (pair_image first p)
  pair_goes p i j =
      let below = pair_below protocol variables problem sp (states_itself own) p i in
      record { earlier = node_goes p.earlier below.0 j; later = node_goes p.later below.1 j }

  -- ---- what the problem states

  images_stay : (stated olds news : List AtomTerm) → news ≡ olds → AreImages (apply_to_atom first.terms) stated olds → AreImages (apply_to_atom last.terms) stated news
  images_stay stated olds news same images =
      subst (λ (t : Substitution). AreImages (apply_to_atom t) stated news) same_terms (subst (AreImages (apply_to_atom first.terms) stated) (sym same) images)

  own_uniques : AreImages (unique_image last) problem.from_problem.assumptions.uniquely_originating h.from_problem.assumptions.uniquely_originating
  own_uniques u = (
    λ i. let w = was_left (IsOriginOn d) (unique_renumbered d) k.from_problem.assumptions.uniquely_originating h.from_problem.assumptions.uniquely_originating u del.from_problem.unique i in
        let o = (keeps.unique w.item).0 w.listed in
        record { item = o.item; listed = o.listed; image = unique_goes o.item o.listed ∙ ap (unique_renumbered d) o.image ∙ sym w.same },
    λ r. let there = (keeps.unique (unique_image first r.item)).1 (record { item = r.item; listed = r.listed; image = refl }) in
        subst (λ (w : UniqueAt). IsIn w h.from_problem.assumptions.uniquely_originating) (sym (unique_goes r.item r.listed) ∙ r.image)
        (in_left (IsOriginOn d) (unique_renumbered d) k.from_problem.assumptions.uniquely_originating h.from_problem.assumptions.uniquely_originating (unique_image first r.item) del.from_problem.unique there
        (off r.item.origin.strand (origin_below protocol variables problem sp (states_itself own) r.item r.listed))),
  )

  -- The pair lies between different strands.
  abbrev IsBetween : OrderPair → Type 0
  IsBetween q = q.earlier.strand ≢ q.later.strand

  pair_was : (q : OrderPair) → IsIn q h.from_problem.pairs → IsImageOfOne (pair_image last) problem.from_problem.pairs q × IsBetween q
  pair_was q i =
      let w = was_left (IsPairOn d) (pair_renumbered d) k.from_problem.pairs h.from_problem.pairs q del.from_problem.pairs i in
      let o = (keeps.pairs w.item).0 w.listed in (
        record { item = o.0.item; listed = o.0.listed; image = pair_goes o.0.item o.0.listed ∙ ap (pair_renumbered d) o.0.image ∙ sym w.same },
        subst IsBetween (sym w.same) (renumbered_apart d w.item.earlier.strand w.item.later.strand (λ e. w.not_gone (inl e)) (λ e. w.not_gone (inr e)) o.1),
      )

  pair_stays : (q : OrderPair) → IsImageOfOne (pair_image last) problem.from_problem.pairs q → IsBetween q → IsIn q h.from_problem.pairs
  pair_stays q o between =
      let was : OrderPair = pair_image first o.item in
      let below = pair_below protocol variables problem sp (states_itself own) o.item o.listed in
      let same : pair_renumbered d was ≡ q = sym (pair_goes o.item o.listed) ∙ o.image in
      let apart : IsBetween (pair_renumbered d was) = subst IsBetween (sym same) between in
      let there : IsIn was k.from_problem.pairs = (keeps.pairs was).1 (record { item = o.item; listed = o.listed; image = refl }, λ e. apart (ap (renumbered d) e)) in
      subst (λ (r : OrderPair). IsIn r h.from_problem.pairs) same
      (in_left (IsPairOn d) (pair_renumbered d) k.from_problem.pairs h.from_problem.pairs was del.from_problem.pairs there
      (λ on. elim on [ inl e ↦ off o.item.earlier.strand below.0 e | inr e ↦ off o.item.later.strand below.1 e ]))

  pub deleted_keeps_stated : KeepsStated problem h
  deleted_keeps_stated =
      let stated = problem.from_problem.assumptions in
      let olds = k.from_problem.assumptions in
      let news = h.from_problem.assumptions in
      record {
        in_range = in_range_without d k h del.from_problem del.strands del.no_image keeps.in_range;
        non = images_stay stated.non_originating olds.non_originating news.non_originating del.from_problem.non keeps.non;
        penetrator_non = images_stay stated.penetrator_non_originating olds.penetrator_non_originating news.penetrator_non_originating del.from_problem.penetrator_non keeps.penetrator_non;
        unique = own_uniques;
        assumed = assumed_without d k h del.from_problem del.assumptions keeps.assumed;
        pairs = λ q. (pair_was q, λ r. pair_stays q r.0 r.1);
        ordered = ordered_without d k h del.from_problem del.order keeps.ordered;
      }

  -- ---- the homomorphism

  instance_goes : (s : ℕ) (role : Role) (height : ℕ) (terms : List Binding) → item_at problem.strands s ≡ Some (instance role height terms) → GoesToInstance h last s role height terms
  instance_goes s role height terms at =
      let g = carries.homomorphism.instances s role height terms at in
      let below : s < length problem.strands = item_below problem.strands s (instance role height terms) at in
      record {
        to_height = g.to_height;
        to_terms = g.to_terms;
        on_instance = ap (item_at h.strands) (goes s below) ∙ strand_stays d k h del (first.strands s) (instance role g.to_height g.to_terms) (off s below) g.on_instance;
        at_least = g.at_least;
        equal_terms = subst (λ (t : Substitution). AgreeOnTerms (variables_of_prefix role height) (composed (as_substitution terms) t) (as_substitution g.to_terms)) same_terms g.equal_terms;
      }

  listener_goes : (s : ℕ) (t : Term) → item_at problem.strands s ≡ Some (listener t) → item_at h.strands (last.strands s) ≡ Some (listener (apply_to last.terms t))
  listener_goes s t at =
      let below : s < length problem.strands = item_below problem.strands s (listener t) at in
      ap (item_at h.strands) (goes s below) ∙ strand_stays d k h del (first.strands s) (listener (apply_to first.terms t)) (off s below) (carries.homomorphism.listeners s t at)
      ∙ ap (λ (f : Substitution). Some (listener (apply_to f t))) same_terms

  before_goes : (x y : Node) → Before problem x y → Before h (mapped last x) (mapped last y)
  before_goes x y b =
      let below = before_below protocol variables problem sp (states_itself own) b in
      subst (λ (n : Node). Before h n (mapped last y)) (sym (node_goes x below.0))
      (subst (Before h (node_renumbered d (mapped first x))) (sym (node_goes y below.1))
      ((del.order (mapped first x) (mapped first y) (off x.strand below.0) (off y.strand below.1)).1 (carries.homomorphism.ordered x y b)))

  strands_go : map last.strands problem.from_problem.strands ≡ h.from_problem.strands
  strands_go =
      let both : ℕ → ℕ = λ s. renumbered d (first.strands s) in
      map_alike last.strands both problem.from_problem.strands (λ s i. goes s (strand_below variables problem own s i))
      ∙ map_then first.strands (renumbered d) both (λ s. refl) problem.from_problem.strands ∙ ap (map (renumbered d)) carries.strands ∙ sym del.from_problem.strands

  pub deleted_carries : IsSkeleton protocol k → CarriesHomomorphism problem h
  deleted_carries sk = record {
    homomorphism = homomorphism_by_stated protocol variables problem h own (deleted_is_skeleton d k h del protocol sk) deleted_keeps_stated instance_goes listener_goes before_goes;
    strands = strands_go;
    values = ap (λ (f : Substitution). map (apply_to f) problem.from_problem.values) (sym same_terms) ∙ carries.values ∙ sym del.from_problem.values;
  }
