-- Strands that are the same under a renaming: what stands at a place of the one list stands there in the other.
use Rattle.std.proofs.Common.{◌≡◌, ℕ, zero, suc, List, [], ◌∷◌, Option, Some, None, refl, sym, ap, ◌∙◌, subst}
use Rattle.std.specs.Prelude.{option_map}
use Rattle.cp_lists.specs.Lists.{item_at}
use Rattle.cp_model.specs.Senders.{ArePaired}
use Rattle.cp_model.specs.Term.{Term, Substitution, apply_to, composed, AgreeOnTerms}
use Rattle.cp_model.specs.Bindings.{Binding, as_substitution}
use Rattle.cp_model.specs.Strand.{event_map, Role, variables_of_prefix}
use Rattle.cp_model.specs.declared.strand.Event.{Event}
use Rattle.cp_model.specs.declared.node.Node.{Node}
use Rattle.cp_model.specs.Skeleton.{SkeletonStrand, instance, listener, term_event_at, IsNodeOf}
use Rattle.cp_model.specs.Standing.{image_on}
use Rattle.cp_model.proofs.Paired.{paired_item}
use Rattle.cp_report.specs.UpToNames.{IsSameStrandUnder}
use Rattle.cp_report.proofs.RenamedStrands.{event_renamed}

-- The partner of an item of the second list.
pub paired_from : {A B : Type 0} (R : A → B → Type 0) (xs : List A) (ys : List B) → ArePaired R xs ys → (i : ℕ) (y : B) → item_at ys i ≡ Some y → (x : A) × (item_at xs i ≡ Some x) × R x y
paired_from R xs [] p i y e = absurd (cc)
paired_from R [] (z ∷ ys) p i y e = absurd p
paired_from R (x ∷ xs) (z ∷ ys) p zero y e = let same : z ≡ y = cc in (x, refl, subst (λ w. R x w) same p.0)
paired_from R (x ∷ xs) (z ∷ ys) p (suc i) y e = paired_from R xs ys p.1 i y e

-- Strand number s is an instance of the role at the height, with terms that have the property.
abbrev pub HasInstance : List SkeletonStrand → ℕ → Role → ℕ → (List Binding → Type 0) → Type 0
HasInstance ks s role height P = (terms : List Binding) × (item_at ks s ≡ Some (instance role height terms)) × P terms

module _ (f : Substitution) where
  -- ---- one strand

  -- The first terms, renamed, are the second ones for the variables of the prefix.
  abbrev pub HasTerms : Role → ℕ → List Binding → List Binding → Type 0
  HasTerms role height terms terms' = AgreeOnTerms (variables_of_prefix role height) (composed (as_substitution terms) f) (as_substitution terms')

  -- Only an instance is renamed to an instance,
  is_instance : (a : SkeletonStrand) (role : Role) (height : ℕ) (terms' : List Binding) → IsSameStrandUnder f a (instance role height terms') → (terms : List Binding) × (a ≡ instance role height terms) × HasTerms role height terms terms'
  is_instance (instance r h t) role height terms' p = (t, (λ i. instance (p.0 i) (p.1 i) t), subst (λ (n : ℕ). HasTerms role n t terms') p.1 (subst (λ (q : Role). HasTerms q h t terms') p.0 p.2))
  is_instance (listener t) role height terms' p = absurd p

  -- and an instance is renamed to nothing else.
  to_instance : (role : Role) (height : ℕ) (terms : List Binding) (b : SkeletonStrand) → IsSameStrandUnder f (instance role height terms) b → (terms' : List Binding) × (b ≡ instance role height terms') × HasTerms role height terms terms'
  to_instance role height terms (instance r h t) p = (t, (λ i. instance (sym p.0 i) (sym p.1 i) t), p.2)
  to_instance role height terms (listener t) p = absurd p

  -- Only a listener is renamed to a listener,
  is_listener : (a : SkeletonStrand) (t' : Term) → IsSameStrandUnder f a (listener t') → (t : Term) × (a ≡ listener t) × (apply_to f t ≡ t')
  is_listener (instance role height terms) t' p = absurd p
  is_listener (listener t) t' p = (t, refl, p)

  -- and a listener is renamed to a listener to the renamed term.
  to_listener : (t : Term) (b : SkeletonStrand) → IsSameStrandUnder f (listener t) b → b ≡ listener (apply_to f t)
  to_listener t (instance role height terms) p = absurd p
  to_listener t (listener u) p = ap listener (sym p)

  -- In a bundle both send a node to the same node.
  image_same : (a b : SkeletonStrand) (start : Node) (i : ℕ) → IsSameStrandUnder f a b → image_on (Some b) start i ≡ image_on (Some a) start i
  image_same (instance role height terms) (instance role' height' terms') start i p = refl
  image_same (listener t) (listener u) start i p = refl
  image_same (instance role height terms) (listener u) start i p = absurd p
  image_same (listener t) (instance role height terms) start i p = absurd p

  -- ---- all strands

  module _ (ks ls : List SkeletonStrand) (paired : ArePaired (IsSameStrandUnder f) ks ls) where
    -- An instance in the second list is one in the first.
    pub instance_from : (s : ℕ) (role : Role) (height : ℕ) (terms' : List Binding) → item_at ls s ≡ Some (instance role height terms') → HasInstance ks s role height (λ terms. HasTerms role height terms terms')
    instance_from s role height terms' at =
        let r = paired_from (IsSameStrandUnder f) ks ls paired s (instance role height terms') at in
        let q = is_instance r.0 role height terms' r.2 in
        (q.0, r.1 ∙ ap Some q.1, q.2)

    -- An instance in the first list is one in the second.
    pub instance_onto : (s : ℕ) (role : Role) (height : ℕ) (terms : List Binding) → item_at ks s ≡ Some (instance role height terms) → HasInstance ls s role height (λ terms'. HasTerms role height terms terms')
    instance_onto s role height terms at =
        let r = paired_item (IsSameStrandUnder f) ks ls paired s (instance role height terms) at in
        let q = to_instance role height terms r.0 r.2 in
        (q.0, r.1 ∙ ap Some q.1, q.2)

    -- A listener in the second list is one in the first.
    pub listener_from : (s : ℕ) (t' : Term) → item_at ls s ≡ Some (listener t') → (t : Term) × (item_at ks s ≡ Some (listener t)) × (apply_to f t ≡ t')
    listener_from s t' at =
        let r = paired_from (IsSameStrandUnder f) ks ls paired s (listener t') at in
        let q = is_listener r.0 t' r.2 in
        (q.0, r.1 ∙ ap Some q.1, q.2)

    -- A listener in the first list is one in the second.
    pub listener_onto : (s : ℕ) (t : Term) → item_at ks s ≡ Some (listener t) → item_at ls s ≡ Some (listener (apply_to f t))
    listener_onto s t at = let r = paired_item (IsSameStrandUnder f) ks ls paired s (listener t) at in r.1 ∙ ap Some (to_listener t r.0 r.2)

    -- ---- events and images

    -- An event of the first strands is one of the second, renamed.
    pub event_onto : (n : Node) (e : Event Term) → term_event_at ks n ≡ Some e → term_event_at ls n ≡ Some (event_map (apply_to f) e)
    event_onto n e at = event_renamed f ks ls paired n ∙ ap (option_map (event_map (apply_to f))) at

    -- An event of the second strands is a renamed one of the first.
    pub event_from : (n : Node) (d : Event Term) → term_event_at ls n ≡ Some d → (e : Event Term) × (term_event_at ks n ≡ Some e) × (event_map (apply_to f) e ≡ d)
    event_from n d at = by (term_event_at ks n) refl (sym (event_renamed f ks ls paired n) ∙ at)
      where
        by : (o : Option (Event Term)) → term_event_at ks n ≡ o → option_map (event_map (apply_to f)) o ≡ Some d → (e : Event Term) × (term_event_at ks n ≡ Some e) × (event_map (apply_to f) e ≡ d)
        by None q h = absurd (cc)
        by (Some e) q h = (e, q, cc)

    -- A node of the second strands is one of the first.
    pub node_from : (n : Node) → IsNodeOf ls n → IsNodeOf ks n
    node_from n is = let r = event_from n is.0 is.1 in (r.0, r.1)

  -- In a bundle both lists send a node to the same node.
  pub image_at : (ks ls : List SkeletonStrand) → ArePaired (IsSameStrandUnder f) ks ls → (s : ℕ) (start : Node) (i : ℕ) → image_on (item_at ls s) start i ≡ image_on (item_at ks s) start i
  image_at [] [] p s start i = refl
  image_at (k ∷ ks) (l ∷ ls) p zero start i = image_same k l start i p.0
  image_at (k ∷ ks) (l ∷ ls) p (suc s) start i = image_at ks ls p.1 s start i
  image_at [] (l ∷ ls) p s start i = absurd p
  image_at (k ∷ ks) [] p s start i = absurd p
