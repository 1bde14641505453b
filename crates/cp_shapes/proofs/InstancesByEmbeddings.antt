-- What an embedding that was looked for tells of an instance.
use Rattle.std.proofs.Common.{◌≡◌, ◌↔◌, ◌⊎◌, inl, inr, ℕ, zero, suc, ◌<◌, ◌≤◌, List, [], ◌∷◌, Bool, true, false, not, length, map, get_or, Option, Some, None, refl, sym, ap, subst, ◌∙◌, arith}
use Rattle.std.specs.Prelude.{IfSome, IfNone}
use Rattle.std.specs.Option.{is_some}
use Rattle.std.proofs.lemmas.List.{length-map}
use Rattle.cp_lists.specs.Lists.{item_at}
use Rattle.cp_model.specs.Skeleton.{Skeleton}
use Rattle.cp_model.specs.Homomorphism.{SkeletonMap, IsEmbedding, Embeds}
use Rattle.cp_hom.specs.Maps.{map_view}
use Rattle.cp_hom.specs.declared.strand_map.Map.{Map}
use Rattle.cp_fingerprint.specs.Signatures.{SignatureData, signature_of}
use Rattle.cp_model.proofs.CarriedParts.{not_both}
use Rattle.cp_shapes.specs.Shapes.{EmbedsAt, IsInstanceWithin}
use Rattle.cp_shapes.proofs.Instances.{same_item, embeds_first_within}

-- ---- one embedding

none_found : (k l : Skeleton) (found : Option Map) (flag : Bool) → is_some found ≡ not flag → flag ≡ true → IfNone found ((f : SkeletonMap) → IsEmbedding k l f → ⊥) → Embeds k l → ⊥
none_found k l None flag e q none h = none h.0 h.1
none_found k l (Some f) flag e q none h = absurd (not_both (ap not q) (sym e))

one_found : (k l : Skeleton) (found : Option Map) (flag : Bool) → is_some found ≡ not flag → flag ≡ false → IfSome found (λ f. IsEmbedding k l (map_view f)) → Embeds k l
one_found k l None flag e q some = absurd (not_both (sym e) (sym (ap not (sym q))))
one_found k l (Some f) flag e q some = (map_view f, some)

module _ (ks : List Skeleton) (m n : ℕ) (km kn : Skeleton) (at_m : item_at ks m ≡ Some km) (at_n : item_at ks n ≡ Some kn) where
  no_embedding : (Embeds kn km → ⊥) → EmbedsAt ks n m → ⊥
  no_embedding not h =
      let first = same_item ks n h.first kn h.at_first at_n in
      let second = same_item ks m h.second km h.at_second at_m in
      not (subst (λ (k : Skeleton). Embeds k km) first (subst (Embeds h.first) second h.embeds))

  an_embedding : Embeds kn km → EmbedsAt ks n m
  an_embedding h = record { first = kn; second = km; at_first = at_n; at_second = at_m; embeds = h }

module _ (ks : List Skeleton) (m n : ℕ) (km kn : Skeleton) (at_m : item_at ks m ≡ Some km) (at_n : item_at ks n ≡ Some kn) where
  -- ---- the answers

  pub is_itself : n ≡ m → (false ≡ true) ↔ IsInstanceWithin ks m n
  is_itself e = ((λ h. absurd (not_both refl h)), (λ h. absurd (h.other e)))

  module _ (found : Option Map) (flag : Bool) (flag_is : is_some found ≡ not flag) where
    pub does_not_embed : flag ≡ true → IfNone found ((f : SkeletonMap) → IsEmbedding kn km f → ⊥) → (false ≡ true) ↔ IsInstanceWithin ks m n
    does_not_embed q none = (
      (λ h. absurd (not_both refl h)),
      (λ h. absurd (no_embedding ks m n km kn at_m at_n (none_found kn km found flag flag_is q none) h.embeds)),
    )

    pub embeds_here : flag ≡ false → IfSome found (λ f. IsEmbedding kn km (map_view f)) → EmbedsAt ks n m
    embeds_here q some = an_embedding ks m n km kn at_m at_n (one_found kn km found flag flag_is q some)

  pub comes_first : (n ≡ m → ⊥) → EmbedsAt ks n m → n < m → (true ≡ true) ↔ IsInstanceWithin ks m n
  comes_first other h l = ((λ e. record { other = other; embeds = h; first = inr l }), (λ e. refl))

  not_first : m ≤ n → (EmbedsAt ks m n → ⊥) ⊎ (n < m) → EmbedsAt ks m n → ⊥
  not_first l (inl f) = f
  not_first l (inr k) = absurd (omega (arith, l, k))

  module _ (found : Option Map) (flag : Bool) (flag_is : is_some found ≡ not flag) (some : IfSome found (λ f. IsEmbedding km kn (map_view f))) (none : IfNone found ((f : SkeletonMap) → IsEmbedding km kn f → ⊥)) where
    back_or_not : (b : Bool) → flag ≡ b → (EmbedsAt ks m n → ⊥) → flag ≡ true
    back_or_not true q not = q
    back_or_not false q not = absurd (not (an_embedding ks n m kn km at_n at_m (one_found km kn found flag flag_is q some)))

    pub comes_later : (n ≡ m → ⊥) → EmbedsAt ks n m → m ≤ n → (flag ≡ true) ↔ IsInstanceWithin ks m n
    comes_later other h l = (
      (λ e. record { other = other; embeds = h; first = inl (no_embedding ks n m kn km at_n at_m (none_found km kn found flag flag_is e none)) }),
      (λ i. back_or_not flag refl (not_first l i.first)),
    )

-- ---- signatures

partition_read : {A : Type 0} (f : A → Skeleton) (xs : List A) (n : ℕ) (k : Skeleton) (p : SignatureData) → item_at (map f xs) n ≡ Some k → p ≡ get_or (map (λ x. signature_of (f x)) xs) n p → signature_of k ≡ p
partition_read f [] n k p e is = absurd (cc)
partition_read f (x ∷ xs) zero k p e is = let q : f x ≡ k = cc in sym (is ∙ ap signature_of q)
partition_read f (x ∷ xs) (suc n) k p e is = partition_read f xs n k p e is

-- A candidate with another signature is no instance.
pub kept_apart : {A : Type 0} (f : A → Skeleton) (xs : List A) (signatures : List SignatureData) (m n : ℕ) (first second : SignatureData) (flag : Bool) → signatures ≡ map (λ x. signature_of (f x)) xs →
    first ≡ get_or signatures n first → second ≡ get_or signatures m second → flag ≡ false →
    ((a b : Skeleton) → signature_of a ≡ first → signature_of b ≡ second → Embeds a b → flag ≡ true) → IsInstanceWithin (map f xs) m n → ⊥
kept_apart f xs signatures m n first second flag e first_is second_is q kept h =
    let of : (i : ℕ) (k : Skeleton) (p : SignatureData) → item_at (map f xs) i ≡ Some k → p ≡ get_or signatures i p → signature_of k ≡ p =
    (λ i k p at is. partition_read f xs i k p at (is ∙ ap (λ (ps : List SignatureData). get_or ps i p) e)) in
    not_both q (kept h.embeds.first h.embeds.second (of n h.embeds.first first h.embeds.at_first first_is) (of m h.embeds.second second h.embeds.at_second second_is) h.embeds.embeds)

pub instance_below : {A : Type 0} (f : A → Skeleton) (xs : List A) (m i n : ℕ) → length xs ≤ n → IsInstanceWithin (map f xs) m i → i < n
instance_below f xs m i n l h =
    let k : i < length (map f xs) = embeds_first_within (map f xs) i m h.embeds in
    let e : length (map f xs) ≡ length xs = length-map xs f in
    omega (arith, k, e, l)
