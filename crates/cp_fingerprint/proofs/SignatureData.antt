-- What signatures tell of skeletons.
use Rattle.std.proofs.Common.{◌≡◌, ◌↔◌, ◌⊎◌, ◌<◌, ◌≤◌, ℕ, Bool, true, false, ap, subst₂, arith}
use Rattle.cp_model.specs.Skeleton.{Skeleton}
use Rattle.cp_model.specs.Homomorphism.{Embeds}
use Rattle.cp_fingerprint.specs.Isomorphic.{IsIsomorphic}
use Rattle.cp_fingerprint.specs.Partition.{is_whole}
use Rattle.cp_fingerprint.specs.Fingerprints.{HaveNoMore}
use Rattle.cp_fingerprint.specs.Signatures.{SignatureData, signature_of, MayEmbed}
use Rattle.cp_fingerprint.proofs.Signatures.{same_partition}
use Rattle.cp_fingerprint.proofs.NoMore.{embedded_has_no_more}
use Rattle.cp_fingerprint.proofs.SharedMore.{embedded_shares_less, embedded_shares_lightly_less}
use Rattle.cp_fingerprint.proofs.HeaviestChains.{chains_kept}

-- A skeleton that embeds in another may do so by their signatures.
pub embedded_may_embed : (a b : Skeleton) → Embeds a b → MayEmbed (signature_of a) (signature_of b)
embedded_may_embed a b h = record { fingerprint = embedded_has_no_more a b h; partition = same_partition a b h; bucket_key = embedded_shares_less a b h; light_share = embedded_shares_lightly_less a b h; chains = chains_kept a b h }

-- ---- one skeleton in the other

-- What is told of signatures is told of what is seen of them, and of the skeletons that have these.
pub embed_told : (x y v w : SignatureData) (flag : Bool) → x ≡ v → y ≡ w → (flag ≡ true) ↔ MayEmbed x y →
    ((flag ≡ true) ↔ MayEmbed v w) × ((a b : Skeleton) → signature_of a ≡ v → signature_of b ≡ w → Embeds a b → flag ≡ true)
embed_told x y v w flag x_is y_is exact = (told, λ a b a_is b_is h. told.1 (subst₂ MayEmbed a_is b_is (embedded_may_embed a b h)))
  where
    told : (flag ≡ true) ↔ MayEmbed v w
    told = subst₂ (λ (s t : SignatureData). (flag ≡ true) ↔ MayEmbed s t) x_is y_is exact

-- The answer is no where a part forbids an embedding.
pub never_embeds : (x y : SignatureData) → (MayEmbed x y → ⊥) → (false ≡ true) ↔ MayEmbed x y
never_embeds x y apart = (λ t. absurd (let b : false ≡ true = t in cc), λ h. absurd (apart h))

-- The answer is no where a number is greater that no embedding makes smaller.
pub more_forbids : (number : SignatureData → ℕ) → ((s t : SignatureData) → MayEmbed s t → number s ≤ number t) → (x y v w : SignatureData) → x ≡ v → y ≡ w → number y < number x →
    ((false ≡ true) ↔ MayEmbed v w) × ((a b : Skeleton) → signature_of a ≡ v → signature_of b ≡ w → Embeds a b → false ≡ true)
more_forbids number kept x y v w x_is y_is more = embed_told x y v w false x_is y_is (never_embeds x y (λ h. let less : number x ≤ number y = kept x y h in omega (arith, less, more)))

-- The fingerprints are left to be compared.
pub by_fingerprint : (x y : SignatureData) (flag : Bool) → x.bucket_key ≤ y.bucket_key → x.light_share ≤ y.light_share → x.chains ≤ y.chains →
    (is_whole x.partition ≡ false) ⊎ (x.partition ≡ y.partition) → (flag ≡ true) ↔ HaveNoMore x.fingerprint y.fingerprint → (flag ≡ true) ↔ MayEmbed x y
by_fingerprint x y flag less lightly lighter same told = (λ t. record { fingerprint = told.0 t; partition = same; bucket_key = less; light_share = lightly; chains = lighter }, λ h. told.1 h.fingerprint)

-- ---- each in the other

-- Where a number differs that no embedding makes smaller, neither may embed in the other as that in it.
pub other_number : (number : SignatureData → ℕ) → ((s t : SignatureData) → MayEmbed s t → number s ≤ number t) → (x y v w : SignatureData) → x ≡ v → y ≡ w → (number x ≡ number y → ⊥) →
    ((false ≡ true) ↔ (MayEmbed v w × MayEmbed w v)) × ((a b : Skeleton) → signature_of a ≡ v → signature_of b ≡ w → IsIsomorphic a b → false ≡ true)
other_number number kept x y v w x_is y_is other = (((λ t. absurd (let b : false ≡ true = t in cc)), (λ h. absurd (apart h.0 h.1))), (λ a b a_is b_is h. absurd (apart (subst₂ MayEmbed a_is b_is (embedded_may_embed a b h.0)) (subst₂ MayEmbed b_is a_is (embedded_may_embed b a h.1)))))
  where
    apart : MayEmbed v w → MayEmbed w v → ⊥
    apart h k =
        let one : number x ≡ number v = ap number x_is in
        let two : number y ≡ number w = ap number y_is in
        let l : number v ≤ number w = kept v w h in
        let m : number w ≤ number v = kept w v k in
        other (let e : number x ≡ number y = omega (arith, one, two, l, m) in e)
