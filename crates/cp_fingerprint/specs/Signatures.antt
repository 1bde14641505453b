-- What is compared of two skeletons before an embedding of one in the other is looked for.
use Rattle.std.specs.Prelude.{◌≡◌, ◌≤◌, ◌⊎◌, ℕ, false, List, Option, refl}
use Rattle.std.specs.Coded.{Coded, code_by, coded_ℕ, coded_list, coded_option, coded×}
use Rattle.cp_model.specs.Skeleton.{Skeleton}
use Rattle.cp_fingerprint.specs.Partition.{partition_of, is_whole}
use Rattle.cp_fingerprint.specs.Fingerprints.{fingerprint_of, HaveNoMore}
use Rattle.cp_fingerprint.specs.InTurn.{coded_fingerprint}
use Rattle.cp_fingerprint.specs.SharedValues.{bucket_key_of, light_share_of}
use Rattle.cp_fingerprint.specs.Chains.{chains_of}
use Rattle.cp_fingerprint.specs.declared.heights.RoleHeight.{RoleHeight}

-- The fingerprint, the partition of the problem's strands, two numbers for how role strands share values, and the sum of the weights of
-- the heaviest chains that lead to their nodes.
pub record SignatureData : Type 0 where
  pub fingerprint : List RoleHeight
  pub partition : List (Option ℕ)
  pub bucket_key : ℕ
  pub light_share : ℕ
  pub chains : ℕ

abbrev pub coded_signature : Coded SignatureData
coded_signature =
    code_by ((List RoleHeight × List (Option ℕ)) × (ℕ × (ℕ × ℕ))) (coded× (coded× coded_fingerprint (coded_list (coded_option coded_ℕ))) (coded× coded_ℕ (coded× coded_ℕ coded_ℕ)))
    (λ t. ((t.fingerprint, t.partition), (t.bucket_key, (t.light_share, t.chains))))
    (λ p. record { fingerprint = p.0.0; partition = p.0.1; bucket_key = p.1.0; light_share = p.1.1.0; chains = p.1.1.1 })
    (λ _. refl)

abbrev pub signature_of : Skeleton → SignatureData
signature_of k = record { fingerprint = fingerprint_of k; partition = partition_of k; bucket_key = bucket_key_of k; light_share = light_share_of k; chains = chains_of k }

-- A skeleton with the first signature may embed in one with the second: of no role it has more strands of some height or more; its
-- partition is the same, if it is whole; and its role strands share no more, and have no heavier chains.
pub record MayEmbed (x y : SignatureData) : Type 0 where
  pub fingerprint : HaveNoMore x.fingerprint y.fingerprint
  pub partition : (is_whole x.partition ≡ false) ⊎ (x.partition ≡ y.partition)
  pub bucket_key : x.bucket_key ≤ y.bucket_key
  pub light_share : x.light_share ≤ y.light_share
  pub chains : x.chains ≤ y.chains
