-- What is derivable at a node from what is sent where a pair leads to it, or from nothing that is sent.
use Rattle.std.proofs.Common.{ℕ, List, [], ◌≡◌, ◌∙◌, subst}
use Rattle.cp_lists.specs.Lists.{IsIn, one_step}
use Rattle.cp_lists.proofs.Members.{not_in_none}
use Rattle.cp_model.specs.Term.{Term, atom_term}
use Rattle.cp_model.specs.declared.node.Node.{Node}
use Rattle.cp_model.specs.declared.node.OrderPair.{OrderPair}
use Rattle.cp_model.specs.Skeleton.{Skeleton, along_pair}
use Rattle.cp_model.specs.Derivable.{IsSecret, DerivableAt, sent_before}
use Rattle.cp_derive.specs.Transmissions.{Transmission}
use Rattle.cp_derive.specs.Assumed.{assumed_values}
use Rattle.cp_derive.specs.Before.{transmissions_of, given_by, IsSurveyed}
use Rattle.cp_derive.specs.Direct.{IsSentDirectly}
use Rattle.cp_derive.specs.From.{IsSentBefore}
use Rattle.cp_derive.specs.Given.{Given, IsDerivable}
use Rattle.cp_derive.proofs.FromLaw.{from_more, at_from}
use Rattle.cp_derive.proofs.ListedTransmissions.{listed_on_role, listed_transmission}
use Rattle.cp_derive.proofs.Secrets.{secret_values}

derivable_directly : (k : Skeleton) (t : Term) (n : Node) → IsSentDirectly (transmissions_of k) k.pairs t n → DerivableAt k n t
derivable_directly k t n s =
    subst (DerivableAt k n) s.message
    (sent_before {m = s.transmission.node} (listed_on_role k s.transmission s.listed) (listed_transmission k s.transmission s.listed) (one_step (along_pair s.leads)))

-- The same of the transmissions that a survey of the skeleton k has, and of its pairs.
pub surveyed_directly : (k l : Skeleton) (sent lent : List Transmission) (pairs along : List OrderPair) (t : Term) (n : Node) → IsSurveyed k sent along →
    k ≡ l → lent ≡ sent → pairs ≡ k.pairs → IsSentDirectly lent pairs t n → DerivableAt l n t
surveyed_directly k l sent lent pairs along t n is e same at h =
    let surveyed : IsSentDirectly (transmissions_of k) k.pairs t n =
    subst (λ ps. IsSentDirectly (transmissions_of k) ps t n) at (subst (λ ts. IsSentDirectly ts pairs t n) (same ∙ is.transmissions) h) in
    subst (λ (x : Skeleton). DerivableAt x n t) e (derivable_directly k t n surveyed)

-- What is derivable whatever was sent, where the values of the assumptions are secret, is derivable at each node.
pub made_at : (k : Skeleton) (places : List ℕ) (t : Term) (n : Node) (known : Given) → known ≡ given_by k places →
    ((sent : List Term) → IsDerivable (record { sent = sent; secrets = known.secrets }) t) → DerivableAt k n t
made_at k places t n known e made =
    let from_none : IsDerivable (record { sent = []; secrets = assumed_values k.assumptions }) t =
    subst (λ (g : Given). IsDerivable (record { sent = []; secrets = g.secrets }) t) e (made []) in
    at_from k n t
    (from_more (λ v. IsIn (atom_term v) (assumed_values k.assumptions)) (IsSecret k) (λ x. IsIn x []) (IsSentBefore k n) (λ v. (secret_values k v).1) (λ x i. absurd (not_in_none i)) t from_none)
