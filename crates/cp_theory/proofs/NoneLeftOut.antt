-- The cohort law: skeletons that cover a test leave out no standing.
use Rattle.std.proofs.Common.{◌≡◌, List, [], Some, refl, ap, ◌∙◌, ⊎_elim}
use Rattle.cp_lists.proofs.Members.{not_in_none}
use Rattle.cp_model.specs.Term.{Term, value_of}
use Rattle.cp_model.specs.Strand.{Protocol}
use Rattle.cp_model.specs.declared.strand.Event.TheVariants.{Receive as recv}
use Rattle.cp_model.specs.Bundle.{event_at, Bundle, IsBundle}
use Rattle.cp_model.specs.declared.node.Node.{Node}
use Rattle.cp_model.specs.Skeleton.{Skeleton, IsSkeleton}
use Rattle.cp_model.specs.Standing.{Standing, image_of, StandsIn, StandsApart}
use Rattle.cp_model.specs.Tree.{Pattern}
use Rattle.cp_theory.proofs.Images.{image_event_at}
use Rattle.cp_theory.proofs.Tested.{answered}
use Rattle.cp_theory.specs.Critical.{IsTest}
use Rattle.cp_theory.specs.Guards.{Guards}
use Rattle.cp_theory.proofs.Decided.{protection_test}
use Rattle.cp_theory.proofs.Positions.{part_outside}
use Rattle.cp_theory.specs.Covering.{IsCovering}
use Rattle.cp_theory.specs.NoneLeftOut.{IsComplete}
use Rattle.cp_theory.proofs.StrandReleases.{Situation, released_goes_on}
use Rattle.cp_theory.proofs.KeyListeners.{encrypted_goes_on, decrypted_goes_on}
use Rattle.cp_theory.proofs.Secret.{no_pair_value, not_created}

pub covering_leaves_none_out : (protocol : Protocol) (k : Skeleton) (n : Node) (c : Term) (ps : List Pattern) (ks : List Skeleton) → IsSkeleton protocol k → IsTest k n c → Guards ps k n c → IsCovering protocol k n c ps ks →
    IsComplete protocol k ks
covering_leaves_none_out protocol k n c ps ks sk is_test guards covering b h is stands apart =
    let decided = protection_test ps h.values in
    let test = decided.0 in
    let here : Situation protocol k n c ps ks b h test = record {
      bundle = is;
      skeleton = sk;
      stands = stands;
      apart = apart;
      received = recv is_test.message;
      reception = is_test.reception;
      guards = guards;
      covering = covering;
      tells = decided.1;
    } in
    let image = image_event_at k b h stands n (recv is_test.message) is_test.reception in
    let heard : event_at b.strands (image_of k h n) ≡ Some (recv (value_of h.values is_test.message)) = image.there ∙ ap Some (image.reception is_test.message refl) in
    ⊎_elim (released_goes_on protocol k n c ps ks b h test here) (⊎_elim (encrypted_goes_on protocol k n c ps ks b h test here) (decrypted_goes_on protocol k n c ps ks b h test here))
    (answered protocol b is test (value_of h.values c) (image_of k h n) (value_of h.values is_test.message) heard (part_outside test h.values is_test.component.part)
    (no_pair_value h.values c is_test.component.no_pair) (not_created k b h n c stands is_test.underivable))

-- Where the list is empty the skeleton stands apart in no bundle.
pub empty_where_it_stands_nowhere : (protocol : Protocol) (k : Skeleton) → IsComplete protocol k [] → (b : Bundle) (h : Standing) → IsBundle protocol b → StandsIn k b h → StandsApart k h → ⊥
empty_where_it_stands_nowhere protocol k leaves b h is stands apart = not_in_none (leaves b h is stands apart).listed
