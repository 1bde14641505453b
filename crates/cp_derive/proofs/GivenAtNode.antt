-- What is given at a node of a skeleton by the transmissions that reach it.
use Rattle.std.proofs.Common.{ℕ, ◌+◌, ◌++◌, List, Option, Some, None, ◌≡◌, refl, sym, subst, ap, ◌∙◌}
use Rattle.std.specs.Prelude.{◌↔◌, option_map}
use Rattle.cp_skel.specs.Ordered.{IsOrdered}
use Rattle.cp_skel.specs.Sound.{IsSound}
use Rattle.cp_lists.proofs.Items.{place_of, at_place}
use Rattle.cp_lists.specs.Lists.{IsIn}
use Rattle.cp_model.specs.Term.{Term}
use Rattle.cp_model.specs.Strand.{payload}
use Rattle.cp_model.specs.declared.strand.Event.{Event}
use Rattle.cp_model.specs.declared.strand.Event.TheVariants.{Send as send}
use Rattle.cp_model.specs.declared.node.Node.{Node}
use Rattle.cp_model.specs.declared.node.OrderPair.{OrderPair}
use Rattle.cp_model.specs.Skeleton.{IsNodeOf, Skeleton, Before}
use Rattle.cp_model.specs.Derivable.{DerivableAt}
use Rattle.cp_model.proofs.LawOrder.{before_by_pairs}
use Rattle.cp_derive.specs.From.{IsSentBefore}
use Rattle.cp_derive.specs.Given.{Given, IsDerivable, IsGivenAt}
use Rattle.cp_derive.specs.Transmissions.{Transmission}
use Rattle.cp_derive.specs.Before.{LeadsToOther, ArePlacesBefore, messages_at, transmissions_of, given_by, IsSurveyed}
use Rattle.cp_derive.specs.Places.{AreSamePlaces}
use Rattle.cp_derive.proofs.FromLaw.{given_at}
use Rattle.cp_derive.proofs.ListedTransmissions.{transmission_listed, listed_on_role, listed_transmission}
use Rattle.cp_derive.proofs.TransmissionPlaces.{IsMessageAt, message_at, at_message, known_on}
use Rattle.cp_derive.proofs.GrownKnowledge.{same_before}
use Rattle.cp_derive.proofs.Secrets.{secret_values}

-- The order of a sound skeleton is one.
pub ordered_of : (k : Skeleton) → IsSound k → IsOrdered k
ordered_of k sound = record { order_pairs = sound.skeleton.order_pairs; no_cycle = sound.skeleton.no_cycle }

module _ (k : Skeleton) (n : Node) (places : List ℕ) (ordered : IsOrdered k) (there_is : IsNodeOf k.strands n)
    (before : ArePlacesBefore k.pairs n (transmissions_of k) places) where
  order : (m : Node) → Before k m n ↔ LeadsToOther k.pairs m n
  order m = before_by_pairs k ordered.order_pairs ordered.no_cycle m n there_is

  sent_at : (t : Term) → IsMessageAt places (transmissions_of k) t → IsSentBefore k n t
  sent_at t h = record {
    from = h.transmission.node;
    on_instance = listed_on_role k h.transmission (at_place (transmissions_of k) h.place h.transmission h.at);
    transmission =
        listed_transmission k h.transmission (at_place (transmissions_of k) h.place h.transmission h.at) ∙ ap (λ m. Some (send m)) h.message;
    before = (order h.transmission.node).1 (before.only h.place h.transmission h.at h.listed);
  }

  at_sent : (t : Term) → IsSentBefore k n t → IsIn t (messages_at places (transmissions_of k))
  at_sent t s =
      let x : Transmission = record { node = s.from; message = t } in
      let at = place_of (transmission_listed k s.from t s.on_instance s.transmission) in
      at_message places (transmissions_of k) at.0 x (before.each at.0 x at.1 ((order s.from).0 s.before)) at.1

  pub given_at_node : IsGivenAt k n (given_by k places)
  given_at_node = record {
    sent = λ t. (λ h. sent_at t (message_at places (transmissions_of k) t h), at_sent t);
    secrets = secret_values k;
  }

  pub derivable_at_node : (g : Given) → g ≡ given_by k places → (t : Term) → DerivableAt k n t ↔ IsDerivable g t
  derivable_at_node g e = subst (λ x. (t : Term) → DerivableAt k n t ↔ IsDerivable x t) (sym e) (given_at k n (given_by k places) given_at_node)

-- ---- the message at a node

pub no_message : (o : Option (Event Term)) (e : Event Term) → None ≡ option_map payload o → o ≡ Some e → ⊥
no_message o e at is = let whole : None ≡ Some (payload e) = at ∙ ap (option_map payload) is in cc

-- What is given by the same places as those before a node is what is given there.
pub derivable_at_places : (k l : Skeleton) (n : Node) (ps qs : List ℕ) → IsOrdered k → IsNodeOf k.strands n → ArePlacesBefore k.pairs n (transmissions_of k) ps → AreSamePlaces ps qs →
    l ≡ k → (t : Term) → DerivableAt k n t ↔ IsDerivable (given_by l qs) t
derivable_at_places k l n ps qs ordered there_is before same e =
    subst (λ (x : Skeleton). (t : Term) → DerivableAt k n t ↔ IsDerivable (given_by x qs) t) (sym e)
    (derivable_at_node k n qs ordered there_is (same_before k.pairs n (transmissions_of k) ps qs same before) (given_by k qs) refl)

-- The places before a node, found in what a survey has.
pub places_surveyed : (k l : Skeleton) (n : Node) (sent lent : List Transmission) (pairs : List OrderPair) (ps : List ℕ) → IsSurveyed k sent pairs →
    k ≡ l → lent ≡ sent → ArePlacesBefore pairs n lent ps → ArePlacesBefore l.pairs n (transmissions_of l) ps
places_surveyed k l n sent lent pairs ps is e b h =
    subst (λ (x : Skeleton). ArePlacesBefore x.pairs n (transmissions_of x) ps) e
    (subst (λ xs. ArePlacesBefore xs n (transmissions_of k) ps) is.along (subst (λ ts. ArePlacesBefore pairs n ts ps) (b ∙ is.transmissions) h))

-- Knowledge that grows by what is at the places behind the last ones.
pub given_on : (k : Skeleton) (last more places : List ℕ) (ts : List Transmission) (messages : List Term) (old new : Given) → places ≡ last ++ more → ts ≡ transmissions_of k →
    messages ≡ messages_at more ts → old ≡ given_by k last → new ≡ record { sent = old.sent ++ messages; secrets = old.secrets } → new ≡ given_by k places
given_on k last more places ts messages old new split all at known e =
    known_on last more places (transmissions_of k) old new messages split (ap (λ (g : Given). g.sent) known) (at ∙ ap (messages_at more) all) e
    ∙ ap (λ xs. let g : Given = record { sent = messages_at places (transmissions_of k); secrets = xs } in g) (ap (λ (g : Given). g.secrets) known)
