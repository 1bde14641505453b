-- A skeleton whose assumptions stand in the order of a report is fit where it was, and embeds in what it was.
use Rattle.std.proofs.Common.{◌⊎◌, inl, inr, List, refl}
use Rattle.cp_lists.specs.Lists.{IsIn}
use Rattle.cp_lists.proofs.Mapped.{map_same}
use Rattle.cp_model.specs.Term.{AtomTerm, Term, apply_to}
use Rattle.cp_model.specs.Identity.{unchanged}
use Rattle.cp_model.specs.declared.node.Node.{Node}
use Rattle.cp_model.specs.declared.node.OrderPair.{OrderPair}
use Rattle.cp_model.specs.Skeleton.{UniqueAt, Skeleton, Before}
use Rattle.cp_model.specs.Given.{listed}
use Rattle.cp_model.specs.Homomorphism.{Embeds}
use Rattle.cp_model.specs.Derivable.{IsSecret, IsOnInstance, DerivableAt, a_tag, an_atom, sent_before, paired, left_of, right_of, encrypted, decrypted}
use Rattle.cp_model.specs.Realisation.{OriginatesAtTerm, AllDerivable}
use Rattle.cp_model.proofs.LawOrder.{before_wider}
use Rattle.cp_model.proofs.LawTerms.{term_unchanged}
use Rattle.cp_model.proofs.LawEmbeddings.{same_map, same_homomorphism}
use Rattle.cp_theory.specs.Normal.{IsOriginPair, with_pairs}
use Rattle.cp_skel.proofs.EachOnce.{listed-non, listed-penetrator-non, listed-unique}
use Rattle.cp_normal.specs.Findings.{IsAddedPair, AreNormalPairs, ClosesCycle, IsContradictory}
use Rattle.cp_normal.specs.NormalForms.{IsMisplaced, IsNormal}
use Rattle.cp_roots.specs.Roots.{in_report_order}
use Rattle.cp_general.specs.Fit.{IsFit}

module _ (k : Skeleton) where
  -- ---- the same order, origins and assumptions

  still_before : {x y : Node} → Before k x y → Before (in_report_order k) x y
  still_before = before_wider k (in_report_order k) refl (λ p i. i)

  was_before : {x y : Node} → Before (in_report_order k) x y → Before k x y
  was_before = before_wider (in_report_order k) k refl (λ p i. i)

  still_on_instance : (n : Node) → IsOnInstance k n → IsOnInstance (in_report_order k) n
  still_on_instance n o = record { role = o.role; height = o.height; terms = o.terms; on_instance = o.on_instance }

  still_originating : (v : AtomTerm) (n : Node) → OriginatesAtTerm k v n → OriginatesAtTerm (in_report_order k) v n
  still_originating v n o = (still_on_instance n o.0, o.1)

  was_originating : (v : AtomTerm) (n : Node) → OriginatesAtTerm (in_report_order k) v n → OriginatesAtTerm k v n
  was_originating v n o = (record { role = o.0.role; height = o.0.height; terms = o.0.terms; on_instance = o.0.on_instance }, o.1)

  was_unique : (u : UniqueAt) → IsIn u (listed k).uniquely_originating → IsIn u k.assumptions.uniquely_originating
  was_unique u = ((listed-unique k).same u).0

  still_unique : (u : UniqueAt) → IsIn u k.assumptions.uniquely_originating → IsIn u (listed k).uniquely_originating
  still_unique u = ((listed-unique k).same u).1

  -- ---- it is normal

  was_added : (p : OrderPair) → IsAddedPair (in_report_order k) p → IsAddedPair k p
  was_added p a =
      let o : IsOriginPair (in_report_order k) p = a.0 in
      (record { entry = o.entry; listed = was_unique o.entry o.listed; from_origin = o.from_origin; received = o.received; reception = o.reception; carried = o.carried }, a.1)

  still_added : (p : OrderPair) → IsAddedPair k p → IsAddedPair (in_report_order k) p
  still_added p a =
      let o : IsOriginPair k p = a.0 in
      (record { entry = o.entry; listed = still_unique o.entry o.listed; from_origin = o.from_origin; received = o.received; reception = o.reception; carried = o.carried }, a.1)

  either_was : (p : OrderPair) → IsIn p k.pairs ⊎ IsAddedPair (in_report_order k) p → IsIn p k.pairs ⊎ IsAddedPair k p
  either_was p (inl i) = inl i
  either_was p (inr a) = inr (was_added p a)

  still_either : (p : OrderPair) → IsIn p k.pairs ⊎ IsAddedPair k p → IsIn p k.pairs ⊎ IsAddedPair (in_report_order k) p
  still_either p (inl i) = inl i
  still_either p (inr a) = inr (still_added p a)

  normal_pairs_were : (pairs : List OrderPair) → AreNormalPairs (in_report_order k) pairs → AreNormalPairs k pairs
  normal_pairs_were pairs normal p = (λ i. either_was p ((normal p).0 i), λ e. (normal p).1 (still_either p e))

  cycle_was : ClosesCycle (in_report_order k) → ClosesCycle k
  cycle_was c = record {
    pairs = c.pairs;
    normal = normal_pairs_were c.pairs c.normal;
    node = c.node;
    cycle = before_wider (with_pairs (in_report_order k) c.pairs) (with_pairs k c.pairs) refl (λ p i. i) c.cycle;
  }

  was_contradictory : IsContradictory (in_report_order k) → IsContradictory k
  was_contradictory (inl c) = inl (record {
    value = c.value;
    listed = ((listed-non k).same c.value).0 c.listed;
    node = c.node;
    carried = record { event = c.carried.event; there = c.carried.there; carried = c.carried.carried };
  })
  was_contradictory (inr (inl t)) = inr (inl (record {
    first = t.first;
    second = t.second;
    first_listed = was_unique t.first t.first_listed;
    second_listed = was_unique t.second t.second_listed;
    same_value = t.same_value;
    elsewhere = t.elsewhere;
  }))
  was_contradictory (inr (inr (inl l))) = inr (inr (inl (record { entry = l.entry; listed = was_unique l.entry l.listed; lost = λ o. l.lost (still_originating l.entry.value l.entry.origin o) })))
  was_contradictory (inr (inr (inr c))) = inr (inr (inr (cycle_was c)))

  was_misplaced : (u : UniqueAt) (x : Node) → IsMisplaced (in_report_order k) u x → IsMisplaced k u x
  was_misplaced u x s = record { listed = was_unique u s.listed; originates = was_originating u.value x s.originates; elsewhere = s.elsewhere }

  normal_listed : IsNormal k → IsNormal (in_report_order k)
  normal_listed n = record {
    consistent = λ c. n.consistent (was_contradictory c);
    no_misplaced = λ u x s. n.no_misplaced u x (was_misplaced u x s);
    ordered = λ p a. still_before (n.ordered p (was_added p a));
  }

  -- ---- it is realised

  still_secret : (v : AtomTerm) → IsSecret k v → IsSecret (in_report_order k) v
  still_secret v (inl i) = inl (((listed-non k).same v).1 i)
  still_secret v (inr (inl i)) = inr (inl (((listed-penetrator-non k).same v).1 i))
  still_secret v (inr (inr u)) = inr (inr (record { entry = u.entry; listed = still_unique u.entry u.listed; same = u.same }))

  was_secret : (v : AtomTerm) → IsSecret (in_report_order k) v → IsSecret k v
  was_secret v (inl i) = inl (((listed-non k).same v).0 i)
  was_secret v (inr (inl i)) = inr (inl (((listed-penetrator-non k).same v).0 i))
  was_secret v (inr (inr u)) = inr (inr (record { entry = u.entry; listed = was_unique u.entry u.listed; same = u.same }))

  derivable_listed : (n : Node) {t : Term} → DerivableAt k n t → DerivableAt (in_report_order k) n t
  derivable_listed n a_tag = a_tag
  derivable_listed n (an_atom {v = v} free) = an_atom (λ s. free (was_secret v s))
  derivable_listed n (sent_before {m = m} on sent b) = sent_before (still_on_instance m on) sent (still_before b)
  derivable_listed n (paired a b) = paired (derivable_listed n a) (derivable_listed n b)
  derivable_listed n (left_of a) = left_of (derivable_listed n a)
  derivable_listed n (right_of a) = right_of (derivable_listed n a)
  derivable_listed n (encrypted a key) = encrypted (derivable_listed n a) (derivable_listed n key)
  derivable_listed n (decrypted a key) = decrypted (derivable_listed n a) (derivable_listed n key)

  all_derivable_listed : AllDerivable k → AllDerivable (in_report_order k)
  all_derivable_listed all n t at = derivable_listed n (all n t at)

  pub fit_listed : IsFit k → IsFit (in_report_order k)
  fit_listed fit = record { normal = normal_listed fit.normal; realised = all_derivable_listed fit.realised }

  -- ---- it embeds

  pub listed_embeds : Embeds (in_report_order k) k
  listed_embeds = (
    same_map,
    record {
      homomorphism = record {
        instances = (same_homomorphism k).instances;
        listeners = (same_homomorphism k).listeners;
        ordered = λ x y b. was_before b;
        non = λ v i. (same_homomorphism k).non v (((listed-non k).same v).0 i);
        penetrator_non = λ v i. (same_homomorphism k).penetrator_non v (((listed-penetrator-non k).same v).0 i);
        unique = λ u i. (same_homomorphism k).unique u (was_unique u i);
      };
      injective = λ s t role height terms role' height' terms' at au e. e;
      same_strands = map_same (λ s. s) (λ s. refl) k.from_problem.strands;
      same_values = map_same (apply_to unchanged) term_unchanged k.from_problem.values;
    },
  )
