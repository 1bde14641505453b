-- An order that fits is built pair by pair, and what a label form has of a problem's own pairs is in its order.
use Rattle.std.proofs.Common.{◌≡◌, ◌≢◌, inl, inr, List, [], ◌∷◌, ◌++◌, length, Bool, true, false, not, ◌&&◌, Option, Some, None, refl, if◌then◌else◌}
use Rattle.std.proofs.lemmas.Bool.{and_parts, not-true}
use Rattle.cp_lists.specs.Lists.{IsIn}
use Rattle.cp_lists.proofs.Appended.{none_in_both}
use Rattle.cp_model.specs.Term.{Term}
use Rattle.cp_model.specs.declared.strand.Event.{Event}
use Rattle.cp_model.specs.Skeleton.{SkeletonStrand, term_event_at, IsNodeOf, Skeleton, Before, IsOrderPair}
use Rattle.cp_model.specs.declared.node.OrderPair.{OrderPair}
use Rattle.cp_model.specs.OrderTests.{reaches_within}
use Rattle.cp_model.proofs.LawOrder.{leads_before}
use Rattle.cp_sexpr.specs.Syntax.{Form}
use Rattle.cp_language.specs.Faults.{place_of}
use Rattle.cp_language.specs.Problems.{is_known, on_one_strand, is_some_transmission, is_some_reception, between_strands, pair_of, pairs_in}
use Rattle.cp_language.proofs.BoundedSearch.{reaches_all}
use Rattle.cp_report.specs.Misfits.{misfit_unless, list_misfits, entries_misfits, lacking}
use Rattle.cp_report.specs.Heads.{forms_after_head, entries_or_none, optional_misfits}
use Rattle.cp_report.specs.Skeletons.{node_misfits, has_pair, is_further_pair, pair_stated, pair_misfits, pairs_misfits, precedes_misfits, is_in_order}
use Rattle.cp_language.proofs.Bodies.{IsNextPair, AreBuilt, built_behind, is_sent, is_received, differ}
use Rattle.cp_report.proofs.NoMisfits.{none_of_unless, holds}

module _ (strands : List SkeletonStrand) where
  -- the five tests of a pair
  further_parts : (a b c d e : Bool) → (a && b && not c && not d && not e) ≡ true → (a ≡ true) × (b ≡ true) × (c ≡ false) × (e ≡ false)
  further_parts true true false false false h = (refl, refl, refl, refl)
  further_parts true true false false true h = absurd (cc)
  further_parts true true false true e h = absurd (cc)
  further_parts true true true d e h = absurd (cc)
  further_parts true false c d e h = absurd (cc)
  further_parts false b c d e h = absurd (cc)

  next_pair : (before : List OrderPair) (p : OrderPair) → is_further_pair strands before (Some p) ≡ true → IsNextPair strands before p × (on_one_strand p ≡ false)
  next_pair before p h =
      let q = further_parts (is_some_transmission (term_event_at strands p.earlier)) (is_some_reception (term_event_at strands p.later)) (on_one_strand p) (has_pair before p) (reaches_within (length before) before p.later p.earlier) h in
      let a = is_sent (term_event_at strands p.earlier) q.0 in
      let c = is_received (term_event_at strands p.later) q.1 in
      (record { sent = a.0; received = c.0; transmission = a.1; reception = c.1; between = differ p.earlier.strand p.later.strand q.2; no_way_back = q.3 }, q.2)

  between_built : (before : List OrderPair) (p : OrderPair) (b : Bool) → b ≡ false → IsNextPair strands before p → AreBuilt strands before (if b then [] else p ∷ [])
  between_built before p true e h = absurd (cc)
  between_built before p false e h = (h, tt)

  one_built : (before : List OrderPair) (o : Option OrderPair) → is_further_pair strands before o ≡ true → AreBuilt strands before (between_strands o)
  one_built before None h = tt
  one_built before (Some p) h = let n = next_pair before p h in between_built before p (on_one_strand p) n.1 n.0

  pairs_built : (before : List OrderPair) (fs : List Form) → pairs_misfits strands before fs ≡ [] → AreBuilt strands before (pairs_in fs)
  pairs_built before [] e = tt
  pairs_built before (f ∷ fs) e =
      let parts = none_in_both (pair_misfits strands before f) (pairs_misfits strands (before ++ pair_of f) fs) e in
      let of_pair = none_of_unless (list_misfits (entries_misfits (node_misfits strands ∷ node_misfits strands ∷ [])) f) (misfit_unless (is_further_pair strands before (pair_stated f)) (place_of f)) parts.0 in
      built_behind strands before (pair_of f) (pairs_in fs) (one_built before (pair_stated f) (holds (is_further_pair strands before (pair_stated f)) (place_of f) of_pair.1)) (pairs_built (before ++ pair_of f) fs parts.1)

  pub order_built : (o : Option Form) → optional_misfits (precedes_misfits strands) o ≡ [] → AreBuilt strands [] (pairs_in (entries_or_none o))
  order_built None e = tt
  order_built (Some f) e = pairs_built [] (forms_after_head f) (none_in_both (lacking 1 (place_of f) (forms_after_head f)) (pairs_misfits strands [] (forms_after_head f)) e).1

-- ---- pairs in the order

there : (o : Option (Event Term)) → is_known o ≡ true → (e : Event Term) × (o ≡ Some e)
there None h = absurd (cc)
there (Some e) h = (e, refl)

pub in_order : (k : Skeleton) → ((p : OrderPair) → IsIn p k.pairs → IsOrderPair k p) → (p : OrderPair) → is_in_order k.strands k.pairs p ≡ true → Before k p.earlier p.later
in_order k pairs p h =
    let first = and_parts (not (on_one_strand p) && is_known (term_event_at k.strands p.later)) (reaches_within (length k.pairs) k.pairs p.earlier p.later) h in
    let two = and_parts (not (on_one_strand p)) (is_known (term_event_at k.strands p.later)) first.0 in
    let apart : p.earlier.strand ≢ p.later.strand = differ p.earlier.strand p.later.strand (not-true (on_one_strand p) two.0) in
    let node : IsNodeOf k.strands p.later = there (term_event_at k.strands p.later) two.1 in
    elim (leads_before k pairs p.earlier p.later node ((reaches_all k.pairs p.earlier p.later).0 first.1)) as (λ _. Before k p.earlier p.later) [
      | inl same ↦ absurd (apart (λ i. (same i).strand))
      | inr b ↦ b
    ]
