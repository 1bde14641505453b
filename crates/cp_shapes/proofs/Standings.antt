-- What stands through a candidate stands through a shape.
use Rattle.std.proofs.Common.{ℕ, ◌<◌, List, length, Option, Some, None, subst, arith}
use Rattle.cp_lists.specs.Lists.{IsIn}
use Rattle.cp_model.specs.Strand.{Protocol}
use Rattle.cp_model.specs.Bundle.{Bundle}
use Rattle.cp_model.specs.Skeleton.{Skeleton, IsSkeleton}
use Rattle.cp_model.specs.Standing.{Standing}
use Rattle.cp_model.specs.Homomorphism.{Embeds}
use Rattle.cp_model.specs.Composition.{through}
use Rattle.cp_lists.proofs.Items.{item_below, item_there, at_place}
use Rattle.cp_model.proofs.LawStandings.{standing_through}
use Rattle.cp_theory.proofs.Embedded.{apart_through, factors_after}
use Rattle.cp_shapes.specs.Shapes.{EmbedsAt, IsShapeAt, IsMarkOf, AreShapeMarksOf}
use Rattle.cp_shapes.specs.Through.{FactorsThroughNumber}
use Rattle.cp_shapes.proofs.Instances.{embeds_itself, same_item}

by_mark : (ks : List Skeleton) (m : ℕ) → m < length ks → (mark : Option ℕ) → IsMarkOf ks m mark → (n : ℕ) × IsShapeAt ks n × EmbedsAt ks n m
by_mark ks m l None s = (m, s, embeds_itself ks m l)
by_mark ks m l (Some n) h = (n, h.holds.0, h.holds.1.embeds)

-- Some shape embeds in each candidate.
pub shape_within : (ks : List Skeleton) (marks : List (Option ℕ)) → AreShapeMarksOf ks marks → (m : ℕ) → m < length ks → (n : ℕ) × IsShapeAt ks n × EmbedsAt ks n m
shape_within ks marks are m l =
    let mark = item_there marks m (let e = are.count in omega (arith, l, e)) in
    by_mark ks m l mark.0 (are.each m mark.0 mark.1)

-- Where a skeleton stands, one that embeds in it does.
pub stands_within : (protocol : Protocol) (problem : Skeleton) (ks : List Skeleton) (b : Bundle) (h : Standing) → ((k : Skeleton) → IsIn k ks → IsSkeleton protocol k) →
    (n m : ℕ) → EmbedsAt ks n m → FactorsThroughNumber problem ks b h m → FactorsThroughNumber problem ks b h n
stands_within protocol problem ks b h are n m e st =
    let same = same_item ks m e.second st.skeleton e.at_second st.at in
    let into : Embeds e.first st.skeleton = subst (Embeds e.first) same e.embeds in
    record {
      skeleton = e.first;
      at = e.at_first;
      standing = through into.0 st.standing;
      stands = standing_through protocol e.first st.skeleton into.0 b st.standing (are e.first (at_place ks n e.first e.at_first)) (are st.skeleton (at_place ks m st.skeleton st.at)) into.1.homomorphism st.stands;
      apart = apart_through e.first st.skeleton into.0 st.standing into.1 st.apart;
      factors = factors_after problem e.first st.skeleton into.0 h st.standing into.1 st.factors;
    }

pub through_a_shape : (protocol : Protocol) (problem : Skeleton) (ks : List Skeleton) (marks : List (Option ℕ)) (b : Bundle) (h : Standing) → AreShapeMarksOf ks marks → ((k : Skeleton) → IsIn k ks → IsSkeleton protocol k) →
    (m : ℕ) → FactorsThroughNumber problem ks b h m → (n : ℕ) × IsShapeAt ks n × FactorsThroughNumber problem ks b h n
through_a_shape protocol problem ks marks b h are skeletons m st =
    let s = shape_within ks marks are m (item_below ks m st.skeleton st.at) in
    (s.0, s.1, stands_within protocol problem ks b h skeletons s.0 m s.2 st)
