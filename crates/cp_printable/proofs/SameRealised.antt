-- A skeleton that is the same as a realised one up to names of variables and pairs that generate its order is realised.
use Rattle.std.proofs.Common.{◌≡◌, ℕ, List, subst₂}
use Rattle.cp_lists.specs.Lists.{IsIn}
use Rattle.cp_model.specs.Term.{atoms_by}
use Rattle.cp_model.specs.declared.variable.Variable.{Variable}
use Rattle.cp_model.specs.Strand.{Protocol}
use Rattle.cp_model.specs.Bundle.{Bundle, Precedes}
use Rattle.cp_model.specs.declared.node.Node.{Node}
use Rattle.cp_model.specs.Problem.{variables_of_skeleton}
use Rattle.cp_model.specs.Skeleton.{Skeleton, IsSkeleton}
use Rattle.cp_model.specs.Standing.{Standing, image_of, StandsIn, StandsApart, IsRealised}
use Rattle.cp_model.specs.Composition.{through}
use Rattle.cp_model.proofs.LawStandings.{standing_through}
use Rattle.cp_report.specs.UpToNames.{renamed, renaming, IsOneToOne, IsSameSkeleton}
use Rattle.cp_printable.proofs.BackRenamings.{back, one_back}
use Rattle.cp_printable.proofs.SameStrands.{instance_from, instance_onto, node_from, image_at}
use Rattle.cp_printable.proofs.SameMaps.{with_terms, from, back_homomorphism}

module _ (number : Variable → ℕ) (xs : List Variable) (one : IsOneToOne number xs) (k n : Skeleton) (same : IsSameSkeleton (renaming number) k n) (within : (x : Variable) → IsIn x (variables_of_skeleton k) → IsIn x xs) where
  -- The standing of the second skeleton that goes back to the first, and then by its standing.
  abbrev pub led_back : Standing → Standing
  led_back h = through (with_terms (from number xs one k n same within)) h

  -- ---- standings

  -- If the first skeleton stands in a bundle, the second does.
  pub same_stands : (protocol : Protocol) (b : Bundle) (h : Standing) → IsSkeleton protocol k → IsSkeleton protocol n → StandsIn k b h → StandsIn n b (led_back h)
  same_stands protocol b h sk sn stands = standing_through protocol n k (with_terms (from number xs one k n same within)) b h sn sk (back_homomorphism number xs one k n same within) stands

  -- If the first skeleton stands apart, the second does.
  pub same_apart : (h : Standing) → StandsApart k h → StandsApart n (led_back h)
  same_apart h apart s t role height terms' role' height' terms'' at au e =
      let p = instance_from (renaming number) k.strands n.strands same.strands s role height terms' at in
      let q = instance_from (renaming number) k.strands n.strands same.strands t role' height' terms'' au in
      apart s t role height p.0 role' height' q.0 p.1 q.1 e

  -- Both skeletons send a node to the same node.
  image_returned : (h : Standing) (x : Node) → image_of n (led_back h) x ≡ image_of k h x
  image_returned h x = image_at (renaming number) k.strands n.strands same.strands x.strand (h.nodes x.strand) x.index

  -- ---- realised

  -- It stands by the same nodes, and each variable has the number of the one that it goes back to.
  pub same_realised : (protocol : Protocol) → IsSkeleton protocol k → IsSkeleton protocol n → IsRealised protocol k → IsRealised protocol n
  same_realised protocol sk sn r = record {
    bundle = r.bundle;
    is_bundle = r.is_bundle;
    nodes = r.nodes;
    number = numbers;
    distinct = λ x y e. one_back number xs one x y (r.distinct (renamed (back number xs one) x) (renamed (back number xs one) y) e);
    stands = same_stands protocol r.bundle old sk sn r.stands;
    apart = same_apart old r.apart;
    regular_strands = λ t role height v at.
        let i = r.regular_strands t role height v at in
        let m = instance_onto (renaming number) k.strands n.strands same.strands i.strand i.role height i.terms i.on_instance in
        record { strand = i.strand; role = i.role; terms = m.0; on_instance = m.1; goes_to = i.goes_to };
    no_more_order = λ x y is_x is_y apart precedes.
        (same.order x y).0 (r.no_more_order x y (node_from (renaming number) k.strands n.strands same.strands x is_x) (node_from (renaming number) k.strands n.strands same.strands y is_y) apart
        (subst₂ (Precedes r.bundle) (image_returned old x) (image_returned old y) precedes));
  }
    where
      numbers : Variable → ℕ
      numbers x = r.number (renamed (back number xs one) x)

      old : Standing
      old = record { nodes = r.nodes; values = atoms_by r.number }
