use Rattle.std.proofs.Common.{◌≡◌, sym, subst}
use Rattle.std.specs.List.{remove}
use Rattle.cp_lists.specs.Lists.{IsIn}
use Rattle.cp_model.specs.Skeleton.{Skeleton}
use Rattle.cp_skel.specs.Bridges.{IsWithoutStrand}
use Rattle.cp_skel.specs.Deletion.{ForgetsAssumptions, KeepsOrderOfOthers}
use Rattle.cp_skel.specs.Ordered.{IsOrdered}
use Rattle.cp_skel.specs.Parts.{skeleton_of_parts}
use Rattle.cp_skel.proofs.OrderWithout.{keeps_order_anew, is_ordered_anew}
use Rattle.cp_skel.proofs.SoundSkeletons.{sound_ordered, deleted_sound}
use Rattle.cp_skel.proofs.skeleton.Skeleton.delete_strand.Goals as goal

abbrev before : goal.After-drop-self-inside-3 → Skeleton
before c = (skeleton_of_parts c.self.inside)

abbrev left : goal.After-drop-self-inside-3 → Skeleton
left c = record {
  variables = (before c).variables;
  strands = c.remove.new.self.items;
  pairs = c.close.new.self;
  assumptions = c.in_ok-assumptions.assumptions;
  from_problem = c.in_ok-from_problem.from_problem;
}

strands_left : (c : goal.After-drop-self-inside-3) → (left c).strands ≡ remove (before c).strands c.args.strand
strands_left c = c.remove.ensures.items

without : (c : goal.After-drop-self-inside-3) → IsWithoutStrand c.args.strand (before c).pairs c.of-order.result
without c =
    subst (IsWithoutStrand c.args.strand (before c).pairs) (sym c.of-order.ensures)
    (subst (λ ps. IsWithoutStrand c.args.strand ps c.in_ok-pairs.pairs.items) c.pairs.ensures c.in_ok-pairs.ensures)

ordered : (c : goal.After-drop-self-inside-3) → IsOrdered (left c)
ordered c = is_ordered_anew (before c) (left c) c.args.strand c.of-order.result (strands_left c) (without c) c.in_ok-close.ensures.keeps (sound_ordered (before c) c.self.invariant)

others : (c : goal.After-drop-self-inside-3) → KeepsOrderOfOthers c.args.strand (before c) (left c)
others c = keeps_order_anew (before c) (left c) c.args.strand c.of-order.result (strands_left c) (without c) c.in_ok-close.ensures.keeps (sound_ordered (before c) c.self.invariant)

pub invariant_of-self : goal.invariant_of-self
invariant_of-self c =
    deleted_sound c.args.strand (before c) (left c) c.self.invariant
    (subst (λ d. IsIn c.args.strand d.from_problem.strands → ⊥) (sym c.self.view_is) c.requires.no_image) (strands_left c)
    (subst (λ d. ForgetsAssumptions c.args.strand d (left c).assumptions) (sym c.self.view_is) c.in_ok-assumptions.ensures)
    c.in_ok-from_problem.ensures (ordered c) (others c)

pub returns-clause-strands : goal.returns-clause-strands
returns-clause-strands c = subst (λ d. (left c).strands ≡ remove d.strands c.args.strand) c.self.view_is (strands_left c)

pub returns-clause-order : goal.returns-clause-order
returns-clause-order c =
    subst (λ d. KeepsOrderOfOthers c.args.strand d (left c)) c.self.view_is (others c)
