use Rattle.std.proofs.Common.{rules, ◌∙◌, sym, subst, ap}
use Rattle.std.specs.Ordering.{is_lt}
use Rattle.std.proofs.lemmas.List.Sorted.{answers_always, ranks_by}
use Rattle.cp_fingerprint.specs.Fingerprints.{by_name_and_height, heights_of}
use Rattle.cp_fingerprint.specs.InTurn.{IsInOrder}
use Rattle.cp_fingerprint.proofs.SkeletonHeights.{sound_in_order, sorts_heights}
use Rattle.cp_fingerprint.proofs.NoMore.{total_order}
use Rattle.cp_fingerprint.proofs.fingerprints.fingerprint.Goals as goal

pub returns : goal.returns
returns c = record {
  exact = sorts_heights c.args.k.now c.in_ok-entries.entries.items c.sort_unstable_by.new.self.items (c.in_ok-entries.ensures ∙ ap heights_of c.strands.ensures) c.sort_unstable_by.ensures.permutation
      (c.sort_unstable_by.ensures.sorted (λ x y. is_lt (by_name_and_height x y)) (ranks_by total_order (λ x. x)) (answers_always _ _ _ (λ f a r g h. search rules)));
}

pub invariant_of-result : goal.invariant_of-result
invariant_of-result c = subst IsInOrder (sym (returns c).exact) (sound_in_order c.args.k.now c.is_sound.ensures)
