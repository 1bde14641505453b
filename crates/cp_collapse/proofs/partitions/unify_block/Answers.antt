use Rattle.std.proofs.Common.{rules, ◌≡◌, ◌≤◌, length, sym, subst}
use Rattle.cp_collapse.specs.FirstPartitions.{IsExactFor, EqualsBlock}
use Rattle.cp_collapse.proofs.ExactBlocks.{exact_block_first}
use Rattle.cp_model.proofs.CarriedParts.{not_both}
use Rattle.cp_collapse.proofs.Joined.{alike_in_block, block_passed, block_taken, block_never, block_done}
use Rattle.cp_collapse.proofs.partitions.unify_block.Goals as goal

pub loop-strand-init : goal.loop-strand-init
loop-strand-init c =
    let same : c.in_ok-bindings.bindings.value ≡ c.args.partial.now.bindings.value = search rules in
    subst (λ r. IsExactFor (EqualsBlock c.args.k.now c.args.partial.now.lowest.items c.args.number c.args.block c.args.block) r) (sym same)
    (exact_block_first c.args.k.now c.args.number c.args.partial.now.lowest.items c.requires.partition c.args.block c.args.partial.now.bindings.value c.requires.exact)

pub loop-strand-preserved-then-not-is_in_block : goal.loop-strand-preserved-then-not-is_in_block
loop-strand-preserved-then-not-is_in_block c =
    block_passed c.args.k.now c.args.number c.args.partial.now.lowest.items c.requires.partition c.args.block c.loop-strand.strand c.loop-strand.bindings.value
    (λ e. not_both c.if-not-is_in_block.true (c.is_in_block.ensures.1 e)) c.loop-strand.invariant

pub unify_strands-requires-clause-alike : goal.unify_strands-requires-clause-alike
unify_strands-requires-clause-alike c =
    alike_in_block c.args.k.now c.args.number c.args.partial.now.lowest.items c.requires.partition c.args.block c.loop-strand.strand c.requires.alike (c.is_in_block.ensures.0 c.if-not-is_in_block.false)

pub unify_strands-requires-clause-solved : goal.unify_strands-requires-clause-solved
unify_strands-requires-clause-solved c = (c.loop-strand.invariant.later_to_earlier, c.loop-strand.invariant.met)

pub returns-in-None : goal.returns-in-None
returns-in-None c =
    block_never c.args.k.now c.args.number c.args.partial.now.lowest.items c.requires.partition c.args.block c.loop-strand.strand (c.is_in_block.ensures.0 c.if-not-is_in_block.false) c.loop-strand.bindings.value
    c.loop-strand.invariant (rw c.in-None.is at c.in_ok-next.ensures)

pub loop-strand-preserved : goal.loop-strand-preserved
loop-strand-preserved c =
    block_taken c.args.k.now c.args.number c.args.partial.now.lowest.items c.requires.partition c.args.block c.loop-strand.strand (c.is_in_block.ensures.0 c.if-not-is_in_block.false) c.loop-strand.bindings.value
    c.loop-strand.invariant c.in-Some.next.value (rw c.in-Some.is at c.in_ok-next.ensures)

pub returns : goal.returns
returns c =
    let done : length c.args.partial.now.lowest.items ≤ c.loop-strand.strand = search rules in
    block_done c.args.k.now c.args.number c.args.partial.now.lowest.items c.requires.partition c.args.block c.loop-strand.strand c.loop-strand.bindings.value done c.loop-strand.invariant
