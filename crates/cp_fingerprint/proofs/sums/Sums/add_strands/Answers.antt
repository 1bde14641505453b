use Rattle.std.proofs.Common.{◌≡◌, length, map, arith}
use Rattle.cp_fingerprint.specs.SharedValues.{strand_slots}
use Rattle.cp_fingerprint.proofs.AddedPlaces.{strand_added, strand_counted, strands_added, strands_counted}
use Rattle.cp_fingerprint.proofs.sums.Sums.add_strands.Goals as goal

pub loop-strand-preserved : goal.loop-strand-preserved
loop-strand-preserved c =
    let x = c.strand-item.result in
    let count : c.saturating_sub.result ≡ length (strand_slots x) = omega (arith, c.saturating_sub.ensures, c.len.ensures, c.len-before.ensures, c.in_ok-add_strand.ensures.count, c.loop-strand.self.places.ok.0, c.add_strand.new.self.places.ok.0) in (
      λ r rest.
          c.loop-strand.invariant.0 r
          (strand_added c.args.strands.now c.loop-strand.strand-index x c.loop-strand-test.true c.strand-item.is c.loop-strand.self c.add_strand.new.self r c.in_ok-add_strand.ensures rest),
      strand_counted c.args.strands.now c.loop-strand.strand-index x c.loop-strand-test.true c.strand-item.is c.loop-strand.counts.items c.push.new.self.items c.saturating_sub.result c.in_ok-push.ensures.items count
          (map length (map strand_slots c.args.strands.now)) c.loop-strand.invariant.1,
    )

pub returns : goal.returns
returns c = record {
  added = c.loop-strand.invariant.0 c.loop-strand.self (strands_added c.args.strands.now c.loop-strand.strand-index c.loop-strand-test.false c.loop-strand.self);
  counts = strands_counted c.args.strands.now c.loop-strand.strand-index c.loop-strand-test.false c.loop-strand.counts.items (map length (map strand_slots c.args.strands.now)) c.loop-strand.invariant.1;
}
