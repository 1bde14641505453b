use Rattle.std.proofs.Common.{ap}
use Rattle.std.proofs.lemmas.List.{drop_all}
use Rattle.std.proofs.lemmas.Result.{IfOk-weaker}
use Rattle.cp_fingerprint.specs.Fingerprints.{heights_of}
use Rattle.cp_fingerprint.proofs.GrownHeights.{all_made}
use Rattle.cp_fingerprint.proofs.heights.heights_of.Goals as goal

pub returns : goal.returns
returns c =
    let l = c.loop-strand in
    IfOk-weaker c.finish.result _ _ (λ v e. all_made l.heights v.items _ _ l.invariant (ap heights_of (drop_all l.strand-index c.args.strands.now c.loop-strand-test.false)) e) c.finish.ensures.ok
