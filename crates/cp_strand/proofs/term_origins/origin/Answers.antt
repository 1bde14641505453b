use Rattle.std.proofs.Common.{◌≡◌, true, false, sym, subst}
use Rattle.cp_model.specs.Term.{IsCarriedByTerm}
use Rattle.cp_strand.proofs.FirstOrigins.{origin-sent, origin-received, origin-not-here, origin-nowhere}
use Rattle.cp_strand.proofs.term_origins.origin.Goals as goal

pub returns-in-Send-clause-some : goal.returns-in-Send-clause-some
returns-in-Send-clause-some c =
    origin-sent c.args.events.now c.args.value.now c.loop-index.index c.index-events-index.result c.loop-index-test.true c.index-events-index.is c.loop-index.invariant
    _ c.in-Send.is (subst (IsCarriedByTerm c.args.value.now) c.payload.ensures (c.carries.ensures.0 c.if-carries.true))

pub returns-in-Receive-clause-none : goal.returns-in-Receive-clause-none
returns-in-Receive-clause-none c =
    origin-received c.args.events.now c.args.value.now c.loop-index.index c.index-events-index.result c.loop-index-test.true c.index-events-index.is c.loop-index.invariant
    _ c.in-Receive.is (subst (IsCarriedByTerm c.args.value.now) c.payload.ensures (c.carries.ensures.0 c.if-carries.true))

pub loop-index-preserved : goal.loop-index-preserved
loop-index-preserved c =
    origin-not-here c.args.events.now c.args.value.now c.loop-index.index c.index-events-index.result c.loop-index-test.true c.index-events-index.is c.loop-index.invariant
    (λ h. let t : c.carries.result ≡ true = c.carries.ensures.1 (subst (IsCarriedByTerm c.args.value.now) (sym c.payload.ensures) h) in let f : c.carries.result ≡ false = c.if-carries.false in absurd (cc))

pub returns-clause-none : goal.returns-clause-none
returns-clause-none c = origin-nowhere c.args.events.now c.args.value.now c.loop-index.index c.loop-index-test.false c.loop-index.invariant
