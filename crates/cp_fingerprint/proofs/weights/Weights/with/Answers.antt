use Rattle.std.proofs.Common.{◌<◌, ◌^◌, ap, arith}
use Rattle.cp_fingerprint.specs.SharedValues.{slots_of}
use Rattle.cp_fingerprint.proofs.SumsBeside.{weight_found, weight_unfound}
use Rattle.cp_fingerprint.proofs.weights.Weights.with.Goals as goal

pub index-requires : goal.index-requires
index-requires c =
    omega (arith, c.in-Some.ensures.there, c.self.inside.sums.sums.ok.0)

pub returns-in-Some : goal.returns-in-Some
returns-in-Some c =
    let t = c.args.value.now in
    let s = c.self.inside.sums in
    let all = slots_of c.self.inside.skeleton.now in
    let small : c.args.first < 2 ^ 64 = c.ranges.first.fits in
    weight_found t s all (slots_of c.args.self.now) c.self.invariant.0 (ap slots_of c.self.view_is) c.args.first (omega (arith, small)) c.in-Some.number c.saturating_add.result c.index.result.now
    (c.in-Some.ensures.found c.self.invariant.0.0) c.in-Some.ensures.there c.index.ensures c.saturating_add.ensures

pub returns-in-None : goal.returns-in-None
returns-in-None c =
    let small : c.args.first < 2 ^ 64 = c.ranges.first.fits in
    weight_unfound c.args.value.now c.self.inside.sums (slots_of c.self.inside.skeleton.now) (slots_of c.args.self.now) c.self.invariant.0 (ap slots_of c.self.view_is) c.args.first (omega (arith, small))
    (c.in-None.ensures.found c.self.invariant.0.0)
