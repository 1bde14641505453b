use Rattle.std.proofs.Common.{◌≡◌, ◌<◌, ◌≤◌, ◌-◌, ◌^◌, length, refl, arith}
use Rattle.cp_skel.proofs.EachOnce.{if_pushed}
use Rattle.cp_fingerprint.specs.Slots.{Slot}
use Rattle.cp_fingerprint.specs.declared.sums.Sums.{Sums}
use Rattle.cp_fingerprint.specs.declared.sums.ValueSum.{ValueSum}
use Rattle.cp_fingerprint.proofs.SumsBeside.{new_added}
use Rattle.cp_fingerprint.proofs.sums.Sums.add_new.Goals as goal

pub returns : goal.returns
returns c = λ absent.
    let x : Slot = record { weight = c.args.weight; value = c.args.value.now } in
    let s : Sums = c.args.self.now in
    let i = c.len-number.result in
    let own : ValueSum = record { value = c.in_ok-value.value; sum = c.args.weight } in
    let r : Sums = record { sums = c.push.new.self; more = c.keep.new.more; places = c.push-2.new.self } in
    let last : i ≡ length s.sums.items = omega (arith, c.len-number.ensures, s.sums.ok.0) in
    let fits : c.args.weight < 2 ^ 64 = c.ranges.weight.fits in
    let small : x.weight ≤ 2 ^ 64 - 1 = omega (arith, fits) in
    if_pushed s.places.items c.push-2.result c.map_err.result c.push-2.ensures.items c.map_err.ensures.variant
    (λ pushed. new_added x s r i pushed own last small c.in_ok-value.ensures refl c.in_ok-push.ensures.items c.in_ok-keep.ensures.few c.in_ok-keep.ensures.further absent)
