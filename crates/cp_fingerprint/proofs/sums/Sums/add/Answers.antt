use Rattle.std.proofs.Common.{refl}
use Rattle.std.specs.Vec.{with_item}
use Rattle.cp_skel.proofs.EachOnce.{if_pushed}
use Rattle.cp_fingerprint.specs.Slots.{Slot}
use Rattle.cp_fingerprint.specs.declared.sums.Sums.{Sums}
use Rattle.cp_fingerprint.specs.declared.sums.ValueSum.{ValueSum}
use Rattle.cp_fingerprint.proofs.SumsBeside.{known_added}
use Rattle.cp_fingerprint.proofs.sums.Sums.add.Goals as goal

pub returns-in-Some : goal.returns-in-Some
returns-in-Some c =
    let x : Slot = record { weight = c.args.weight; value = c.args.value.now } in
    let s : Sums = c.args.self.now in
    let i = c.in-Some.number in
    let own : ValueSum = c.index_mut-own.result.now in
    let grown : ValueSum = record { value = own.value; sum = c.saturating_add-own.result } in
    let r : Sums = record { sums = with_item s.sums i grown; more = s.more; places = c.push.new.self } in
    if_pushed s.places.items c.push.result c.map_err.result c.push.ensures.items c.map_err.ensures.variant
    (λ pushed. known_added x s r i pushed own grown c.in-Some.ensures.there c.index_mut-own.ensures.value refl c.saturating_add-own.ensures refl refl c.in-Some.ensures.found)
