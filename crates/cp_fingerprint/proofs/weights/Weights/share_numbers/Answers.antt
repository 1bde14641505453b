use Rattle.std.proofs.Common.{◌≡◌, length, map, get_or, ap, ◌∙◌, subst}
use Rattle.cp_model.specs.Skeleton.{Skeleton}
use Rattle.cp_fingerprint.specs.SharedValues.{listened, slots_of, strand_slots, value_slots, strung, bucket_key_of, light_share_of}
use Rattle.cp_fingerprint.specs.Weights.{AreSumsOf, placed_from, lightened}
use Rattle.cp_fingerprint.proofs.PlaceShares.{AreWeighed, IsNext, weighed_by, values_counted, places_fit, shares_begin, next_counted, next_fits, shares_added}
use Rattle.cp_fingerprint.proofs.weights.Weights.share_numbers.Goals as goal

pub split_at-requires : goal.split_at-requires
split_at-requires c =
    let k = c.args.self.now in
    let s = c.self.inside.sums in
    let given : c.values-given.result.now ≡ k.from_problem.values = c.values-given.ensures ∙ ap (λ f. f.values) (c.from_problem.ensures ∙ ap (λ (x : Skeleton). x.from_problem) c.self.view_is) in
    places_fit (listened k.strands) (slots_of k) c.in_ok-weights.weights.items (value_slots 0 k.from_problem.values) (strung (map strand_slots k.strands)) c.deref-3.result.now (length c.values-given.result.now)
    (weighed_by k s (subst (λ (x : Skeleton). AreSumsOf (slots_of x) s) c.self.view_is c.self.invariant.0) c.deref.result.now c.deref-2.result.now c.deref-3.result.now c.in_ok-weights.weights.items
    (c.deref.ensures.value ∙ (c.in_ok-heard.ensures ∙ ap listened (c.strands.ensures ∙ ap (λ (x : Skeleton). x.strands) c.self.view_is))) c.deref-2.ensures.value c.deref-3.ensures.value c.in_ok-weights.ensures)
    (values_counted k.from_problem.values c.values-given.result.now given)

pub loop-count-init : goal.loop-count-init
loop-count-init c =
    let k = c.args.self.now in
    let s = c.self.inside.sums in
    let ws = c.in_ok-weights.weights.items in
    let own = c.split_at.result.0.now in
    let given : c.values-given.result.now ≡ k.from_problem.values = c.values-given.ensures ∙ ap (λ f. f.values) (c.from_problem.ensures ∙ ap (λ (x : Skeleton). x.from_problem) c.self.view_is) in
    let sound : AreSumsOf (slots_of k) s = subst (λ (x : Skeleton). AreSumsOf (slots_of x) s) c.self.view_is c.self.invariant.0 in
    let heard : c.deref.result.now ≡ listened k.strands = c.deref.ensures.value ∙ (c.in_ok-heard.ensures ∙ ap listened (c.strands.ensures ∙ ap (λ (x : Skeleton). x.strands) c.self.view_is)) in
    let weighed : AreWeighed (listened k.strands) (slots_of k) ws (slots_of k) c.deref-3.result.now =
    weighed_by k s sound c.deref.result.now c.deref-2.result.now c.deref-3.result.now ws heard c.deref-2.ensures.value c.deref-3.ensures.value c.in_ok-weights.ensures in
    shares_begin (listened k.strands) (slots_of k) ws (value_slots 0 k.from_problem.values) (map strand_slots k.strands) c.deref-3.result.now own c.split_at.result.1.now (length c.values-given.result.now)
    c.shares_of-bucket_key.result.heavy weighed (values_counted k.from_problem.values c.values-given.result.now given) c.split_at.ensures.front c.split_at.ensures.back
    (c.shares_of-bucket_key.ensures.heavy ∙ ap (λ ns. placed_from ns 0 own) c.deref-4.ensures.value)

pub split_at-requires-in-loop-count : goal.split_at-requires-in-loop-count
split_at-requires-in-loop-count c =
    let k = c.args.self.now in
    let i = c.loop-count.count-index in
    let lists = map strand_slots k.strands in
    let counts = c.deref-count-items.result.now in
    let next : IsNext lists i (get_or counts i 0) =
    next_counted lists counts i (c.deref-count-items.ensures.value ∙ (c.self.invariant.1 ∙ ap (λ (x : Skeleton). map length (map strand_slots x.strands)) c.self.view_is)) c.loop-count-test.true in
    next_fits (listened k.strands) (slots_of k) c.in_ok-weights.weights.items lists i (get_or counts i 0) next c.loop-count.rest.now c.loop-count.invariant.0

pub loop-count-preserved : goal.loop-count-preserved
loop-count-preserved c =
    let k = c.args.self.now in
    let i = c.loop-count.count-index in
    let lists = map strand_slots k.strands in
    let counts = c.deref-count-items.result.now in
    let own = c.split_at-in-loop-count.result.0.now in
    let shares = c.shares_of-shares in
    let next : IsNext lists i (get_or counts i 0) =
    next_counted lists counts i (c.deref-count-items.ensures.value ∙ (c.self.invariant.1 ∙ ap (λ (x : Skeleton). map length (map strand_slots x.strands)) c.self.view_is)) c.loop-count-test.true in
    shares_added (listened k.strands) (slots_of k) c.in_ok-weights.weights.items lists i (get_or counts i 0) next c.loop-count.rest.now c.loop-count.invariant.0 own c.split_at-in-loop-count.result.1.now
    shares.result.heavy shares.result.light c.steepened.result c.loop-count.bucket_key c.loop-count.light_share c.saturating_add-bucket_key.result c.saturating_add-light_share.result (bucket_key_of k)
    (light_share_of k) c.split_at-in-loop-count.ensures.front c.split_at-in-loop-count.ensures.back (shares.ensures.heavy ∙ ap (λ ns. placed_from ns 0 own) c.deref-in-loop-count.ensures.value)
    (shares.ensures.light ∙ ap (λ ns. placed_from ns 0 (map lightened own)) c.deref-in-loop-count.ensures.value) c.steepened.ensures c.saturating_add-bucket_key.ensures c.saturating_add-light_share.ensures
    c.loop-count.invariant.1 c.loop-count.invariant.2
