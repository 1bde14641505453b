use Rattle.std.proofs.Common.{map, ◌∙◌, ap}
use Rattle.std.proofs.lemmas.Result.{IfOk-weaker}
use Rattle.cp_skel.proofs.SoundSkeletons.{sound_ordered}
use Rattle.cp_general.specs.ListedPairs.{is_transmission, is_reception, nodes_where, gathered}
use Rattle.cp_general.proofs.Listed.{lists_gathered}
use Rattle.cp_general.proofs.pairs.pairs_of_order.Goals as goal

pub returns : goal.returns
returns c =
    IfOk-weaker c.pairs_between.result _ _
    (λ ps e. lists_gathered c.args.k.now (sound_ordered c.args.k.now c.is_sound.ensures) c.in_ok-occurrences.occurrences.items c.in_ok-occurrences.ensures.listed c.in_ok-sorted.sorted ps.items
    c.deref-3.result.now c.deref-4.result.now (c.in_ok-sorted.ensures ∙ c.pairs.ensures ∙ c.order.ensures) (c.deref-3.ensures.value ∙ c.in_ok-sent.ensures ∙ ap (nodes_where is_transmission) c.deref.ensures.value)
    (c.deref-4.ensures.value ∙ c.in_ok-received.ensures ∙ ap (λ os. map (gathered c.in_ok-sorted.sorted) (nodes_where is_reception os)) c.deref-2.ensures.value) e)
    c.pairs_between.ensures
