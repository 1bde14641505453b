use Rattle.std.proofs.Common.{rules, sym, ◌∙◌}
use Rattle.std.proofs.lemmas.List.{map-id}
use Rattle.std.proofs.lemmas.Result.{IfOk-weaker}
use Rattle.cp_fingerprint.specs.Signatures.{signature_of}
use Rattle.cp_lists.proofs.Collected.{collected_from_slice}
use Rattle.cp_shapes.proofs.rows.signatures.Goals as goal

pub returns : goal.returns
returns c =
    IfOk-weaker c.try_collect.result _ _ (λ signatures same. sym (map-id signatures.items) ∙ same)
    (collected_from_slice (λ s. s) (λ k. signature_of k.now) c.args.candidates.now c.try_collect.result (λ x y q k. search rules) c.try_collect.ensures.runs c.map.ensures.runs c.iter.ensures.runs c.iter.ensures.rest)
