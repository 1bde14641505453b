use Rattle.std.proofs.Common.{map, sym, ap, ◌∙◌}
use Rattle.cp_model.specs.Term.{Substitution, apply_to}
use Rattle.cp_model.specs.Strand.{event_map, prefix_of}
use Rattle.cp_model.specs.Homomorphism.{substitution_by}
use Rattle.cp_model.specs.Same.{origin_in}
use Rattle.cp_model.proofs.DeclaredTerms.{bindings_are}
use Rattle.cp_load.proofs.UniqueOrigins.{same_prefix, mapped-origin-end, origin-found, carried-here}
use Rattle.cp_load.proofs.unique_origins.instance_origin.Goals as goal

pub returns-then-carries_under : goal.returns-then-carries_under
returns-then-carries_under c =
    let i = c.args.instance.now in
    let es = c.prefix_of-prefix.result.now in
    c.place_if_sent.ensures
    ∙ carried-here i.values c.args.value.now es (prefix_of i.role i.height) (same_prefix es _ i.role _ i.height c.prefix_of-prefix.ensures (c.deref.ensures ∙ c.role.ensures) c.height.ensures)
    c.loop-index.index c.loop-index.invariant c.index-prefix-index.result c.loop-index-test.true c.index-prefix-index.is
    c.values.result.now c.values.ensures c.payload.result.now c.payload.ensures c.carries_under.result c.if-carries_under.true c.carries_under.ensures
    ∙ sym (ap (λ (s : Substitution). origin_in (map (event_map (apply_to s)) (prefix_of i.role i.height)) c.args.value.now) (bindings_are i.values))

pub returns : goal.returns
returns c =
    let i = c.args.instance.now in
    let es = c.prefix_of-prefix.result.now in
    let f = apply_to (substitution_by i.values) in
    origin-found f c.args.value.now es (prefix_of i.role i.height) (same_prefix es _ i.role _ i.height c.prefix_of-prefix.ensures (c.deref.ensures ∙ c.role.ensures) c.height.ensures)
    c.loop-index.index c.loop-index.invariant _ (mapped-origin-end f c.args.value.now es c.loop-index.index c.loop-index-test.false)
    ∙ sym (ap (λ (s : Substitution). origin_in (map (event_map (apply_to s)) (prefix_of i.role i.height)) c.args.value.now) (bindings_are i.values))
