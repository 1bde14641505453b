use Rattle.std.proofs.Common.{Vec, Global, sym, ap, ◌∙◌, subst}
use Rattle.cp_model.specs.Bindings.{bindings_of}
use Rattle.std.proofs.lemmas.Result.{IfOk-weaker}
use Rattle.cp_strand.specs.Shapes.{strand_of_shape}
use Rattle.cp_skel.specs.Kinds.{stated_as}
use Rattle.cp_strand.specs.declared.atom.Atom.{Atom}
use Rattle.cp_model.specs.GivenAssumptions.{IsGivenFrom, AddsOnce}
use Rattle.cp_skel.proofs.GivenElsewhere.{adds_given}
use Rattle.cp_skel.proofs.GivenParts.{atoms-given}
use Rattle.cp_skel.proofs.assumptions_left.given_by.Goals as goal

pub returns-in-Instance : goal.returns-in-Instance
returns-in-Instance c =
    let i = c.in-Instance.instance.now in
    IfOk-weaker c.missing_applied.result _ _
    (λ (more : Vec Atom Global) e. adds_given (stated_as c.args.kind) c.args.strand.now i.role i.height (bindings_of i.values) c.stated.result.now c.args.given.now more.items
    (sym c.shape.ensures ∙ ap strand_of_shape c.in-Instance.is) (c.stated.ensures ∙ ap (stated_as c.args.kind) (c.deref.ensures ∙ c.role.ensures))
    (subst (AddsOnce (IsGivenFrom c.stated.result.now i.role i.height (bindings_of i.values)) c.args.given.now) (sym e)
    (atoms-given i.role i.height (bindings_of i.values) c.stated.result.now c.args.given.now)))
    c.missing_applied.ensures
