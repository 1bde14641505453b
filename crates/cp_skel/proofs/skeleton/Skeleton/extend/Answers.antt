use Rattle.std.proofs.Common.{◌<◌, length, set, refl, sym, ap, ◌∙◌, subst}
use Rattle.std.specs.Prelude.{Some}
use Rattle.cp_model.specs.Skeleton.{Skeleton}
use Rattle.cp_lists.proofs.Items.{item_below, item_of_read}
use Rattle.cp_model.specs.Bindings.{bindings_of}
use Rattle.cp_model.specs.GivenAssumptions.{AddsGiven}
use Rattle.cp_model.specs.Extensions.{CanExtend, Extends}
use Rattle.cp_skel.specs.JoinedAssumptions.{joined_assumptions}
use Rattle.cp_skel.specs.Parts.{skeleton_of_parts}
use Rattle.cp_strand.specs.Shapes.{strand_of_shape}
use Rattle.cp_skel.proofs.Changed.{made, strand-extended, set-there, set-elsewhere}
use Rattle.cp_skel.proofs.SoundSkeletons.{sound_longer, extended_sound}
use Rattle.cp_skel.proofs.skeleton.Skeleton.extend.Goals as goal

pub index_mut-requires : goal.index_mut-requires
index_mut-requires c =
    let items = c.self.inside.strands.items in
    let can = subst (λ d. CanExtend d c.args.strand c.args.height c.args.values.now) (sym c.self.view_is) c.requires in
    subst (λ n. c.args.strand < n) (sym c.self.inside.strands.ok.0) (item_below items c.args.strand _ can.on_instance)

abbrev before : goal.After-drop-index_mut → Skeleton
before c = (skeleton_of_parts c.self.inside)

abbrev grown : goal.After-drop-index_mut → Skeleton
grown c = record {
  variables = (before c).variables;
  strands = (set c.self.inside.strands.items c.args.strand c.in_ok-grown.grown);
  pairs = (before c).pairs;
  assumptions = c.append.new.self;
  from_problem = (before c).from_problem;
}

can_extend : (c : goal.After-drop-index_mut) → CanExtend (before c) c.args.strand c.args.height c.args.values.now
can_extend c = subst (λ d. CanExtend d c.args.strand c.args.height c.args.values.now) (sym c.self.view_is) c.requires

extends : (c : goal.After-drop-index_mut) → Extends c.args.strand c.args.height c.args.values.now (before c) (grown c)
extends c =
    let i = c.in_ok-instance.instance in
    let old = c.in-Instance.old.now in
    let given = subst (λ more. AddsGiven i.role i.height (bindings_of i.values) c.args.strand c.self.inside.assumptions (joined_assumptions c.self.inside.assumptions more)) (sym c.into_assumptions.ensures) (c.in_ok-missing.ensures i c.in_ok-grown.ensures) in
    let items = c.self.inside.strands.items in
    let s = c.args.strand in
    let can = can_extend c in
    let below : s < length items = item_below items s _ can.on_instance in
    strand-extended (before c) old.role i.role c.args.height i.height c.args.values.now i.values
    c.into_assumptions.result c.self.inside.assumptions c.append.new.self
    (c.in_ok-instance.ensures.role ∙ c.role.ensures) c.in_ok-instance.ensures.height refl c.in_ok-append.ensures.joined
    (set items s c.in_ok-grown.grown) s old.height old.values can (sound_longer (before c) s can.role can.before c.args.height can.terms c.self.invariant can.on_instance)
    (item_of_read items s c.index.result.now below c.index.ensures ∙ ap (λ k. Some k) (sym c.shape.ensures ∙ ap strand_of_shape c.in-Instance.is))
    (c.in_ok-instance.ensures.terms ∙ ap (λ r. made r c.height.result c.args.height c.values.result.now c.args.values.now) c.role.ensures
    ∙ ap (λ h. made old.role h c.args.height c.values.result.now c.args.values.now) c.height.ensures ∙ ap (λ ts. made old.role old.height c.args.height ts c.args.values.now) c.values.ensures)
    (set-there items s c.in_ok-grown.grown below ∙ ap (λ k. Some k) c.in_ok-grown.ensures)
    (λ t other. set-elsewhere items s c.in_ok-grown.grown t other) given

pub invariant_of-self-2 : goal.invariant_of-self-2
invariant_of-self-2 c = extended_sound c.args.strand c.args.height c.args.values.now (before c) (grown c) (can_extend c) c.self.invariant (extends c)

pub returns-clause-changed : goal.returns-clause-changed
returns-clause-changed c = subst (λ d. Extends c.args.strand c.args.height c.args.values.now d (grown c)) c.self.view_is (extends c)
