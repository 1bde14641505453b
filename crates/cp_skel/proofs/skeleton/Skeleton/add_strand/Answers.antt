use Rattle.std.proofs.Common.{◌++◌, ◌∷◌, [], refl, ap, ◌∙◌, subst}
use Rattle.cp_model.specs.Skeleton.{Skeleton}
use Rattle.cp_model.specs.Extensions.{AddsStrand}
use Rattle.cp_skel.specs.Parts.{skeleton_of_parts}
use Rattle.cp_model.specs.Declares.{DeclaresItsVariables}
use Rattle.cp_skel.proofs.Changed.{strand-added}
use Rattle.cp_skel.proofs.SoundSkeletons.{strand_sound}
use Rattle.cp_skel.proofs.skeleton.Skeleton.add_strand.Goals as goal

abbrev before : goal.After-drop-missing-inside-4 → Skeleton
before c = (skeleton_of_parts c.self.inside)

abbrev behind : goal.After-drop-missing-inside-4 → Skeleton
behind c = record { variables = (before c).variables; strands = c.push.new.self.items; pairs = (before c).pairs; assumptions = c.in_ok-assumptions.assumptions; from_problem = (before c).from_problem }

adds : (c : goal.After-drop-missing-inside-4) → AddsStrand c.args.role.now.value c.args.height c.args.values.now (before c) (behind c)
adds c =
    let i = c.in_ok-instance.instance in
    let strands = c.self.inside.strands in
    strand-added (before c) c.args.role.now.value i.role c.args.height i.height c.args.values.now i.values
    c.in_ok-missing.missing c.self.inside.assumptions c.in_ok-assumptions.assumptions
    c.in_ok-instance.ensures.role c.in_ok-instance.ensures.height refl c.in_ok-assumptions.ensures
    c.push.new.self.items [] c.len-number.result c.in_ok-instance.ensures.terms c.requires.values
    (c.in_ok-push.ensures.items
    ∙ ap (λ s. strands.items ++ s ∷ []) c.in_ok-strand.ensures)
    (c.len-number.ensures ∙ strands.ok.0) (c.in_ok-missing.ensures i c.in_ok-strand.ensures)

pub invariant_of-self-2 : goal.invariant_of-self-2
invariant_of-self-2 c = strand_sound c.args.role.now.value c.args.height c.args.values.now (before c) (behind c) c.requires.height (subst DeclaresItsVariables c.deref.ensures c.is_sound.ensures) c.self.invariant (adds c)

pub returns-clause-changed : goal.returns-clause-changed
returns-clause-changed c = subst (λ d. AddsStrand c.args.role.now.value c.args.height c.args.values.now d (behind c)) c.self.view_is (adds c)
