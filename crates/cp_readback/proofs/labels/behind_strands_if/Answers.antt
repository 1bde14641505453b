use Rattle.std.proofs.Common.{List, [], ◌++◌, if◌then◌else◌, map, sym, ap, ◌∙◌}
use Rattle.cp_base.specs.declared.place.Place.{Place}
use Rattle.cp_model.specs.Strand.{Role}
use Rattle.cp_model.specs.Skeleton.{SkeletonStrand}
use Rattle.cp_sexpr.specs.View.{view}
use Rattle.cp_load.specs.UncheckedProblems.{unchecked_view}
use Rattle.cp_report.specs.Heads.{items_with, strand_heads, lines_of_label, order_misfits}
use Rattle.cp_report.specs.Spelled.{Scope}
use Rattle.cp_report.specs.Skeletons.{strand_of, around_strands_misfits}
use Rattle.cp_report.specs.Labels.{about_strands_misfits}
use Rattle.cp_spelled.specs.FirstMisfit.{first_onto}
use Rattle.cp_spelled.specs.Views.{scope_view}
use Rattle.cp_report.specs.Misfits.{place_before, first_or}
use Rattle.cp_scope.proofs.FirstOf.{first_then}
use Rattle.cp_readback.specs.Parts.{about_these_misfits}
use Rattle.cp_readback.proofs.labels.behind_strands_if.Goals as goal

pub returns : goal.returns
returns c =
    let p = unchecked_view c.args.setting.problem.now in
    let its = map view c.args.label.items.now in
    let items = items_with strand_heads its in
    let made = c.in_ok-strands.ensures ∙ ap (λ (rs : List Role). map (strand_of rs (scope_view c.args.scope)) items) (c.roles.ensures ∙ ap (λ q. q.roles) c.deref.ensures)
    ∙ ap (λ (s : Scope). map (strand_of p.protocol.roles s) items) c.requires.scope in
    let around = around_strands_misfits p (first_or c.args.label.place (order_misfits lines_of_label its)) its in
    let about = about_strands_misfits p its in
    first_then place_before c.args.first.now c.around_strands_misfits.new.first c.about_strands_misfits.new.first around about
    (c.in_ok-around_strands_misfits.ensures ∙ ap (λ (q : Place). first_onto c.args.first.now (around_strands_misfits p q its)) c.place_of_lack-lack.ensures)
    (c.about_strands_misfits.ensures ∙ ap (λ (ks : List SkeletonStrand). first_onto c.around_strands_misfits.new.first (about_these_misfits ks its)) (c.deref-3.ensures.value ∙ made))
    ∙ sym (ap (λ b. first_onto c.args.first.now (if b then around ++ about else [])) c.if-not-is_asked.false)
