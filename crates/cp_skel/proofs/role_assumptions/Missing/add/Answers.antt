use Rattle.std.proofs.Common.{◌≡◌, ◌++◌, map, ap, ◌∙◌}
use Rattle.std.proofs.lemmas.Result.{on_ok_weaker}
use Rattle.cp_model.specs.Given.{atoms_onto, uniques_onto}
use Rattle.cp_strand.specs.Givens.{unique_on}
use Rattle.cp_skel.specs.JoinedAssumptions.{joined_assumptions, with_these}
use Rattle.cp_skel.proofs.StrandsGive.{missing-grew}
use Rattle.cp_skel.proofs.role_assumptions.Missing.add.Goals as goal

pub returns : goal.returns
returns c =
    let own = c.args.assumptions.now in
    let old = c.self.inside in
    let g = c.args.given.now in
    let non : own.non_originating ++ c.add_missing.new.more.items ≡ atoms_onto (own.non_originating ++ old.non_originating.items) g.non_originating.items =
    missing-grew atoms_onto own.non_originating c.non_originating.result.now old.non_originating.items c.add_missing.new.more.items g.non_originating.items c.deref.result.now
    c.non_originating.ensures c.deref.ensures.value c.in_ok-add_missing.ensures in
    let penetrator_non : own.penetrator_non_originating ++ c.add_missing-2.new.more.items ≡ atoms_onto (own.penetrator_non_originating ++ old.penetrator_non_originating.items) g.penetrator_non_originating.items =
    missing-grew atoms_onto own.penetrator_non_originating c.penetrator_non_originating.result.now old.penetrator_non_originating.items c.add_missing-2.new.more.items g.penetrator_non_originating.items c.deref-2.result.now
    c.penetrator_non_originating.ensures c.deref-2.ensures.value c.in_ok-add_missing-2.ensures in
    on_ok_weaker c.add_missing_uniques.result
    (λ e.
    let unique = missing-grew (λ us gs. uniques_onto us (map (unique_on c.args.strand) gs)) own.uniquely_originating c.uniquely_originating.result.now old.uniquely_originating.items c.add_missing_uniques.new.more.items
    g.uniquely_originating.items c.deref-3.result.now c.uniquely_originating.ensures c.deref-3.ensures.value e in
    (λ i. record { non_originating = non i; penetrator_non_originating = penetrator_non i; uniquely_originating = unique i })
    ∙ ap (λ m. with_these c.args.strand g (joined_assumptions own m)) c.self.view_is)
    c.add_missing_uniques.ensures
