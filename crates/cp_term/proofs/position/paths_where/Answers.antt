use Rattle.std.proofs.Common.{ap₂, ◌++◌, ◌∙◌}
use Rattle.cp_model.specs.Positions.{prefixed, positions_where}
use Rattle.cp_term.proofs.Behind.{behind_none}
use Rattle.cp_term.proofs.position.paths_where.Goals as goal

pub returns : goal.returns
returns g c =
    c.in_ok-add_paths.ensures.added
    ∙ ap₂ (λ fs h. fs ++ prefixed h (positions_where (g.T.TermTest.passing c.args.test.now) c.args.whole.now)) c.new-found.ensures.items c.new-here.ensures
    ∙ behind_none _
