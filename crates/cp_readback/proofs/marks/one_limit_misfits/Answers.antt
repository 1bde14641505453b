use Rattle.std.specs.Prelude.{[], ◌∷◌, codes}
use Rattle.cp_language.specs.Words.{is_one_of}
use Rattle.cp_report.specs.Misfits.{symbol_misfits}
use Rattle.cp_spelled.proofs.InOrder.{entry-taken}
use Rattle.cp_readback.proofs.marks.one_limit_misfits.Goals as goal

pub returns : goal.returns
returns c =
    entry-taken (symbol_misfits (λ t. is_one_of t (codes "steps" ∷ codes "strands" ∷ []))) [] c.args.place c.args.items.now c.in-Some.rest.now c.in-Some.word.now
    c.args.first.now c.limit_misfits.new.first c.no_more.new.first c.in-Some.ensures.cases.0 c.limit_misfits.ensures (c.no_more.ensures c.args.place)
