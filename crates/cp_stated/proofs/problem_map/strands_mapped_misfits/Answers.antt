use Rattle.std.proofs.Common.{ap, ◌∙◌}
use Rattle.cp_spelled.specs.FirstMisfit.{first_onto}
use Rattle.cp_spelled.proofs.InOrder.{list-read}
use Rattle.cp_stated.specs.ProblemMap.{strands_of_problem_misfits}
use Rattle.cp_stated.proofs.problem_map.strands_mapped_misfits.Goals as goal

pub returns : goal.returns
returns c =
    c.strand_numbers_misfits.ensures
    ∙ ap (first_onto c.args.first.now) (list-read (strands_of_problem_misfits c.args.problem.now c.args.strands.now) c.args.form.now c.in-List.place c.in-List.items
    c.as_slice.result.now c.in-List.is c.as_slice.ensures.value)
