use Rattle.cp_shapes.proofs.Standings.{shape_within, through_a_shape}
use Rattle.cp_shapes.proofs.laws.standings_go_through_shapes.Goals as goal

pub returns-clause-embeds : goal.returns-clause-embeds
returns-clause-embeds c = shape_within

pub returns-clause-stands : goal.returns-clause-stands
returns-clause-stands c = through_a_shape
