use Rattle.std.proofs.Common.{map, sym, ap, ◌∙◌}
use Rattle.cp_sexpr.specs.View.{view}
use Rattle.cp_report.specs.Spelled.{local_by}
use Rattle.cp_spelled.specs.LocalParts.{local_alone}
use Rattle.cp_spelled.proofs.Stated.{local-stated}
use Rattle.cp_spelled.proofs.locals.local_by.Goals as goal

pub returns-in-Some : goal.returns-in-Some
returns-in-Some c =
    c.local_alone.ensures ∙ ap (λ s. local_alone s (map view c.in-Some.rest.now)) c.sort_named.ensures ∙ local-stated (view c.in-Some.word.now) (map view c.in-Some.rest.now)
    ∙ sym (ap (λ fs. local_by (map view fs)) c.in-Some.ensures.cases.0)
