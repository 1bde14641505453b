use Rattle.std.proofs.Common.{sym, subst}
use Rattle.cp_hom.specs.PartialMaps.{partial_view}
use Rattle.cp_hom.specs.OpenMaps.{IsStarted}
use Rattle.cp_hom.proofs.FirstChoices.{whole_by_kinds}
use Rattle.cp_hom.proofs.first_choices.embed_at_once.Goals as goal

pub finish-requires-clause-whole : goal.finish-requires-clause-whole
finish-requires-clause-whole c =
    whole_by_kinds c.args.a.now c.args.b.now (partial_view c.in_ok-copy.field-0) (partial_view c.in-Some.whole) (subst (IsStarted c.args.a.now c.args.b.now) (sym c.in_ok-copy.ensures) c.requires.started)
    (rw c.in-Some.is at c.in_ok-whole.ensures)
