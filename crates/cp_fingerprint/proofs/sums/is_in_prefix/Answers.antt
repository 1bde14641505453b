use Rattle.std.proofs.Common.{◌≡◌, Some, sym}
use Rattle.std.specs.Prelude.{None}
use Rattle.cp_lists.specs.Lists.{item_at}
use Rattle.cp_fingerprint.proofs.sums.is_in_prefix.Goals as goal

pub returns-in-Some-first : goal.returns-in-Some-first
returns-in-Some-first c =
    let read = c.in-Some.ensures in
    let is = c.in-Some-first.is in
    let found : item_at c.args.first_events.now c.args.number ≡ Some (Some c.in-Some-first.index) = cc in
    sym (c.requires.kept c.args.number c.args.declaration.now (Some c.in-Some-first.index) c.requires.declared found c.args.height)

pub returns-in-None : goal.returns-in-None
returns-in-None c =
    let read = c.in-Some.ensures in
    let is = c.in-None.is in
    let found : item_at c.args.first_events.now c.args.number ≡ Some None = cc in
    sym (c.requires.kept c.args.number c.args.declaration.now None c.requires.declared found c.args.height)
