use Rattle.cp_skel.proofs.AlreadyListed.{some_given}
use Rattle.cp_skel.proofs.already_listed.listed_with_strand.Goals as goal

pub returns-in-Some : goal.returns-in-Some
returns-in-Some c =
    some_given c.listed_with_given.result c.args.old.now c.args.start c.args.number c.in-Some.given.now c.args.strand.now c.in-Some.ensures c.listed_with_given.ensures

pub returns : goal.returns
returns c =
    some_given c.listed_with_given-2.result c.args.old.now c.args.start c.args.number c.in-Ok.given c.args.strand.now c.in-Ok.ensures c.listed_with_given-2.ensures
