use Rattle.std.proofs.Common.{Some, None}
use Rattle.cp_cohort.specs.Cohort.{AreFirstAdded}
use Rattle.cp_cohort.specs.GatheredLists.{EachGives}
use Rattle.cp_cohort.specs.Widening.{PutsUntil}
use Rattle.cp_cohort.proofs.UntilGiven.{EventsOf, until_whole, until_some}
use Rattle.cp_cohort.proofs.children.children_until.Goals as goal

pub returns-in-Some : goal.returns-in-Some
returns-in-Some g c =
    let source = g.S.GivesPatterns.gives c.args.source.now in
    let protocol = c.args.protocol.now in
    let q = c.args.guarded_test.now in
    let adds : PutsUntil source (EachGives (EventsOf q) protocol.roles) (AreFirstAdded protocol q) c.in_ok-added.added.items c.add.new.children.items (Some c.in-Some.widening) = rw c.in-Some.is at c.in_ok-widening.ensures in
    until_some source protocol q c.in_ok-added.added.items c.add.new.children.items c.in-Some.widening c.in_ok-added.ensures.items adds

pub returns : goal.returns
returns g c =
    let source = g.S.GivesPatterns.gives c.args.source.now in
    let protocol = c.args.protocol.now in
    let q = c.args.guarded_test.now in
    let adds : PutsUntil source (EachGives (EventsOf q) protocol.roles) (AreFirstAdded protocol q) c.in_ok-added.added.items c.add.new.children.items None = rw c.in_default.is at c.in_ok-widening.ensures in
    until_whole source protocol q c.in_ok-added.added.items c.add.new.children.items _ _ _ _ _ c.in_ok-added.ensures.items adds c.new-front.ensures.items c.in_ok-contract.ensures c.in_ok-displace.ensures c.in_ok-children.ensures
    c.in_ok-listen.ensures
