use Rattle.std.proofs.Common.{◌∷◌, [], map, refl}
use Rattle.cp_model.proofs.Gathered.{uniques}
use Rattle.cp_strand.specs.Givens.{unique_on}
use Rattle.cp_skel.proofs.AlreadyListed.{lists-start, lists-given, lists-all, indexed_more}
use Rattle.cp_skel.proofs.already_listed.listed_with_uniques.Goals as goal

pub loop-unique-init : goal.loop-unique-init
loop-unique-init c = lists-start uniques c.args.old.now (map (unique_on c.args.strand)) c.args.given.now c.args.start refl c.requires

pub loop-unique-preserved : goal.loop-unique-preserved
loop-unique-preserved c =
    let s = c.args.strand in
    let u = c.unique-item.result in
    lists-given uniques c.args.old.now (map (unique_on s)) c.args.given.now _ (unique_on s u ∷ []) c.args.start c.loop-unique.count _ c.loop-unique.unique-index u
    c.loop-unique-test.true c.unique-item.is (indexed_more s c.args.given.now c.loop-unique.unique-index u) refl c.loop-unique.invariant c.in_ok-count.ensures

pub returns : goal.returns
returns c = lists-all uniques c.args.old.now (map (unique_on c.args.strand)) c.args.given.now c.args.start c.loop-unique.count c.loop-unique.unique-index c.loop-unique-test.false c.loop-unique.invariant
