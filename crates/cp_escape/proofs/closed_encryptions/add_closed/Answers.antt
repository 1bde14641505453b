use Rattle.std.proofs.Common.{List, ◌∷◌, [], refl, ◌∙◌, subst}
use Rattle.cp_lists.specs.Lists.{IsIn}
use Rattle.cp_lists.proofs.Members.{item_is_in}
use Rattle.cp_model.specs.declared.step.Step.{Step}
use Rattle.cp_escape.specs.ClosedEncryptions.{GivesClosedTo}
use Rattle.cp_escape.specs.Escape.{positions_of}
use Rattle.cp_escape.proofs.TermsOnce.{puts_next, puts_last, puts_whole}
use Rattle.cp_escape.proofs.closed_encryptions.add_closed.Goals as goal

pub outermost_closed-requires : goal.outermost_closed-requires
outermost_closed-requires c =
    let listed : IsIn c.path-item.result c.in_ok-paths.paths.items =
    subst (λ (ps : List (List Step)). IsIn c.path-item.result ps) c.deref-path-items.ensures.value
    (item_is_in c.deref-path-items.result.now c.loop-path.path-index c.path-item.result c.loop-path-test.true c.path-item.is) in
    record { part = c.args.critical.now; there = (c.in_ok-paths.ensures.found c.path-item.result).0 listed; derivable = c.requires.derivable; underivable = c.requires.underivable }

pub loop-path-preserved : goal.loop-path-preserved
loop-path-preserved c =
    puts_next (GivesClosedTo c.args.known.now c.args.message.now) c.deref-path-items.result.now c.loop-path.path-index c.path-item.result c.loop-path-test.true c.path-item.is _ _ c.loop-path.invariant _
    (record {
      given = c.in_ok-encryption.encryption ∷ [];
      gives_them = record { encryption = c.in_ok-encryption.encryption; outermost = c.in_ok-encryption.ensures; alone = refl };
      onto = c.in_ok-add_term.ensures;
    })

pub returns : goal.returns
returns c =
    puts_whole (GivesClosedTo c.args.known.now c.args.message.now) c.deref-path-items.result.now (positions_of c.args.critical.now c.args.message.now)
    (c.deref-path-items.ensures.value ∙ c.in_ok-paths.ensures.paths) _ _
    (puts_last (GivesClosedTo c.args.known.now c.args.message.now) c.deref-path-items.result.now c.loop-path.path-index c.loop-path-test.false _ _ c.loop-path.invariant)
