use Rattle.std.proofs.Common.{subst}
use Rattle.cp_model.specs.Derivable.{DerivableAt}
use Rattle.cp_derive.specs.Before.{PlacesIn}
use Rattle.cp_derive.proofs.AtOnce.{made_at}
use Rattle.cp_derive.proofs.known_before.KnownBefore.derives_at_once.Goals as goal

pub returns-then-is_sent_directly : goal.returns-then-is_sent_directly
returns-then-is_sent_directly c = λ _.
    subst (λ (p : PlacesIn). DerivableAt p.skeleton c.args.node c.args.message.now) c.self.view_is (c.is_sent_directly.ensures c.if-is_sent_directly.true)

pub returns : goal.returns
returns c = λ r.
    subst (λ (p : PlacesIn). DerivableAt p.skeleton c.args.node c.args.message.now) c.self.view_is
    (made_at c.self.inside.survey.now c.self.inside.places.items c.args.message.now c.args.node c.self.inside.known c.self.invariant (c.makes.ensures r))
