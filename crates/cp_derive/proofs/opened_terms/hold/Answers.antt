use Rattle.std.proofs.Common.{◌++◌, ◌∷◌, [], refl, ap, ◌∙◌, subst}
use Rattle.cp_derive.specs.Buildable.{IsAtHand}
use Rattle.cp_derive.proofs.Listed.{pushed}
use Rattle.cp_derive.proofs.BuildSteps.{atom_builds}
use Rattle.cp_derive.proofs.TermParts.{takes_nothing, takes_atom}
use Rattle.cp_derive.proofs.opened_terms.hold.Goals as goal

pub returns-in_ok-push : goal.returns-in_ok-push
returns-in_ok-push c =
    takes_atom _ _ _ _
    (pushed _ _ _ (c.in_ok-push.ensures.items ∙ ap (λ t. c.args.opening.now.held.items ++ (t ∷ [])) c.in_ok-atom.ensures)) _
    c.requires.1 refl

pub returns-else-not-is_at_hand : goal.returns-else-not-is_at_hand
returns-else-not-is_at_hand c =
    takes_nothing _ _ _
    (atom_builds _ _ c.args.atom.now _ _ c.requires.1 (λ b. b)
    (subst (λ held. IsAtHand c.args.secrets.now held c.args.atom.now) c.deref.ensures.value (c.is_at_hand.ensures.0 c.if-not-is_at_hand.false)))
