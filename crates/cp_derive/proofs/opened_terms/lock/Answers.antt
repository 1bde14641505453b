use Rattle.std.proofs.Common.{ap, ap₂, ◌∙◌, ◌++◌, ◌∷◌, [], ◌≡◌}
use Rattle.cp_derive.specs.OpenedTerms.{locked_of}
use Rattle.cp_derive.specs.declared.opened_terms.Locked.{Locked}
use Rattle.cp_derive.proofs.Listed.{pushed}
use Rattle.cp_derive.proofs.TermParts.{takes_encryption}
use Rattle.cp_derive.proofs.opened_terms.lock.Goals as goal

pub returns-in_ok-push-2 : goal.returns-in_ok-push-2
returns-in_ok-push-2 c =
    let held : c.push.new.self.items ≡ c.args.opening.now.held.items ++ (c.args.encryption.now ∷ []) =
    c.in_ok-push.ensures.items ∙ ap (λ t. c.args.opening.now.held.items ++ (t ∷ [])) c.in_ok-encryption.ensures in
    let locked : c.push-then-not-is_among.new.self.items ≡ c.args.opening.now.locked.items ++ (locked_of c.args.body.now c.requires.0 ∷ []) =
    c.in_ok-push-2.ensures.items
    ∙ ap₂ (λ a k. let l : Locked = record { body = a; inverse = k } in c.args.opening.now.locked.items ++ (l ∷ [])) c.in_ok-body.ensures (c.in_ok-inverse.ensures.plain c.requires.0 c.requires.1) in
    λ secrets. takes_encryption secrets _ _ _ (pushed _ _ _ held) _ c.requires.0 c.requires.2 (pushed _ _ _ locked) locked
