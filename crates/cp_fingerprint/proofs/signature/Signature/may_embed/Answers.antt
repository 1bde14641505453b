use Rattle.std.proofs.Common.{arith}
use Rattle.cp_model.proofs.CarriedParts.{not_both}
use Rattle.cp_fingerprint.proofs.SignatureData.{embed_told, never_embeds, more_forbids, by_fingerprint}
use Rattle.cp_fingerprint.proofs.signature.Signature.may_embed.Goals as goal

pub returns-then-self-other : goal.returns-then-self-other
returns-then-self-other c =
    let told = more_forbids (λ s. s.bucket_key) (λ s t h. h.bucket_key) _ _ c.args.self.now c.args.other.now c.self.view_is c.other.view_is c.if-self-other.true in
    record { exact = told.0; kept = told.1 }

pub returns-then-self-other-2 : goal.returns-then-self-other-2
returns-then-self-other-2 c =
    let told = more_forbids (λ s. s.light_share) (λ s t h. h.light_share) _ _ c.args.self.now c.args.other.now c.self.view_is c.other.view_is c.if-self-other-2.true in
    record { exact = told.0; kept = told.1 }

pub returns-then-self-other-3 : goal.returns-then-self-other-3
returns-then-self-other-3 c =
    let told = more_forbids (λ s. s.chains) (λ s t h. h.chains) _ _ c.args.self.now c.args.other.now c.self.view_is c.other.view_is c.if-self-other-3.true in
    record { exact = told.0; kept = told.1 }

pub returns-then-not-may_embed : goal.returns-then-not-may_embed
returns-then-not-may_embed c =
    let told = embed_told _ _ _ _ _ c.self.view_is c.other.view_is (never_embeds _ _ (λ h. not_both c.if-not-may_embed.true (c.may_embed.ensures.exact.1 h.partition))) in
    record { exact = told.0; kept = told.1 }

pub returns : goal.returns
returns c =
    let less = c.if-self-other.false in
    let lightly = c.if-self-other-2.false in
    let lighter = c.if-self-other-3.false in
    let told = embed_told _ _ _ _ _ c.self.view_is c.other.view_is
    (by_fingerprint _ _ _ (omega (arith, less)) (omega (arith, lightly)) (omega (arith, lighter)) (c.may_embed.ensures.exact.0 c.if-not-may_embed.false) c.may_embed-2.ensures.exact) in
    record { exact = told.0; kept = told.1 }
