use Rattle.cp_fingerprint.proofs.SignatureData.{other_number}
use Rattle.cp_fingerprint.proofs.signature.Signature.may_be_isomorphic.Goals as goal

pub returns-then-self-other : goal.returns-then-self-other
returns-then-self-other c =
    let told = other_number (λ s. s.chains) (λ s t h. h.chains) _ _ c.args.self.now c.args.other.now c.self.view_is c.other.view_is c.if-self-other.true in
    record { exact = told.0; kept = told.1 }
