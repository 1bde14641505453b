use Rattle.std.proofs.Common.{refl}
use Rattle.cp_general.proofs.fit.is_known_or_fit.Goals as goal

pub returns-then-known : goal.returns-then-known
returns-then-known c = (λ _. c.requires c.if-known.true, λ _. refl)
