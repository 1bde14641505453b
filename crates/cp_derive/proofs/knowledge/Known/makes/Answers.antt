use Rattle.std.proofs.Common.{[], subst}
use Rattle.cp_lists.proofs.Members.{not_in_none}
use Rattle.cp_derive.specs.Buildable.{Builds}
use Rattle.cp_derive.specs.Given.{Given, IsDerivable}
use Rattle.cp_derive.proofs.Built.{built_derivable}
use Rattle.cp_derive.proofs.knowledge.Known.makes.Goals as goal

pub returns : goal.returns
returns c = λ r sent.
    let t = c.args.t.now in
    let secrets = c.self.inside.secrets.items in
    let builds : Builds secrets [] t = subst (λ s. Builds s [] t) c.deref.ensures.value (c.builds.ensures.0 r) in
    subst (λ (g : Given). IsDerivable (record { sent = sent; secrets = g.secrets }) t) c.self.view_is
    (built_derivable (record { sent = sent; secrets = secrets }) [] (λ x i. absurd (not_in_none i)) t builds)
