use Rattle.std.proofs.Common.{◌≡◌, List, sym, subst, ap₂}
use Rattle.cp_model.specs.Term.{Term}
use Rattle.cp_derive.specs.Buildable.{Builds, IsClosedUnderParts}
use Rattle.cp_derive.specs.Given.{Given, IsDerivable}
use Rattle.cp_derive.proofs.Built.{built_derivable, derivable_built}
use Rattle.cp_derive.proofs.OpenedPieces.{closed}
use Rattle.cp_derive.proofs.knowledge.buildable.Goals as goal

pub returns : goal.returns
returns c =
    let g : Given = record { sent = c.known.inside.sent.items; secrets = c.known.inside.secrets.items } in
    let held : List Term = c.known.inside.opening.held.items in
    let t : Term = c.args.t.now in
    let view : g ≡ c.args.known.now = c.known.view_is in
    let is_closed : IsClosedUnderParts g held = closed g c.known.inside.opening c.known.invariant in
    let lists : Builds c.deref.result.now c.held.result.now t ≡ Builds g.secrets held t =
    ap₂ (λ s h. Builds s h t) c.deref.ensures.value c.held.ensures in record {
      exact = (
        λ r. subst (λ k. IsDerivable k t) view (built_derivable g held is_closed.derivable t (subst (λ P. P) lists (c.builds.ensures.0 r))),
        λ d. c.builds.ensures.1 (subst (λ P. P) (sym lists) (derivable_built g held is_closed t (subst (λ k. IsDerivable k t) (sym view) d))),
      );
    }
