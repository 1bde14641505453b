use Rattle.std.proofs.Common.{◌≡◌, ◌↔◌, ◌∙◌, true, ap₂, subst₂}
use Rattle.cp_fingerprint.specs.Fingerprints.{HaveNoMore}
use Rattle.cp_fingerprint.specs.InTurn.{find_in_turn}
use Rattle.cp_fingerprint.proofs.FoundInTurn.{found_exactly}
use Rattle.cp_fingerprint.proofs.fingerprints.may_embed.Goals as goal

pub returns : goal.returns
returns c = record {
  exact = subst₂ (λ xs ys. (c.find_in_turn.result ≡ true) ↔ HaveNoMore xs ys) c.a.view_is c.b.view_is
      (found_exactly c.a.inside.entries.items c.b.inside.entries.items c.a.invariant c.b.invariant c.find_in_turn.result (c.find_in_turn.ensures ∙ ap₂ find_in_turn c.deref.ensures.value c.deref-2.ensures.value));
}
