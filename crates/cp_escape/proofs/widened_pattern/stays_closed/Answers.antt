use Rattle.std.proofs.Common.{◌≡◌, ◌↔◌, IsTrue, List, ap, ◌∙◌, subst}
use Rattle.cp_lists.specs.Lists.{IsIn}
use Rattle.cp_model.specs.Term.{AtomTerm}
use Rattle.cp_escape.proofs.StillClosed.{stays_exactly}
use Rattle.cp_escape.proofs.widened_pattern.stays_closed.Goals as goal

pub returns-in-Some : goal.returns-in-Some
returns-in-Some c =
    let k = c.args.k.now in
    let listed : c.non_originating.result.now ≡ k.assumptions.non_originating = c.non_originating.ensures ∙ ap (λ a. a.non_originating) c.assumptions.ensures in
    let asked : IsTrue c.has_atom.result ↔ IsIn c.in-Some.inverse k.assumptions.non_originating = subst (λ (vs : List AtomTerm). IsTrue c.has_atom.result ↔ IsIn c.in-Some.inverse vs) listed c.has_atom.ensures in
    stays_exactly k c.args.term.now c.in-Encryption.field-0.now c.in-Encryption.ensures.0 c.in-Encryption.ensures.2 c.in-Encryption.key.now c.in_ok-invert.field-0 c.in-Encryption.ensures.1 c.in_ok-invert.ensures.plain
    c.in-Some.inverse c.in-Some.ensures.some c.has_atom.result asked
