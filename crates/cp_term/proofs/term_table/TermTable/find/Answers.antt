use Rattle.std.proofs.Common.{◌≡◌, List, IfSome, true, Some, slice_get, position, rules, subst}
use Rattle.cp_model.specs.Term.{Term}
use Rattle.cp_model.specs.Same.{same_term}
use Rattle.cp_term.proofs.TablePlaces.{term_there, present_is_found}
use Rattle.cp_term.proofs.term_table.TermTable.find.Goals as goal

pub returns-clause-there : goal.returns-clause-there
returns-clause-there c =
    let t = c.args.t.now in
    term_there t c.args.self.now c.find.result
    (subst (λ (us : List Term). IfSome c.find.result (λ i. (x : Term) × (slice_get us i ≡ Some x) × (same_term t x ≡ true))) c.self.view_is c.find.ensures.there)

pub returns-clause-absent : goal.returns-clause-absent
returns-clause-absent c =
    let found : c.find.result ≡ position (same_term c.args.t.now) c.args.self.now = search rules in
    present_is_found c.args.t.now c.args.self.now c.find.result found
