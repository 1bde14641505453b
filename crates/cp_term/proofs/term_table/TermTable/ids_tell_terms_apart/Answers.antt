use Rattle.std.proofs.Common.{subst}
use Rattle.std.specs.List.{IsDistinct}
use Rattle.cp_model.specs.Same.{same_term}
use Rattle.cp_model.proofs.SameTests.{term_is, is_term}
use Rattle.cp_term.proofs.term_table.TermTable.ids_tell_terms_apart.Goals as goal

-- src/term_table.rt:69:5
pub returns : goal.returns
returns c i j t u at at' =
    let h = c.ids_tell_keys_apart.ensures c.args.self.now i j t u (subst (IsDistinct same_term) c.self.view_is c.are_distinct.ensures) at at' in
    (λ e. term_is t u (h.0 e), λ e. h.1 (is_term t u e))
