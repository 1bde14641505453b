use Rattle.std.proofs.Common.{List, ℕ, ◌∷◌, [], ◌++◌, sym, ap, ◌∙◌, subst}
use Rattle.cp_scope.specs.Places.{ArePlacesOf}
use Rattle.cp_scope.proofs.NamesInUse.{on_ok}
use Rattle.cp_scope.proofs.name_set.push_both.Goals as goal

pub returns-clause-places : goal.returns-clause-places
returns-clause-places c h =
    let names = c.args.names.now.items in
    let pushed = ap (λ x. names ++ x ∷ []) (c.in_ok-bytes.ensures.items ∙ c.as_bytes.ensures) ∙ sym c.in_ok-push.ensures.items in
    subst (λ (ns : List (List ℕ)). ArePlacesOf ns c.put_place.new.places) pushed
    (on_ok c.put_place.result _ (sym c.is_err.ensures.value ∙ c.if-is_err.false) c.put_place.ensures.put names (c.len-place.ensures ∙ c.args.names.now.ok.0) h)
