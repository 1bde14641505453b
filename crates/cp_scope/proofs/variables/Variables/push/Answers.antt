use Rattle.std.proofs.Common.{ℕ, [], is_some, sym, ap, ◌∙◌}
use Rattle.std.specs.HashMap.{get_by}
use Rattle.std.specs.Str.{bytes_eq}
use Rattle.cp_language.specs.Terms.{variable_named}
use Rattle.cp_scope.proofs.NamesInUse.{on_ok}
use Rattle.cp_scope.proofs.DeclaredVariables.{variables-pushed, variables-again}
use Rattle.cp_scope.proofs.variables.Variables.push.Goals as goal

pub invariant_of-self-then-known : goal.invariant_of-self-then-known
invariant_of-self-then-known c t =
    let key = c.in_ok-key.ensures.items ∙ c.as_bytes.ensures.value ∙ c.as_str.ensures in
    let asked = sym c.contains_key-known.ensures ∙ c.if-known.true in
    let d = c.args.declaration in
    let more = c.in_ok-push.ensures.items in
    variables-again c.self.inside.declarations.items d c.self.inside.table c.self.inside.table c.in_ok-key.key (record { sort = c.args.declaration.sort; number = 0 }) c.self.invariant
    (ap (λ bs. is_some (get_by (λ y. bytes_eq bs y.items) c.self.inside.table)) (sym (c.as_slice.ensures.value ∙ key)) ∙ asked) t
    ∙ ap (λ ds. variable_named ds t) (sym more)

pub invariant_of-self-else-is_err : goal.invariant_of-self-else-is_err
invariant_of-self-else-is_err c t =
    let key = c.in_ok-key.ensures.items ∙ c.as_bytes.ensures.value ∙ c.as_str.ensures in
    let asked = sym c.contains_key-known.ensures ∙ c.if-known.false in
    let put = on_ok c.insert.result _ (sym c.is_err.ensures.value ∙ c.if-is_err.false) c.insert.ensures.updates in
    let d = c.args.declaration in
    let more = c.in_ok-push.ensures.items in
    variables-pushed c.self.inside.declarations.items d c.self.inside.table c.insert.new.self c.in_ok-key.key (record { sort = c.args.declaration.sort; number = c.len-number.result })
    (ap (λ (n : ℕ). record { sort = d.sort; number = n }) (c.len-number.ensures ∙ c.self.inside.declarations.ok.0)) c.self.invariant
    (ap (λ bs. is_some (get_by (λ y. bytes_eq bs y.items) c.self.inside.table)) (sym (c.as_slice.ensures.value ∙ key)) ∙ asked) key put t
    ∙ ap (λ ds. variable_named ds t) (sym more)
