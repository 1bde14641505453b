use Rattle.std.proofs.Common.{◌≡◌, refl, sym, ap, ◌∙◌}
use Rattle.std.proofs.lemmas.Result.{IfOk-weaker}
use Rattle.cp_model.specs.Strand.{prefix_of}
use Rattle.cp_escape.proofs.SameStrandLists.{same_by_values, agree_exactly}
use Rattle.cp_escape.proofs.same_strands.is_same_instance.Goals as goal

pub returns-then-are_same_terms : goal.returns-then-are_same_terms
returns-then-are_same_terms c =
    let role : c.args.a.now.role ≡ c.args.b.now.role = sym (ap (λ r. r) c.deref.ensures ∙ c.role.ensures) ∙ c.is_same_role.ensures.0 c.if-not-is_same_role.false ∙ (c.deref-2.ensures ∙ c.role-2.ensures) in
    let height : c.args.a.now.height ≡ c.args.b.now.height = sym c.height.ensures ∙ c.if-height.false ∙ c.height-2.ensures in
    let values : c.args.a.now.values ≡ c.args.b.now.values = sym c.values.ensures ∙ c.are_same_terms.ensures.0 c.if-are_same_terms.true ∙ c.values-2.ensures in
    (λ _. same_by_values c.args.a.now c.args.b.now role height values, λ _. refl)

pub returns : goal.returns
returns c =
    let role : c.args.a.now.role ≡ c.args.b.now.role = sym (ap (λ r. r) c.deref.ensures ∙ c.role.ensures) ∙ c.is_same_role.ensures.0 c.if-not-is_same_role.false ∙ (c.deref-2.ensures ∙ c.role-2.ensures) in
    let height : c.args.a.now.height ≡ c.args.b.now.height = sym c.height.ensures ∙ c.if-height.false ∙ c.height-2.ensures in
    IfOk-weaker c.agree_on.result _ _
    (λ answer h. agree_exactly c.args.a.now c.args.b.now role height _ (c.prefix_of-events.ensures ∙ ap (λ r. prefix_of r c.height-3.result) (c.deref-3.ensures ∙ c.role-3.ensures) ∙ ap (prefix_of c.args.a.now.role) c.height-3.ensures)
    c.values-3.result.now c.values-4.result.now c.values-3.ensures c.values-4.ensures answer h)
    c.agree_on.ensures
