use Rattle.std.proofs.Common.{rules, ◌≡◌, ◌+◌, ◌≤◌, ◌∙◌, List, min, length, refl, sym, ap, ap₂, subst, arith}
use Rattle.cp_model.specs.Bindings.{bindings_of}
use Rattle.cp_model.specs.Same.{has_variable}
use Rattle.cp_model.specs.Problem.{IsDeclared}
use Rattle.cp_model.specs.Strand.{Role, prefix_of, variables_of_prefix}
use Rattle.cp_unify.specs.Bindings.{Binding, Meets}
use Rattle.cp_collapse.specs.FirstPartitions.{IsExactFor}
use Rattle.cp_collapse.proofs.Prefixes.{AgreeBelow, variable_at, closed_lower, at_declaration, given_first, below_passes, below_takes, below_apart, below_never, below_last, equal_below, term_there}
use Rattle.cp_collapse.proofs.equal_values.unify_instances.Goals.{After-occurs}
use Rattle.cp_collapse.proofs.equal_values.unify_instances.Goals as goal

pub loop-number-init : goal.loop-number-init
loop-number-init c =
    let a = c.args.a.now in
    let b = c.args.b.now in
    let same : c.in_ok-bindings.bindings.value ≡ c.args.given.now.value = search rules in
    given_first a.role (min a.height b.height) (bindings_of a.values) (bindings_of b.values) c.args.given.now.value c.in_ok-bindings.bindings.value c.requires.solved same

-- The variable at hand is declared, and the test says whether it occurs in the shorter prefix.
at_hand : (c : After-occurs) → IsDeclared c.args.a.now.role.variables (variable_at c.declaration-item.result c.loop-number.number)
    × (has_variable (variables_of_prefix c.args.a.now.role (min c.args.a.now.height c.args.b.now.height)) (variable_at c.declaration-item.result c.loop-number.number) ≡ c.occurs.result)
at_hand c =
    let role = c.args.a.now.role in
    let lower : c.min.result ≡ min c.args.a.now.height c.args.b.now.height = c.min.ensures ∙ ap₂ min c.height.ensures c.height-2.ensures in
    at_declaration role c.deref.result.now (min c.args.a.now.height c.args.b.now.height) c.loop-number.number _ _ c.declaration-item.result _ _ c.loop-number-test.true c.declaration-item.is
    (c.variables-declaration-items.ensures ∙ ap (λ (r : Role). r.variables) (c.deref-2.ensures ∙ c.role-2.ensures)) (c.prefix_of-events.ensures ∙ ap (prefix_of c.deref.result.now) lower) (c.deref.ensures ∙ c.role.ensures) c.numbered-id.ensures c.occurs.ensures

pub loop-number-preserved-then-not-occurs : goal.loop-number-preserved-then-not-occurs
loop-number-preserved-then-not-occurs c =
    let a = c.args.a.now in
    let b = c.args.b.now in
    let at = at_hand (goal.at.loop-number-preserved-then-not-occurs c).After-occurs in
    below_passes (λ g. Meets g c.args.given.now.value) a.role (min a.height b.height) (bindings_of a.values) (bindings_of b.values) (closed_lower a.role a.height b.height c.requires.declared) c.loop-number.number c.loop-number.bindings.value c.loop-number.invariant (variable_at c.declaration-item.result c.loop-number.number) refl at.0 (at.1 ∙ c.if-not-occurs.true)

pub loop-number-preserved : goal.loop-number-preserved
loop-number-preserved c =
    let a = c.args.a.now in
    let b = c.args.b.now in
    let at = at_hand (goal.at.loop-number-preserved c).After-occurs in
    let general = rw c.deref-in-loop-number.ensures at (rw c.in-Some.is at c.in_ok-next.ensures.some) in
    let taken = below_takes (λ g. Meets g c.args.given.now.value) a.role (min a.height b.height) (bindings_of a.values) (bindings_of b.values) (closed_lower a.role a.height b.height c.requires.declared) c.loop-number.number c.loop-number.bindings.value c.loop-number.invariant (variable_at c.declaration-item.result c.loop-number.number) refl at.0
    (at.1 ∙ c.if-not-occurs.false) c.in_ok-first.first c.in_ok-second.second
    (term_there a.values c.values-first_values.result.now _ _ c.in_ok-first.first c.values-first_values.ensures (ap (variable_at c.declaration-item.result) c.numbered-id.ensures) c.in_ok-first.ensures)
    (term_there b.values c.values-second_values.result.now _ _ c.in_ok-second.second c.values-second_values.ensures (ap (variable_at c.declaration-item.result) c.numbered-id.ensures) c.in_ok-second.ensures) c.in-Some.next general in
    subst (λ (r : List Binding). IsExactFor (AgreeBelow (λ g. Meets g c.args.given.now.value) a.role (min a.height b.height) (bindings_of a.values) (bindings_of b.values) (c.loop-number.number + 1)) r) (sym c.in_ok-bindings-in-Some.ensures.ok) taken

pub returns-then-never_agree : goal.returns-then-never_agree
returns-then-never_agree c = λ g f.
    let a = c.args.a.now in
    let b = c.args.b.now in
    let at = at_hand (goal.at.returns-then-never_agree c).After-occurs in
    let numbered = ap (variable_at c.declaration-item.result) c.numbered-id.ensures in
    below_apart (λ g. Meets g c.args.given.now.value) a.role (min a.height b.height) (bindings_of a.values) (bindings_of b.values) (closed_lower a.role a.height b.height c.requires.declared) c.loop-number.number c.loop-number.bindings.value c.loop-number.invariant (variable_at c.declaration-item.result c.loop-number.number) refl at.0
    (at.1 ∙ c.if-not-occurs.false) _ _
    (term_there a.values c.values-first_values.result.now _ _ _ c.values-first_values.ensures numbered refl)
    (term_there b.values c.values-second_values.result.now _ _ _ c.values-second_values.ensures numbered refl)
    (c.never_agree.ensures c.if-never_agree.true)
    g (equal_below (λ g. Meets g c.args.given.now.value) a.role (min a.height b.height) (bindings_of a.values) (bindings_of b.values) _ a.height b.height (omega arith) (omega arith) g f)

pub returns-in-None : goal.returns-in-None
returns-in-None c = λ g f.
    let a = c.args.a.now in
    let b = c.args.b.now in
    let at = at_hand (goal.at.returns-in-None c).After-occurs in
    let first = term_there a.values c.values-first_values.result.now _ _ c.in_ok-first.first c.values-first_values.ensures (ap (variable_at c.declaration-item.result) c.numbered-id.ensures) c.in_ok-first.ensures in
    let second = term_there b.values c.values-second_values.result.now _ _ c.in_ok-second.second c.values-second_values.ensures (ap (variable_at c.declaration-item.result) c.numbered-id.ensures) c.in_ok-second.ensures in
    let none = rw c.deref-in-loop-number.ensures at (rw c.in-None.is at c.in_ok-next.ensures.none) in
    below_never (λ g. Meets g c.args.given.now.value) a.role (min a.height b.height) (bindings_of a.values) (bindings_of b.values) (closed_lower a.role a.height b.height c.requires.declared) c.loop-number.number c.loop-number.bindings.value c.loop-number.invariant (variable_at c.declaration-item.result c.loop-number.number) refl at.0
    (at.1 ∙ c.if-not-occurs.false) c.in_ok-first.first c.in_ok-second.second first second none
    g (equal_below (λ g. Meets g c.args.given.now.value) a.role (min a.height b.height) (bindings_of a.values) (bindings_of b.values) _ a.height b.height (omega arith) (omega arith) g f)

pub returns : goal.returns
returns c =
    let l = c.loop-number in
    let a = c.args.a.now in
    let b = c.args.b.now in
    let ds = c.variables-declaration-items.result.now in
    let are : ds ≡ a.role.variables = c.variables-declaration-items.ensures ∙ ap (λ (r : Role). r.variables) (c.deref-2.ensures ∙ c.role-2.ensures) in
    below_last (λ g. Meets g c.args.given.now.value) a.role (min a.height b.height) (bindings_of a.values) (bindings_of b.values) (closed_lower a.role a.height b.height c.requires.declared) l.number l.bindings.value l.invariant
    a.height b.height refl (subst (λ vs. length vs ≤ l.number) are c.loop-number-test.false)
