use Rattle.std.proofs.Common.{rules, ◌≡◌, ◌≤◌, ◌<◌, ◌++◌, ◌∷◌, [], ◌∙◌, ℕ, length, arith, ap, subst}
use Rattle.cp_collapse.specs.Partials.{ArePartials}
use Rattle.cp_collapse.proofs.PartialLists.{first_partials}
use Rattle.cp_collapse.proofs.partitions.partitions.Goals as goal

pub loop-number-init : goal.loop-number-init
loop-number-init c =
    let nothing : c.in_ok-new.field-0.value ≡ [] = search rules in (
      omega arith,
      first_partials c.args.k.now (record { lowest = c.new.result; bindings = c.in_ok-new.field-0 }) _ c.new.ensures.items nothing
          (c.in_ok-push.ensures.items ∙ ap (λ xs. xs ++ (record { lowest = c.new.result; bindings = c.in_ok-new.field-0 } ∷ [])) c.new-partials.ensures.items),
    )

pub loop-number-preserved : goal.loop-number-preserved
loop-number-preserved c =
    let below : c.loop-number.number < length c.args.k.now.strands = search rules in
    (omega (arith, below), c.in_ok-partials.ensures)

pub returns : goal.returns
returns c =
    let done : length c.args.k.now.strands ≤ c.loop-number.number = search rules in
    let all : c.loop-number.number ≡ length c.args.k.now.strands = (let le = c.loop-number.invariant.0 in omega (arith, done, le)) in
    subst (λ (m : ℕ). ArePartials c.args.k.now m c.loop-number.partials.items) all c.loop-number.invariant.1
