use Rattle.std.proofs.Common.{◌≡◌, ◌∙◌, Some, refl, sym, ap}
use Rattle.std.proofs.lemmas.Result.{IfOk-weaker}
use Rattle.cp_lists.specs.Lists.{item_at}
use Rattle.cp_strand.specs.View.{instance_view}
use Rattle.cp_collapse.proofs.Options.{option_weaker}
use Rattle.cp_collapse.proofs.Joined.{if_alike, never_strands, exact_strands, declared_at}
use Rattle.cp_collapse.proofs.partitions.unify_strands.Goals as goal

pub unify_instances-requires-clause-declared : goal.unify_instances-requires-clause-declared
unify_instances-requires-clause-declared c =
    declared_at c.args.k.now c.args.s c.in-Some.first.now c.requires.declared (ap (λ xs. item_at xs c.args.s) (sym c.strands.ensures) ∙ c.in-Some.ensures.some)

pub returns : goal.returns
returns c =
    let ss = c.args.k.now.strands in
    let a = c.in-Some.first.now in
    let b = c.in-Some-instance_at.second.now in
    let at : item_at ss c.args.s ≡ Some (instance_view a) = ap (λ xs. item_at xs c.args.s) (sym c.strands.ensures) ∙ c.in-Some.ensures.some in
    let bt : item_at ss c.args.t ≡ Some (instance_view b) = ap (λ xs. item_at xs c.args.t) (sym c.strands-2.ensures) ∙ c.in-Some-instance_at.ensures.some in
    let same : a.role ≡ b.role = if_alike ss c.args.s c.args.t a b at bt c.requires.alike in
    IfOk-weaker c.unify_instances.result _ _
    (λ found h. option_weaker found _ _ _ _
    (never_strands ss c.args.s c.args.t a b at bt c.args.k.now refl same c.args.given.now.value)
    (λ r e. exact_strands ss c.args.s c.args.t a b at bt c.args.k.now refl same c.args.given.now.value r.value e) h)
    c.unify_instances.ensures
