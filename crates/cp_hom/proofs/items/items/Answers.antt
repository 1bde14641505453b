use Rattle.std.proofs.Common.{◌≡◌, List, false, sym, ap, ◌∙◌, subst}
use Rattle.std.proofs.lemmas.Result.{IfOk-weaker}
use Rattle.cp_base.specs.Growing.{Growth}
use Rattle.cp_hom.specs.Counterparts.{AreItemsOf, AddsAll}
use Rattle.cp_hom.specs.declared.items.Kind.TheVariants.{Strands}
use Rattle.cp_hom.specs.declared.items.Item.{Item}
use Rattle.cp_hom.proofs.Itemised.{all_behind, all_of_them}
use Rattle.cp_hom.proofs.items.items.Goals as goal

pub returns : goal.returns
returns c =
    IfOk-weaker c.finish.result _ _
    (λ v is.
    let k = c.args.k.now in
    let d = c.add_items-3.new.items in
    let out : d.ran_out ≡ false = ap (λ (g : Growth Item). g.ran_out) (sym is) in
    let fourth = c.add_items-3.ensures out in
    let third = c.add_items-2.ensures fourth.0 in
    let second = c.add_items.ensures third.0 in
    let first = c.add_strands.ensures second.0 in
    let sharing = c.add_sharing_strands.ensures first.0 in
    let none = ap (λ (g : Growth Item). g.items) c.from_items-items.ensures ∙ c.new.ensures.items in
    subst (AreItemsOf k) (sym (ap (λ (g : Growth Item). g.items) is))
    (all_of_them k c.add_strands.new.items.items c.add_items.new.items.items c.add_items-2.new.items.items d.items
    (subst (λ (xs : List Item). AddsAll Strands k xs c.add_strands.new.items.items) none
    (all_behind Strands k c.from_items-items.result.items c.add_sharing_strands.new.items.items c.add_strands.new.items.items sharing.1 first.1))
    second.1 third.1 fourth.1))
    c.finish.ensures.ok
