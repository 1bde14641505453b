use Rattle.std.proofs.Common.{◌≡◌, [], Some, sym, ap, ◌∙◌, subst}
use Rattle.cp_lists.specs.Lists.{item_at}
use Rattle.cp_lists.proofs.Items.{item_of_read}
use Rattle.cp_model.specs.Bindings.{bindings_of}
use Rattle.cp_model.specs.PrefixVariables.{AreTermsFor}
use Rattle.cp_strand.specs.Shapes.{strand_of_shape}
use Rattle.cp_strand.specs.View.{instance_view}
use Rattle.cp_input_tests.proofs.copies.can_extend.Goals as goal

pub returns-in-Instance : goal.returns-in-Instance
returns-in-Instance c =
    let s = c.args.strand in
    let strand = c.in-Some.strand.now in
    let i = c.in-Instance.instance.now in
    let at : item_at c.args.k.now.strands s ≡ Some strand = ap (λ ss. item_at ss s) (sym c.strands.ensures) ∙ item_of_read c.strands.result.now s strand c.in-Some.ensures.lookup.3.0 c.in-Some.ensures.lookup.1 in
    let is : strand ≡ instance_view i = sym c.shape.ensures ∙ ap strand_of_shape c.in-Instance.is in
    λ yes. record {
      role = i.role;
      before = i.height;
      terms = bindings_of i.values;
      on_instance = at ∙ ap (λ x. Some x) is;
      higher = c.grows_to.ensures.higher yes;
      reached = c.grows_to.ensures.reached yes;
      fitting = subst (λ xs. AreTermsFor xs []) (sym (c.grows_to.ensures.none yes)) tt;
    }
