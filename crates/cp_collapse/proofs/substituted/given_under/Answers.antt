use Rattle.std.proofs.Common.{map, ap, ◌∙◌}
use Rattle.cp_model.specs.Term.{apply_to_atom}
use Rattle.cp_unify.specs.Bindings.{as_substitution}
use Rattle.cp_collapse.specs.Held.{indexed_under}
use Rattle.cp_collapse.proofs.substituted.given_under.Goals as goal

pub returns : goal.returns
returns c =
    let s = as_substitution c.args.s.now in
    record {
      non = c.in_ok-non_originating.ensures ∙ ap (map (apply_to_atom s)) c.deref.ensures.value;
      penetrator_non = c.in_ok-penetrator_non_originating.ensures ∙ ap (map (apply_to_atom s)) c.deref-2.ensures.value;
      unique = c.in_ok-uniquely_originating.ensures ∙ ap (map (indexed_under s)) c.deref-3.ensures.value;
    }
