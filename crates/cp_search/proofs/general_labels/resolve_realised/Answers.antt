use Rattle.cp_general.specs.Generalisation.{GeneralisesTo}
use Rattle.cp_search.proofs.LabelGeneralised.{ends_most_general, of_some, known_own, found_own, found_other}
use Rattle.cp_search.proofs.general_labels.resolve_realised.Goals as goal

pub returns-then-label-clause-resolved : goal.returns-then-label-clause-resolved
returns-then-label-clause-resolved c =
    let label = c.label-label.result.now in
    known_own c.args.number c.args.queue.now.made label c.label-label.ensures c.are_found.ensures c.if-label.true

pub returns-in_default-clause-resolved : goal.returns-in_default-clause-resolved
returns-in_default-clause-resolved c =
    let label = c.label-label.result.now in
    found_own c.args.number c.args.queue.now.made label c.label-label.ensures c.in_ok-skeleton.field-0 c.in_ok-skeleton.ensures.none c.in_default.is

pub make-requires : goal.make-requires
make-requires c =
    let label = c.label-label.result.now in
    record {
      parent = c.requires.there;
      general = λ _. ends_most_general (of_some c.in_ok-skeleton.field-0 c.in-Some.skeleton (λ g. GeneralisesTo label.skeleton g) c.in_ok-skeleton.ensures.some c.in-Some.is);
    }

pub returns-clause-resolved : goal.returns-clause-resolved
returns-clause-resolved c =
    let label = c.label-label.result.now in
    let g = c.in-Some.skeleton in
    found_other c.args.number c.len-child.result c.args.queue.now.made c.make.new.queue.made label g c.label-label.ensures c.if-label.false
    (of_some c.in_ok-skeleton.field-0 g (λ g. GeneralisesTo label.skeleton g) c.in_ok-skeleton.ensures.some c.in-Some.is)
    c.in_ok-make.ensures.made c.in_ok-make.ensures.general c.generalised_labels_are_sound.ensures c.len-child.ensures
