use Rattle.cp_model.specs.Homomorphism.{substitution_by}
use Rattle.cp_model.specs.Term.{composed}
use Rattle.cp_unify.specs.Bindings.{as_substitution}
use Rattle.cp_collapse.proofs.DeclaredTerms.{declaration_next, declarations_end, image_composed}
use Rattle.cp_collapse.proofs.variable_terms.declared_terms.Goals as goal

pub loop-number-preserved : goal.loop-number-preserved
loop-number-preserved c =
    let l = c.loop-number in
    let d = c.index-declarations-number.result in
    declaration_next (composed (substitution_by c.args.terms.now) (as_substitution c.args.s.now)) c.args.declarations.now l.number d c.loop-number-test.true c.index-declarations-number.is
    l.changed.items c.push.new.self.items _ c.in_ok-term.term l.invariant
    (image_composed (substitution_by c.args.terms.now) (as_substitution c.args.s.now) (record { sort = d.sort; number = l.number }) c.numbered-id.result c.in_ok-term.term c.numbered-id.ensures c.in_ok-term.ensures)
    c.in_ok-push.ensures.items

pub returns : goal.returns
returns c =
    let l = c.loop-number in
    declarations_end (composed (substitution_by c.args.terms.now) (as_substitution c.args.s.now)) c.args.declarations.now l.number l.changed.items _ c.loop-number-test.false l.invariant
