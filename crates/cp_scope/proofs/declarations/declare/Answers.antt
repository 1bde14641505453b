use Rattle.std.proofs.Common.{◌≡◌, ◌++◌, ◌∷◌, [], List, ℕ, ap, ◌∙◌}
use Rattle.cp_model.specs.declared.sort.Sort.{Sort}
use Rattle.cp_model.specs.declared.variable.Declaration.{Declaration}
use Rattle.cp_sexpr.specs.View.{view}
use Rattle.cp_language.specs.Names.{identifiers_in}
use Rattle.cp_language.specs.Roles.{text_of_symbol, sort_or_text, identifier_faults}
use Rattle.cp_scope.specs.FirstFault.{first_onto}
use Rattle.cp_scope.proofs.DeclaredIdentifiers.{identifiers-taken, declared-taken}
use Rattle.cp_scope.proofs.declarations.declare.Goals as goal

pushed : (old new : List Declaration) (d : Declaration) (t : List ℕ) (s : Sort) → new ≡ old ++ d ∷ [] → d.identifier ≡ t → d.sort ≡ s
    → new ≡ old ++ record { identifier = t; sort = s } ∷ []
pushed old new d t s e f g =
    let made : Declaration → List Declaration = λ x. old ++ x ∷ [] in
    let one : d ≡ record { identifier = t; sort = s } = λ i. record { identifier = f i; sort = g i } in
    e ∙ ap made one

pub loop-form-preserved : goal.loop-form-preserved
loop-form-preserved c =
    let word = c.args.word in
    let ds = c.loop-form.variables in
    let same = pushed c.loop-form.variables c.push.new.self _ (text_of_symbol (view c.form-item.result)) (sort_or_text word) c.in_ok-push.ensures c.in_ok-identifier.ensures c.sort_or_text.ensures in
    let faults : c.identifier_faults.new.first ≡ first_onto c.loop-form.first (identifier_faults (identifiers_in ds) word (view c.form-item.result)) =
    c.identifier_faults.ensures in (
      identifiers-taken word c.args.identifiers.now c.loop-form.form-index c.form-item.result c.loop-form-test.true c.form-item.is ds c.push.new.self
          c.loop-form.first c.identifier_faults.new.first _ same faults c.loop-form.invariant.0,
      declared-taken word c.args.identifiers.now c.loop-form.form-index c.form-item.result c.loop-form-test.true c.form-item.is ds c.push.new.self _ same c.loop-form.invariant.1,
    )
