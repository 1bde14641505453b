use Rattle.std.proofs.Common.{is_some, sym, ap, refl, ◌∙◌}
use Rattle.std.specs.HashMap.{get_by}
use Rattle.std.specs.Str.{bytes_eq}
use Rattle.cp_scope.proofs.NamesInUse.{on_ok, on_err, places-pushed, places-again}
use Rattle.cp_scope.proofs.name_set.put_place.Goals as goal

pub returns-then-contains_key-clause-put : goal.returns-then-contains_key-clause-put
returns-then-contains_key-clause-put c names at h =
    places-again names c.args.name.items c.args.places.now c.args.places.now c.args.name h
    (ap (λ bs. is_some (get_by (λ y. bytes_eq bs y.items) c.args.places.now)) (sym c.as_slice.ensures.value) ∙ sym c.contains_key.ensures ∙ c.if-contains_key.true)

pub returns-clause-put : goal.returns-clause-put
returns-clause-put c names at h =
    places-pushed names c.args.name.items c.args.places.now c.insert.new.self c.args.name c.args.place at h
    (ap (λ bs. is_some (get_by (λ y. bytes_eq bs y.items) c.args.places.now)) (sym c.as_slice.ensures.value) ∙ sym c.contains_key.ensures ∙ c.if-contains_key.false) refl
    (on_ok c.insert.result _ (sym c.is_err.ensures.value ∙ c.if-is_err.false) c.insert.ensures.updates)

pub returns-then-is_err-clause-unchanged : goal.returns-then-is_err-clause-unchanged
returns-then-is_err-clause-unchanged c = on_err c.insert.result _ (sym c.is_err.ensures.value ∙ c.if-is_err.true) c.insert.ensures.err
