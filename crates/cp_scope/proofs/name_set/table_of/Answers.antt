use Rattle.std.proofs.Common.{List, ℕ, ◌∷◌, [], ◌++◌, take, sym, ap, ◌∙◌, subst, arith}
use Rattle.std.proofs.lemmas.List.{take_more, take_all, length-take-le}
use Rattle.cp_scope.specs.Places.{ArePlacesOf}
use Rattle.cp_scope.proofs.name_set.table_of.Goals as goal

pub loop-number-preserved : goal.loop-number-preserved
loop-number-preserved c =
    let l = c.loop-number in
    let names = c.args.names.now in
    let x = c.index-names-number.result in
    let name = c.in_ok-name.ensures.items ∙ c.as_bytes.ensures ∙ c.index-names-number.is in
    let next = ap (λ y. take l.number names ++ y ∷ []) name ∙ sym (take_more names l.number x c.loop-number-test.true) in
    subst (λ (ns : List (List ℕ)). ArePlacesOf ns c.put_place.new.places) next (c.in_ok-put_place.ensures.put (take l.number names) (let here = length-take-le l.number names (omega arith) in omega (arith, here)) l.invariant)

pub returns : goal.returns
returns c = subst (λ (ns : List (List ℕ)). ArePlacesOf ns c.loop-number.places) (take_all c.loop-number.number c.args.names.now c.loop-number-test.false) c.loop-number.invariant
