use Rattle.std.proofs.Common.{◌≡◌}
use Rattle.std.proofs.lemmas.Result.{IfOk-weaker}
use Rattle.cp_model.specs.Term.{apply_to}
use Rattle.cp_hom.specs.PartialMaps.{partial_view, IsExtended, FindsMaps}
use Rattle.cp_hom.specs.Counterparts.{MakesPart}
use Rattle.cp_hom.proofs.PairedItems.{finds_two}
use Rattle.cp_hom.proofs.placed_items.place_pair.Goals as goal

pub returns-in-Some : goal.returns-in-Some
returns-in-Some c =
    let given = partial_view c.args.given in
    let found = partial_view c.in-Some.found in
    let extended : IsExtended (λ f. f.strands c.in-Strands.strand ≡ c.in-Strands.image) given found = rw c.in-Some.is at c.in_ok-found-in-Strands.ensures in
    IfOk-weaker c.match_strands.result (FindsMaps (λ f. MakesPart f.terms c.in-Strands.from.now c.in-Strands.to.now) found) _
    (λ answer h. rw c.in-Strands.is
    (finds_two (λ f. f.strands c.in-Strands.strand ≡ c.in-Strands.image) (λ f. MakesPart f.terms c.in-Strands.from.now c.in-Strands.to.now) given found answer extended h))
    c.match_strands.ensures

pub returns-in-Some-2 : goal.returns-in-Some-2
returns-in-Some-2 c =
    let given = partial_view c.args.given in
    let found = partial_view c.in-Some-2.found in
    let extended : IsExtended (λ f. f.strands c.in-Origins.strand ≡ c.in-Origins.image) given found = rw c.in-Some-2.is at c.in_ok-found-in-Origins.ensures in
    IfOk-weaker c.match_terms-in-Some-2.result (FindsMaps (λ f. apply_to f.terms c.in-Origins.from.now ≡ c.in-Origins.to.now) found) _
    (λ answer h. rw c.in-Origins.is
    (finds_two (λ f. f.strands c.in-Origins.strand ≡ c.in-Origins.image) (λ f. apply_to f.terms c.in-Origins.from.now ≡ c.in-Origins.to.now) given found answer extended h))
    c.match_terms-in-Some-2.ensures
