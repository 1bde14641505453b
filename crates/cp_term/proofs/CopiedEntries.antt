-- Copies of entries of the table of variables.
use Rattle.std.proofs.Common.{◌≡◌, List, [], ◌∷◌, ◌++◌, map, refl, ap, ap₂, ◌∙◌}
use Rattle.std.specs.List.{AllZip, AppendsClones}
use Rattle.std.proofs.lemmas.List.{map-append}
use Rattle.cp_model.specs.declared.variable.Declaration.{Declaration}
use Rattle.cp_term.specs.declared.variable.Entry.{Entry}
use Rattle.cp_term.specs.Entries.{declared_by}

abbrev pub IsCopy : Entry → Entry → Type 0
IsCopy e copy = declared_by copy ≡ declared_by e

one_by_one : (es copies : List Entry) → AllZip IsCopy es copies → map declared_by copies ≡ map declared_by es
one_by_one [] [] h = refl
one_by_one [] (f ∷ fs) h = absurd h
one_by_one (e ∷ es) [] h = absurd h
one_by_one (e ∷ es) (f ∷ fs) h = ap₂ (λ (d : Declaration) (ds : List Declaration). d ∷ ds) h.0 (one_by_one es fs h.1)

copied : (old new more : List Entry) → AppendsClones IsCopy old new more → map declared_by new ≡ map declared_by old ++ map declared_by more
copied old new more h =
    ap (λ (es : List Entry). map declared_by es) h.1 ∙ map-append declared_by old h.0 ∙ ap (λ (ds : List Declaration). map declared_by old ++ ds) (one_by_one more h.0 h.2)

-- A list to which copies of some entries and then of others were appended, from none on, declares what both do.
pub both_copied : (none first second some others : List Entry) → none ≡ [] → AppendsClones IsCopy none first some → AppendsClones IsCopy first second others
    → map declared_by second ≡ map declared_by some ++ map declared_by others
both_copied none first second some others e h k =
    copied first second others k
    ∙ ap (λ (ds : List Declaration). ds ++ map declared_by others)
    (copied none first some h ∙ ap (λ (es : List Entry). map declared_by es ++ map declared_by some) e)
