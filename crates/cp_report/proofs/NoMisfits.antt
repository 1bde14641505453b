-- Lists without misfits.
use Rattle.std.proofs.Common.{◌≡◌, List, [], ◌∷◌, ◌++◌, Bool, true, false, refl}
use Rattle.cp_base.specs.declared.place.Place.{Place}
use Rattle.cp_lists.specs.Lists.{IsIn, here, there}
use Rattle.cp_lists.proofs.Appended.{none_in_both}
use Rattle.cp_sexpr.specs.Syntax.{Form}
use Rattle.cp_report.specs.Misfits.{misfit_unless, unless_misfit, where_fitting, each_misfits}

pub none_in_five : (ps qs rs ss ts : List Place) → ps ++ qs ++ rs ++ ss ++ ts ≡ [] → (ps ≡ []) × (qs ≡ []) × (rs ≡ []) × (ss ≡ []) × (ts ≡ [])
none_in_five ps qs rs ss ts e =
    let four = none_in_both (ps ++ qs ++ rs ++ ss) ts e in
    let three = none_in_both (ps ++ qs ++ rs) ss four.0 in
    let two = none_in_both (ps ++ qs) rs three.0 in
    let one = none_in_both ps qs two.0 in
    (one.0, one.1, two.1, three.1, four.1)

pub none_of_unless : (ps qs : List Place) → unless_misfit ps qs ≡ [] → (ps ≡ []) × (qs ≡ [])
none_of_unless [] qs e = (refl, e)
none_of_unless (p ∷ ps) qs e = absurd (cc)

-- If others are asked where the first list has no misfit, they have none there.
pub none_where_fitting : (ps qs : List Place) → where_fitting ps qs ≡ [] → ps ≡ [] → qs ≡ []
none_where_fitting [] qs e n = e
none_where_fitting (p ∷ ps) qs e n = absurd (cc)

pub holds : (b : Bool) (at : Place) → misfit_unless b at ≡ [] → b ≡ true
holds true at e = refl
holds false at e = absurd (cc)

-- none of each form
pub none_of_each : (inside : Form → List Place) (fs : List Form) → each_misfits inside fs ≡ [] → (f : Form) → IsIn f fs → inside f ≡ []
none_of_each inside [] e f m = elim m [ ]
none_of_each inside (g ∷ fs) e f here = (none_in_both (inside g) (each_misfits inside fs) e).0
none_of_each inside (g ∷ fs) e f (there m) = none_of_each inside fs (none_in_both (inside g) (each_misfits inside fs) e).1 f m
