-- Faults of the items of a role or a problem, by their heads.
use Rattle.std.proofs.Common.{◌≡◌, List, [], ◌∷◌, ◌++◌, Bool, true, false, refl, ap, ◌∙◌, if◌then◌else◌}
use Rattle.cp_lists.proofs.Appended.{none_before, none_behind}
use Rattle.cp_base.specs.declared.place.Refusal.{Refusal}
use Rattle.cp_sexpr.specs.Syntax.{Form}
use Rattle.cp_language.specs.Roles.{unless_faulty, each_faults}

-- no fault in both lists
pub each_faultless : (faults : Form → List Refusal) (xs ys : List Form) → each_faults faults xs ≡ [] → each_faults faults ys ≡ [] → each_faults faults (xs ++ ys) ≡ []
each_faultless faults [] ys e f = f
each_faultless faults (x ∷ xs) ys e f =
    let first = none_before (faults x) (each_faults faults xs) e in
    let rest = each_faultless faults xs ys (none_behind (faults x) (each_faults faults xs) e) f in
    ap (λ (rs : List Refusal). rs ++ each_faults faults (xs ++ ys)) first ∙ rest

-- the forms behind one head more
pub under_one : (b : Bool) (faults : Form → List Refusal) (items rest : List Form) → (if b then each_faults faults items else []) ≡ [] → each_faults faults rest ≡ [] →
    each_faults faults (if b then items ++ rest else rest) ≡ []
under_one true faults items rest e f = each_faultless faults items rest e f
under_one false faults items rest e f = f

-- no fault of a form, and none that is told where it has no other
pub unless_parts : (rs others : List Refusal) → unless_faulty rs others ≡ [] → (rs ≡ []) × (others ≡ [])
unless_parts [] others e = (refl, e)
unless_parts (r ∷ rs) others e = absurd (cc)
