-- A list while it is being made.
use Rattle.std.proofs.Common.{◌≡◌, true, false, List, [], ◌∷◌, ◌++◌, sym, ap, ◌∙◌, append_assoc, Result, Ok, Err, IfOk}
use Rattle.std.specs.Result.{OnErr}
use Rattle.std.proofs.lemmas.List.{append-nil}
use Rattle.cp_base.specs.Growing.{Growth, growth, Grows}

-- What is still to be made of the whole stands behind what was made, unless memory ran out.
abbrev pub StillToMake : {T : Type 0} → Growth T → List T → List T → Type 0
StillToMake g rest whole = g.ran_out ≡ false → g.items ++ rest ≡ whole

-- One more was made.
pub one_made : {T E : Type 0} (r : Result T E) (old new : Growth T) (x : T) (before after whole : List T) →
    IfOk r (λ g. Grows old new (g ∷ [])) → OnErr r (new ≡ growth old.items true) → IfOk r (λ g. g ≡ x) → before ≡ x ∷ after → StillToMake old before whole → StillToMake new after whole
one_made (Ok g) old new x before after whole grown none is next left = λ in_memory.
    let more = grown.whole in_memory in
    ap (λ xs. xs ++ after) more.1 ∙ (append_assoc old.items (g ∷ []) after ∙ (ap (λ y. old.items ++ (y ∷ after)) is ∙ (ap (λ xs. old.items ++ xs) (sym next) ∙ left more.0)))
one_made (Err e) old new x before after whole grown none is next left = λ in_memory.
    let b : true ≡ false = sym (ap (λ g. g.ran_out) none) ∙ in_memory in
    absurd (cc)

-- The whole was made.
pub all_made : {T : Type 0} (g : Growth T) (made rest whole : List T) → StillToMake g rest whole → rest ≡ [] → growth made false ≡ g → made ≡ whole
all_made g made rest whole left none is =
    ap (λ h. h.items) is
    ∙ (sym (append-nil g.items) ∙ (ap (λ xs. g.items ++ xs) (sym none) ∙ left (ap (λ h. h.ran_out) (sym is))))
