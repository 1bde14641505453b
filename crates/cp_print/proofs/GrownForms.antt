-- Lists of pairs that are being made, by their forms.
use Rattle.std.proofs.Common.{◌≡◌, false, List, [], ◌++◌, map, sym, ap, ◌∙◌, append_assoc}
use Rattle.std.proofs.lemmas.List.{append-nil}
use Rattle.cp_base.specs.Growing.{Growth, growth, Grows, seen}
use Rattle.cp_model.specs.declared.node.OrderPair.{OrderPair}
use Rattle.cp_sexpr.specs.Syntax.{Form}
use Rattle.cp_print.specs.Order.{pair_form}

-- What is still to be made of the whole, behind what was made.
abbrev pub StillToMake : Growth OrderPair → List Form → List Form → Type 0
StillToMake g rest whole = g.ran_out ≡ false → map pair_form g.items ++ rest ≡ whole

pub made_none : (g : Growth OrderPair) (whole : List Form) → g.items ≡ [] → StillToMake g whole whole
made_none g whole e = λ h. ap (λ xs. map pair_form xs ++ whole) e

pub made_more : (old new : Growth OrderPair) (fs before after whole : List Form) → Grows (seen pair_form old) (seen pair_form new) fs → before ≡ fs ++ after → StillToMake old before whole → StillToMake new after whole
made_more old new fs before after whole g e i = λ h.
    let w = g.whole h in
    ap (λ xs. xs ++ after) w.1 ∙ append_assoc (map pair_form old.items) fs after ∙ ap (λ xs. map pair_form old.items ++ xs) (sym e) ∙ i w.0

pub made_all : (g : Growth OrderPair) (ps : List OrderPair) (rest whole : List Form) → StillToMake g rest whole → rest ≡ [] → growth ps false ≡ g → map pair_form ps ≡ whole
made_all g ps rest whole i e h =
    ap (map pair_form) (ap (λ x. x.items) h) ∙ sym (append-nil (map pair_form g.items)) ∙ ap (λ xs. map pair_form g.items ++ xs) (sym e) ∙ i (ap (λ x. x.ran_out) (sym h))
