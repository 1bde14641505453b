-- Terms that are paired from the last on.
use Rattle.std.proofs.Common.{◌≡◌, List, [], ◌∷◌, ◌++◌, refl, sym, ap, ◌∙◌}
use Rattle.cp_lists.proofs.Appended.{append-two}
use Rattle.cp_model.specs.Term.{Term, pair_term}
use Rattle.cp_language.specs.Terms.{paired, all_but_last, last_of}

pub paired-last : (ts : List Term) (a b : Term) → paired (ts ++ a ∷ b ∷ []) ≡ paired (ts ++ pair_term a b ∷ [])
paired-last [] a b = refl
paired-last (t ∷ []) a b = refl
paired-last (t ∷ u ∷ ts) a b = ap (pair_term t) (paired-last (u ∷ ts) a b)

pub all_but_last-append : (ts : List Term) (t : Term) → all_but_last (ts ++ t ∷ []) ≡ ts
all_but_last-append [] t = refl
all_but_last-append (u ∷ []) t = refl
all_but_last-append (u ∷ v ∷ ts) t = ap (λ us. u ∷ us) (all_but_last-append (v ∷ ts) t)

pub last_of-append : (ts : List Term) (t : Term) → last_of (ts ++ t ∷ []) ≡ t
last_of-append [] t = refl
last_of-append (u ∷ []) t = refl
last_of-append (u ∷ v ∷ ts) t = last_of-append (v ∷ ts) t

-- the last two terms become one
pub paired-step : (whole before after : List Term) (left right pair : Term) → before ≡ after ++ left ∷ [] → pair ≡ pair_term left right
    → paired (before ++ right ∷ []) ≡ paired whole → paired (after ++ pair ∷ []) ≡ paired whole
paired-step whole before after left right pair e f h =
    ap (λ t. paired (after ++ t ∷ [])) f ∙ sym (paired-last after left right) ∙ ap paired (sym (append-two after left right))
    ∙ ap (λ ts. paired (ts ++ right ∷ [])) (sym e) ∙ h
