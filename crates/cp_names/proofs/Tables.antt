-- The table of variables, entry by entry.
use Rattle.std.proofs.Common.{◌≡◌, ℕ, zero, suc, ◌+◌, List, [], ◌∷◌, ◌++◌, drop, sym, ap, ap₂, ◌∙◌, add-one, append_assoc}
use Rattle.std.proofs.lemmas.Option.{same_Some}
use Rattle.std.specs.Prelude.{Some, slice_get}
use Rattle.cp_model.specs.declared.sort.Sort.{Sort}
use Rattle.cp_model.specs.declared.variable.Declaration.{Declaration}
use Rattle.cp_model.specs.Data.{roots, sorts}

drop-entry : (t : List Declaration) (n : ℕ) (r : List ℕ) (s : Sort) → slice_get (roots t) n ≡ Some r → slice_get (sorts t) n ≡ Some s
    → drop n t ≡ record { identifier = r; sort = s } ∷ drop (suc n) t
drop-entry [] n r s e f = absurd (cc)
drop-entry (d ∷ t) zero r s e f =
    let root : d.identifier ≡ r = same_Some d.identifier r e in
    let sort : d.sort ≡ s = same_Some d.sort s f in
    ap₂ (λ (i : List ℕ) (k : Sort). (record { identifier = i; sort = k }) ∷ t) root sort
drop-entry (d ∷ t) (suc n) r s e f = drop-entry t n r s e f

-- one entry more
pub entry_more : (t : List Declaration) (n : ℕ) (r : List ℕ) (s : Sort) (before : List Declaration) (all : List Declaration)
    → slice_get (roots t) n ≡ Some r → slice_get (sorts t) n ≡ Some s → before ++ drop n t ≡ all
    → (before ++ record { identifier = r; sort = s } ∷ []) ++ drop (n + 1) t ≡ all
entry_more t n r s before all e f h =
    append_assoc before (record { identifier = r; sort = s } ∷ []) (drop (n + 1) t)
    ∙ ap (λ k. before ++ record { identifier = r; sort = s } ∷ drop k t) (add-one n)
    ∙ ap (λ ds. before ++ ds) (sym (drop-entry t n r s e f)) ∙ h
