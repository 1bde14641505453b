-- The terms of an instance, declaration by declaration, and what they are.
use Rattle.std.proofs.Common.{◌≡◌, ℕ, suc, ◌+◌, ◌<◌, ◌≤◌, List, [], ◌∷◌, ◌++◌, length, get_or, drop, sym, ap, ◌∙◌, add-one, append_assoc, Bool, true, false, if◌then◌else◌}
use Rattle.std.specs.Prelude.{Option}
use Rattle.std.proofs.lemmas.List.{append-nil, drop_all}
use Rattle.cp_lists.specs.Lists.{item_at}
use Rattle.cp_lists.proofs.Members.{drop_read}
use Rattle.cp_lists.proofs.Fronts.{item-zero, drop-one}
use Rattle.cp_model.specs.Term.{Term}
use Rattle.cp_model.specs.declared.variable.Variable.{Variable}
use Rattle.cp_model.specs.declared.variable.Declaration.{Declaration}
use Rattle.cp_strand.specs.Valued.{term_or, valued}

chosen : (b c : Bool) (x : Variable) (o p : Option Term) (r s : List Term) → b ≡ c → (if b then term_or x o ∷ r else term_or x p ∷ s) ≡ (if c then term_or x o ∷ r else term_or x p ∷ s)
chosen b c x o p r s e = ap (λ (d : Bool). if d then term_or x o ∷ r else term_or x p ∷ s) e

module _ (wanted : Variable → Bool) (old : List Term) (ds : List Declaration) (n : ℕ) (vs : List Term) (d : Declaration) (lt : n < length ds) (is : d ≡ get_or ds n d) where
  abbrev x : Variable
  x = record { sort = d.sort; number = n }

  abbrev rest : List Declaration
  rest = drop (n + 1) ds

  opened : valued wanted old n (drop n ds) vs ≡ (if wanted x then term_or x (item_at vs 0) ∷ valued wanted old (suc n) rest (drop 1 vs) else term_or x (item_at old n) ∷ valued wanted old (suc n) rest vs)
  opened = ap (λ es. valued wanted old n es vs) (drop_read ds n d lt is)

  kept : wanted x ≡ false → valued wanted old n (drop n ds) vs ≡ term_or x (item_at old n) ∷ valued wanted old (n + 1) rest vs
  kept e = opened ∙ chosen (wanted x) false x (item_at vs 0) (item_at old n) (valued wanted old (suc n) rest (drop 1 vs)) (valued wanted old (suc n) rest vs) e
      ∙ ap (λ m. term_or x (item_at old n) ∷ valued wanted old m rest vs) (sym (add-one n))

  taken : wanted x ≡ true → valued wanted old n (drop n ds) vs ≡ term_or x (item_at vs 0) ∷ valued wanted old (n + 1) rest (drop 1 vs)
  taken e = opened ∙ chosen (wanted x) true x (item_at vs 0) (item_at old n) (valued wanted old (suc n) rest (drop 1 vs)) (valued wanted old (suc n) rest vs) e
      ∙ ap (λ m. term_or x (item_at vs 0) ∷ valued wanted old m rest (drop 1 vs)) (sym (add-one n))

joined-next : (terms new rest whole : List Term) (t : Term) → new ≡ terms ++ t ∷ [] → terms ++ (t ∷ rest) ≡ whole → new ++ rest ≡ whole
joined-next terms new rest whole t e h = ap (λ ts. ts ++ rest) e ∙ append_assoc terms (t ∷ []) rest ∙ h

module _ (wanted : Variable → Bool) (old : List Term) (ds : List Declaration) (n k : ℕ) (vs : List Term) (d : Declaration) (lt : n < length ds) (is : d ≡ get_or ds n d)
    (id : ℕ) (same : id ≡ n) (b : Bool) (test : b ≡ wanted (record { sort = d.sort; number = id })) (terms new whole : List Term)
    (way : terms ++ valued wanted old n (drop n ds) (drop k vs) ≡ whole) (o : Option Term) (t : Term)
    (term : t ≡ term_or (record { sort = d.sort; number = id }) o) (pushed : new ≡ terms ++ t ∷ []) where
  now : wanted (record { sort = d.sort; number = n }) ≡ b
  now = ap (λ m. wanted (record { sort = d.sort; number = m })) (sym same) ∙ sym test

  written : (p : Option Term) → o ≡ p → term_or (record { sort = d.sort; number = n }) p ≡ t
  written p e = ap (λ q. term_or (record { sort = d.sort; number = n }) q) (sym e) ∙ ap (λ m. term_or (record { sort = d.sort; number = m }) o) (sym same) ∙ sym term

  pub declaration-kept : b ≡ false → o ≡ item_at old n → new ++ valued wanted old (n + 1) (drop (n + 1) ds) (drop k vs) ≡ whole
  declaration-kept e f =
      let rest : List Term = valued wanted old (n + 1) (drop (n + 1) ds) (drop k vs) in
      joined-next terms new rest whole t pushed (ap (λ u. terms ++ (u ∷ rest)) (sym (written (item_at old n) f)) ∙ ap (λ us. terms ++ us) (sym (kept wanted old ds n (drop k vs) d lt is (now ∙ e))) ∙ way)

  pub declaration-taken : b ≡ true → o ≡ item_at vs k → new ++ valued wanted old (n + 1) (drop (n + 1) ds) (drop (k + 1) vs) ≡ whole
  declaration-taken e f =
      let rest : List Term = valued wanted old (n + 1) (drop (n + 1) ds) (drop (k + 1) vs) in
      let shifted : drop 1 (drop k vs) ≡ drop (k + 1) vs = drop-one k vs ∙ ap (λ m. drop m vs) (sym (add-one k)) in
      joined-next terms new rest whole t pushed
      (ap (λ u. terms ++ (u ∷ rest)) (sym (written (item_at (drop k vs) 0) (f ∙ sym (item-zero k vs))))
      ∙ ap (λ ws. terms ++ (term_or (record { sort = d.sort; number = n }) (item_at (drop k vs) 0) ∷ valued wanted old (n + 1) (drop (n + 1) ds) ws)) (sym shifted)
      ∙ ap (λ us. terms ++ us) (sym (taken wanted old ds n (drop k vs) d lt is (now ∙ e))) ∙ way)

pub declarations-end : (wanted : Variable → Bool) (old : List Term) (ds : List Declaration) (n : ℕ) (vs terms whole : List Term) → length ds ≤ n →
    terms ++ valued wanted old n (drop n ds) vs ≡ whole → terms ≡ whole
declarations-end wanted old ds n vs terms whole le h =
    sym (ap (λ es. terms ++ valued wanted old n es vs) (drop_all n ds le) ∙ append-nil terms) ∙ h
