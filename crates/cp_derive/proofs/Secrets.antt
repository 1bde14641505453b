-- The values of the three lists of assumptions are the secrets.
use Rattle.std.proofs.Common.{List, [], ◌∷◌, ◌++◌, map, ◌≡◌, inl, inr, subst}
use Rattle.std.specs.Prelude.{◌↔◌}
use Rattle.cp_lists.proofs.Members.{in_append, in_append_left, in_append_right, in_cases}
use Rattle.cp_lists.specs.Lists.{IsIn, here, there}
use Rattle.cp_model.specs.Term.{AtomTerm, Term, atom_term}
use Rattle.cp_model.specs.Skeleton.{UniqueAt, Skeleton}
use Rattle.cp_model.specs.Derivable.{IsSecret}
use Rattle.cp_derive.specs.Assumed.{assumed_values}

same_atom : (a b : AtomTerm) → atom_term a ≡ atom_term b → a ≡ b
same_atom a b e = cc

of_atom : (xs : List AtomTerm) (v : AtomTerm) → IsIn (atom_term v) (map atom_term xs) → IsIn v xs
of_atom [] v h = elim h [ ]
of_atom (a ∷ xs) v h = elim (in_cases h) [ inl e ↦ subst (λ x. IsIn x (a ∷ xs)) (same_atom a v e) here | inr i ↦ there (of_atom xs v i) ]

to_atom : (xs : List AtomTerm) (v : AtomTerm) → IsIn v xs → IsIn (atom_term v) (map atom_term xs)
to_atom (a ∷ xs) _ here = here
to_atom (a ∷ xs) v (there h) = there (to_atom xs v h)
to_atom [] v h = elim h [ ]

-- A unique value's entry is in the list.
record IsEntry (us : List UniqueAt) (v : AtomTerm) : Type 0 where
  entry : UniqueAt
  listed : IsIn entry us
  same : entry.value ≡ v

of_unique : (us : List UniqueAt) (v : AtomTerm) → IsIn (atom_term v) (map (λ u. atom_term u.value) us) → IsEntry us v
of_unique [] v h = elim h [ ]
of_unique (u ∷ us) v h =
    elim (in_cases h) [
      | inl e ↦ record { entry = u; listed = here; same = same_atom u.value v e }
      | inr i ↦ let more = of_unique us v i in record { entry = more.entry; listed = there more.listed; same = more.same }
    ]

to_unique : (us : List UniqueAt) (u : UniqueAt) → IsIn u us → IsIn (atom_term u.value) (map (λ (x : UniqueAt). atom_term x.value) us)
to_unique (x ∷ us) _ here = here
to_unique (x ∷ us) u (there h) = there (to_unique us u h)
to_unique [] u h = elim h [ ]

pub secret_values : (k : Skeleton) (v : AtomTerm) → IsIn (atom_term v) (assumed_values k.assumptions) ↔ IsSecret k v
secret_values k v =
    let first : List Term = map atom_term k.assumptions.non_originating in
    let second : List Term = map atom_term k.assumptions.penetrator_non_originating in
    let third : List Term = map (λ (u : UniqueAt). atom_term u.value) k.assumptions.uniquely_originating in (
      λ h. elim (in_append (first ++ second) third h) [
        | inl i ↦ elim (in_append first second i) [
          | inl j ↦ inl (of_atom k.assumptions.non_originating v j)
          | inr j ↦ inr (inl (of_atom k.assumptions.penetrator_non_originating v j))
        ]
        | inr i ↦ let u = of_unique k.assumptions.uniquely_originating v i in inr (inr (record { entry = u.entry; listed = u.listed; same = u.same }))
      ],
      λ s. elim s [
        | inl i ↦ in_append_left third (in_append_left second (to_atom k.assumptions.non_originating v i))
        | inr r ↦ elim r [
          | inl i ↦ in_append_left third (in_append_right first (to_atom k.assumptions.penetrator_non_originating v i))
          | inr u ↦ in_append_right (first ++ second)
              (subst (λ x. IsIn (atom_term x) third) u.same (to_unique k.assumptions.uniquely_originating u.entry u.listed))
        ]
      ],
    )
