-- The small reports have no misfit; the label of the first is whole, and those of the others do not fit.
use Rattle.std.proofs.Common.{◌≡◌, List, [], ◌∷◌, Bool, true, false, refl, ap, subst, arith}
use Rattle.std.specs.Prelude.{codes, None}
use Rattle.std.specs.Fmt.{digits}
use Rattle.cp_lists.specs.Lists.{IsIn, here}
use Rattle.cp_lists.proofs.Members.{of_each}
use Rattle.cp_model.specs.Term.{AtomTerm, name_variable, key_term, asymmetric_term, pubk_term, atom_term, apply_to_atom}
use Rattle.cp_model.specs.Homomorphism.{map_from_problem, substitution_by}
use Rattle.cp_model.specs.declared.variable.Declaration.{Declaration}
use Rattle.cp_model.specs.Senders.{ArePaired}
use Rattle.cp_model.specs.Skeleton.{Skeleton}
use Rattle.cp_model.specs.Same.{same_text}
use Rattle.cp_model.specs.Tree.{Label}
use Rattle.cp_report.specs.FittingTrees.{TreeFits, problems_in}
use Rattle.cp_report.specs.ReadBack.{misfits, report_of}
use Rattle.cp_readback.specs.AcceptedLabels.{HasAllStated, IsWholeLabel, HasWholeLabels, IsCompleteLabel, HasCompleteLabels}
use Rattle.cp_readback.specs.SmallReports.{listed_report, renamed_report, unlisted_report}

-- The first report has no misfit,
pub listed_accepted : misfits listed_report ≡ []
unfolding digits
listed_accepted = refl

-- the second has none,
pub renamed_accepted : misfits renamed_report ≡ []
unfolding digits
renamed_accepted = refl

-- and the third has none.
pub unlisted_accepted : misfits unlisted_report ≡ []
unfolding digits
unlisted_accepted = refl

-- The private key of the name.
abbrev private_key : AtomTerm
private_key = key_term (asymmetric_term true (pubk_term None 0))

-- The image of the key is listed.
key_there : (v : AtomTerm) → IsIn v (private_key ∷ []) → IsIn (apply_to_atom (substitution_by (atom_term (name_variable 0) ∷ [])) v) (private_key ∷ [])
key_there v i = of_each (λ w. IsIn (apply_to_atom (substitution_by (atom_term (name_variable 0) ∷ [])) w) (private_key ∷ [])) here (λ j. elim j [ ]) i

-- A skeleton has all that a problem states if that is values that originate nowhere, and it has their images.
has_key : (problem k : Skeleton) → ((v : AtomTerm) → IsIn v problem.from_problem.assumptions.non_originating → IsIn (apply_to_atom (map_from_problem k).terms v) k.assumptions.non_originating)
    → problem.from_problem.assumptions.penetrator_non_originating ≡ [] → problem.from_problem.assumptions.uniquely_originating ≡ [] → problem.from_problem.pairs ≡ [] → HasAllStated problem k
has_key problem k non no_penetrator_non no_unique no_pairs = record {
  non = non;
  penetrator_non = λ v i. let j : IsIn v [] = subst (IsIn v) no_penetrator_non i in elim j [ ];
  unique = λ u i. let j : IsIn u [] = subst (IsIn u) no_unique i in elim j [ ];
  pairs = λ q one apart. let j : IsIn one.item [] = subst (IsIn one.item) no_pairs one.listed in elim j [ ];
}

-- What holds of one label holds of each label of a tree that has no other.
of_single : (P : Label → Type 0) (l : Label) → P l → (m : Label) → IsIn m (l ∷ []) → P m
of_single P l one m i = of_each P one (λ j. elim j [ ]) i

-- The label of the first has the problem's variable and its assumption.
pub listed_whole : ArePaired HasWholeLabels (problems_in (report_of listed_report).entries) (report_of listed_report).trees
unfolding digits
listed_whole = (
  of_single (IsWholeLabel _) _ (record {
    later = [];
    variables = refl;
    few = omega arith;
    stated = has_key _ _ key_there refl refl refl;
  }),
  tt,
)

-- The label of the second has the problem's assumption.
pub renamed_complete : ArePaired HasCompleteLabels (problems_in (report_of renamed_report).entries) (report_of renamed_report).trees
unfolding digits
renamed_complete = (
  of_single (IsCompleteLabel _) _ (record {
    few = omega arith;
    stated = has_key _ _ key_there refl refl refl;
  }),
  tt,
)

-- The first variable has the identifier of the problem's.
abbrev begins_with_a : List Declaration → Bool
begins_with_a [] = false
begins_with_a (d ∷ ds) = same_text d.identifier (codes "a")

-- The label of the second begins with another variable.
pub renamed_unfit : ArePaired TreeFits (problems_in (report_of renamed_report).entries) (report_of renamed_report).trees → ⊥
unfolding digits
renamed_unfit h =
    let fit = h.0 0 _ refl in
    let e : false ≡ true = ap begins_with_a fit.variables.variables in
    cc

-- The label of the third does not have the image of the assumption.
pub unlisted_unfit : ArePaired TreeFits (problems_in (report_of unlisted_report).entries) (report_of unlisted_report).trees → ⊥
unfolding digits
unlisted_unfit h =
    let fit = h.0 0 _ refl in
    let i : IsIn private_key [] = (fit.stated.non private_key).1 (record { item = private_key; listed = here; image = refl }) in
    elim i [ ]
