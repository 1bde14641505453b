-- What the roles give is among assumptions where it is when each stands once; and what is asked behind the strands, part
-- by part.
use Rattle.std.proofs.Common.{◌≡◌, ℕ, List, [], ◌∷◌, ◌++◌, Bool, true, map, refl, sym, ap, ◌∙◌, ⊎_elim}
use Rattle.std.specs.Prelude.{Option, Some, None, codes}
use Rattle.std.proofs.lemmas.Bool.Decides.{same_from_decides}
use Rattle.cp_lists.specs.Lists.{IsIn}
use Rattle.cp_base.specs.declared.place.Place.{Place}
use Rattle.cp_model.specs.Term.{AtomTerm, Term}
use Rattle.cp_model.specs.declared.variable.Declaration.{Declaration}
use Rattle.cp_model.specs.Skeleton.{SkeletonStrand, UniqueAt, Assumptions, FromProblem, skeleton_of}
use Rattle.cp_model.specs.declared.node.OrderPair.{OrderPair}
use Rattle.cp_model.specs.Given.{atoms_onto, uniques_onto, given_non, given_penetrator_non, given_uniques}
use Rattle.cp_model.proofs.Gathered.{IsGathering, atoms, uniques, onto-takes, onto-only}
use Rattle.cp_sexpr.specs.Syntax.{Form}
use Rattle.cp_language.specs.Faults.{place_of}
use Rattle.cp_language.specs.Problems.{Problem}
use Rattle.cp_report.specs.Misfits.{place_before, misfit_unless, lacking}
use Rattle.cp_report.specs.Heads.{forms_after_head, entries_under, item_with, optional_misfits, place_or}
use Rattle.cp_report.specs.Spelled.{Scope}
use Rattle.cp_report.specs.Skeletons.{declarations_of_label, scope_of, strands_of_label, precedes_misfits, pairs_under, has_atoms, atoms_misfits, atoms_under, assumption_misfits, values_misfits, has_uniques, uniques_misfits, uniques_under, all_uniques_misfits, map_misfits, problem_variables, strands_mapped, values_of_map, assumptions_stated, from_problem_of, around_strands_misfits, skeleton_stated}
use Rattle.cp_report.proofs.PrintedAssumptions.{all_atoms}
use Rattle.cp_report.proofs.PrintedUniques.{all_uniques}
use Rattle.cp_spelled.specs.FirstMisfit.{first_onto, merged, onto_none}
use Rattle.cp_scope.proofs.FirstOf.{first_onto-append}
use Rattle.cp_spelled.proofs.Firsts.{merged-unless}
use Rattle.cp_stated.specs.AssumptionEntries.{assumptions_misfits, uniques_item_misfits}
use Rattle.cp_stated.specs.ProblemMap.{map_misfits_to, values_by, from_problem_to}
use Rattle.cp_stated.proofs.FittingValues.{given_atoms, given_there}

-- A test of all items of a list answers the same where each stands once.
same-once : {A : Type 0} {has : List A → A → Bool} {onto : List A → List A → List A} (g : IsGathering has onto) (all : List A → Bool) (P : A → Type 0) → ((xs : List A) → all xs ≡ true → (v : A) → IsIn v xs → P v)
    → ((xs : List A) → ((v : A) → IsIn v xs → P v) → all xs ≡ true) → (xs : List A) → all (onto [] xs) ≡ all xs
same-once {onto = onto} g all P each from xs =
    same_from_decides {P = all xs ≡ true} (all (onto [] xs)) (all xs) (
      λ e. from xs (λ v m. each (onto [] xs) e v (onto-takes g [] xs v m)),
      λ e. from (onto [] xs) (λ v m. ⊎_elim (λ n. elim n [ ]) (each xs e v) (onto-only g [] xs v m)),
    )
    (λ e. e, λ e. e)

atoms-once : (vs ws : List AtomTerm) → has_atoms vs (atoms_onto [] ws) ≡ has_atoms vs ws
atoms-once vs ws = same-once atoms (has_atoms vs) (λ v. IsIn v vs) (given_atoms vs) (all_atoms vs) ws

uniques-once : (us ws : List UniqueAt) → has_uniques us (uniques_onto [] ws) ≡ has_uniques us ws
uniques-once us ws = same-once uniques (has_uniques us) (λ u. IsIn u us) (given_there us) (all_uniques us) ws

pub values-once : (at : Place) (word : List ℕ) (items : List Form) (given ws : List AtomTerm) → given ≡ atoms_onto [] ws → values_misfits at word given items ≡ values_misfits at word ws items
values-once at word items given ws e =
    ap (λ gs. values_misfits at word gs items) e
    ∙ ap (λ b. assumption_misfits at (item_with (word ∷ []) items) (atoms_misfits (scope_of items) []) b) (atoms-once (atoms_under word items) ws)

pub all-uniques-once : (at : Place) (strands : List SkeletonStrand) (items : List Form) (given : List UniqueAt) → given ≡ uniques_onto [] (given_uniques 0 strands) → uniques_item_misfits at strands given items ≡ all_uniques_misfits at strands items
all-uniques-once at strands items given e =
    ap (λ gs. uniques_item_misfits at strands gs items) e
    ∙ ap (λ b. assumption_misfits at (item_with (codes "uniq-orig" ∷ []) items) (uniques_misfits (scope_of items) strands []) b) (uniques-once (uniques_under items) (given_uniques 0 strands))

-- an item with all that has to be in it, or what is missing
pub assumption-read : (at w : Place) (item : Option Form) (inside : List Form → List Place) (o i j k : Option Place) (b c : Bool)
    → i ≡ first_onto None (optional_misfits (λ p fs. lacking 1 p fs ++ inside fs) item) → c ≡ b → w ≡ place_or at item → j ≡ onto_none i (misfit_unless c w) → k ≡ merged o j
    → k ≡ first_onto o (assumption_misfits at item inside b)
assumption-read at w item inside o i j k b c e f g h l =
    merged-unless o i j k (optional_misfits (λ p fs. lacking 1 p fs ++ inside fs) item) (misfit_unless b (place_or at item)) e
    (h ∙ ap (λ d. onto_none i (misfit_unless d w)) f ∙ ap (λ x. onto_none i (misfit_unless b x)) g) l

-- ---- part by part

pub three-parts : (o p q r : Option Place) (a b c d e f : List Place) → a ≡ d → b ≡ e → c ≡ f → p ≡ first_onto o a → q ≡ first_onto p b → r ≡ first_onto q c → r ≡ first_onto o (d ++ e ++ f)
three-parts o p q r a b c d e f ad be cf g h i =
    i ∙ ap (first_onto q) cf ∙ ap (λ x. first_onto x f) (h ∙ ap (first_onto p) be ∙ ap (λ x. first_onto x e) (g ∙ ap (first_onto o) ad) ∙ sym (first_onto-append place_before o d e))
    ∙ sym (first_onto-append place_before o (d ++ e) f)

pub around-parts : (p : Problem) (at : Place) (items : List Form) (strands : List SkeletonStrand) → strands ≡ strands_of_label p items → (o i j k : Option Place) (way : List Place)
    → way ≡ optional_misfits (map_misfits p (scope_of items) (strands_of_label p items)) (item_with (codes "map" ∷ []) items)
    → i ≡ first_onto o (optional_misfits (precedes_misfits strands) (item_with (codes "precedes" ∷ []) items)) → j ≡ first_onto i (assumptions_misfits at strands items) → k ≡ first_onto j way
    → k ≡ first_onto o (around_strands_misfits p at items)
around-parts p at items strands same o i j k way is g h l =
    let ks = strands_of_label p items in
    let a = optional_misfits (precedes_misfits ks) (item_with (codes "precedes" ∷ []) items) in
    let b = values_misfits at (codes "non-orig") (given_non ks) items in
    let c = values_misfits at (codes "pen-non-orig") (given_penetrator_non ks) items in
    let d = all_uniques_misfits at ks items in
    let f = optional_misfits (map_misfits p (scope_of items) ks) (item_with (codes "map" ∷ []) items) in
    let order : i ≡ first_onto o a = g ∙ ap (λ ss. first_onto o (optional_misfits (precedes_misfits ss) (item_with (codes "precedes" ∷ []) items))) same in
    let assumed : j ≡ first_onto i (b ++ c ++ d) = h ∙ ap (λ ss. first_onto i (assumptions_misfits at ss items)) same in
    let apart : first_onto i (b ++ c ++ d) ≡ first_onto (first_onto (first_onto i b) c) d = first_onto-append place_before i (b ++ c) d ∙ ap (λ x. first_onto x d) (first_onto-append place_before i b c) in
    let behind : first_onto (first_onto (first_onto i b) c) d ≡ first_onto o (a ++ b ++ c ++ d) =
    ap (λ x. first_onto (first_onto (first_onto x b) c) d) order ∙ ap (λ x. first_onto (first_onto x c) d) (sym (first_onto-append place_before o a b)) ∙ ap (λ x. first_onto x d) (sym (first_onto-append place_before o (a ++ b) c))
    ∙ sym (first_onto-append place_before o (a ++ b ++ c) d) in
    l ∙ ap (first_onto j) is ∙ ap (λ x. first_onto x f) (assumed ∙ apart ∙ behind) ∙ sym (first_onto-append place_before o (a ++ b ++ c ++ d) f)

-- ---- the map

map-same : (p : Problem) (ks : List SkeletonStrand) (names : List Declaration) (s : Scope) (strands : List SkeletonStrand) (at : Place) (fs : List Form) → ks ≡ p.skeleton.strands → names ≡ problem_variables p
    → map_misfits_to ks names s strands at fs ≡ map_misfits p s strands at fs
map-same p ks names s strands at [] e n = refl
map-same p ks names s strands at (f ∷ maplets) e n =
    ap (λ x. map_misfits_to x names s strands at (f ∷ maplets)) e ∙ ap (λ x. map_misfits_to p.skeleton.strands x s strands at (f ∷ maplets)) n

pub way-same : (p : Problem) (ks : List SkeletonStrand) (names : List Declaration) (s t : Scope) (strands others : List SkeletonStrand) (o : Option Form) → ks ≡ p.skeleton.strands → names ≡ problem_variables p → s ≡ t → strands ≡ others
    → optional_misfits (map_misfits_to ks names s strands) o ≡ optional_misfits (map_misfits p t others) o
way-same p ks names s t strands others None e n scope same = refl
way-same p ks names s t strands others (Some f) e n scope same =
    map-same p ks names s strands (place_of f) (forms_after_head f) e n ∙ ap (λ x. map_misfits p x strands (place_of f) (forms_after_head f)) scope ∙ ap (λ x. map_misfits p t x (place_of f) (forms_after_head f)) same

pub values-same : (p : Problem) (names : List Declaration) (s t : Scope) (fs : List Form) → names ≡ problem_variables p → s ≡ t → values_by names s fs ≡ values_of_map p t fs
values-same p names s t [] n scope = refl
values-same p names s t (f ∷ maplets) n scope = ap (λ x. values_by x s (f ∷ maplets)) n ∙ ap (λ x. values_by (problem_variables p) x (f ∷ maplets)) scope

pub from-stated : (p : Problem) (items : List Form) (own : FromProblem) (ks : List SkeletonStrand) (ps : List OrderPair) (listed : Assumptions) (ts : List ℕ) (vs : List Term) (f : FromProblem)
    → own ≡ p.skeleton.from_problem → ks ≡ strands_of_label p items → ps ≡ pairs_under items → listed ≡ assumptions_stated items
    → ts ≡ strands_mapped (entries_under (codes "map") items) → vs ≡ values_of_map p (scope_of items) (entries_under (codes "map") items)
    → f ≡ from_problem_to own ks ps listed ts vs → f ≡ from_problem_of p items
from-stated p items own ks ps listed ts vs f e g h i j l m =
    m ∙ ap (λ x. from_problem_to x ks ps listed ts vs) e ∙ ap (λ x. from_problem_to p.skeleton.from_problem x ps listed ts vs) g
    ∙ ap (λ x. from_problem_to p.skeleton.from_problem (strands_of_label p items) x listed ts vs) h
    ∙ ap (λ x. from_problem_to p.skeleton.from_problem (strands_of_label p items) (pairs_under items) x ts vs) i
    ∙ ap (λ x. from_problem_to p.skeleton.from_problem (strands_of_label p items) (pairs_under items) (assumptions_stated items) x vs) j
    ∙ ap (λ x. from_problem_to p.skeleton.from_problem (strands_of_label p items) (pairs_under items) (assumptions_stated items) (strands_mapped (entries_under (codes "map") items)) x) l

-- ---- the skeleton of its parts

pub parts_stated : (p : Problem) (items : List Form) (variables : List Declaration) (strands : List SkeletonStrand) (order : List OrderPair) (assumptions : Assumptions) (from_problem : FromProblem)
    → variables ≡ declarations_of_label items → strands ≡ strands_of_label p items → order ≡ pairs_under items → assumptions ≡ assumptions_stated items → from_problem ≡ from_problem_of p items
    → skeleton_of variables strands order assumptions from_problem ≡ skeleton_stated p items
parts_stated p items variables strands order assumptions from_problem v s o a f = λ i. record { variables = v i; strands = s i; pairs = o i; assumptions = a i; from_problem = f i }
