-- Maplets as a report prints them fit, and give the values back.
use Rattle.std.proofs.Common.{◌≡◌, ◌⊎◌, inl, inr, ℕ, zero, suc, List, [], ◌∷◌, ◌++◌, Bool, true, refl, sym, ap, ◌∙◌, subst, if◌then◌else◌}
use Rattle.std.specs.Prelude.{Option, Some, map, not, ◌&&◌}
use Rattle.std.proofs.lemmas.Bool.{false_from_ne_true, and_from}
use Rattle.cp_base.specs.declared.place.Place.{Place}
use Rattle.cp_lists.specs.Lists.{item_at, IsIn, here, there}
use Rattle.cp_lists.proofs.Items.{at_place}
use Rattle.cp_lists.proofs.Members.{head_or_behind}
use Rattle.cp_model.specs.Term.{Term}
use Rattle.cp_model.specs.declared.variable.Variable.{Variable}
use Rattle.cp_model.specs.declared.variable.Declaration.{Declaration}
use Rattle.cp_model.specs.Same.{same_text}
use Rattle.cp_model.proofs.SameTests.{text_is, same_text_itself}
use Rattle.cp_sexpr.specs.Syntax.{Form}
use Rattle.cp_language.specs.Words.{is_one_of}
use Rattle.cp_language.specs.Faults.{place_of}
use Rattle.cp_language.specs.Terms.{variable_named, is_sort}
use Rattle.cp_language.specs.Problems.{is_known}
use Rattle.cp_language.specs.Names.{identifiers_in}
use Rattle.cp_language.specs.Printed.{word, plain_list, no_place}
use Rattle.cp_language.proofs.ValidTests.{one_of, is_one}
use Rattle.cp_report.specs.Misfits.{misfit_unless, unless_misfit}
use Rattle.cp_report.specs.Spelled.{Scope, term_misfits, value_misfits, sort_in, term_in}
use Rattle.cp_report.specs.Skeletons.{identifier_of, maplet_misfits, maplets_misfits, are_mapped, mapping_misfits, value_mapped, values_mapped}
use Rattle.cp_report.proofs.CoveringPairs.{AreApart}

-- A maplet for each declaration, with the value that stands beside it.
abbrev pub maplets_of : List Declaration → List Form → List Form
maplets_of [] vs = []
maplets_of (d ∷ ds) [] = []
maplets_of (d ∷ ds) (v ∷ vs) = plain_list (word d.identifier ∷ v ∷ []) ∷ maplets_of ds vs

-- A value for each declaration, that fits and has its sort.
abbrev pub ValuesFit : Scope → List Declaration → List Form → Type 0
ValuesFit s [] [] = Unit {0}
ValuesFit s (d ∷ ds) (v ∷ vs) = ((term_misfits s v ≡ []) × (is_sort d.sort (sort_in s v) ≡ true)) × ValuesFit s ds vs
ValuesFit s [] (v ∷ vs) = ⊥
ValuesFit s (d ∷ ds) [] = ⊥

-- Each of these declarations is found among the wanted ones, with its sort.
abbrev pub AreFound : List Declaration → List Declaration → Type 0
AreFound wanted ds = (d : Declaration) → IsIn d ds → (x : Variable) × (variable_named wanted d.identifier ≡ Some x) × (x.sort ≡ d.sort)

pub into_identifiers : (ds : List Declaration) (d : Declaration) → IsIn d ds → IsIn d.identifier (identifiers_in ds)
into_identifiers [] d m = elim m [ ]
into_identifiers (c ∷ ds) d here = here
into_identifiers (c ∷ ds) d (there m) = there (into_identifiers ds d m)

module _ (s : Scope) where
  one_fits : (wanted : List Declaration) (before : List (List ℕ)) (d : Declaration) (v : Form) (x : Variable) → variable_named wanted d.identifier ≡ Some x → x.sort ≡ d.sort
      → (IsIn d.identifier before → ⊥) → term_misfits s v ≡ [] → is_sort d.sort (sort_in s v) ≡ true → maplet_misfits s wanted before no_place (word d.identifier ∷ v ∷ []) ≡ []
  one_fits wanted before d v x found same new fits sorted =
      ap (λ (o : Option Variable). misfit_unless (is_known o && not (is_one_of d.identifier before)) no_place ++ (value_misfits s o v ++ [])) found
      ∙ ap (λ (b : Bool). misfit_unless (not b) no_place ++ (value_misfits s (Some x) v ++ [])) (false_from_ne_true (is_one_of d.identifier before) (λ h. new (one_of d.identifier before h)))
      ∙ ap (λ (b : Bool). (misfit_unless b (place_of v) ++ term_misfits s v) ++ []) (ap (λ r. is_sort r (sort_in s v)) same ∙ sorted)
      ∙ ap (λ (ps : List Place). ps ++ []) fits

  fit_behind : (wanted : List Declaration) (before : List (List ℕ)) (ds : List Declaration) (vs : List Form) → AreFound wanted ds → AreApart (identifiers_in ds)
      → ((t : List ℕ) → IsIn t before → IsIn t (identifiers_in ds) → ⊥) → ValuesFit s ds vs → maplets_misfits s wanted before (maplets_of ds vs) ≡ []
  fit_behind wanted before [] vs found apart new fit = refl
  fit_behind wanted before (d ∷ ds) [] found apart new fit = refl
  fit_behind wanted before (d ∷ ds) (v ∷ vs) found apart new fit =
      let x = found d here in
      ap (λ (ps : List Place). ps ++ maplets_misfits s wanted (d.identifier ∷ before) (maplets_of ds vs)) (one_fits wanted before d v x.0 x.1 x.2 (λ i. new d.identifier i here) fit.0.0 fit.0.1)
      ∙ fit_behind wanted (d.identifier ∷ before) ds vs (λ e m. found e (there m)) apart.1 new_behind fit.1
    where
      new_behind : (t : List ℕ) → IsIn t (d.identifier ∷ before) → IsIn t (identifiers_in ds) → ⊥
      new_behind t i j = by (head_or_behind i)
        where
          by : (t ≡ d.identifier) ⊎ IsIn t before → ⊥
          by (inl e) = apart.0 (subst (λ (u : List ℕ). IsIn u (identifiers_in ds)) e j)
          by (inr k) = new t k (there j)

  identifiers_back : (ds : List Declaration) (vs : List Form) → ValuesFit s ds vs → map identifier_of (maplets_of ds vs) ≡ identifiers_in ds
  identifiers_back [] vs fit = refl
  identifiers_back (d ∷ ds) [] fit = absurd fit
  identifiers_back (d ∷ ds) (v ∷ vs) fit = ap (λ ts. d.identifier ∷ ts) (identifiers_back ds vs fit.1)

  all_mapped : (ds : List Declaration) (mapped : List (List ℕ)) → ((d : Declaration) → IsIn d ds → IsIn d.identifier mapped) → are_mapped ds mapped ≡ true
  all_mapped [] mapped all = refl
  all_mapped (d ∷ ds) mapped all = and_from (is_one_of d.identifier mapped) (are_mapped ds mapped) (is_one d.identifier mapped (all d here)) (all_mapped ds mapped (λ e m. all e (there m)))

  -- A maplet for each wanted declaration, in order, is what is wanted.
  pub mapping_fits : (at : Place) (wanted : List Declaration) (vs : List Form) → AreFound wanted wanted → AreApart (identifiers_in wanted) → ValuesFit s wanted vs → mapping_misfits s wanted at (maplets_of wanted vs) ≡ []
  mapping_fits at wanted vs found apart fit =
      ap (λ (ps : List Place). unless_misfit ps (misfit_unless (are_mapped wanted (map identifier_of (maplets_of wanted vs))) at)) (fit_behind wanted [] wanted vs found apart (λ t m j. elim m [ ]) fit)
      ∙ ap (λ (b : Bool). misfit_unless b at)
      (ap (are_mapped wanted) (identifiers_back wanted vs fit) ∙ all_mapped wanted (identifiers_in wanted) (λ d m. into_identifiers wanted d m))

  -- ---- the values

  identifier_at : (ds : List Declaration) (j : ℕ) (d : Declaration) → item_at ds j ≡ Some d → IsIn d.identifier (identifiers_in ds)
  identifier_at ds j d e = into_identifiers ds d (at_place ds j d e)

  -- The value at a declaration's place is what its identifier is mapped to.
  pub value_back : (ds : List Declaration) (vs : List Form) (j : ℕ) (d : Declaration) (v : Form) → AreApart (identifiers_in ds) → item_at ds j ≡ Some d → item_at vs j ≡ Some v → value_mapped s d.identifier (maplets_of ds vs) ≡ term_in s v
  value_back [] vs j d v apart e f = absurd (cc)
  value_back (c ∷ ds) [] j d v apart e f = absurd (cc)
  value_back (c ∷ ds) (w ∷ vs) zero d v apart e f =
      let same : c ≡ d = cc in
      let equal : w ≡ v = cc in
      ap (λ (b : Bool). if b then term_in s w else value_mapped s d.identifier (maplets_of ds vs)) (subst (λ (x : Declaration). same_text d.identifier x.identifier ≡ true) (sym same) (same_text_itself d.identifier))
      ∙ ap (term_in s) equal
  value_back (c ∷ ds) (w ∷ vs) (suc j) d v apart e f =
      ap (λ (b : Bool). if b then term_in s w else value_mapped s d.identifier (maplets_of ds vs)) (false_from_ne_true (same_text d.identifier c.identifier) other)
      ∙ value_back ds vs j d v apart.1 e f
    where
      other : same_text d.identifier c.identifier ≡ true → ⊥
      other h = apart.0 (subst (λ (u : List ℕ). IsIn u (identifiers_in ds)) (text_is d.identifier c.identifier h) (identifier_at ds j d e))

  -- An identifier without a maplet is mapped to nothing.
  values_behind : (fs : List Form) (d : Declaration) (w : Form) (ds : List Declaration) → AreApart (identifiers_in (d ∷ ds)) → ((c : Declaration) → IsIn c ds → IsIn c.identifier (identifiers_in ds))
      → (es : List Declaration) → ((c : Declaration) → IsIn c es → IsIn c ds) → values_mapped s (plain_list (word d.identifier ∷ w ∷ []) ∷ fs) es ≡ values_mapped s fs es
  values_behind fs d w ds apart ids [] within = refl
  values_behind fs d w ds apart ids (c ∷ es) within =
      ap (λ (t : Term). t ∷ values_mapped s (plain_list (word d.identifier ∷ w ∷ []) ∷ fs) es)
      (ap (λ (b : Bool). if b then term_in s w else value_mapped s c.identifier fs) (false_from_ne_true (same_text c.identifier d.identifier) other))
      ∙ ap (λ (ts : List Term). value_mapped s c.identifier fs ∷ ts) (values_behind fs d w ds apart ids es (λ x m. within x (there m)))
    where
      other : same_text c.identifier d.identifier ≡ true → ⊥
      other h = apart.0 (subst (λ (u : List ℕ). IsIn u (identifiers_in ds)) (text_is c.identifier d.identifier h) (ids c (within c here)))

  -- Each of the values is given back, in order.
  pub values_back : (ds : List Declaration) (vs : List Form) → AreApart (identifiers_in ds) → ValuesFit s ds vs → values_mapped s (maplets_of ds vs) ds ≡ map (term_in s) vs
  values_back [] [] apart fit = refl
  values_back [] (v ∷ vs) apart fit = absurd fit
  values_back (d ∷ ds) [] apart fit = absurd fit
  values_back (d ∷ ds) (v ∷ vs) apart fit =
      ap (λ (b : Bool). (if b then term_in s v else value_mapped s d.identifier (maplets_of ds vs)) ∷ values_mapped s (maplets_of (d ∷ ds) (v ∷ vs)) ds) (same_text_itself d.identifier)
      ∙ ap (λ (ts : List Term). term_in s v ∷ ts) (values_behind (maplets_of ds vs) d v ds apart (λ c m. into_identifiers ds c m) ds (λ c m. m) ∙ values_back ds vs apart.1 fit.1)
