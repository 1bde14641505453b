-- What is gathered from the roles of strands is given by one of the strands.
use Rattle.std.proofs.Common.{◌≡◌, ℕ, suc, ◌+◌, List, [], ◌∷◌, ◌++◌, Some, refl, subst, ⊎_elim, arith}
use Rattle.cp_lists.specs.Lists.{item_at, IsIn}
use Rattle.cp_lists.proofs.Members.{in_append}
use Rattle.cp_model.specs.Term.{AtomTerm, Term}
use Rattle.cp_model.specs.Bindings.{Binding}
use Rattle.cp_model.specs.Strand.{Role}
use Rattle.cp_model.specs.Skeleton.{SkeletonStrand, instance, listener, UniqueAt}
use Rattle.cp_model.specs.Given.{applying, applying_uniques, given_non, given_penetrator_non, given_uniques}
use Rattle.cp_model.proofs.Gathered.{atoms, uniques, onto-takes}
use Rattle.cp_model.specs.GivenAssumptions.{IsGivenFrom, IsOriginFrom}
use Rattle.cp_skel.proofs.GivenParts.{atoms-given, uniques-given}

-- One of the strands is an instance that gives something.
pub record IsGivenByOne (gives : Role → ℕ → List Binding → ℕ → Type 0) (strands : List SkeletonStrand) : Type 0 where
  pub strand : ℕ
  pub role : Role
  pub height : ℕ
  pub terms : List Binding
  pub on_instance : item_at strands strand ≡ Some (instance role height terms)
  pub given : gives role height terms strand

given_first : (gives : Role → ℕ → List Binding → ℕ → Type 0) (role : Role) (height : ℕ) (terms : List Binding) (strands : List SkeletonStrand) → gives role height terms 0 → IsGivenByOne gives (instance role height terms ∷ strands)
given_first gives role height terms strands g = record { strand = 0; role = role; height = height; terms = terms; on_instance = refl; given = g }

given_later : (gives : Role → ℕ → List Binding → ℕ → Type 0) (s : SkeletonStrand) (strands : List SkeletonStrand) → IsGivenByOne (λ role height terms n. gives role height terms (suc n)) strands → IsGivenByOne gives (s ∷ strands)
given_later gives s strands r = record { strand = suc r.strand; role = r.role; height = r.height; terms = r.terms; on_instance = r.on_instance; given = r.given }

atom_given : (role : Role) (height : ℕ) (terms : List Binding) (stated : List AtomTerm) (v : AtomTerm) → IsIn v (applying role height terms stated) → IsGivenFrom stated role height terms v
atom_given role height terms stated v i =
    let a = atoms-given role height terms stated [] in
    a.only_given v (subst (IsIn v) a.behind (onto-takes atoms [] (applying role height terms stated) v i))

unique_given : (role : Role) (height : ℕ) (terms : List Binding) (s : ℕ) (stated : List AtomTerm) (u : UniqueAt) → IsIn u (applying_uniques role height terms s stated) → IsOriginFrom stated role height terms s u
unique_given role height terms s stated u i =
    let a = uniques-given role height terms s stated [] in
    a.only_given u (subst (IsIn u) a.behind (onto-takes uniques [] (applying_uniques role height terms s stated) u i))

-- A strand gives the value, as one of those that its role states so.
abbrev pub GivesAtom : (Role → List AtomTerm) → AtomTerm → Role → ℕ → List Binding → ℕ → Type 0
GivesAtom stated v role height terms s = IsGivenFrom (stated role) role height terms v

-- A strand, of those that have numbers from n on, gives the unique value.
abbrev GivesUnique : UniqueAt → ℕ → Role → ℕ → List Binding → ℕ → Type 0
GivesUnique u n role height terms s = IsOriginFrom role.uniquely_originating role height terms (n + s) u

-- what is gathered from the roles' statements of one kind, strand by strand
module _ (stated : Role → List AtomTerm) (gathered : List SkeletonStrand → List AtomTerm) (none : gathered [] ≡ []) (of_listener : (t : Term) (strands : List SkeletonStrand) → gathered (listener t ∷ strands) ≡ gathered strands)
    (of_instance : (role : Role) (height : ℕ) (terms : List Binding) (strands : List SkeletonStrand) → gathered (instance role height terms ∷ strands) ≡ applying role height terms (stated role) ++ gathered strands) where
  atom_given_by : (strands : List SkeletonStrand) (v : AtomTerm) → IsIn v (gathered strands) → IsGivenByOne (GivesAtom stated v) strands
  atom_given_by [] v i = let no : IsIn v [] = subst (IsIn v) none i in elim no [ ]
  atom_given_by (listener t ∷ strands) v i = given_later (GivesAtom stated v) (listener t) strands (atom_given_by strands v (subst (IsIn v) (of_listener t strands) i))
  atom_given_by (instance role height terms ∷ strands) v i =
      ⊎_elim
      (λ j. given_first (GivesAtom stated v) role height terms strands (atom_given role height terms (stated role) v j))
      (λ j. given_later (GivesAtom stated v) (instance role height terms) strands (atom_given_by strands v j))
      (in_append (applying role height terms (stated role)) (gathered strands) (subst (IsIn v) (of_instance role height terms strands) i))

pub non_given_by : (strands : List SkeletonStrand) (v : AtomTerm) → IsIn v (given_non strands) → IsGivenByOne (GivesAtom (λ role. role.non_originating) v) strands
non_given_by strands v i = atom_given_by (λ role. role.non_originating) given_non refl (λ t ss. refl) (λ role height terms ss. refl) strands v i

pub penetrator_non_given_by : (strands : List SkeletonStrand) (v : AtomTerm) → IsIn v (given_penetrator_non strands) → IsGivenByOne (GivesAtom (λ role. role.penetrator_non_originating) v) strands
penetrator_non_given_by strands v i = atom_given_by (λ role. role.penetrator_non_originating) given_penetrator_non refl (λ t ss. refl) (λ role height terms ss. refl) strands v i

one_on : (u : UniqueAt) (n : ℕ) (strands : List SkeletonStrand) → IsGivenByOne (GivesUnique u (suc n)) strands → IsGivenByOne (λ role height terms s. GivesUnique u n role height terms (suc s)) strands
one_on u n strands r = record {
  strand = r.strand;
  role = r.role;
  height = r.height;
  terms = r.terms;
  on_instance = r.on_instance;
  given = let e : suc n + r.strand ≡ n + suc r.strand = omega arith in subst (λ (s : ℕ). IsOriginFrom r.role.uniquely_originating r.role r.height r.terms s u) e r.given;
}

pub unique_given_by : (n : ℕ) (strands : List SkeletonStrand) (u : UniqueAt) → IsIn u (given_uniques n strands) → IsGivenByOne (GivesUnique u n) strands
unique_given_by n [] u i = elim i [ ]
unique_given_by n (listener t ∷ strands) u i = given_later (GivesUnique u n) (listener t) strands (one_on u n strands (unique_given_by (suc n) strands u i))
unique_given_by n (instance role height terms ∷ strands) u i =
    ⊎_elim
    (λ j. given_first (GivesUnique u n) role height terms strands
    (let e : n ≡ n + 0 = omega arith in subst (λ (s : ℕ). IsOriginFrom role.uniquely_originating role height terms s u) e (unique_given role height terms n role.uniquely_originating u j)))
    (λ j. given_later (GivesUnique u n) (instance role height terms) strands (one_on u n strands (unique_given_by (suc n) strands u j)))
    (in_append (applying_uniques role height terms n role.uniquely_originating) (given_uniques (suc n) strands) i)
