-- The names of variables in a report.
use Rattle.std.specs.Prelude.{ℕ, zero, suc, ◌==◌, ◌||◌, List, [], ◌∷◌, ◌++◌, length, Bool, false, codes, decimal, if◌then◌else◌}
use Rattle.cp_model.specs.declared.sort.Sort.{Sort}
use Rattle.cp_model.specs.declared.sort.Sort.TheVariants.{Text as text_sort, Datum as datum_sort, Name as name_sort, Skey as skey_sort, Akey as akey_sort}
use Rattle.cp_model.specs.declared.variable.Variable.{Variable}
use Rattle.cp_model.specs.declared.variable.Declaration.{Declaration}
use Rattle.cp_language.specs.Words.{is_one_of}

-- x-0, x-1 and so on
abbrev pub numbered_name : List ℕ → ℕ → List ℕ
numbered_name x n = x ++ codes "-" ++ decimal n

-- the first of x-n and those behind it, as many as fuel says, that is not taken
abbrev pub first_numbered : ℕ → List (List ℕ) → List ℕ → ℕ → List ℕ
first_numbered zero taken x n = numbered_name x n
first_numbered (suc fuel) taken x n = if is_one_of (numbered_name x n) taken then first_numbered fuel taken x (suc n) else numbered_name x n

-- The first of x, x-0, x-1 and so on that is not taken.
abbrev pub free_name : List (List ℕ) → List ℕ → List ℕ
free_name taken x = if is_one_of x taken then first_numbered (length taken) taken x 0 else x

abbrev pub identifiers_in : List Declaration → List (List ℕ)
identifiers_in [] = []
identifiers_in (d ∷ ds) = d.identifier ∷ identifiers_in ds

-- Each of these variables gets a name that is not taken, and that is taken from then on.
abbrev pub names_onto : List (List ℕ) → List Declaration → List (List ℕ)
names_onto taken [] = []
names_onto taken (d ∷ ds) = let x = free_name taken d.identifier in x ∷ names_onto (taken ++ x ∷ []) ds

abbrev pub first_of : {A : Type 0} → ℕ → List A → List A
first_of zero xs = []
first_of (suc n) [] = []
first_of (suc n) (x ∷ xs) = x ∷ first_of n xs

abbrev pub behind : {A : Type 0} → ℕ → List A → List A
behind zero xs = xs
behind (suc n) [] = []
behind (suc n) (x ∷ xs) = behind n xs

-- The names of a problem's variables: a declared one keeps its identifier; each of the others gets one that no
-- variable before it has and that is not declared.
abbrev pub problem_names : ℕ → List Declaration → List (List ℕ)
problem_names declared variables = identifiers_in (first_of declared variables) ++ names_onto (identifiers_in (first_of declared variables)) (behind declared variables)

abbrev pub has_number : List Variable → ℕ → Bool
has_number [] n = false
has_number (x ∷ xs) n = (x.number == n) || has_number xs n

-- The other variables of a label, the first having number n: those that occur get a name that no variable of the
-- problem and none before them has.
abbrev pub later_names : List (List ℕ) → List Variable → ℕ → List Declaration → List (List ℕ)
later_names taken occurring n [] = []
later_names taken occurring n (d ∷ ds) =
    let x = free_name taken d.identifier in
    if has_number occurring n then x ∷ later_names (taken ++ x ∷ []) occurring (suc n) ds else [] ∷ later_names taken occurring (suc n) ds

-- The names of a label's variables by their numbers, where names are those of the problem's variables.
abbrev pub label_names : List (List ℕ) → List Variable → List Declaration → List (List ℕ)
label_names names occurring variables = names ++ later_names names occurring (length names) (behind (length names) variables)

abbrev pub sort_text : Sort → List ℕ
sort_text text_sort = codes "text"
sort_text datum_sort = codes "data"
sort_text name_sort = codes "name"
sort_text skey_sort = codes "skey"
sort_text akey_sort = codes "akey"
