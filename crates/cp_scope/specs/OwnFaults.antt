-- The faults of a list in a term but for those inside its items.
use Rattle.std.specs.Prelude.{List, [], ◌∷◌, ◌++◌, drop, take, Bool, true, false, if◌then◌else◌, Option, Some, None}
use Rattle.cp_base.specs.declared.place.Place.{Place}
use Rattle.cp_base.specs.declared.place.Code.TheVariants.{UnknownForm, OutOfProfile}
use Rattle.cp_base.specs.declared.place.Refusal.{Refusal}
use Rattle.cp_lists.specs.Lists.{item_at}
use Rattle.cp_model.specs.declared.sort.Sort.{Sort}
use Rattle.cp_model.specs.declared.sort.Sort.TheVariants.{Name as name_sort, Akey as akey_sort}
use Rattle.cp_model.specs.declared.variable.Declaration.{Declaration}
use Rattle.cp_sexpr.specs.Syntax.{Form, symbol, string, number, list}
use Rattle.cp_language.specs.declared.words.TermHead.{TermHead}
use Rattle.cp_language.specs.declared.words.TermHead.TheVariants.{Cat as cat, Enc as encrypt, Ltk as long_term_key, Pubk as public_key, Privk as private_key, Invk as inverse_key, OutOfProfile as operation_out_of_profile, Unknown as no_operation}
use Rattle.cp_language.specs.Faults.{fault}
use Rattle.cp_language.specs.Terms.{lacks, exceeds, sort_faults, last_key_faults}

-- The sort of an argument, where it is there.
abbrev pub sort_faults_if : List Declaration → Sort → Option Form → List Refusal
sort_faults_if ds s None = []
sort_faults_if ds s (Some f) = sort_faults ds s f

-- One argument, of this sort.
abbrev pub argument_faults : List Declaration → Sort → Place → List Form → List Refusal
argument_faults ds s at fs = lacks 1 at fs ++ sort_faults_if ds s (item_at fs 0) ++ exceeds 1 fs

-- Two arguments of sort name.
abbrev pub two_name_faults : List Declaration → Place → List Form → List Refusal
two_name_faults ds at fs = lacks 2 at fs ++ sort_faults_if ds name_sort (item_at fs 0) ++ sort_faults_if ds name_sort (item_at fs 1) ++ exceeds 2 fs

-- A string stands first.
abbrev pub is_purpose : List Form → Bool
is_purpose [] = false
is_purpose (symbol at t ∷ fs) = false
is_purpose (string at t ∷ fs) = true
is_purpose (number at n ∷ fs) = false
is_purpose (list at gs ∷ fs) = false

-- The items behind a purpose.
abbrev pub behind_purpose : List Form → List Form
behind_purpose fs = if is_purpose fs then drop 1 fs else fs

abbrev pub key_name_faults : List Declaration → Place → List Form → List Refusal
key_name_faults ds at fs = argument_faults ds name_sort at (behind_purpose fs)

abbrev pub own_faults : List Declaration → Place → TermHead → List Form → List Refusal
own_faults ds at cat fs = lacks 1 at fs
own_faults ds at encrypt fs = lacks 2 at fs ++ last_key_faults ds fs
own_faults ds at long_term_key fs = two_name_faults ds at fs
own_faults ds at public_key fs = key_name_faults ds at fs
own_faults ds at private_key fs = key_name_faults ds at fs
own_faults ds at inverse_key fs = argument_faults ds akey_sort at fs
own_faults ds at operation_out_of_profile fs = fault at OutOfProfile
own_faults ds at no_operation fs = fault at UnknownForm

-- The items whose own faults count.
abbrev pub judged_name : List Form → List Form
judged_name fs = take 1 (behind_purpose fs)

abbrev pub judged : TermHead → List Form → List Form
judged cat fs = fs
judged encrypt fs = fs
judged long_term_key fs = take 2 fs
judged public_key fs = judged_name fs
judged private_key fs = judged_name fs
judged inverse_key fs = take 1 fs
judged operation_out_of_profile fs = []
judged no_operation fs = []
