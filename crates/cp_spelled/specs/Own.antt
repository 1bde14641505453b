-- Terms one level at a time: where a list does not fit but for what is inside its items, and what it stands for.
use Rattle.std.specs.Prelude.{ℕ, List, [], ◌∷◌, ◌++◌, ◌&&◌, if◌then◌else◌, codes, Option, Some, None}
use Rattle.cp_base.specs.declared.place.Place.{Place}
use Rattle.cp_model.specs.Term.{Term, tag_term}
use Rattle.cp_model.specs.declared.variable.Variable.{Variable}
use Rattle.cp_model.specs.declared.sort.Sort.TheVariants.{Name as name_sort, Akey as akey_sort}
use Rattle.cp_model.specs.Same.{same_text}
use Rattle.cp_sexpr.specs.Syntax.{Form}
use Rattle.cp_language.specs.declared.words.TermHead.{TermHead}
use Rattle.cp_language.specs.declared.words.TermHead.TheVariants.{Cat as cat, Enc as encrypt, Ltk as long_term_key, Pubk as public_key, Privk as private_key, Invk as inverse_key, OutOfProfile as operation_out_of_profile, Unknown as no_operation}
use Rattle.cp_language.specs.Words.{term_head}
use Rattle.cp_language.specs.Roles.{front_of, last_form, list_items}
use Rattle.cp_language.specs.Problems.{second_form}
use Rattle.cp_language.specs.Terms.{term_of_variable, applied}
use Rattle.cp_report.specs.Misfits.{misfit, lacking}
use Rattle.cp_report.specs.Skeletons.{term_or_tag}
use Rattle.cp_report.specs.Spelled.{Scope, local_by, variable_of_local, local_misfits, sort_misfits, variables_misfits, name_misfits, spread_misfits, last_key_misfits}

-- The sort that is wanted, where there is a variable.
abbrev pub wanted_sort_misfits : Scope → Option Variable → Form → List Place
wanted_sort_misfits s None f = []
wanted_sort_misfits s (Some x) f = sort_misfits s x.sort f

-- Where a list with this head does not fit but for what is inside its items.
abbrev pub own_misfits : Scope → Place → TermHead → List Form → List Place
own_misfits s at cat fs = lacking 2 at fs ++ spread_misfits (last_form fs)
own_misfits s at encrypt fs = lacking 2 at fs ++ spread_misfits (last_form (front_of fs)) ++ last_key_misfits s (last_form fs)
own_misfits s at long_term_key fs = variables_misfits s (name_sort ∷ name_sort ∷ []) at fs
own_misfits s at public_key fs = name_misfits s at fs
own_misfits s at private_key fs = name_misfits s at fs
own_misfits s at inverse_key fs = variables_misfits s (akey_sort ∷ []) at fs
own_misfits s at operation_out_of_profile fs = misfit at
own_misfits s at no_operation fs = misfit at

-- The items of a list with this head that have to be terms.
abbrev pub judged_in_report : TermHead → List Form → List Form
judged_in_report cat fs = fs
judged_in_report encrypt fs = fs
judged_in_report long_term_key fs = []
judged_in_report public_key fs = []
judged_in_report private_key fs = []
judged_in_report inverse_key fs = []
judged_in_report operation_out_of_profile fs = []
judged_in_report no_operation fs = []

-- Where a list does not fit but for what is inside its items, also where it is headed as a local.
abbrev pub headed_misfits : Scope → Place → List ℕ → List Form → List Place
headed_misfits s at t fs = if same_text t (codes "any") && s.in_pattern then local_misfits at fs else own_misfits s at (term_head t) fs

-- Its items that have to be terms, also where it is headed as a local.
abbrev pub headed_judged : Scope → List ℕ → List Form → List Form
headed_judged s t fs = if same_text t (codes "any") && s.in_pattern then [] else judged_in_report (term_head t) fs

-- What a list stands for whose items stand for these terms, also where it is headed as a local.
abbrev pub headed_term : Scope → List ℕ → List Form → List Term → Term
headed_term s t fs ts = if same_text t (codes "any") && s.in_pattern then term_of_variable (variable_of_local s (local_by fs)) else applied (term_head t) fs ts

-- The term of a maplet, where there is one.
abbrev pub value_of_item : Scope → Option Form → Term
value_of_item s None = tag_term []
value_of_item s (Some f) = term_or_tag s (second_form (list_items f))
