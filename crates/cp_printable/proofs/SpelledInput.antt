-- The strings and identifiers of well-formed input are those of its forms.
use Rattle.std.proofs.Common.{◌≡◌, List, [], ◌∷◌, false, Option, Some, None, refl, sym, subst}
use Rattle.cp_base.specs.declared.place.Place.{Place}
use Rattle.cp_base.specs.declared.place.Code.TheVariants.{BadShape}
use Rattle.cp_lists.specs.Lists.{IsIn}
use Rattle.cp_lists.proofs.Appended.{none_before, none_behind, none_of_four}
use Rattle.cp_model.specs.Strand.{Protocol}
use Rattle.cp_model.specs.declared.variable.Declaration.{Declaration}
use Rattle.cp_sexpr.specs.Syntax.{Form, Forms}
use Rattle.cp_language.specs.declared.words.TopHead.{TopHead}
use Rattle.cp_language.specs.declared.words.TopHead.TheVariants.{Protocol as protocol_form, Problem as problem_form, Free as free_form, OutOfProfile as top_out_of_profile, Unknown as no_top}
use Rattle.cp_language.specs.Words.{top_head}
use Rattle.cp_language.specs.Faults.{fault_unless, place_of, items_of}
use Rattle.cp_language.specs.Roles.{Headed, headed, text_of_symbol, items_behind, vars_faults, declarations_of, protocol_of}
use Rattle.cp_language.specs.Problems.{protocol_named, body_faults, has_strand, roles_of, protocol_name_faults, problem_strands, problem_faults, Problem, protocol_or_none, problem_with, problem_of}
use Rattle.cp_language.specs.Input.{protocol_names, top_faults, headed_top_faults, protocols_onto, protocols_behind, faults_from, faults_of, Entry, form_of, stated, entry_of_head, headed_entry, entries_from, input_of}
use Rattle.cp_language.proofs.Entries.{headed_form}
use Rattle.cp_language.proofs.Strands.{protocol_listed}
use Rattle.cp_printable.specs.Proper.{IsStringText, IsSymbolText, IsProper, AreProper}
use Rattle.cp_printable.specs.Spelled.{AreSpelledDeclarations, IsSpelledRole, IsSpelledProblem}
use Rattle.cp_printable.proofs.SpelledTerms.{Each, each_of_none, each_more}
use Rattle.cp_printable.proofs.SpelledRoles.{AllProper, items_proper, behind_proper, variables_proper, AreSpelledRoles, protocol_spelled}
use Rattle.cp_printable.proofs.SpelledProblems.{problem_with_spelled}

-- ---- the forms

forms_proper : (above : List Protocol) (fs : List Form) → AllProper fs → Each (λ (e : Entry). IsProper (form_of e)) (entries_from above fs)
forms_proper above [] h = each_of_none (λ (e : Entry). IsProper (form_of e))
forms_proper above (f ∷ fs) h =
    each_more (λ (e : Entry). IsProper (form_of e)) (headed_entry above (headed f) f) (entries_from (protocols_behind (headed f) above) fs)
    (subst IsProper (sym (headed_form above (headed f) f)) h.0) (forms_proper (protocols_behind (headed f) above) fs h.1)

pub form_is_proper : (fs : Forms) (e : Entry) → AreProper fs → IsIn e (input_of fs) → IsProper (form_of e)
form_is_proper fs e proper i = forms_proper [] (items_of fs) (items_proper fs proper) e i

-- ---- one problem

-- The roles of all of these protocols are proper.
abbrev AreSpelledProtocols : List Protocol → Type 0
AreSpelledProtocols ps = Each (λ (p : Protocol). AreSpelledRoles p.roles) ps

by_protocol : (o : Option Protocol) (ds : List Declaration) (body : List Form) → ((p : Protocol) → o ≡ Some p → AreSpelledRoles p.roles) → AreSpelledDeclarations IsSymbolText ds → AllProper body →
    IsSpelledProblem IsStringText IsSymbolText (problem_with (protocol_or_none o) ds body (problem_strands (protocol_or_none o).roles ds body))
by_protocol None ds body h named proper = problem_with_spelled (protocol_or_none None) ds body (each_of_none (IsSpelledRole IsStringText IsSymbolText)) named proper
by_protocol (Some p) ds body h named proper = problem_with_spelled p ds body (h p refl) named proper

problem_spelled : (above : List Protocol) (at : Place) (fs : List Form) → AreSpelledProtocols above → AllProper fs → problem_faults above at fs ≡ [] → IsSpelledProblem IsStringText IsSymbolText (problem_of above fs)
problem_spelled above at [] h proper e = absurd (cc)
problem_spelled above at (name ∷ []) h proper e = absurd (cc)
problem_spelled above at (name ∷ vars ∷ body) h proper e =
    let o = protocol_named above (text_of_symbol name) in
    let ds = declarations_of vars in
    let p = none_of_four (fault_unless (has_strand (vars ∷ body)) at BadShape) (protocol_name_faults above name) (vars_faults vars)
    (body_faults (roles_of o) ds (problem_strands (roles_of o) ds body).strands [] (record { after_strand = false; after_item = false }) body) e in
    by_protocol o ds body (λ q found. h q (protocol_listed above (text_of_symbol name) q found)) (variables_proper vars proper.1.0 p.2) proper.1.1

-- ---- the input

abbrev IsSpelledOption : Option Problem → Type 0
IsSpelledOption o = (p : Problem) → o ≡ Some p → IsSpelledProblem IsStringText IsSymbolText p

some_spelled : (q : Problem) → IsSpelledProblem IsStringText IsSymbolText q → IsSpelledOption (Some q)
some_spelled q h p e = let r : q ≡ p = cc in subst (IsSpelledProblem IsStringText IsSymbolText) r h

none_spelled : IsSpelledOption None
none_spelled p e = absurd (cc)

-- what a form states, and the protocols that stand above the forms behind it
by_head : (above : List Protocol) (at : Place) (k : TopHead) (fs : List Form) (f : Form) → AreSpelledProtocols above → AllProper fs → top_faults above at k fs ≡ [] →
    IsSpelledOption (stated (entry_of_head above k fs f)) × AreSpelledProtocols (protocols_onto k fs above)
by_head above at protocol_form fs f h proper e =
    (none_spelled, each_more (λ (p : Protocol). AreSpelledRoles p.roles) (protocol_of fs) above (protocol_spelled (protocol_names above) at fs proper e) h)
by_head above at problem_form fs f h proper e = (some_spelled (problem_of above fs) (problem_spelled above at fs h proper e), h)
by_head above at free_form fs f h proper e = (none_spelled, h)
by_head above at top_out_of_profile fs f h proper e = absurd (cc)
by_head above at no_top fs f h proper e = absurd (cc)

by_headed : (above : List Protocol) (at : Place) (o : Option Headed) (f : Form) → AreSpelledProtocols above → AllProper (items_behind o) → headed_top_faults above at o ≡ [] →
    IsSpelledOption (stated (headed_entry above o f)) × AreSpelledProtocols (protocols_behind o above)
by_headed above at None f h proper e = absurd (cc)
by_headed above at (Some k) f h proper e = by_head above at (top_head k.head) k.items f h proper e

problems_spelled : (above : List Protocol) (fs : List Form) → AreSpelledProtocols above → AllProper fs → faults_from above fs ≡ [] → Each (λ (e : Entry). IsSpelledOption (stated e)) (entries_from above fs)
problems_spelled above [] h proper e = each_of_none (λ (x : Entry). IsSpelledOption (stated x))
problems_spelled above (f ∷ fs) h proper e =
    let behind = protocols_behind (headed f) above in
    let first = headed_top_faults above (place_of f) (headed f) in
    let one = by_headed above (place_of f) (headed f) f h (behind_proper f proper.0) (none_before first (faults_from behind fs) e) in
    each_more (λ (x : Entry). IsSpelledOption (stated x)) (headed_entry above (headed f) f) (entries_from behind fs)
    one.0 (problems_spelled behind fs one.1 proper.1 (none_behind first (faults_from behind fs) e))

pub problem_is_spelled : (fs : Forms) (e : Entry) (p : Problem) → AreProper fs → faults_of fs ≡ [] → IsIn e (input_of fs) → stated e ≡ Some p → IsSpelledProblem IsStringText IsSymbolText p
problem_is_spelled fs e p proper well_formed i states =
    problems_spelled [] (items_of fs) (each_of_none (λ (q : Protocol). AreSpelledRoles q.roles)) (items_proper fs proper) well_formed e i p states
