-- The entries of forms: their forms, and the protocols that they state.
use Rattle.std.proofs.Common.{◌≡◌, List, [], ◌∷◌, ◌++◌, Option, Some, None, refl, ap, ◌∙◌}
use Rattle.std.specs.List.{cons_option, filter_map}
use Rattle.cp_model.specs.Strand.{Protocol}
use Rattle.cp_sexpr.specs.Syntax.{Form}
use Rattle.cp_language.specs.declared.words.TopHead.{TopHead}
use Rattle.cp_language.specs.declared.words.TopHead.TheVariants.{Protocol as protocol_form, Problem as problem_form, Free as free_form, OutOfProfile as top_out_of_profile, Unknown as no_top}
use Rattle.cp_language.specs.Words.{top_head}
use Rattle.cp_language.specs.Roles.{Headed, headed}
use Rattle.cp_language.specs.Input.{protocols_onto, protocols_behind, form_of, stated_protocol, entry_of_head, headed_entry, entries_from}
use Rattle.cp_language.specs.StatedInput.{protocols_in}

by_form : (above : List Protocol) (h : TopHead) (fs : List Form) (f : Form) → form_of (entry_of_head above h fs f) ≡ f
by_form above protocol_form fs f = refl
by_form above problem_form fs f = refl
by_form above free_form fs f = refl
by_form above top_out_of_profile fs f = refl
by_form above no_top fs f = refl

-- the form of an entry is the one that it was made of
pub headed_form : (above : List Protocol) (o : Option Headed) (f : Form) → form_of (headed_entry above o f) ≡ f
headed_form above None f = refl
headed_form above (Some h) f = by_form above (top_head h.head) h.items f

by_protocol : (above : List Protocol) (h : TopHead) (fs : List Form) (f : Form) (rest : List Protocol) → cons_option (stated_protocol (entry_of_head above h fs f)) rest ≡ protocols_onto h fs [] ++ rest
by_protocol above protocol_form fs f rest = refl
by_protocol above problem_form fs f rest = refl
by_protocol above free_form fs f rest = refl
by_protocol above top_out_of_profile fs f rest = refl
by_protocol above no_top fs f rest = refl

headed_protocol : (above : List Protocol) (o : Option Headed) (f : Form) (rest : List Protocol) → cons_option (stated_protocol (headed_entry above o f)) rest ≡ protocols_behind o [] ++ rest
headed_protocol above None f rest = refl
headed_protocol above (Some h) f rest = by_protocol above (top_head h.head) h.items f rest

-- the protocols of the entries are those that the forms state
pub protocols_entered : (above : List Protocol) (fs : List Form) → filter_map stated_protocol (entries_from above fs) ≡ protocols_in fs
protocols_entered above [] = refl
protocols_entered above (f ∷ fs) =
    ap (λ ps. cons_option (stated_protocol (headed_entry above (headed f) f)) ps) (protocols_entered (protocols_behind (headed f) above) fs) ∙ headed_protocol above (headed f) f (protocols_in fs)
