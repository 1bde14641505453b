-- The forms of the input, one after another.
use Rattle.std.proofs.Common.{◌≡◌, ℕ, ◌+◌, ◌<◌, ◌≤◌, ◌||◌, List, [], ◌∷◌, ◌++◌, length, get_or, map, drop, refl, sym, ap, ◌∙◌}
use Rattle.std.specs.Prelude.{Option, Some, None, Ok, Err}
use Rattle.std.specs.List.{filter_map}
use Rattle.std.proofs.lemmas.List.{drop_all, append_assoc, append-nil}
use Rattle.cp_lists.proofs.Members.{drop_read}
use Rattle.cp_base.specs.declared.place.Place.{Place}
use Rattle.cp_base.specs.declared.place.Code.TheVariants.{DuplicateProtocol}
use Rattle.cp_base.specs.declared.place.Refusal.{Refusal}
use Rattle.cp_model.specs.Strand.{Protocol}
use Rattle.cp_sexpr.specs.Syntax.{Form}
use Rattle.cp_sexpr.specs.View.{view, views}
use Rattle.cp_sexpr.specs.declared.form.Form as program
use Rattle.cp_model.specs.Same.{same_text}
use Rattle.cp_language.specs.declared.words.TopHead.{TopHead}
use Rattle.cp_language.specs.declared.words.TopHead.TheVariants.{Protocol as protocol_form, Problem as problem_form, Free as free_form, OutOfProfile as top_out_of_profile, Unknown as no_top}
use Rattle.cp_language.specs.Words.{is_one_of, top_head}
use Rattle.cp_language.specs.Faults.{fault, place_of}
use Rattle.cp_language.specs.Roles.{Headed, headed, algebra_faults, roles_faults, protocol_faults, protocol_of}
use Rattle.cp_language.specs.Input.{protocol_names, headed_top_faults, protocols_onto, protocols_behind, faults_from, Entry, form_of, stated_protocol, headed_entry, entries_from, faults_of}
use Rattle.cp_language.specs.StatedInput.{protocols_in, protocols_of, IsInput}
use Rattle.cp_roles.specs.Above.{names_of_protocols, turned}
use Rattle.cp_scope.specs.FirstFault.{first_onto}
use Rattle.cp_load.specs.UncheckedProblems.{unchecked_entry_view}
use Rattle.cp_load.specs.declared.unchecked_problems.UncheckedEntry.{UncheckedEntry}
use Rattle.cp_scope.proofs.Firsts.{first_onto-append, first_found, none_found}
use Rattle.cp_scope.proofs.DeclaredIdentifiers.{AreSameNames, names-swap}
use Rattle.cp_roles.proofs.RoleNames.{name-names}
use Rattle.cp_roles.proofs.ProtocolNames.{turned-push}
use Rattle.cp_scope.proofs.Views.{items_of-forms_of}
use Rattle.cp_language.proofs.Entries.{protocols_entered}
use Rattle.cp_load.proofs.Entries.{forms_entered}

-- ---- the names of protocols

names-turned : (ps others : List Protocol) → AreSameNames (names_of_protocols ps ++ protocol_names others) (protocol_names (turned ps others))
names-turned [] others t = refl
names-turned (p ∷ ps) others t =
    let names = names_of_protocols ps in
    ap (λ b. same_text t p.name || b) (names-swap names (protocol_names others) t)
    ∙ names-swap (p.name ∷ protocol_names others) names t
    ∙ names-turned ps (p ∷ others) t

pub faults-turned : (ps : List Protocol) (at : Place) (fs : List Form) → protocol_faults (names_of_protocols ps) at fs ≡ protocol_faults (protocol_names (turned ps [])) at fs
faults-turned ps at [] = refl
faults-turned ps at (x ∷ []) = refl
faults-turned ps at (x ∷ y ∷ fs) =
    ap (λ rs. rs ++ algebra_faults y ++ roles_faults [] fs) (name-names (names_of_protocols ps) (protocol_names (turned ps [])) (λ p. fault p DuplicateProtocol) x same)
  where
    same : AreSameNames (names_of_protocols ps) (protocol_names (turned ps []))
    same t = ap (is_one_of t) (sym (append-nil (names_of_protocols ps))) ∙ names-turned ps [] t

onto-turned : (ps : List Protocol) (h : TopHead) (fs : List Form) → turned (ps ++ protocols_onto h fs []) [] ≡ protocols_onto h fs (turned ps [])
onto-turned ps protocol_form fs = turned-push ps [] (protocol_of fs)
onto-turned ps problem_form fs = ap (λ xs. turned xs []) (append-nil ps)
onto-turned ps free_form fs = ap (λ xs. turned xs []) (append-nil ps)
onto-turned ps top_out_of_profile fs = ap (λ xs. turned xs []) (append-nil ps)
onto-turned ps no_top fs = ap (λ xs. turned xs []) (append-nil ps)

-- what stands above, the last first, with the protocol of a form
pub behind-turned : (ps : List Protocol) (o : Option Headed) → turned (ps ++ protocols_behind o []) [] ≡ protocols_behind o (turned ps [])
behind-turned ps None = ap (λ xs. turned xs []) (append-nil ps)
behind-turned ps (Some h) = onto-turned ps (top_head h.head) h.items

-- ---- one form after another

pub unchecked-pushed : (us vs : List UncheckedEntry) (u : UncheckedEntry) → vs ≡ us ++ u ∷ [] → map unchecked_entry_view vs ≡ map unchecked_entry_view us ++ unchecked_entry_view u ∷ []
unchecked-pushed us vs u e = ap (map unchecked_entry_view) e ∙ pushed us
  where
    pushed : (ws : List UncheckedEntry) → map unchecked_entry_view (ws ++ u ∷ []) ≡ map unchecked_entry_view ws ++ unchecked_entry_view u ∷ []
    pushed [] = refl
    pushed (w ∷ ws) = ap (λ xs. unchecked_entry_view w ∷ xs) (pushed ws)

-- ---- all forms but the first ones

module _ (fs : List program.Form) (k : ℕ) where
  module _ (f : program.Form) (lt : k < length fs) (is : f ≡ get_or fs k f) (ps qs : List Protocol) (behind : qs ≡ ps ++ protocols_behind (headed (view f)) []) where
    above-same : turned qs [] ≡ protocols_behind (headed (view f)) (turned ps [])
    above-same = ap (λ xs. turned xs []) behind ∙ behind-turned ps (headed (view f))

    pub faults-taken : (o p all : Option Refusal) → p ≡ first_onto o (headed_top_faults (turned ps []) (place_of (view f)) (headed (view f)))
        → first_onto o (faults_from (turned ps []) (map view (drop k fs))) ≡ all → first_onto p (faults_from (turned qs []) (map view (drop (k + 1) fs))) ≡ all
    faults-taken o p all e i =
        let rest = map view (drop (k + 1) fs) in
        let after = protocols_behind (headed (view f)) (turned ps []) in
        ap (λ x. first_onto p (faults_from x rest)) above-same ∙ ap (λ x. first_onto x (faults_from after rest)) e
        ∙ sym (first_onto-append o (headed_top_faults (turned ps []) (place_of (view f)) (headed (view f))) (faults_from after rest))
        ∙ sym (ap (λ gs. first_onto o (faults_from (turned ps []) (map view gs))) (drop_read fs k f lt is)) ∙ i

    pub entries-taken : (us vs : List UncheckedEntry) (u : UncheckedEntry) (all : List Entry) → unchecked_entry_view u ≡ headed_entry (turned ps []) (headed (view f)) (view f) → vs ≡ us ++ u ∷ []
        → map unchecked_entry_view us ++ entries_from (turned ps []) (map view (drop k fs)) ≡ all → map unchecked_entry_view vs ++ entries_from (turned qs []) (map view (drop (k + 1) fs)) ≡ all
    entries-taken us vs u all e g i =
        let rest = map view (drop (k + 1) fs) in
        let after = protocols_behind (headed (view f)) (turned ps []) in
        let xs = map unchecked_entry_view us in
        ap (λ y. map unchecked_entry_view vs ++ entries_from y rest) above-same ∙ ap (λ zs. zs ++ entries_from after rest) (unchecked-pushed us vs u g) ∙ append_assoc xs (unchecked_entry_view u ∷ []) (entries_from after rest)
        ∙ ap (λ y. xs ++ y ∷ entries_from after rest) e
        ∙ sym (ap (λ gs. xs ++ entries_from (turned ps []) (map view gs)) (drop_read fs k f lt is)) ∙ i

  pub faults-done : length fs ≤ k → (above : List Protocol) (o all : Option Refusal) → first_onto o (faults_from above (map view (drop k fs))) ≡ all → o ≡ all
  faults-done h above o all i = sym (ap (λ gs. first_onto o (faults_from above (map view gs))) (drop_all k fs h)) ∙ i

  pub entries-done : length fs ≤ k → (above : List Protocol) (us : List UncheckedEntry) (all : List Entry) → map unchecked_entry_view us ++ entries_from above (map view (drop k fs)) ≡ all → map unchecked_entry_view us ≡ all
  entries-done h above us all i =
      let xs = map unchecked_entry_view us in
      sym (append-nil xs) ∙ sym (ap (λ gs. xs ++ entries_from above (map view gs)) (drop_all k fs h)) ∙ i

-- ---- all forms

module _ (fs : List program.Form) where
  faults-all : faults_of (views fs) ≡ faults_from [] (map view fs)
  faults-all = ap (faults_from []) (items_of-forms_of (map view fs))

  pub forms-all : (es : List Entry) → es ≡ entries_from [] (map view fs) → map form_of es ≡ map view fs
  forms-all es e = ap (map form_of) e ∙ forms_entered [] (map view fs)

  pub protocols-all : (es : List Entry) → es ≡ entries_from [] (map view fs) → filter_map stated_protocol es ≡ protocols_of (views fs)
  protocols-all es e = ap (filter_map stated_protocol) e ∙ protocols_entered [] (map view fs) ∙ sym (ap protocols_in (items_of-forms_of (map view fs)))

  module _ (o p : Option Refusal) (new : o ≡ None) (met : p ≡ first_onto o (faults_from [] (map view fs))) where
    found : p ≡ first_onto None (faults_of (views fs))
    found = met ∙ ap (λ x. first_onto x (faults_from [] (map view fs))) new ∙ ap (first_onto None) (sym faults-all)

    pub no-faults : p ≡ None → faults_of (views fs) ≡ []
    no-faults e = none_found (faults_of (views fs)) (sym found ∙ e)

    pub input-loaded : p ≡ None → (es : List Entry) → es ≡ entries_from [] (map view fs) → IsInput (views fs) (Ok es)
    input-loaded e es h = (no-faults e, h ∙ sym (ap (entries_from []) (items_of-forms_of (map view fs))))

    pub input-refused : (r : Refusal) → p ≡ Some r → IsInput (views fs) (Err r)
    input-refused r e = first_found (faults_of (views fs)) r (sym found ∙ e)
