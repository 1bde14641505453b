-- Strands that fit are instances of roles of the protocol, with heights that these have.
use Rattle.std.proofs.Common.{◌≡◌, ℕ, List, [], ◌∷◌, ◌++◌, length, Bool, true, false, nat_lt, nat_le, ◌&&◌, Option, Some, None, refl, subst, if◌then◌else◌}
use Rattle.cp_base.specs.declared.place.Place.{Place}
use Rattle.cp_lists.specs.Lists.{item_at, IsIn}
use Rattle.cp_lists.proofs.Items.{at_place, item_of_map}
use Rattle.cp_lists.proofs.Appended.{none_in_both}
use Rattle.cp_model.specs.Bindings.{Binding}
use Rattle.cp_model.specs.Strand.{Role, IsHeight}
use Rattle.cp_model.specs.Skeleton.{instance, listener}
use Rattle.cp_sexpr.specs.Syntax.{Form, symbol, string, number, list}
use Rattle.cp_language.specs.Faults.{place_of}
use Rattle.cp_language.specs.Roles.{text_of_symbol}
use Rattle.cp_language.specs.Problems.{role_named, is_known, first_form, number_of, Problem}
use Rattle.cp_report.specs.Misfits.{symbol_misfits, entries_misfits}
use Rattle.cp_report.specs.Heads.{forms_after_head, items_with, strand_heads}
use Rattle.cp_report.specs.Spelled.{Scope, term_misfits}
use Rattle.cp_report.specs.Skeletons.{scope_of, term_or_tag, height_misfits, prefix_misfits, instance_misfits, strand_misfits, states_instance, instance_with, instance_of_entries, strand_of, strands_of_label, strands_misfits}
use Rattle.cp_language.proofs.Strands.{role_listed, height_there}
use Rattle.cp_report.proofs.NoMisfits.{none_of_unless, holds, none_of_each}

-- The role is one of these, and has this height.
pub record IsOf (roles : List Role) (role : Role) (height : ℕ) : Type 0 where
  pub listed : IsIn role roles
  pub reached : IsHeight role height

height_fits : (role : Role) (f : Form) → height_misfits (Some role) f ≡ [] → IsHeight role (number_of f)
height_fits role (symbol at t) e = absurd (cc)
height_fits role (string at t) e = absurd (cc)
height_fits role (number at n) e = height_there role n (holds (nat_lt 0 n && nat_le n (length role.trace)) at e)
height_fits role (list at fs) e = absurd (cc)

module _ (roles : List Role) (s : Scope) (role : Role) (height : ℕ) (terms : List Binding) where
  -- an instance of the role that is named, if one is
  by_role : (o : Option Role) (h : Form) (maplets : List Form) → ((r : Role) → o ≡ Some r → IsIn r roles) → height_misfits o h ≡ []
      → instance_with s o (number_of h) maplets ≡ instance role height terms → IsOf roles role height
  by_role None h maplets listed fits e = absurd (cc)
  by_role (Some r) h maplets listed fits e =
      let same : r ≡ role = cc in
      let high : number_of h ≡ height = cc in
      subst (λ (x : Role). IsOf roles x height) same (subst (λ (n : ℕ). IsOf roles r n) high (record { listed = listed r refl; reached = height_fits r h fits }))

  of_entries : (at : Place) (fs : List Form) → instance_misfits roles s at fs ≡ [] → instance_of_entries roles s fs ≡ instance role height terms → IsOf roles role height
  of_entries at [] fits e = absurd (cc)
  of_entries at (f ∷ []) fits e = absurd (cc)
  of_entries at (name ∷ h ∷ maplets) fits e =
      let named = role_named roles (text_of_symbol name) in
      let front = symbol_misfits (λ t. is_known (role_named roles t)) name in
      let first = none_of_unless (front ++ height_misfits named h) (prefix_misfits s named (number_of h) at maplets) fits in
      by_role named h maplets (λ r found. role_listed roles (text_of_symbol name) r found) (none_in_both front (height_misfits named h) first.0).1 e

  of_form : (f : Form) (b : Bool) → (if b then instance_misfits roles s (place_of f) (forms_after_head f) else entries_misfits (term_misfits s ∷ []) (place_of f) (forms_after_head f)) ≡ []
      → (if b then instance_of_entries roles s (forms_after_head f) else listener (term_or_tag s (first_form (forms_after_head f)))) ≡ instance role height terms → IsOf roles role height
  of_form f true fits e = of_entries (place_of f) (forms_after_head f) fits e
  of_form f false fits e = absurd (cc)

pub strands_are_of : (p : Problem) (items : List Form) → strands_misfits p items ≡ [] → (s : ℕ) (role : Role) (height : ℕ) (terms : List Binding)
    → item_at (strands_of_label p items) s ≡ Some (instance role height terms) → IsOf p.protocol.roles role height
strands_are_of p items fits s role height terms at =
    let roles = p.protocol.roles in
    let found = item_of_map (strand_of roles (scope_of items)) (items_with strand_heads items) s (instance role height terms) at in
    of_form roles (scope_of items) role height terms found.0 (states_instance found.0)
    (none_of_each (strand_misfits roles (scope_of items)) (items_with strand_heads items) fits found.0 (at_place (items_with strand_heads items) s found.0 found.1)) found.2
