-- What holds of the roles of a protocol without faults, role by role. A property speaks of the names before the roles, and
-- of the roles; what is given is a fact of the forms behind each head.
use Rattle.std.proofs.Common.{◌≡◌, ℕ, List, [], ◌∷◌, Option, Some, None, if◌then◌else◌}
use Rattle.cp_base.specs.declared.place.Place.{Place}
use Rattle.cp_lists.specs.Lists.{IsIn, here, there}
use Rattle.cp_lists.proofs.Appended.{none_before, none_behind}
use Rattle.cp_model.specs.Strand.{Role}
use Rattle.cp_sexpr.specs.Syntax.{Form}
use Rattle.cp_language.specs.declared.words.ItemHead.{ItemHead}
use Rattle.cp_language.specs.declared.words.ItemHead.TheVariants.{Role as role_item, Non as non_item, PenetratorNon as penetrator_non_item, Unique as unique_item, Strand as strand_item, Listener as listener_item, Precedes as precedes_item, Comment as comment_item, OutOfProfile as item_out_of_profile, Unknown as no_item}
use Rattle.cp_language.specs.Words.{item_head}
use Rattle.cp_language.specs.Faults.{place_of}
use Rattle.cp_language.specs.Roles.{Headed, headed, item_faults, headed_item_faults, role_faults, item_or_none, items_behind, role_of, is_role_item, protocol_item_faults, role_name_onto, roles_faults, roles_in}

module _ (Given : List Form → Type 0) (P : List (List ℕ) → List Role → Type 0) (none : (before : List (List ℕ)) → P before [])
    (one : (before : List (List ℕ)) (at : Place) (fs : List Form) (rs : List Role) → Given fs → role_faults before at fs ≡ [] → P ((role_of fs).name ∷ before) rs → P before (role_of fs ∷ rs)) where
  -- one more role, where an item is one
  with_item : (before : List (List ℕ)) (at : Place) (k : ItemHead) (fs : List Form) (rs : List Role) → Given fs → protocol_item_faults before at k fs ≡ [] →
      P (if is_role_item k then (role_of fs).name ∷ before else before) rs → P before (if is_role_item k then role_of fs ∷ rs else rs)
  with_item before at role_item fs rs g e h = one before at fs rs g e h
  with_item before at non_item fs rs g e h = h
  with_item before at penetrator_non_item fs rs g e h = h
  with_item before at unique_item fs rs g e h = h
  with_item before at strand_item fs rs g e h = h
  with_item before at listener_item fs rs g e h = h
  with_item before at precedes_item fs rs g e h = h
  with_item before at comment_item fs rs g e h = h
  with_item before at item_out_of_profile fs rs g e h = h
  with_item before at no_item fs rs g e h = h

  with_headed : (before : List (List ℕ)) (at : Place) (o : Option Headed) (rs : List Role) → Given (items_behind o) → headed_item_faults (protocol_item_faults before) at o ≡ [] →
      P (role_name_onto o before) rs → P before (if is_role_item (item_or_none o) then role_of (items_behind o) ∷ rs else rs)
  with_headed before at None rs g e h = h
  with_headed before at (Some k) rs g e h = with_item before at (item_head k.head) k.items rs g e h

  pub of_roles : (before : List (List ℕ)) (fs : List Form) → ((f : Form) → IsIn f fs → Given (items_behind (headed f))) → roles_faults before fs ≡ [] → P before (roles_in fs)
  of_roles before [] g e = none before
  of_roles before (f ∷ fs) g e =
      with_headed before (place_of f) (headed f) (roles_in fs) (g f here) (none_before (item_faults (protocol_item_faults before) f) (roles_faults (role_name_onto (headed f) before) fs) e)
      (of_roles (role_name_onto (headed f) before) fs (λ x i. g x (there i)) (none_behind (item_faults (protocol_item_faults before) f) (roles_faults (role_name_onto (headed f) before) fs) e))
