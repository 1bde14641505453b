-- The strands of a problem without faults: each is of a role of the protocol, and its variables are declared or made.
use Rattle.std.proofs.Common.{◌≡◌, ℕ, ◌+◌, ◌<◌, ◌≤◌, List, [], ◌∷◌, ◌++◌, length, Bool, true, false, ◌&&◌, nat_lt, nat_le, Option, Some, None, refl, sym, ap, ◌∙◌, subst, arith, if◌then◌else◌, ltb-true, leb-true, append_assoc}
use Rattle.std.proofs.lemmas.Bool.{and_parts}
use Rattle.std.proofs.lemmas.List.{length-append}
use Rattle.cp_base.specs.declared.place.Place.{Place}
use Rattle.cp_base.specs.declared.place.Code.TheVariants.{BadHeight, UnknownRole}
use Rattle.cp_lists.specs.Lists.{IsIn, here, there}
use Rattle.cp_lists.proofs.Appended.{none_before, none_of_three}
use Rattle.cp_model.specs.Term.{variables_of}
use Rattle.cp_model.specs.Bindings.{as_substitution}
use Rattle.cp_model.specs.Strand.{Role, Protocol, IsHeight, variables_of_prefix}
use Rattle.cp_model.specs.declared.variable.Declaration.{Declaration}
use Rattle.cp_model.specs.Skeleton.{SkeletonStrand, instance, listener}
use Rattle.cp_sexpr.specs.Syntax.{Form, symbol, string, number, list}
use Rattle.cp_model.specs.Same.{same_text}
use Rattle.cp_language.specs.declared.words.ItemHead.{ItemHead}
use Rattle.cp_language.specs.declared.words.ItemHead.TheVariants.{Strand as strand_item, Listener as listener_item}
use Rattle.cp_language.specs.Terms.{term_faults}
use Rattle.cp_language.specs.Roles.{headed, text_of_symbol, item_or_none, items_behind}
use Rattle.cp_language.specs.Problems.{protocol_named, role_named, is_known, role_name_faults, height_faults, number_of, maplets_faults_of, instance_faults, listener_faults, Strands, instance_by, strand_by, fresh_of, with_strand, strands_from}
use Rattle.cp_language.proofs.Terms.{holds, AreDeclared, term_variables_declared}
use Rattle.cp_language.proofs.Roles.{AreSoundRoles}
use Rattle.cp_language.proofs.Instances.{TakesToDeclared, Extends, instance_takes}

-- A strand over these roles and declarations.
abbrev pub IsSoundStrand : List Role → List Declaration → SkeletonStrand → Type 0
IsSoundStrand roles full (instance role height terms) = IsIn role roles × IsHeight role height × TakesToDeclared (as_substitution terms) full (variables_of_prefix role height)
IsSoundStrand roles full (listener t) = AreDeclared full (variables_of t)

abbrev pub AreSoundStrands : List Role → List Declaration → List SkeletonStrand → Type 0
AreSoundStrands roles full ss = (s : SkeletonStrand) → IsIn s ss → IsSoundStrand roles full s

-- An item that states a strand states it without faults.
abbrev pub IsFaultless : List Role → List Declaration → ItemHead → List Form → Type 0
IsFaultless roles ds strand_item fs = (at : Place) × (instance_faults roles ds at fs ≡ [])
IsFaultless roles ds listener_item fs = (at : Place) × (listener_faults ds at fs ≡ [])
IsFaultless roles ds _ fs = Unit {0}

abbrev pub AreFaultless : List Role → List Declaration → List Form → Type 0
AreFaultless roles ds [] = Unit {0}
AreFaultless roles ds (f ∷ fs) = IsFaultless roles ds (item_or_none (headed f)) (items_behind (headed f)) × AreFaultless roles ds fs

-- ---- names and heights

-- What is found in front or behind is one of them.
found_in_front : {A : Type 0} (x y : A) (xs : List A) (b : Bool) (behind : Option A) → (if b then Some x else behind) ≡ Some y → (behind ≡ Some y → IsIn y xs) → IsIn y (x ∷ xs)
found_in_front x y xs true behind e later = let p : x ≡ y = cc in subst (λ z. IsIn z (x ∷ xs)) p here
found_in_front x y xs false behind e later = there (later e)

-- The role that is found is one of them.
pub role_listed : (rs : List Role) (t : List ℕ) (role : Role) → role_named rs t ≡ Some role → IsIn role rs
role_listed [] t role e = absurd (cc)
role_listed (r ∷ rs) t role e = found_in_front r role rs (same_text r.name t) (role_named rs t) e (role_listed rs t role)

-- The protocol that is found is one of those above.
pub protocol_listed : (ps : List Protocol) (t : List ℕ) (q : Protocol) → protocol_named ps t ≡ Some q → IsIn q ps
protocol_listed [] t q e = absurd (cc)
protocol_listed (p ∷ ps) t q e = found_in_front p q ps (same_text p.name t) (protocol_named ps t) e (protocol_listed ps t q)

role_is_known : (roles : List Role) (f : Form) → role_name_faults roles f ≡ [] → is_known (role_named roles (text_of_symbol f)) ≡ true
role_is_known roles (symbol at t) e = holds (is_known (role_named roles t)) at UnknownRole e
role_is_known roles (string at t) e = absurd (cc)
role_is_known roles (number at n) e = absurd (cc)
role_is_known roles (list at fs) e = absurd (cc)

-- A number that passes the test of a height is one.
pub height_there : (role : Role) (n : ℕ) → (nat_lt 0 n && nat_le n (length role.trace)) ≡ true → IsHeight role n
height_there role n e =
    let p = and_parts (nat_lt 0 n) (nat_le n (length role.trace)) e in
    let a : 0 < n = ltb-true 0 n p.0 in
    let b : n ≤ length role.trace = leb-true n (length role.trace) p.1 in
    (omega arith, b)

height_is : (role : Role) (f : Form) → height_faults (Some role) f ≡ [] → IsHeight role (number_of f)
height_is role (number at n) e = height_there role n (holds (nat_lt 0 n && nat_le n (length role.trace)) at BadHeight e)
height_is role (symbol at t) e = absurd (cc)
height_is role (string at t) e = absurd (cc)
height_is role (list at fs) e = absurd (cc)

-- ---- strands

-- What an item states has a property, whatever its head, that an instance has, and a listener, and no strand.
pub of_item : (roles : List Role) (ds : List Declaration) (next : ℕ) (fs : List Form) (P : ItemHead → Option (SkeletonStrand × List Declaration) → Type 0) →
    P strand_item (strand_by roles ds next strand_item fs) → P listener_item (strand_by roles ds next listener_item fs) → ((k : ItemHead) → P k None) → (k : ItemHead) → P k (strand_by roles ds next k fs)
of_item roles ds next fs P s l n strand_item = s
of_item roles ds next fs P s l n listener_item = l
of_item roles ds next fs P s l n k = n k

abbrev IsSoundOption : List Role → List Declaration → Option (SkeletonStrand × List Declaration) → Type 0
IsSoundOption roles full None = Unit {0}
IsSoundOption roles full (Some s) = IsSoundStrand roles full s.0

with_sound : (roles : List Role) (full : List Declaration) (o : Option (SkeletonStrand × List Declaration)) (rest : Strands) → IsSoundOption roles full o → AreSoundStrands roles full rest.strands →
    AreSoundStrands roles full (with_strand o rest).strands
with_sound roles full None rest h hs = hs
with_sound roles full (Some s) rest h hs = all
  where
    all : AreSoundStrands roles full (s.0 ∷ rest.strands)
    all x here = h
    all x (there p) = hs x p

fresh_with : (o : Option (SkeletonStrand × List Declaration)) (rest : Strands) → (with_strand o rest).fresh ≡ fresh_of o ++ rest.fresh
fresh_with None rest = refl
fresh_with (Some s) rest = refl

module _ (roles : List Role) (sound : AreSoundRoles roles) (ds full : List Declaration) (extends : Extends ds full) where
  by_role : (front others : List Declaration) (next : ℕ) (name height : Form) (maplets : List Form) (o : Option Role) → ((role : Role) → o ≡ Some role → IsIn role roles) →
      full ≡ front ++ ((instance_by o ds next (name ∷ height ∷ maplets)).1 ++ others) → next ≡ length front →
      is_known o ≡ true → height_faults o height ≡ [] → maplets_faults_of o height ds maplets ≡ [] → IsSoundStrand roles full (instance_by o ds next (name ∷ height ∷ maplets)).0
  by_role front others next name height maplets None listed are many known h e = absurd (cc)
  by_role front others next name height maplets (Some role) listed are many known h e =
      let l = listed role refl in
      (l, height_is role height h, instance_takes role (number_of height) ds next maplets (sound role l) e full front others are many extends)

  instance_sound : (front others : List Declaration) (next : ℕ) (at : Place) (fs : List Form) → full ≡ front ++ (fresh_of (strand_by roles ds next strand_item fs) ++ others) → next ≡ length front →
      instance_faults roles ds at fs ≡ [] → IsSoundOption roles full (strand_by roles ds next strand_item fs)
  instance_sound front others next at [] are many e = absurd (cc)
  instance_sound front others next at (name ∷ []) are many e = absurd (cc)
  instance_sound front others next at (name ∷ height ∷ maplets) are many e =
      let o = role_named roles (text_of_symbol name) in
      let p = none_of_three (role_name_faults roles name) (height_faults o height) (maplets_faults_of o height ds maplets) e in
      by_role front others next name height maplets o (role_listed roles (text_of_symbol name)) are many (role_is_known roles name p.0) p.1 p.2

  listener_sound : (next : ℕ) (at : Place) (fs : List Form) → listener_faults ds at fs ≡ [] → IsSoundOption roles full (strand_by roles ds next listener_item fs)
  listener_sound next at [] e = absurd (cc)
  listener_sound next at (f ∷ fs) e = extends _ (term_variables_declared ds f (none_before (term_faults ds f) _ e))

  strand_sound : (front others : List Declaration) (next : ℕ) (k : ItemHead) (fs : List Form) → full ≡ front ++ (fresh_of (strand_by roles ds next k fs) ++ others) → next ≡ length front →
      IsFaultless roles ds k fs → IsSoundOption roles full (strand_by roles ds next k fs)
  strand_sound front others next k fs are many h =
      of_item roles ds next fs (λ i o. full ≡ front ++ (fresh_of o ++ others) → IsFaultless roles ds i fs → IsSoundOption roles full o)
      (λ split faultless. instance_sound front others next faultless.0 fs split many faultless.1) (λ split faultless. listener_sound next faultless.0 fs faultless.1) (λ i split faultless. tt) k are h

  -- The strands that are stated without faults are sound.
  pub strands_sound : (front : List Declaration) (next : ℕ) (fs : List Form) → full ≡ front ++ (strands_from roles ds next fs).fresh → next ≡ length front →
      AreFaultless roles ds fs → AreSoundStrands roles full (strands_from roles ds next fs).strands
  strands_sound front next [] are many h = λ s p. elim p [ ]
  strands_sound front next (f ∷ fs) are many h =
      let strand = strand_by roles ds next (item_or_none (headed f)) (items_behind (headed f)) in
      let rest = strands_from roles ds (next + length (fresh_of strand)) fs in
      let split : full ≡ front ++ (fresh_of strand ++ rest.fresh) = are ∙ ap (λ (ys : List Declaration). front ++ ys) (fresh_with strand rest) in
      with_sound roles full strand rest
      (strand_sound front rest.fresh next (item_or_none (headed f)) (items_behind (headed f)) split many h.0)
      (strands_sound (front ++ fresh_of strand) (next + length (fresh_of strand)) fs (split ∙ sym (append_assoc front (fresh_of strand) rest.fresh)) (omega (arith, length-append front (fresh_of strand))) h.1)
