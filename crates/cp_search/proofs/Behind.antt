-- Labels that are made behind others.
use Rattle.std.proofs.Common.{◌≡◌, ◌⊎◌, inl, inr, ◌∙◌, ℕ, ◌<◌, List, [], ◌∷◌, ◌++◌, length, map, take, true, false, Option, Some, None, IfSome, sym, ap, subst, arith}
use Rattle.std.proofs.lemmas.List.{map-append, length-map}
use Rattle.std.proofs.Math.Seq.{take-append_seam}
use Rattle.cp_lists.specs.Lists.{item_at}
use Rattle.cp_lists.proofs.Items.{item_below, item_there, item_last, item_still, item_of_push, map_of_item}
use Rattle.cp_model.specs.Skeleton.{Skeleton}
use Rattle.cp_model.specs.Homomorphism.{Embeds}
use Rattle.cp_derive.specs.Unrealised.{ListsUnrealised}
use Rattle.cp_fingerprint.specs.Signatures.{signature_of}
use Rattle.cp_shapes.specs.Shapes.{EmbedsAt}
use Rattle.cp_general.specs.Generalisation.{IsMaximallyGeneral}
use Rattle.cp_tree.specs.Made.{LabelLink, Reaches, MayPointTo}
use Rattle.cp_search.specs.declared.made.Made.{Made}
use Rattle.cp_shapes.specs.Shapes.{FindsLeast}
use Rattle.cp_search.specs.MadeLabels.{made_link, IsFound, AreFound, MayBeSeen, IsFoundApart, IsSeenIn, AddsFound}
use Rattle.cp_search.proofs.Links.{finds_alike, skeleton_of, still_found}

module _ (ms : List Made) (x : Made) where
  abbrev links : List LabelLink
  links = map made_link ms

  abbrev after : List LabelLink
  after = map made_link (ms ++ x ∷ [])

  pub links_after : map made_link (ms ++ x ∷ []) ≡ map made_link ms ++ made_link x ∷ []
  links_after = map-append made_link ms (x ∷ [])

  pub links_before : take (length ms) (map made_link (ms ++ x ∷ [])) ≡ map made_link ms
  links_before =
      ap (λ (n : ℕ). take n after) (sym (length-map ms made_link))
      ∙ (ap (take (length links)) links_after ∙ take-append_seam links (made_link x ∷ []))

  link_at : (n : ℕ) (m : Made) → item_at ms n ≡ Some m → item_at (map skeleton_of after) n ≡ Some m.skeleton
  link_at n m at = map_of_item skeleton_of after n (made_link m) (map_of_item made_link (ms ++ x ∷ []) n m (item_still ms (x ∷ []) n m at))

  pub own_way : item_at (map made_link (ms ++ x ∷ [])) (length ms) ≡ Some (made_link x)
  own_way = map_of_item made_link (ms ++ x ∷ []) (length ms) x (item_last ms x)

  own_skeleton : item_at (map skeleton_of after) (length ms) ≡ Some x.skeleton
  own_skeleton = map_of_item skeleton_of after (length ms) (made_link x) own_way

  as_pointing : (n : ℕ) → MayBeSeen ms x.parent x.skeleton n → MayPointTo after (length ms) n
  as_pointing n h = record {
    earlier = item_below ms n h.other h.at;
    embeds = record { first = h.other.skeleton; second = x.skeleton; at_first = link_at n h.other h.at; at_second = own_skeleton; embeds = h.isomorphic.0 };
    embeds_back = record { first = x.skeleton; second = h.other.skeleton; at_first = own_skeleton; at_second = link_at n h.other h.at; embeds = h.isomorphic.1 };
    no_return = λ w p at parent reaches.
        let own = own_way in
        let same : made_link x ≡ w = cc in
        let from : x.parent ≡ Some p = ap (λ (v : LabelLink). v.parent) same ∙ parent in
        h.allowed p from (subst (λ (vs : List LabelLink). Reaches vs n p) links_before reaches);
  }

  isomorphic_of : (n : ℕ) (other : Made) → item_at ms n ≡ Some other → (h : EmbedsAt (map skeleton_of after) n (length ms)) → Embeds other.skeleton x.skeleton
  isomorphic_of n other at h =
      let first_is = link_at n other at in
      let second_is = own_skeleton in
      let given_first : item_at (map skeleton_of after) n ≡ Some h.first = h.at_first in
      let given_second : item_at (map skeleton_of after) (length ms) ≡ Some h.second = h.at_second in
      let first : h.first ≡ other.skeleton = cc in
      let second : h.second ≡ x.skeleton = cc in
      subst (λ (k : Skeleton). Embeds k x.skeleton) first (subst (Embeds h.first) second h.embeds)

  back_of : (n : ℕ) (other : Made) → item_at ms n ≡ Some other → (h : EmbedsAt (map skeleton_of after) (length ms) n) → Embeds x.skeleton other.skeleton
  back_of n other at h =
      let second_is = link_at n other at in
      let first_is = own_skeleton in
      let given_first : item_at (map skeleton_of after) (length ms) ≡ Some h.first = h.at_first in
      let given_second : item_at (map skeleton_of after) n ≡ Some h.second = h.at_second in
      let first : h.first ≡ x.skeleton = cc in
      let second : h.second ≡ other.skeleton = cc in
      subst (λ (k : Skeleton). Embeds k other.skeleton) first (subst (Embeds h.first) second h.embeds)

  as_seen : (n : ℕ) → MayPointTo after (length ms) n → MayBeSeen ms x.parent x.skeleton n
  as_seen n h =
      let other = item_there ms n h.earlier in
      record {
        other = other.0;
        at = other.1;
        allowed = λ p from reaches. h.no_return (made_link x) p own_way from (subst (λ (vs : List LabelLink). Reaches vs n p) (sym links_before) reaches);
        isomorphic = (isomorphic_of n other.0 other.1 h.embeds, back_of n other.0 other.1 h.embeds_back);
      }

  -- The first allowed copy is the first label to which one may point.
  pub points_to_first : (found : Option ℕ) → FindsLeast (MayBeSeen ms x.parent x.skeleton) found → FindsLeast (MayPointTo (map made_link (ms ++ x ∷ [])) (length ms)) found
  points_to_first = finds_alike (MayBeSeen ms x.parent x.skeleton) (MayPointTo after (length ms)) as_pointing as_seen

  module _ (found : AreFound ms) where
    earlier_found : (i : ℕ) (m : Made) → item_at ms i ≡ Some m → IsFound after i m
    earlier_found i m at =
        let one = found.each i m at in
        let l : i < length ms = item_below ms i m at in
        let n : length links ≡ length ms = length-map ms made_link in
        let within : i < length links = omega arith in
        record {
          signature = one.signature;
          dead_none = one.dead_none;
          dead_unseen = one.dead_unseen;
          listed = one.listed;
          seen = λ lives. subst (λ (vs : List LabelLink). FindsLeast (MayPointTo vs i) m.seen_in) (sym links_after) (still_found links (made_link x ∷ []) i within m.seen_in (one.seen lives));
          general = one.general;
        }

    module _ (own : IsFound after (length ms) x) (later : IfSome x.parent (λ p. p < length ms)) where
      each_found : (i : ℕ) (m : Made) → (item_at ms i ≡ Some m) ⊎ ((i ≡ length ms) × (x ≡ m)) → IsFound after i m
      each_found i m (inl at) = earlier_found i m at
      each_found i m (inr last) = subst (λ (n : ℕ). IsFound after n m) (sym last.0) (subst (IsFound after (length ms)) last.1 own)

      before_own : (o : Option ℕ) (p : ℕ) → IfSome o (λ p. p < length ms) → o ≡ Some p → p < length ms
      before_own None p l e = absurd (cc)
      before_own (Some q) p l e = let same : q ≡ p = cc in subst (λ (n : ℕ). n < length ms) same l

      each_later : (i p : ℕ) (m : Made) → (item_at ms i ≡ Some m) ⊎ ((i ≡ length ms) × (x ≡ m)) → m.parent ≡ Some p → p < i
      each_later i p m (inl at) e = found.later i p m at e
      each_later i p m (inr last) e =
          let own_parent : x.parent ≡ Some p = ap (λ (v : Made). v.parent) last.1 ∙ e in
          let l : p < length ms = before_own x.parent p later own_parent in
          let n : i ≡ length ms = last.0 in
          omega arith

      -- What is found of all is true where it is true of those before and of the last.
      pub all_found : AreFound (ms ++ x ∷ [])
      all_found = record {
        each = λ i m at. each_found i m (item_of_push ms x i m at);
        later = λ i p m at e. each_later i p m (item_of_push ms x i m at) e;
      }

-- ---- what is found of one label more

-- What is found of a label is true, also in which label it is seen.
found_with : (old : List Made) (x : Made) → IsFoundApart x → IsSeenIn old x x.seen_in → IsFound (map made_link (old ++ x ∷ [])) (length old) x
found_with old x apart h = record {
  signature = apart.signature;
  dead_none = apart.dead_none;
  dead_unseen = h.dead;
  listed = apart.listed;
  seen = λ lives. points_to_first old x x.seen_in (h.living lives);
  general = apart.general;
}

-- The label is put behind others.
pub adds_found : (old new : List Made) (x : Made) → AreFound old → IsFoundApart x → IfSome x.parent (λ p. p < length old) → IsSeenIn old x x.seen_in → new ≡ old ++ x ∷ [] → AddsFound x old new
adds_found old new x found apart later h behind = record { behind = behind; found = subst AreFound (sym behind) (all_found old x found (found_with old x apart h) later) }

-- With the label in which it is seen and the key of its record, no more is to be found of it.
module _ (x : Made) (seen waiting : Option ℕ) where
  abbrev pub placed : Made
  placed = record x { seen_in = seen; waiting = waiting }

  pub apart_placed : IsFoundApart x → IsFoundApart placed
  apart_placed a = record { signature = a.signature; dead_none = a.dead_none; listed = a.listed; general = a.general }

  pub seen_placed : (ms : List Made) → IsSeenIn ms x seen → IsSeenIn ms placed seen
  seen_placed ms h = record { dead = h.dead; living = h.living }

-- What is found of one that may live.
pub apart_of_living : (x : Made) → x.signature ≡ signature_of x.skeleton → x.dead ≡ false → ListsUnrealised x.skeleton x.unrealised → (x.general ≡ true → IsMaximallyGeneral x.skeleton) → IsFoundApart x
apart_of_living x signature lives listed general = record {
  signature = signature;
  dead_none = λ dead. absurd (cc);
  listed = λ _. listed;
  general = general;
}

-- What is found of one that is dead from the start.
pub apart_of_dead : (x : Made) → x.signature ≡ signature_of x.skeleton → x.dead ≡ true → x.unrealised ≡ [] → x.general ≡ false → IsFoundApart x
apart_of_dead x signature dead none unknown = record {
  signature = signature;
  dead_none = λ _. none;
  listed = λ lives. absurd (cc);
  general = λ known. absurd (cc);
}
