-- The first label in which a new one may be seen.
use Rattle.std.proofs.Common.{◌≡◌, ◌∙◌, ℕ, ◌+◌, ◌<◌, ◌≤◌, length, map, drop, get_or, Option, Some, IfSome, Bool, true, false, arith, List, ◌∷◌, sym, ap, subst, ⊎_elim}
use Rattle.std.proofs.lemmas.List.{get_or_default}
use Rattle.cp_lists.specs.Lists.{item_at, IsIn, here}
use Rattle.cp_lists.proofs.Items.{item_below, place_of, at_place}
use Rattle.cp_lists.proofs.Members.{drop_read, in_rest, next_or_rest, none_left}
use Rattle.cp_model.specs.Skeleton.{Skeleton}
use Rattle.cp_fingerprint.specs.Isomorphic.{IsIsomorphic}
use Rattle.cp_fingerprint.specs.Signatures.{SignatureData, signature_of, MayEmbed}
use Rattle.cp_fingerprint.proofs.SignatureData.{embedded_may_embed}
use Rattle.cp_model.proofs.CarriedParts.{not_both}
use Rattle.cp_search.specs.declared.made.Made.{Made}
use Rattle.cp_shapes.specs.Shapes.{FindsLeast}
use Rattle.cp_search.specs.LabelsByNumber.{with_key}
use Rattle.cp_search.specs.Reachability.{ReachesLabel}
use Rattle.cp_search.proofs.LabelsByNumber.{there_listed, listed_there, AreAscending, are_ascending, ascending_from}
use Rattle.cp_search.specs.MadeLabels.{made_link, AreFound, MayBeSeen, IsSeenIn}
use Rattle.cp_tree.specs.Made.{Reaches}

-- Isomorphic skeletons have the same number.
same_number : (a b : Skeleton) → IsIsomorphic a b → (signature_of a).bucket_key ≡ (signature_of b).bucket_key
same_number a b h = by (signature_of a) (signature_of b) (embedded_may_embed a b h.0) (embedded_may_embed b a h.1)
  where
    by : (x y : SignatureData) → MayEmbed x y → MayEmbed y x → x.bucket_key ≡ y.bucket_key
    by x y forth back =
        let l : x.bucket_key ≤ y.bucket_key = forth.bucket_key in
        let m : y.bucket_key ≤ x.bucket_key = back.bucket_key in
        omega (arith, l, m)

-- ---- labels that are listed with the number

abbrev pub IsAmongLater : List Made → Option ℕ → Skeleton → List ℕ → ℕ → Type 0
IsAmongLater ms parent k ns i = (n : ℕ) → MayBeSeen ms parent k n → IsIn n (drop i ns)

module _ (ms : List Made) (parent : Option ℕ) (k : Skeleton) where
  -- Each copy is listed.
  pub copies_listed : (signature_data : SignatureData) → signature_data ≡ signature_of k → ((m : Made) → IsIn m ms → m.signature ≡ signature_of m.skeleton) → (ns : List ℕ) → ns ≡ with_key signature_data.bucket_key 0 ms → IsAmongLater ms parent k ns 0
  copies_listed signature_data their signatures ns are n h =
      let own : h.other.signature ≡ signature_of h.other.skeleton = signatures h.other (at_place ms n h.other h.at) in
      let number : h.other.signature.bucket_key ≡ signature_data.bucket_key =
      ap (λ (t : SignatureData). t.bucket_key) own ∙ same_number h.other.skeleton k h.isomorphic ∙ sym (ap (λ (t : SignatureData). t.bucket_key) their) in
      subst (λ (xs : List ℕ). IsIn n xs) (sym are) (there_listed signature_data.bucket_key ms n h.other h.at number)

  module _ (ns : List ℕ) (i : ℕ) where
    module _ (l : i < length ns) where
      abbrev number : ℕ
      number = get_or ns i 0

      is : number ≡ get_or ns i number
      is = get_or_default ns i 0 number l

      opened : drop i ns ≡ number ∷ drop (i + 1) ns
      opened = drop_read ns i number l is

      -- Where this one is no copy, each copy is behind it.
      pub copies_behind : (MayBeSeen ms parent k number → ⊥) → IsAmongLater ms parent k ns i → IsAmongLater ms parent k ns (i + 1)
      copies_behind other later n h = ⊎_elim (λ (same : number ≡ n). absurd (other (subst (MayBeSeen ms parent k) (sym same) h))) (λ m. m) (next_or_rest ns i n number l is (later n h))

      -- The label is there, and no copy is below it.
      pub label_there : (bucket_key : ℕ) → ns ≡ with_key bucket_key 0 ms → number < length ms
      label_there bucket_key are =
          let m = listed_there bucket_key ms number (subst (λ (xs : List ℕ). IsIn number xs) are (in_rest ns i (subst (λ (xs : List ℕ). IsIn number xs) (sym opened) here))) in
          item_below ms number m.0 m.1

      pub none_below : (bucket_key : ℕ) → ns ≡ with_key bucket_key 0 ms → IsAmongLater ms parent k ns i → (n : ℕ) → n < number → MayBeSeen ms parent k n → ⊥
      none_below bucket_key are later n less h =
          let m = subst (λ (xs : List ℕ). IsIn n xs) opened (later n h) in
          let least : number ≤ n = ascending_from ns i number (drop (i + 1) ns) (subst AreAscending (sym are) (are_ascending bucket_key 0 ms)) opened n m in
          omega (arith, less, least)

    pub none_left_over : length ns ≤ i → IsAmongLater ms parent k ns i → (n : ℕ) → MayBeSeen ms parent k n → ⊥
    none_left_over done later n h = none_left ns i n done (later n h)

-- ---- the next label

module _ (ms : List Made) (i : ℕ) (other : Made) (at : item_at ms i ≡ Some other) (parent : Option ℕ) (k : Skeleton) where
  pub copy_here : ((p : ℕ) → parent ≡ Some p → Reaches (map made_link ms) i p → ⊥) → IsIsomorphic other.skeleton k → MayBeSeen ms parent k i
  copy_here allowed h = record { other = other; at = at; allowed = allowed; isomorphic = h }

  pub no_copy_here : (IsIsomorphic other.skeleton k → ⊥) → MayBeSeen ms parent k i → ⊥
  no_copy_here other_one h =
      let this : item_at ms i ≡ Some h.other = h.at in
      let same : h.other ≡ other = cc in
      other_one (subst (λ (m : Made). IsIsomorphic m.skeleton k) same h.isomorphic)

  -- One with another signature is no copy.
  pub kept_apart : (signatures : (m : Made) → IsIn m ms → m.signature ≡ signature_of m.skeleton) (signature_data : SignatureData) (flag : Bool) → signature_data ≡ signature_of k → flag ≡ false →
      ((a b : Skeleton) → signature_of a ≡ other.signature → signature_of b ≡ signature_data → IsIsomorphic a b → flag ≡ true) → MayBeSeen ms parent k i → ⊥
  kept_apart signatures signature_data flag e q kept h =
      no_copy_here (λ same. not_both q (kept other.skeleton k (sym (signatures other (at_place ms i other at))) (sym e) same)) h

-- One from which the parent can be reached is no copy, and one from which it cannot is allowed.
pub reached_no_copy : (ms : List Made) (parent : Option ℕ) (k : Skeleton) (i : ℕ) → (p : ℕ) × (parent ≡ Some p) × ReachesLabel ms i p → MayBeSeen ms parent k i → ⊥
reached_no_copy ms parent k i reached h = h.allowed reached.0 reached.1 reached.2.2

pub is_allowed : (ms : List Made) (parent : Option ℕ) (i : ℕ) → i < length ms → IfSome parent (λ p. p < length ms) → ((p : ℕ) × (parent ≡ Some p) × ReachesLabel ms i p → ⊥) → (p : ℕ) → parent ≡ Some p → Reaches (map made_link ms) i p → ⊥
is_allowed ms parent i below within none p e reaches = none (p, e, (below, subst (λ (o : Option ℕ). IfSome o (λ q. q < length ms)) e within, reaches))

-- ---- in which label one is seen

pub signatures_of : (ms : List Made) → AreFound ms → (m : Made) → IsIn m ms → m.signature ≡ signature_of m.skeleton
signatures_of ms found m listed = let at = place_of listed in (found.each at.0 m at.1).signature

-- In which label one that lives is seen.
pub seen_living : (ms : List Made) (m : Made) → m.dead ≡ false → (seen : Option ℕ) → FindsLeast (MayBeSeen ms m.parent m.skeleton) seen → IsSeenIn ms m seen
seen_living ms m lives seen first = record { dead = λ dead. absurd (not_both lives dead); living = λ _. first }
