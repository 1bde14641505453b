-- The order of candidates by which one is an instance of another.
use Rattle.std.proofs.Common.{◌≡◌, ◌≢◌, ◌⊎◌, inl, inr, ℕ, ◌<◌, List, Some, sym, subst, arith, length, lt_trans}
use Rattle.cp_lists.specs.Lists.{item_at}
use Rattle.cp_model.specs.Skeleton.{Skeleton}
use Rattle.cp_model.specs.Homomorphism.{Embeds}
use Rattle.cp_lists.proofs.Items.{item_below, item_there}
use Rattle.cp_model.proofs.LawEmbeddings.{embeds_same, embeds_then}
use Rattle.cp_shapes.specs.Shapes.{EmbedsAt, IsInstanceWithin, IsShapeAt}

module _ (ks : List Skeleton) where
  pub same_item : (n : ℕ) (x y : Skeleton) → item_at ks n ≡ Some x → item_at ks n ≡ Some y → x ≡ y
  same_item n x y e f = cc

  pub embeds_on : (n m l : ℕ) → EmbedsAt ks n m → EmbedsAt ks m l → EmbedsAt ks n l
  embeds_on n m l h g =
      let same = same_item m g.first h.second g.at_first h.at_second in
      record {
        first = h.first;
        second = g.second;
        at_first = h.at_first;
        at_second = g.at_second;
        embeds = embeds_then h.first h.second g.second h.embeds (subst (λ (k : Skeleton). Embeds k g.second) same g.embeds);
      }

  pub embeds_itself : (n : ℕ) → n < length ks → EmbedsAt ks n n
  embeds_itself n l = let k = item_there ks n l in record { first = k.0; second = k.0; at_first = k.1; at_second = k.1; embeds = embeds_same k.0 }

  pub embeds_first_within : (n m : ℕ) → EmbedsAt ks n m → n < length ks
  embeds_first_within n m h = item_below ks n h.first h.at_first

  -- ---- instances of instances

  no_turn : (m n : ℕ) → EmbedsAt ks m n → EmbedsAt ks n m → (EmbedsAt ks m n → ⊥) ⊎ (n < m) → (EmbedsAt ks n m → ⊥) ⊎ (m < n) → ⊥
  no_turn m n there back (inl f) g = f there
  no_turn m n there back (inr l) (inl g) = g back
  no_turn m n there back (inr l) (inr k) = omega (arith, l, k)

  firsts : (m n l : ℕ) → EmbedsAt ks n m → EmbedsAt ks l n → (EmbedsAt ks m n → ⊥) ⊎ (n < m) → (EmbedsAt ks n l → ⊥) ⊎ (l < n) → (EmbedsAt ks m l → ⊥) ⊎ (l < m)
  firsts m n l h g (inl f) other = inl (λ e. f (embeds_on m l n e g))
  firsts m n l h g (inr less) (inl f) = inl (λ e. f (embeds_on n m l h e))
  firsts m n l h g (inr less) (inr more) = inr (lt_trans more less)

  -- An instance of an instance of a candidate is an instance of it.
  pub instance_on : (m n l : ℕ) → IsInstanceWithin ks m n → IsInstanceWithin ks n l → IsInstanceWithin ks m l
  instance_on m n l h g = record {
    other = λ e.
        let there : EmbedsAt ks m n = subst (λ (x : ℕ). EmbedsAt ks x n) e g.embeds in
        let again : (EmbedsAt ks n m → ⊥) ⊎ (m < n) = subst (λ (x : ℕ). (EmbedsAt ks n x → ⊥) ⊎ (x < n)) e g.first in
        no_turn m n there h.embeds h.first again;
    embeds = embeds_on l n m g.embeds h.embeds;
    first = firsts m n l h.embeds g.embeds h.first g.first;
  }

  -- ---- shapes

  not_back : (n m : ℕ) → IsShapeAt ks n → n ≢ m → m < n → EmbedsAt ks m n → ⊥
  not_back n m s ne l e = s.no_instance m (record { other = λ q. ne (sym q); embeds = e; first = inr l })

  apart : (n m : ℕ) → IsShapeAt ks n → IsShapeAt ks m → n ≢ m → EmbedsAt ks n m → (n < m) ⊎ ((m < n) ⊎ (n ≡ m)) → ⊥
  apart n m s t ne e (inl l) = t.no_instance n (record { other = ne; embeds = e; first = inr l })
  apart n m s t ne e (inr (inl l)) = t.no_instance n (record { other = ne; embeds = e; first = inl (not_back n m s ne l) })
  apart n m s t ne e (inr (inr q)) = ne q

  trichotomy : (n m : ℕ) → (n < m) ⊎ ((m < n) ⊎ (n ≡ m))
  trichotomy n m = grind arith

  -- No shape embeds in another.
  pub shapes_apart : (n m : ℕ) → IsShapeAt ks n → IsShapeAt ks m → n ≢ m → EmbedsAt ks n m → ⊥
  shapes_apart n m s t ne e = apart n m s t ne e (trichotomy n m)
