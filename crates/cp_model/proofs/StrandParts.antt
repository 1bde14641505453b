-- Strands that are the same have the same parts.
use Rattle.std.proofs.Common.{◌≡◌, ℕ, zero, suc, List, [], ◌∷◌, Some, subst}
use Rattle.cp_lists.specs.Lists.{item_at}
use Rattle.cp_model.specs.Term.{Term, Assignment}
use Rattle.cp_model.specs.Bindings.{Binding}
use Rattle.cp_model.specs.Strand.{Role, regular}
use Rattle.cp_model.specs.Skeleton.{instance, listener}

pub same_instance : (P : Role → ℕ → List Binding → Type 0) {role role' : Role} {height height' : ℕ} {terms terms' : List Binding} →
    Some (instance role height terms) ≡ Some (instance role' height' terms') → P role height terms → P role' height' terms'
same_instance P {role} {role'} {height} {height'} {terms} {terms'} e p =
    let a : role ≡ role' = cc in let b : height ≡ height' = cc in let c : terms ≡ terms' = cc in
    subst (λ x. P x height' terms') a (subst (λ x. P role x terms') b (subst (λ x. P role height x) c p))

pub same_regular : (P : Role → ℕ → Assignment → Type 0) {role role' : Role} {height height' : ℕ} {values values' : Assignment} →
    Some (regular role height values) ≡ Some (regular role' height' values') → P role height values → P role' height' values'
same_regular P {role} {role'} {height} {height'} {values} {values'} e p =
    let a : role ≡ role' = cc in let b : height ≡ height' = cc in let c : values ≡ values' = cc in
    subst (λ x. P x height' values') a (subst (λ x. P role x values') b (subst (λ x. P role height x) c p))

-- What holds of both of two instances holds of each, and neither is a listener.
pub two_instances : {role role' : Role} {height height' : ℕ} {terms terms' : List Binding} (P : ℕ → Role → ℕ → List Binding → Type 0) → P 0 role height terms → P 1 role' height' terms' →
    (s : ℕ) (r : Role) (h : ℕ) (t : List Binding) → item_at (instance role height terms ∷ instance role' height' terms' ∷ []) s ≡ Some (instance r h t) → P s r h t
two_instances P p q zero r h t e = same_instance (P 0) e p
two_instances P p q (suc zero) r h t e = same_instance (P 1) e q
two_instances P p q (suc (suc s)) r h t e = absurd (cc)

pub no_listener : (role role' : Role) (height height' : ℕ) (terms terms' : List Binding) (s : ℕ) (t : Term) →
    item_at (instance role height terms ∷ instance role' height' terms' ∷ []) s ≡ Some (listener t) → ⊥
no_listener role role' height height' terms terms' zero t e = absurd (cc)
no_listener role role' height height' terms terms' (suc zero) t e = absurd (cc)
no_listener role role' height height' terms terms' (suc (suc s)) t e = absurd (cc)

-- What holds of both of two regular strands holds of each.
pub two_regulars : {role role' : Role} {height height' : ℕ} {values values' : Assignment} (P : ℕ → Role → ℕ → Assignment → Type 0) → P 0 role height values → P 1 role' height' values' →
    (s : ℕ) (r : Role) (h : ℕ) (g : Assignment) → item_at (regular role height values ∷ regular role' height' values' ∷ []) s ≡ Some (regular r h g) → P s r h g
two_regulars P p q zero r h g e = same_regular (P 0) e p
two_regulars P p q (suc zero) r h g e = same_regular (P 1) e q
two_regulars P p q (suc (suc s)) r h g e = absurd (cc)
