-- What the positions of a term give, where those are left out at which something else stands than what is looked for.
use Rattle.std.proofs.Common.{◌≡◌, List, [], ◌∷◌, ◌++◌, Some, refl, ap, ap₂, Bool, true, false}
use Rattle.cp_model.specs.Term.{Term, tag_term, atom_term, pair_term, enc_term, Substitution, apply_to}
use Rattle.cp_lists.specs.Lists.{IsIn}
use Rattle.cp_model.specs.declared.step.Step.{Step}
use Rattle.cp_model.specs.declared.step.Step.TheVariants.{Left, Right, Plaintext}
use Rattle.cp_model.specs.Positions.{term_at, here_if, paths_below, positions_where}
use Rattle.cp_term.proofs.PositionLaws.{positions_found}
use Rattle.cp_cohort.specs.GatheredLists.{EachGives, then_given, StartsGiving, starts_here, starts_later}
use Rattle.cp_cohort.specs.Cohort.{positions}
use Rattle.cp_cohort.specs.Children.{IsPosition}

-- The second list is the first, where items that are left out have a property.
data LeavesOut {A : Type 0} (out : A → Type 0) : List A → List A → Type 0 where
  none_left_out : LeavesOut out [] []
  stays : {x : A} {xs ys : List A} → LeavesOut out xs ys → LeavesOut out (x ∷ xs) (x ∷ ys)
  is_left_out : {x : A} {xs ys : List A} → out x → LeavesOut out xs ys → LeavesOut out (x ∷ xs) ys

both_left : {A : Type 0} {out : A → Type 0} {xs ys us vs : List A} → LeavesOut out xs ys → LeavesOut out us vs → LeavesOut out (xs ++ us) (ys ++ vs)
both_left none_left_out r = r
both_left (stays l) r = stays (both_left l r)
both_left (is_left_out o l) r = is_left_out o (both_left l r)

below_left : (s : Step) {out : List Step → Type 0} {ps qs : List (List Step)} → LeavesOut (λ p. out (s ∷ p)) ps qs → LeavesOut out (paths_below s ps) (paths_below s qs)
below_left s none_left_out = none_left_out
below_left s (stays l) = stays (below_left s l)
below_left s (is_left_out o l) = is_left_out o (below_left s l)

here_left : {out : List Step → Type 0} (b : Bool) → (b ≡ false → out []) → LeavesOut out ([] ∷ []) (here_if b)
here_left true o = stays none_left_out
here_left false o = is_left_out (o refl) none_left_out

-- The positions at which a term stands that passes a test.
positions_left : (test : Term → Bool) (t : Term) {out : List Step → Type 0} → ((path : List Step) (u : Term) → term_at t path ≡ Some u → test u ≡ false → out path) → LeavesOut out (positions t) (positions_where test t)
positions_left test (tag_term bytes) h = here_left (test (tag_term bytes)) (h [] (tag_term bytes) refl)
positions_left test (atom_term a) h = here_left (test (atom_term a)) (h [] (atom_term a) refl)
positions_left test (pair_term a b) h =
    both_left (here_left (test (pair_term a b)) (h [] (pair_term a b) refl))
    (both_left (below_left Left (positions_left test a (λ path. h (Left ∷ path)))) (below_left Right (positions_left test b (λ path. h (Right ∷ path)))))
positions_left test (enc_term a k) h = both_left (here_left (test (enc_term a k)) (h [] (enc_term a k) refl)) (below_left Plaintext (positions_left test a (λ path. h (Plaintext ∷ path))))

-- Where items that are left out give nothing, what is given stays.
module _ {A B : Type 0} (gives starts : A → List B → Type 0) where
  each_left : {xs ys : List A} {zs : List B} → LeavesOut (λ x. gives x []) xs ys → EachGives gives ys zs → EachGives gives xs zs
  each_left none_left_out e = e
  each_left (stays l) (then_given h rest) = then_given h (each_left l rest)
  each_left (is_left_out o l) e = then_given o (each_left l e)

  starts_left : {xs ys : List A} {zs : List B} → LeavesOut (λ x. gives x []) xs ys → StartsGiving gives starts ys zs → StartsGiving gives starts xs zs
  starts_left none_left_out e = e
  starts_left (stays l) (starts_here s) = starts_here s
  starts_left (stays l) (starts_later h rest) = starts_later h (starts_left l rest)
  starts_left (is_left_out o l) e = starts_later o (starts_left l e)

module _ {B : Type 0} (test : Term → Bool) (t : Term) (gives : List Step → List B → Type 0) (nothing : (path : List Step) (u : Term) → term_at t path ≡ Some u → test u ≡ false → gives path []) where
  -- What the positions give at which a term stands that passes a test, all positions give, where others give nothing.
  pub wider : (ys : List B) → EachGives gives (positions_where test t) ys → EachGives gives (positions t) ys
  wider ys = each_left gives gives (positions_left test t nothing)

  -- What the first of them give, the first of all positions give.
  pub starts_wider : (ys : List B) → StartsGiving gives gives (positions_where test t) ys → StartsGiving gives gives (positions t) ys
  starts_wider ys = starts_left gives gives (positions_left test t nothing)

-- A substitution changes no position.
pub positions_under : (s : Substitution) (t : Term) → positions (apply_to s t) ≡ positions t
positions_under s (tag_term bytes) = refl
positions_under s (atom_term a) = refl
positions_under s (pair_term a b) = ap₂ (λ (ps qs : List (List Step)). [] ∷ (paths_below Left ps ++ paths_below Right qs)) (positions_under s a) (positions_under s b)
positions_under s (enc_term a k) = ap (λ (ps : List (List Step)). [] ∷ paths_below Plaintext ps) (positions_under s a)

-- Each position that is listed is one.
pub listed_position : (test : Term → Bool) (t : Term) (path : List Step) → IsIn path (positions_where test t) → IsPosition t path
listed_position test t path i = let f = (positions_found test t path).0 i in record { part = f.0; there = f.1 }
