-- Strands that say the same, and lists of them.
use Rattle.std.proofs.Common.{◌≡◌, ◌↔◌, IsTrue, Bool, ℕ, zero, suc, ◌+◌, ◌<◌, ◌≤◌, List, [], ◌∷◌, length, get_or, drop, refl, sym, ap, subst, subst₂, arith}
use Rattle.std.proofs.lemmas.List.{drop_all}
use Rattle.cp_lists.proofs.Members.{drop_read}
use Rattle.cp_model.specs.Term.{Term, Substitution, AgreeOnTerms, variable_term, apply_to}
use Rattle.cp_model.specs.Bindings.{Binding, as_substitution, bindings_of}
use Rattle.cp_model.specs.Homomorphism.{substitution_by}
use Rattle.cp_model.proofs.DeclaredTerms.{bindings_are}
use Rattle.cp_model.specs.Strand.{Role, prefix_of, variables_of_trace, variables_of_prefix}
use Rattle.cp_model.specs.declared.strand.Event.{Event}
use Rattle.cp_model.specs.Skeleton.{SkeletonStrand, instance, listener}
use Rattle.cp_collapse.specs.SameSkeletons.{IsSameStrand, same_instance, same_listener, AreSameStrands, no_strands, same_strands}
use Rattle.cp_collapse.proofs.SameStrands.{instance_like, listener_like}
use Rattle.cp_strand.specs.View.{InstanceData, instance_view}

-- Instances that say the same have one role and one height, and their terms agree.
pub record AgreeAs (a b : InstanceData) : Type 0 where
  pub role : a.role ≡ b.role
  pub height : a.height ≡ b.height
  pub terms : AgreeOnTerms (variables_of_prefix a.role a.height) (as_substitution (bindings_of a.values)) (as_substitution (bindings_of b.values))

parts_agree : (role role' : Role) (height height' : ℕ) (s t : List Binding) → IsSameStrand (instance role height s) (instance role' height' t) → (role ≡ role') × (height ≡ height') × AgreeOnTerms (variables_of_prefix role height) (as_substitution s) (as_substitution t)
parts_agree role role' height height' s t same =
    let h = instance_like same role' height' t refl in
    let e : instance role height s ≡ instance role' height' h.0 = h.1 in
    let r : role ≡ role' = cc in
    let n : height ≡ height' = cc in
    let o : s ≡ h.0 = cc in
    let back : AgreeOnTerms (variables_of_prefix role height) (as_substitution h.0) (as_substitution t) =
    subst (λ (x : Role). AgreeOnTerms (variables_of_prefix x height) (as_substitution h.0) (as_substitution t)) (sym r)
    (subst (λ (m : ℕ). AgreeOnTerms (variables_of_prefix role' m) (as_substitution h.0) (as_substitution t)) (sym n) h.2) in
    (r, n, subst (λ (d : List Binding). AgreeOnTerms (variables_of_prefix role height) (as_substitution d) (as_substitution t)) (sym o) back)

pub agree_as : (a b : InstanceData) → IsSameStrand (instance_view a) (instance_view b) → AgreeAs a b
agree_as a b same =
    let h = parts_agree a.role b.role a.height b.height (bindings_of a.values) (bindings_of b.values) same in
    record { role = h.0; height = h.1; terms = h.2 }

pub same_by : (a b : InstanceData) → AgreeAs a b → IsSameStrand (instance_view a) (instance_view b)
same_by a b h =
    subst (λ (r : Role). IsSameStrand (instance_view a) (instance r b.height (bindings_of b.values))) h.role
    (subst (λ (n : ℕ). IsSameStrand (instance_view a) (instance a.role n (bindings_of b.values))) h.height (same_instance h.terms))

pub same_by_values : (a b : InstanceData) → a.role ≡ b.role → a.height ≡ b.height → a.values ≡ b.values → IsSameStrand (instance_view a) (instance_view b)
same_by_values a b role height values =
    same_by a b (record { role = role; height = height; terms = λ x i. ap (λ (vs : List Term). apply_to (as_substitution (bindings_of vs)) (variable_term x)) values })

-- An answer that tells whether the values agree tells whether the instances say the same.
pub agree_exactly : (a b : InstanceData) → a.role ≡ b.role → a.height ≡ b.height → (es : List (Event Term)) → es ≡ prefix_of a.role a.height → (vs ws : List Term) → vs ≡ a.values → ws ≡ b.values → (answer : Bool) →
    IsTrue answer ↔ AgreeOnTerms (variables_of_trace es) (substitution_by vs) (substitution_by ws) → IsTrue answer ↔ IsSameStrand (instance_view a) (instance_view b)
agree_exactly a b role height es events vs ws own other answer h =
    let g : IsTrue answer ↔ AgreeOnTerms (variables_of_prefix a.role a.height) (substitution_by a.values) (substitution_by b.values) =
    subst (λ (xs : List (Event Term)). IsTrue answer ↔ AgreeOnTerms (variables_of_trace xs) (substitution_by a.values) (substitution_by b.values)) events
    (subst (λ (xs : List Term). IsTrue answer ↔ AgreeOnTerms (variables_of_trace es) (substitution_by xs) (substitution_by b.values)) own
    (subst (λ (ys : List Term). IsTrue answer ↔ AgreeOnTerms (variables_of_trace es) (substitution_by vs) (substitution_by ys)) other h)) in
    let of_bindings : IsTrue answer ↔ AgreeOnTerms (variables_of_prefix a.role a.height) (as_substitution (bindings_of a.values)) (as_substitution (bindings_of b.values)) =
    subst₂ (λ (s t : Substitution). IsTrue answer ↔ AgreeOnTerms (variables_of_prefix a.role a.height) s t) (sym (bindings_are a.values)) (sym (bindings_are b.values)) g in
    (λ t. same_by a b (record { role = role; height = height; terms = of_bindings.0 t }), λ s. of_bindings.1 ((agree_as a b s).terms))

listeners_alike : (t u : Term) → IsSameStrand (listener t) (listener u) → t ≡ u
listeners_alike t u s = let e : listener t ≡ listener u = listener_like s u refl in cc

pub listeners_exactly : (a b : SkeletonStrand) (t u : Term) → listener t ≡ a → listener u ≡ b → (answer : Bool) → IsTrue answer ↔ (t ≡ u) → IsTrue answer ↔ IsSameStrand a b
listeners_exactly a b t u own other answer h =
    subst (λ (x : SkeletonStrand). IsTrue answer ↔ IsSameStrand x b) own
    (subst (λ (y : SkeletonStrand). IsTrue answer ↔ IsSameStrand (listener t) y) other
    (λ r. subst (λ (v : Term). IsSameStrand (listener t) (listener v)) (h.0 r) same_listener, λ s. h.1 (listeners_alike t u s)))

-- ---- lists

-- Where the strands that are left say the same, all do.
abbrev pub SameSoFar : List SkeletonStrand → List SkeletonStrand → ℕ → Type 0
SameSoFar xs ys i = AreSameStrands (drop i xs) (drop i ys) → AreSameStrands xs ys

same_tail : (x y : SkeletonStrand) (xs ys : List SkeletonStrand) → AreSameStrands (x ∷ xs) (y ∷ ys) → IsSameStrand x y × AreSameStrands xs ys
same_tail x y xs ys (same_strands s rest) = (s, rest)

pub same_lengths : {xs ys : List SkeletonStrand} → AreSameStrands xs ys → length xs ≡ length ys
same_lengths no_strands = refl
same_lengths (same_strands s rest) = ap suc (same_lengths rest)

pub same_count : (xs ys : List SkeletonStrand) → AreSameStrands xs ys → length xs ≡ length ys
same_count xs ys same = same_lengths same

same_rest : (xs ys : List SkeletonStrand) (i : ℕ) → AreSameStrands xs ys → AreSameStrands (drop i xs) (drop i ys)
same_rest xs ys zero same = same
same_rest [] [] (suc i) same = same
same_rest (a ∷ xs) (b ∷ ys) (suc i) same = same_rest xs ys i (same_tail a b xs ys same).1
same_rest [] (b ∷ ys) (suc i) same = let e : 0 ≡ suc (length ys) = same_lengths same in absurd (omega (arith, e))
same_rest (a ∷ xs) [] (suc i) same = let e : suc (length xs) ≡ 0 = same_lengths same in absurd (omega (arith, e))

module _ (xs ys : List SkeletonStrand) (i : ℕ) (a b : SkeletonStrand) (below : i < length xs) (below' : i < length ys) (read : a ≡ get_or xs i a) (read' : b ≡ get_or ys i b) where
  pub same_next : SameSoFar xs ys i → IsSameStrand a b → SameSoFar xs ys (i + 1)
  same_next so_far same rest =
      so_far (subst (λ (zs : List SkeletonStrand). AreSameStrands zs (drop i ys)) (sym (drop_read xs i a below read))
      (subst (λ (zs : List SkeletonStrand). AreSameStrands (a ∷ (drop (i + 1) xs)) zs) (sym (drop_read ys i b below' read')) (same_strands same rest)))

  pub same_there : AreSameStrands xs ys → IsSameStrand a b
  same_there same =
      (same_tail a b (drop (i + 1) xs) (drop (i + 1) ys)
      (subst (λ (zs : List SkeletonStrand). AreSameStrands zs (b ∷ (drop (i + 1) ys))) (drop_read xs i a below read)
      (subst (λ (zs : List SkeletonStrand). AreSameStrands (drop i xs) zs) (drop_read ys i b below' read') (same_rest xs ys i same)))).0

pub same_past : (xs ys : List SkeletonStrand) (i : ℕ) → length xs ≤ i → length xs ≡ length ys → SameSoFar xs ys i → AreSameStrands xs ys
same_past xs ys i past e so_far =
    so_far (subst (λ (zs : List SkeletonStrand). AreSameStrands zs (drop i ys)) (sym (drop_all i xs past))
    (subst (λ (zs : List SkeletonStrand). AreSameStrands [] zs) (sym (drop_all i ys (omega (arith, past, e)))) no_strands))
