-- The places of a skeleton, as they are added to sums one after another.
use Rattle.std.proofs.Common.{◌≡◌, ℕ, suc, ◌+◌, ◌<◌, ◌≤◌, Bool, true, false, if◌then◌else◌, List, [], ◌∷◌, ◌++◌, length, map, drop, get_or, sym, ap, ap₂, ◌∙◌, subst, arith}
use Rattle.std.proofs.lemmas.List.{drop_all, append-nil, append_assoc}
use Rattle.cp_lists.proofs.Members.{drop_read}
use Rattle.cp_model.specs.Term.{Term, Substitution, apply_to, variable_term}
use Rattle.cp_model.specs.Skeleton.{SkeletonStrand, Skeleton}
use Rattle.cp_model.specs.Same.{has_variable}
use Rattle.cp_model.specs.Strand.{Role, variables_of_prefix}
use Rattle.cp_model.specs.declared.variable.Declaration.{Declaration}
use Rattle.cp_model.specs.declared.variable.Variable.{Variable}
use Rattle.cp_fingerprint.specs.SharedValues.{place_weight, value_slots, declared_variable, declared_slots, strand_slots, strung, slots_of}
use Rattle.cp_fingerprint.specs.Slots.{Slot}
use Rattle.cp_fingerprint.specs.Weights.{AreAdded, AreSumsOf}
use Rattle.cp_fingerprint.specs.declared.sums.Sums.{Sums}
use Rattle.cp_fingerprint.proofs.SumsBeside.{all_added, next_added, both_added}

-- ---- the problem's values

module _ (ts : List Term) (i : ℕ) where
  pub value_added : (t : Term) → i < length ts → t ≡ get_or ts i t → (w : ℕ) → w ≡ place_weight 1 i → (s m r : Sums) → AreAdded (record { weight = w; value = t } ∷ []) s m →
      AreAdded (value_slots (i + 1) (drop (i + 1) ts)) m r → AreAdded (value_slots i (drop i ts)) s r
  value_added t l at w weight s m r one rest =
      let next : suc i ≡ i + 1 = omega arith in
      let here : value_slots i (drop i ts) ≡ (record { weight = w; value = t } ∷ []) ++ value_slots (i + 1) (drop (i + 1) ts) =
      ap (value_slots i) (drop_read ts i t l at)
      ∙ (ap (λ (n : ℕ). record { weight = n; value = t } ∷ value_slots (suc i) (drop (i + 1) ts)) (sym weight) ∙ ap (λ (n : ℕ). record { weight = w; value = t } ∷ value_slots n (drop (i + 1) ts)) next) in
      next_added (value_slots i (drop i ts)) (record { weight = w; value = t } ∷ []) (value_slots (i + 1) (drop (i + 1) ts)) here s m r one rest

  pub values_added : length ts ≤ i → (s : Sums) → AreAdded (value_slots i (drop i ts)) s s
  values_added past s = all_added (value_slots i (drop i ts)) s (ap (value_slots i) (drop_all i ts past))

-- ---- the values of declared variables

module _ (name : ℕ) (xs : List Variable) (g : Substitution) (ds : List Declaration) (i : ℕ) where
  abbrev pub Left : ℕ → List Slot
  Left n = declared_slots name xs g n (drop n ds)

  module _ (d : Declaration) (l : i < length ds) (at : d ≡ get_or ds i d) where
    opened : (b : Bool) → has_variable xs (declared_variable i d) ≡ b →
        Left i ≡ (if b then record { weight = place_weight name i; value = apply_to g (variable_term (declared_variable i d)) } ∷ Left (i + 1) else Left (i + 1))
    opened b e =
        let next : suc i ≡ i + 1 = omega arith in
        ap (declared_slots name xs g i) (drop_read ds i d l at)
        ∙ (ap (λ (c : Bool). if c then record { weight = place_weight name i; value = apply_to g (variable_term (declared_variable i d)) } ∷ declared_slots name xs g (suc i) (drop (i + 1) ds) else
        declared_slots name xs g (suc i) (drop (i + 1) ds)) e
        ∙ ap (λ (n : ℕ). if b then record { weight = place_weight name i; value = apply_to g (variable_term (declared_variable i d)) } ∷ declared_slots name xs g n (drop (i + 1) ds) else
        declared_slots name xs g n (drop (i + 1) ds)) next)

    pub variable_added : has_variable xs (declared_variable i d) ≡ true → (w : ℕ) → w ≡ place_weight name i → (t : Term) → t ≡ apply_to g (variable_term (declared_variable i d)) → (s m r : Sums) →
        AreAdded (record { weight = w; value = t } ∷ []) s m → AreAdded (Left (i + 1)) m r → AreAdded (Left i) s r
    variable_added e w weight t is s m r one rest =
        let here : Left i ≡ (record { weight = w; value = t } ∷ []) ++ Left (i + 1) =
        opened true e
        ∙ (ap (λ (n : ℕ). record { weight = n; value = apply_to g (variable_term (declared_variable i d)) } ∷ Left (i + 1)) (sym weight)
        ∙ ap (λ (u : Term). record { weight = w; value = u } ∷ Left (i + 1)) (sym is)) in
        next_added (Left i) (record { weight = w; value = t } ∷ []) (Left (i + 1)) here s m r one rest

    pub variable_passed : has_variable xs (declared_variable i d) ≡ false → (s r : Sums) → AreAdded (Left (i + 1)) s r → AreAdded (Left i) s r
    variable_passed e s r rest = subst (λ (ys : List Slot). AreAdded ys s r) (sym (opened false e)) rest

  pub variables_added : length ds ≤ i → (s : Sums) → AreAdded (Left i) s s
  variables_added past s = all_added (Left i) s (ap (declared_slots name xs g i) (drop_all i ds past))

-- The test of the code, whether a variable occurs.
pub variable_test : (flag : Bool) (role own : Role) (height own_height i : ℕ) (d : Declaration) → flag ≡ has_variable (variables_of_prefix role height) (declared_variable i d) → role ≡ own →
    height ≡ own_height → (b : Bool) → flag ≡ b → has_variable (variables_of_prefix own own_height) (declared_variable i d) ≡ b
variable_test flag role own height own_height i d test role_is height_is b is = cc

-- ---- the places of strands

module _ (strands : List SkeletonStrand) (i : ℕ) where
  abbrev pub Behind : ℕ → List Slot
  Behind n = strung (map strand_slots (drop n strands))

  module _ (x : SkeletonStrand) (l : i < length strands) (at : x ≡ get_or strands i x) where
    pub strand_added : (s m r : Sums) → AreAdded (strand_slots x) s m → AreAdded (Behind (i + 1)) m r → AreAdded (Behind i) s r
    strand_added s m r one rest =
        next_added (Behind i) (strand_slots x) (Behind (i + 1)) (ap (λ (ys : List SkeletonStrand). strung (map strand_slots ys)) (drop_read strands i x l at)) s m r one rest

    -- One count more was made.
    pub strand_counted : (counts more : List ℕ) (count : ℕ) → more ≡ counts ++ count ∷ [] → count ≡ length (strand_slots x) → (whole : List ℕ) →
        counts ++ map length (map strand_slots (drop i strands)) ≡ whole → more ++ map length (map strand_slots (drop (i + 1) strands)) ≡ whole
    strand_counted counts more count pushed is whole so_far =
        let rest = map length (map strand_slots (drop (i + 1) strands)) in
        let next : map length (map strand_slots (drop i strands)) ≡ count ∷ rest =
        ap (λ (ys : List SkeletonStrand). map length (map strand_slots ys)) (drop_read strands i x l at) ∙ ap (λ (n : ℕ). n ∷ rest) (sym is) in
        ap (λ (ns : List ℕ). ns ++ rest) pushed ∙ (append_assoc counts (count ∷ []) rest ∙ (ap (λ (ns : List ℕ). counts ++ ns) (sym next) ∙ so_far))

  pub strands_added : length strands ≤ i → (s : Sums) → AreAdded (Behind i) s s
  strands_added past s = all_added (Behind i) s (ap (λ (ys : List SkeletonStrand). strung (map strand_slots ys)) (drop_all i strands past))

  pub strands_counted : length strands ≤ i → (counts whole : List ℕ) → counts ++ map length (map strand_slots (drop i strands)) ≡ whole → counts ≡ whole
  strands_counted past counts whole so_far =
      sym (append-nil counts) ∙ (ap (λ (ys : List SkeletonStrand). counts ++ map length (map strand_slots ys)) (sym (drop_all i strands past)) ∙ so_far)

-- Those of the problem's values and of the strands, from none.
pub skeleton_added : (k : Skeleton) (given : List Term) (strands : List SkeletonStrand) → given ≡ k.from_problem.values → strands ≡ k.strands → (s m r : Sums) → AreSumsOf [] s →
    AreAdded (value_slots 0 given) s m → AreAdded (strung (map strand_slots strands)) m r → AreSumsOf (slots_of k) r
skeleton_added k given strands values are s m r start one other =
    subst (λ (xs : List Slot). AreSumsOf xs r) (ap₂ (λ ts xs. value_slots 0 ts ++ strung (map strand_slots xs)) values are)
    ((both_added (value_slots 0 given) (strung (map strand_slots strands)) s m r one other).sums [] start)
