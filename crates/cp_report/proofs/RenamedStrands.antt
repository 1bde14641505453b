-- Strands that are the same under a renaming have the same events under it, and their roles give the same assumptions.
use Rattle.std.proofs.Common.{◌≡◌, ◌⊎◌, inl, inr, ℕ, zero, suc, ◌+◌, List, [], ◌∷◌, ◌++◌, Bool, true, false, refl, sym, ap, ◌∙◌, subst, if◌then◌else◌, arith, ltb-true}
use Rattle.std.specs.Prelude.{Option, Some, None, map, option_map, nat_lt}
use Rattle.cp_lists.specs.Lists.{item_at, IsIn, here, there}
use Rattle.cp_lists.proofs.Members.{in_append, in_append_left, in_append_right, into_map, head_or_behind}
use Rattle.cp_lists.proofs.Items.{mapped_item}
use Rattle.cp_model.specs.Senders.{ArePaired}
use Rattle.cp_model.specs.Term.{AtomTerm, Term, atom_term, variables_of, variables_of_atom, Substitution, apply_to, apply_to_atom, composed, AgreeOnTerms}
use Rattle.cp_model.specs.Bindings.{Binding, as_substitution}
use Rattle.cp_model.specs.Strand.{payload, event_map, Role, prefix_of, variables_of_trace, variables_of_prefix, Applies, AppliesAt}
use Rattle.cp_model.specs.declared.strand.Event.{Event}
use Rattle.cp_model.specs.declared.strand.Event.TheVariants.{Send as send, Receive as recv}
use Rattle.cp_model.specs.Bundle.{node_at}
use Rattle.cp_model.specs.declared.node.Node.{Node}
use Rattle.cp_model.specs.Skeleton.{SkeletonStrand, instance, listener, skeleton_trace, skeleton_trace_or_none, term_event_at, UniqueAt}
use Rattle.cp_model.specs.Given.{applying, unique_if_below, applying_uniques, given_non, given_penetrator_non, given_uniques}
use Rattle.cp_model.specs.Same.{origin_in, has_variables}
use Rattle.cp_model.proofs.LawTerms.{atom_composed, term_composed}
use Rattle.cp_model.proofs.LawAgreement.{agree_atom, agree_event}
use Rattle.cp_model.proofs.SameTests.{origin_found, variables_there}
use Rattle.cp_report.specs.Skeletons.{is_instance_there}
use Rattle.cp_report.specs.UpToNames.{IsSameStrandUnder, unique_renamed}
use Rattle.cp_report.proofs.CoveringSkeletons.{IsSameKind}

module _ (f : Substitution) where
  -- ---- events

  event_then : (terms : List Binding) (e : Event Term) → event_map (apply_to f) (event_map (apply_to (as_substitution terms)) e) ≡ event_map (apply_to (composed (as_substitution terms) f)) e
  event_then terms (send t) = ap send (sym (term_composed (as_substitution terms) f t))
  event_then terms (recv t) = ap recv (sym (term_composed (as_substitution terms) f t))

  trace_under : (terms terms' : List Binding) (es : List (Event Term)) → AgreeOnTerms (variables_of_trace es) (composed (as_substitution terms) f) (as_substitution terms') →
      map (event_map (apply_to (as_substitution terms'))) es ≡ map (event_map (apply_to f)) (map (event_map (apply_to (as_substitution terms))) es)
  trace_under terms terms' [] agree = refl
  trace_under terms terms' (e ∷ es) agree =
      ap (λ (x : Event Term). x ∷ map (event_map (apply_to (as_substitution terms'))) es)
      (sym (agree_event (composed (as_substitution terms) f) (as_substitution terms') e (λ x m. agree x (in_append_left (variables_of_trace es) m))) ∙ sym (event_then terms e))
      ∙ ap (λ (xs : List (Event Term)). event_map (apply_to f) (event_map (apply_to (as_substitution terms)) e) ∷ xs) (trace_under terms terms' es (λ x m. agree x (in_append_right (variables_of (payload e)) m)))

  pub trace_renamed : (a b : SkeletonStrand) → IsSameStrandUnder f a b → skeleton_trace b ≡ map (event_map (apply_to f)) (skeleton_trace a)
  trace_renamed (instance role height terms) (instance role' height' terms') (r, h, agree) =
      sym (λ i. map (event_map (apply_to (as_substitution terms'))) (prefix_of (r i) (h i))) ∙ trace_under terms terms' (prefix_of role height) agree
  trace_renamed (listener t) (listener u) e = sym (ap (λ (x : Term). recv x ∷ send x ∷ []) e)
  trace_renamed (instance role height terms) (listener u) e = absurd e
  trace_renamed (listener t) (instance role height terms) e = absurd e

  trace_on : (ks ls : List SkeletonStrand) → ArePaired (IsSameStrandUnder f) ks ls → (s : ℕ) → skeleton_trace_or_none (item_at ls s) ≡ map (event_map (apply_to f)) (skeleton_trace_or_none (item_at ks s))
  trace_on [] [] p s = refl
  trace_on (k ∷ ks) (l ∷ ls) p zero = trace_renamed k l p.0
  trace_on (k ∷ ks) (l ∷ ls) p (suc s) = trace_on ks ls p.1 s
  trace_on [] (l ∷ ls) p s = absurd p
  trace_on (k ∷ ks) [] p s = absurd p

  -- The event at a node is that of the other under the renaming.
  pub event_renamed : (ks ls : List SkeletonStrand) → ArePaired (IsSameStrandUnder f) ks ls → (n : Node) → term_event_at ls n ≡ option_map (event_map (apply_to f)) (term_event_at ks n)
  event_renamed ks ls p n = ap (λ (es : List (Event Term)). item_at es n.index) (trace_on ks ls p n.strand) ∙ mapped_item (event_map (apply_to f)) (skeleton_trace_or_none (item_at ks n.strand)) n.index

  kind_kept : (o : Option (Event Term)) → IsSameKind o (option_map (event_map (apply_to f)) o)
  kind_kept None = tt
  kind_kept (Some (send t)) = tt
  kind_kept (Some (recv t)) = tt

  pub same_kinds : (ks ls : List SkeletonStrand) → ArePaired (IsSameStrandUnder f) ks ls → (n : Node) → IsSameKind (term_event_at ks n) (term_event_at ls n)
  same_kinds ks ls p n = subst (λ (o : Option (Event Term)). IsSameKind (term_event_at ks n) o) (sym (event_renamed ks ls p n)) (kind_kept (term_event_at ks n))

  same_there : (a b : SkeletonStrand) → IsSameStrandUnder f a b → is_instance_there (Some b) ≡ is_instance_there (Some a)
  same_there (instance role height terms) (instance role' height' terms') p = refl
  same_there (listener t) (listener u) p = refl
  same_there (instance role height terms) (listener u) p = absurd p
  same_there (listener t) (instance role height terms) p = absurd p

  pub instance_there : (ks ls : List SkeletonStrand) → ArePaired (IsSameStrandUnder f) ks ls → (s : ℕ) → is_instance_there (item_at ls s) ≡ is_instance_there (item_at ks s)
  instance_there [] [] p s = refl
  instance_there (k ∷ ks) (l ∷ ls) p zero = same_there k l p.0
  instance_there (k ∷ ks) (l ∷ ls) p (suc s) = instance_there ks ls p.1 s
  instance_there [] (l ∷ ls) p s = absurd p
  instance_there (k ∷ ks) [] p s = absurd p

  -- ---- what roles give

  module _ (role : Role) (height : ℕ) (terms terms' : List Binding) (agree : AgreeOnTerms (variables_of_prefix role height) (composed (as_substitution terms) f) (as_substitution terms')) where
    -- a value whose variables occur in the prefix
    value_renamed : (v : AtomTerm) → Applies role height v → apply_to_atom f (apply_to_atom (as_substitution terms) v) ≡ apply_to_atom (as_substitution terms') v
    value_renamed v applies = sym (atom_composed (as_substitution terms) f v) ∙ agree_atom (composed (as_substitution terms) f) (as_substitution terms') v (λ x m. agree x (applies x m))

    applying_among : (vs old : List AtomTerm) → ((v : AtomTerm) → IsIn v vs → Applies role height v → IsIn (apply_to_atom (as_substitution terms) v) old) → (w : AtomTerm) → IsIn w (applying role height terms' vs) → IsIn w (map (apply_to_atom f) old)
    applying_among [] old given w m = elim m [ ]
    applying_among (v ∷ vs) old given w m = by (has_variables (variables_of_prefix role height) (variables_of_atom v)) refl m (λ i. applying_among vs old (λ u j. given u (there j)) w i)
      where
        taken : has_variables (variables_of_prefix role height) (variables_of_atom v) ≡ true → IsIn (apply_to_atom (as_substitution terms') v) (map (apply_to_atom f) old)
        taken e =
            let applies : Applies role height v = variables_there (variables_of_prefix role height) (variables_of_atom v) e in
            subst (λ (u : AtomTerm). IsIn u (map (apply_to_atom f) old)) (value_renamed v applies) (into_map (apply_to_atom f) (given v here applies))

        first : has_variables (variables_of_prefix role height) (variables_of_atom v) ≡ true → (w ≡ apply_to_atom (as_substitution terms') v) ⊎ IsIn w (applying role height terms' vs)
            → (IsIn w (applying role height terms' vs) → IsIn w (map (apply_to_atom f) old)) → IsIn w (map (apply_to_atom f) old)
        first e (inl same) rest = subst (λ (u : AtomTerm). IsIn u (map (apply_to_atom f) old)) (sym same) (taken e)
        first e (inr i) rest = rest i

        by : (b : Bool) → has_variables (variables_of_prefix role height) (variables_of_atom v) ≡ b → IsIn w (if b then apply_to_atom (as_substitution terms') v ∷ applying role height terms' vs else applying role height terms' vs)
            → (IsIn w (applying role height terms' vs) → IsIn w (map (apply_to_atom f) old)) → IsIn w (map (apply_to_atom f) old)
        by true e i rest = first e (head_or_behind i) rest
        by false e i rest = rest i

    module _ (s : ℕ) (applies_at : (v : AtomTerm) (i : ℕ) → AppliesAt role height v i → Applies role height v) where
      below_among : (v : AtomTerm) (old : List UniqueAt) → ((i : ℕ) → AppliesAt role height v i → IsIn (record { value = apply_to_atom (as_substitution terms) v; origin = node_at s i }) old) → (w : UniqueAt) (o : Option ℕ) → origin_in role.trace (atom_term v) ≡ o
          → IsIn w (unique_if_below height s (apply_to_atom (as_substitution terms') v) o) → IsIn w (map (unique_renamed f) old)
      below_among v old given w None e m = elim m [ ]
      below_among v old given w (Some i) e m = by (nat_lt i height) refl m
        where
          one : nat_lt i height ≡ true → (w ≡ record { value = apply_to_atom (as_substitution terms') v; origin = node_at s i }) ⊎ IsIn w [] → IsIn w (map (unique_renamed f) old)
          one l (inl same) =
              let at : AppliesAt role height v i = (origin_found role.trace (atom_term v) i e, ltb-true i height l) in
              let value = value_renamed v (applies_at v i at) in
              subst (λ (u : UniqueAt). IsIn u (map (unique_renamed f) old)) (sym same)
              (subst (λ (x : AtomTerm). IsIn (record { value = x; origin = node_at s i }) (map (unique_renamed f) old)) value (into_map (unique_renamed f) (given i at)))
          one l (inr j) = elim j [ ]

          by : (b : Bool) → nat_lt i height ≡ b → IsIn w (if b then record { value = apply_to_atom (as_substitution terms') v; origin = node_at s i } ∷ [] else []) → IsIn w (map (unique_renamed f) old)
          by true l j = one l (head_or_behind j)
          by false l j = elim j [ ]

      uniques_among : (vs : List AtomTerm) (old : List UniqueAt) → ((v : AtomTerm) (i : ℕ) → IsIn v vs → AppliesAt role height v i → IsIn (record { value = apply_to_atom (as_substitution terms) v; origin = node_at s i }) old)
          → (w : UniqueAt) → IsIn w (applying_uniques role height terms' s vs) → IsIn w (map (unique_renamed f) old)
      uniques_among [] old given w m = elim m [ ]
      uniques_among (v ∷ vs) old given w m =
          by (in_append (unique_if_below height s (apply_to_atom (as_substitution terms') v) (origin_in role.trace (atom_term v))) (applying_uniques role height terms' s vs) m) (λ i. uniques_among vs old (λ u j k. given u j (there k)) w i)
        where
          by : IsIn w (unique_if_below height s (apply_to_atom (as_substitution terms') v) (origin_in role.trace (atom_term v))) ⊎ IsIn w (applying_uniques role height terms' s vs)
              → (IsIn w (applying_uniques role height terms' s vs) → IsIn w (map (unique_renamed f) old)) → IsIn w (map (unique_renamed f) old)
          by (inl i) rest = below_among v old (λ j a. given v j here a) w (origin_in role.trace (atom_term v)) refl i
          by (inr i) rest = rest i

  -- ---- the same of all strands

  -- Of each role this list of values is given to all strands.
  module _ (of_role : Role → List AtomTerm) (given_by : List SkeletonStrand → List AtomTerm) (at_end : given_by [] ≡ []) (of_listener : (t : Term) (ks : List SkeletonStrand) → given_by (listener t ∷ ks) ≡ given_by ks)
      (of_instance : (role : Role) (height : ℕ) (terms : List Binding) (ks : List SkeletonStrand) → given_by (instance role height terms ∷ ks) ≡ applying role height terms (of_role role) ++ given_by ks) where
    -- each strand's role gives values that are among these
    abbrev Give : List SkeletonStrand → List AtomTerm → Type 0
    Give ks old = (s : ℕ) (role : Role) (height : ℕ) (terms : List Binding) → item_at ks s ≡ Some (instance role height terms) → (v : AtomTerm) → IsIn v (of_role role) → Applies role height v → IsIn (apply_to_atom (as_substitution terms) v) old

    values_among : (ks ls : List SkeletonStrand) → ArePaired (IsSameStrandUnder f) ks ls → (old : List AtomTerm) → Give ks old → (w : AtomTerm) → IsIn w (given_by ls) → IsIn w (map (apply_to_atom f) old)
    values_among [] [] p old give w m = elim (subst (λ (vs : List AtomTerm). IsIn w vs) at_end m) [ ]
    values_among (listener t ∷ ks) (listener u ∷ ls) p old give w m = values_among ks ls p.1 old (λ s role height terms e. give (suc s) role height terms e) w (subst (λ (vs : List AtomTerm). IsIn w vs) (of_listener u ls) m)
    values_among (instance role height terms ∷ ks) (instance role' height' terms' ∷ ls) ((r, h, agree), rest) old give w m =
        by (in_append (applying role' height' terms' (of_role role')) (given_by ls) (subst (λ (vs : List AtomTerm). IsIn w vs) (of_instance role' height' terms' ls) m))
        (λ i. values_among ks ls rest old (λ s a b c e. give (suc s) a b c e) w i)
      where
        by : IsIn w (applying role' height' terms' (of_role role')) ⊎ IsIn w (given_by ls) → (IsIn w (given_by ls) → IsIn w (map (apply_to_atom f) old)) → IsIn w (map (apply_to_atom f) old)
        by (inl i) rest =
            applying_among role height terms terms' agree (of_role role) old (λ v j a. give 0 role height terms refl v j a) w
            (subst (λ (vs : List AtomTerm). IsIn w vs) (sym (λ k. applying (r k) (h k) terms' (of_role (r k)))) i)
        by (inr i) rest = rest i
    values_among (instance role height terms ∷ ks) (listener u ∷ ls) p old give w m = absurd p.0
    values_among (listener t ∷ ks) (instance role height terms ∷ ls) p old give w m = absurd p.0
    values_among [] (l ∷ ls) p old give w m = absurd p
    values_among (k ∷ ks) [] p old give w m = absurd p

  -- The non-originating values that the renamed strands' roles give are among the renamed ones.
  pub non_among : (ks ls : List SkeletonStrand) → ArePaired (IsSameStrandUnder f) ks ls → (old : List AtomTerm)
      → ((s : ℕ) (role : Role) (height : ℕ) (terms : List Binding) → item_at ks s ≡ Some (instance role height terms) → (v : AtomTerm) → IsIn v role.non_originating → Applies role height v → IsIn (apply_to_atom (as_substitution terms) v) old)
      → (w : AtomTerm) → IsIn w (given_non ls) → IsIn w (map (apply_to_atom f) old)
  non_among = values_among (λ role. role.non_originating) given_non refl (λ t ks. refl) (λ role height terms ks. refl)

  pub penetrator_non_among : (ks ls : List SkeletonStrand) → ArePaired (IsSameStrandUnder f) ks ls → (old : List AtomTerm)
      → ((s : ℕ) (role : Role) (height : ℕ) (terms : List Binding) → item_at ks s ≡ Some (instance role height terms) → (v : AtomTerm) → IsIn v role.penetrator_non_originating → Applies role height v → IsIn (apply_to_atom (as_substitution terms) v) old)
      → (w : AtomTerm) → IsIn w (given_penetrator_non ls) → IsIn w (map (apply_to_atom f) old)
  penetrator_non_among = values_among (λ role. role.penetrator_non_originating) given_penetrator_non refl (λ t ks. refl) (λ role height terms ks. refl)

  module _ (applies_at : (role : Role) (height : ℕ) (v : AtomTerm) (i : ℕ) → AppliesAt role height v i → Applies role height v) where
    abbrev GiveUniques : ℕ → List SkeletonStrand → List UniqueAt → Type 0
    GiveUniques n ks old = (s : ℕ) (role : Role) (height : ℕ) (terms : List Binding) → item_at ks s ≡ Some (instance role height terms) →
        (v : AtomTerm) (i : ℕ) → IsIn v role.uniquely_originating → AppliesAt role height v i → IsIn (record { value = apply_to_atom (as_substitution terms) v; origin = node_at (n + s) i }) old

    further : (n : ℕ) (k : SkeletonStrand) (ks : List SkeletonStrand) (old : List UniqueAt) → GiveUniques n (k ∷ ks) old → GiveUniques (suc n) ks old
    further n k ks old give s role height terms e v i m a =
        let z : n + suc s ≡ suc n + s = omega arith in
        subst (λ (t : ℕ). IsIn (record { value = apply_to_atom (as_substitution terms) v; origin = node_at t i }) old) z (give (suc s) role height terms e v i m a)

    unique_from : (n : ℕ) (ks ls : List SkeletonStrand) → ArePaired (IsSameStrandUnder f) ks ls → (old : List UniqueAt) → GiveUniques n ks old → (w : UniqueAt) → IsIn w (given_uniques n ls) → IsIn w (map (unique_renamed f) old)
    unique_from n [] [] p old give w m = elim m [ ]
    unique_from n (listener t ∷ ks) (listener u ∷ ls) p old give w m = unique_from (suc n) ks ls p.1 old (further n (listener t) ks old give) w m
    unique_from n (instance role height terms ∷ ks) (instance role' height' terms' ∷ ls) ((r, h, agree), rest) old give w m =
        by (in_append (applying_uniques role' height' terms' n role'.uniquely_originating) (given_uniques (suc n) ls) m) (λ i. unique_from (suc n) ks ls rest old (further n (instance role height terms) ks old give) w i)
      where
        z : n + 0 ≡ n
        z = omega arith

        at_first : (v : AtomTerm) (i : ℕ) → IsIn v role.uniquely_originating → AppliesAt role height v i → IsIn (record { value = apply_to_atom (as_substitution terms) v; origin = node_at n i }) old
        at_first v i j a = subst (λ (t : ℕ). IsIn (record { value = apply_to_atom (as_substitution terms) v; origin = node_at t i }) old) z (give 0 role height terms refl v i j a)

        by : IsIn w (applying_uniques role' height' terms' n role'.uniquely_originating) ⊎ IsIn w (given_uniques (suc n) ls) → (IsIn w (given_uniques (suc n) ls) → IsIn w (map (unique_renamed f) old)) → IsIn w (map (unique_renamed f) old)
        by (inl i) rest =
            uniques_among role height terms terms' agree n (applies_at role height) role.uniquely_originating old at_first w
            (subst (λ (us : List UniqueAt). IsIn w us) (sym (λ k. applying_uniques (r k) (h k) terms' n (r k).uniquely_originating)) i)
        by (inr i) rest = rest i
    unique_from n (instance role height terms ∷ ks) (listener u ∷ ls) p old give w m = absurd p.0
    unique_from n (listener t ∷ ks) (instance role height terms ∷ ls) p old give w m = absurd p.0
    unique_from n [] (l ∷ ls) p old give w m = absurd p
    unique_from n (k ∷ ks) [] p old give w m = absurd p

    -- The unique values that the renamed strands' roles give are among the renamed ones.
    pub unique_among : (ks ls : List SkeletonStrand) → ArePaired (IsSameStrandUnder f) ks ls → (old : List UniqueAt)
        → ((s : ℕ) (role : Role) (height : ℕ) (terms : List Binding) → item_at ks s ≡ Some (instance role height terms) →
        (v : AtomTerm) (i : ℕ) → IsIn v role.uniquely_originating → AppliesAt role height v i → IsIn (record { value = apply_to_atom (as_substitution terms) v; origin = node_at s i }) old)
        → (w : UniqueAt) → IsIn w (given_uniques 0 ls) → IsIn w (map (unique_renamed f) old)
    unique_among ks ls p old give w m = unique_from 0 ks ls p old moved w m
      where
        moved : GiveUniques 0 ks old
        moved s role height terms e v i j a =
            let z : s ≡ 0 + s = omega arith in
            subst (λ (t : ℕ). IsIn (record { value = apply_to_atom (as_substitution terms) v; origin = node_at t i }) old) z (give s role height terms e v i j a)
