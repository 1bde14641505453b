-- The strands that are made keep the assumptions.
use Rattle.std.proofs.Common.{◌≡◌, ℕ, zero, suc, List, [], ◌∷◌, Option, Some, None, refl, sym, ap, ◌∙◌, subst, ◌⊎◌, inl, inr, arith}
use Rattle.cp_lists.specs.Lists.{item_at, IsIn}
use Rattle.cp_model.specs.Message.{Atom, Message, tag, atom, pair, enc, IsCarriedBy, itself, in_left, in_right, in_plaintext}
use Rattle.cp_model.specs.Term.{AtomTerm, atom_term, apply_to_atom, Assignment, value_of, value_of_atom, after}
use Rattle.cp_model.specs.Bindings.{Binding, as_substitution}
use Rattle.cp_model.specs.Strand.{OriginatesIn, OriginatesInTerms, Role, Protocol, prefix_of, Penetrator, create_tag, create_atom, pairing, splitting, encryption, decryption, hearing, penetrator_trace, Strand, regular, trace_of}
use Rattle.cp_model.specs.declared.strand.Event.TheVariants.{Send as send, Receive as recv}
use Rattle.cp_model.specs.Bundle.{node_at, trace_or_none, OriginatesAt, KeepsNon, KeepsPenetratorNon, KeepsUnique, KeepsRole, AreOfProtocol}
use Rattle.cp_model.specs.declared.node.Node.{Node}
use Rattle.cp_model.specs.Skeleton.{SkeletonStrand, instance, listener, skeleton_trace, skeleton_trace_or_none, UniqueAt, Skeleton, IsSkeleton}
use Rattle.cp_model.specs.Derivable.{IsSecret}
use Rattle.cp_model.specs.Realisation.{OriginatesAtTerm, KeepsAssumptions}
use Rattle.cp_model.proofs.SingleValues.{same_atom}
use Rattle.cp_model.proofs.LawTerms.{atom_after}
use Rattle.cp_model.proofs.SingleTraces.{origin_of_value, origin_of_term}
use Rattle.cp_model.proofs.LawEvents.{trace_after}
use Rattle.cp_model.proofs.SingleBundle.{own_number, own_numbers_distinct}
use Rattle.cp_theory.proofs.States.{own_values, strand_for, IsAllowed, IsStrandOf, for_strand, for_derivation, State}

-- What carrying an atom is, by the shape of the message.
abbrev Carries : Atom → Message → Type 0
Carries a (tag bytes) = ⊥
Carries a (atom b) = a ≡ b
Carries a (pair x y) = IsCarriedBy (atom a) x ⊎ IsCarriedBy (atom a) y
Carries a (enc x key) = IsCarriedBy (atom a) x

carries : {a : Atom} {v m : Message} → atom a ≡ v → IsCarriedBy v m → Carries a m
carries {a} {v} e itself = subst (Carries a) e refl
carries {a} e (in_left {a = x} h) = inl (subst (λ w. IsCarriedBy w x) (sym e) h)
carries {a} e (in_right {b = y} h) = inr (subst (λ w. IsCarriedBy w y) (sym e) h)
carries {a} e (in_plaintext {a = x} h) = subst (λ w. IsCarriedBy w x) (sym e) h

-- An atom originates on a strand of the penetrator only where he makes it.
made_at_last : (x y z : Message) (a : Atom) (i : ℕ) (o : OriginatesIn (recv x ∷ recv y ∷ send z ∷ []) (atom a) i) → (IsCarriedBy (atom a) z → IsCarriedBy (atom a) x ⊎ IsCarriedBy (atom a) y) → ⊥
made_at_last x y z a zero o parts = let h = o.transmission in absurd (cc)
made_at_last x y z a (suc zero) o parts = let h = o.transmission in absurd (cc)
made_at_last x y z a (suc (suc zero)) o parts =
    let h = o.transmission in
    let q : o.sent ≡ z = cc in
    of (parts (subst (IsCarriedBy (atom a)) q o.carried))
  where
    of : IsCarriedBy (atom a) x ⊎ IsCarriedBy (atom a) y → ⊥
    of (inl c) = o.first 0 (recv x) (omega arith) refl c
    of (inr c) = o.first 1 (recv y) (omega arith) refl c
made_at_last x y z a (suc (suc (suc i))) o parts = let h = o.transmission in absurd (cc)

made_by_splitting : (x y : Message) (a : Atom) (i : ℕ) → OriginatesIn (recv (pair x y) ∷ send x ∷ send y ∷ []) (atom a) i → ⊥
made_by_splitting x y a zero o = let h = o.transmission in absurd (cc)
made_by_splitting x y a (suc zero) o = let h = o.transmission in let q : o.sent ≡ x = cc in o.first 0 (recv (pair x y)) (omega arith) refl (in_left (subst (IsCarriedBy (atom a)) q o.carried))
made_by_splitting x y a (suc (suc zero)) o = let h = o.transmission in let q : o.sent ≡ y = cc in o.first 0 (recv (pair x y)) (omega arith) refl (in_right (subst (IsCarriedBy (atom a)) q o.carried))
made_by_splitting x y a (suc (suc (suc i))) o = let h = o.transmission in absurd (cc)

made_alone : (z : Message) (a : Atom) (i : ℕ) → OriginatesIn (send z ∷ []) (atom a) i → Carries a z
made_alone z a zero o = let h = o.transmission in let q : o.sent ≡ z = cc in carries refl (subst (IsCarriedBy (atom a)) q o.carried)
made_alone z a (suc i) o = let h = o.transmission in absurd (cc)

made_by : (p : Penetrator) (a : Atom) (i : ℕ) → OriginatesIn (penetrator_trace p) (atom a) i → p ≡ create_atom a
made_by (create_tag bytes) a i o = absurd (made_alone (tag bytes) a i o)
made_by (create_atom b) a i o = ap create_atom (sym (made_alone (atom b) a i o))
made_by (pairing x y) a i o = absurd (made_at_last x y (pair x y) a i o (λ c. carries refl c))
made_by (splitting x y) a i o = absurd (made_by_splitting x y a i o)
made_by (encryption x key) a i o = absurd (made_at_last _ x (enc x key) a i o (λ c. inr (carries refl c)))
made_by (decryption x key) a i o = absurd (made_at_last _ (enc x key) x a i o (λ c. inr (in_plaintext c)))
made_by (hearing x) a zero o = let h = o.transmission in absurd (cc)
made_by (hearing x) a (suc i) o = let h = o.transmission in absurd (cc)

-- An origin is on a strand.
origin_on : (o : Option Strand) (v : Message) (i : ℕ) → OriginatesIn (trace_or_none o) v i → (x : Strand) × (o ≡ Some x) × OriginatesIn (trace_of x) v i
origin_on None v i h = let t = h.transmission in absurd (cc)
origin_on (Some x) v i h = (x, refl, h)

module _ (k : Skeleton) (ns : List Node) (st : State k ns) where
  -- A regular strand is one for a role strand.
  pub regular_of : (s : ℕ) (role : Role) (height : ℕ) (g : Assignment) → item_at st.strands s ≡ Some (regular role height g) →
      (terms : List Binding) × (item_at k.strands s ≡ Some (instance role height terms)) × (after own_values (as_substitution terms) ≡ g)
  regular_of s role height g h = of (st.kinds s (regular role height g) h)
    where
      is_instance : (ss : SkeletonStrand) → item_at k.strands s ≡ Some ss → strand_for ss ≡ regular role height g → (terms : List Binding) × (item_at k.strands s ≡ Some (instance role height terms)) × (after own_values (as_substitution terms) ≡ g)
      is_instance (instance role' height' terms) on q =
          let a : role' ≡ role = cc in
          let b : height' ≡ height = cc in
          (terms, on ∙ (λ i. Some (instance (a i) (b i) terms)), cc)
      is_instance (listener t) on q = absurd (cc)

      of : IsStrandOf k s (regular role height g) → (terms : List Binding) × (item_at k.strands s ≡ Some (instance role height terms)) × (after own_values (as_substitution terms) ≡ g)
      of (for_strand {ss = ss} on q) = is_instance ss on q
      of (for_derivation none q allowed) = absurd (cc)

  -- Where the value of an atom originates: where the atom does, or where the penetrator makes it, and then it is no
  -- value of the assumptions.
  abbrev Origin : AtomTerm → Node → Type 0
  Origin v n = OriginatesAtTerm k v n ⊎ (IsSecret k v → ⊥)

  origin_at : (v : AtomTerm) (n : Node) → OriginatesAt st.strands (atom (value_of_atom own_values v)) n → Origin v n
  origin_at v n o = let r = origin_on (item_at st.strands n.strand) (atom (value_of_atom own_values v)) n.index o in of r.0 (st.kinds n.strand r.0 r.1) r.2
    where
      in_strand : (ss : SkeletonStrand) → item_at k.strands n.strand ≡ Some ss → OriginatesIn (trace_of (strand_for ss)) (atom (value_of_atom own_values v)) n.index → Origin v n
      in_strand (instance role height terms) on o' =
          let es = subst (λ es. OriginatesIn es (atom (value_of_atom own_values v)) n.index) (trace_after own_values (as_substitution terms) (prefix_of role height)) o' in
          let ot = origin_of_value own_number own_numbers_distinct (skeleton_trace (instance role height terms)) v n.index es in
          inl (
            record { role = role; height = height; terms = terms; on_instance = on },
            subst (λ s. OriginatesInTerms (skeleton_trace_or_none s) (atom_term v) n.index) (sym on) ot,
          )
      in_strand (listener t) on o' = let q = made_by (pairing (value_of own_values t) (value_of own_values t)) (value_of_atom own_values v) n.index o' in absurd (cc)

      made : (p : Penetrator) → IsAllowed k p → p ≡ create_atom (value_of_atom own_values v) → IsSecret k v → ⊥
      made p allowed q =
          let a : IsAllowed k (create_atom (value_of_atom own_values v)) = subst (IsAllowed k) q allowed in
          let same = same_atom own_number own_numbers_distinct a.0 v a.1 in
          subst (λ w. IsSecret k w → ⊥) same a.2

      of : (x : Strand) → IsStrandOf k n.strand x → OriginatesIn (trace_of x) (atom (value_of_atom own_values v)) n.index → Origin v n
      of x (for_strand {ss = ss} on q) o' = in_strand ss on (subst (λ y. OriginatesIn (trace_of y) (atom (value_of_atom own_values v)) n.index) (sym q) o')
      of x (for_derivation {p = p} none q allowed) o' =
          inr (made p allowed (made_by p (value_of_atom own_values v) n.index (subst (λ y. OriginatesIn (trace_of y) (atom (value_of_atom own_values v)) n.index) (sym q) o')))

  -- and the other way round
  origin_there : (v : AtomTerm) (n : Node) → OriginatesAtTerm k v n → OriginatesAt st.strands (atom (value_of_atom own_values v)) n
  origin_there v n o =
      let on = o.0 in
      let ot = subst (λ s. OriginatesInTerms (skeleton_trace_or_none s) (atom_term v) n.index) on.on_instance o.1 in
      let es = origin_of_term own_number own_numbers_distinct (skeleton_trace (instance on.role on.height on.terms)) v n.index ot in
      let values = subst (λ es. OriginatesIn es (atom (value_of_atom own_values v)) n.index) (sym (trace_after own_values (as_substitution on.terms) (prefix_of on.role on.height))) es in
      subst (λ s. OriginatesIn (trace_or_none s) (atom (value_of_atom own_values v)) n.index) (sym (st.own n.strand (instance on.role on.height on.terms) on.on_instance)) values

  module _ (keeps : KeepsAssumptions k) where
    pub keeps_non : (v : AtomTerm) → IsIn v k.assumptions.non_originating → KeepsNon st.strands (atom (value_of_atom own_values v))
    keeps_non v h n o = of (origin_at v n o)
      where
        of : Origin v n → ⊥
        of (inl t) = keeps.non v n h t
        of (inr f) = f (inl h)

    pub keeps_penetrator_non : (v : AtomTerm) → IsIn v k.assumptions.penetrator_non_originating → KeepsPenetratorNon st.strands (atom (value_of_atom own_values v))
    keeps_penetrator_non v h n p on o = of (origin_at v n o)
      where
        of : Origin v n → ⊥
        of (inl t) = let q = st.own n.strand (instance t.0.role t.0.height t.0.terms) t.0.on_instance in absurd (cc)
        of (inr f) = f (inr (inl h))

    pub keeps_unique : (u : UniqueAt) → IsIn u k.assumptions.uniquely_originating → KeepsUnique st.strands (atom (value_of_atom own_values u.value)) u.origin
    keeps_unique u h =
        let o = keeps.unique u h in
        record {
          role = o.0.role;
          height = o.0.height;
          values = after own_values (as_substitution o.0.terms);
          on_regular = st.own u.origin.strand (instance o.0.role o.0.height o.0.terms) o.0.on_instance;
          originates = origin_there u.value u.origin o;
          only = λ n p. of n (origin_at u.value n p);
        }
      where
        of : (n : Node) → Origin u.value n → n ≡ u.origin
        of n (inl t) = keeps.only u n h t
        of n (inr f) = absurd (f (inr (inr (record { entry = u; listed = h; same = refl }))))

    pub of_protocol : (protocol : Protocol) → IsSkeleton protocol k → AreOfProtocol protocol st.strands
    of_protocol protocol is = record {
      of_role = λ s role height g h. let r = regular_of s role height g h in is.of_role s role height r.0 r.1;
      heights = λ s role height g h. let r = regular_of s role height g h in is.heights s role height r.0 r.1;
      kept = λ s role height g h. let r = regular_of s role height g h in subst (KeepsRole st.strands s role height) r.2 (keeps_role s role height r.0 r.1);
    }
      where
        keeps_role : (s : ℕ) (role : Role) (height : ℕ) (terms : List Binding) → item_at k.strands s ≡ Some (instance role height terms) → KeepsRole st.strands s role height (after own_values (as_substitution terms))
        keeps_role s role height terms on =
            let given = is.given s role height terms on in
            record {
              non = λ v h a. subst (λ m. KeepsNon st.strands (atom m)) (sym (atom_after own_values (as_substitution terms) v)) (keeps_non (apply_to_atom (as_substitution terms) v) (given.non v h a));
              penetrator_non = λ v h a. subst (λ m. KeepsPenetratorNon st.strands (atom m)) (sym (atom_after own_values (as_substitution terms) v)) (keeps_penetrator_non (apply_to_atom (as_substitution terms) v) (given.penetrator_non v h a));
              unique = λ v i h a. subst (λ m. KeepsUnique st.strands (atom m) (node_at s i)) (sym (atom_after own_values (as_substitution terms) v)) (keeps_unique (record { value = apply_to_atom (as_substitution terms) v; origin = node_at s i }) (given.unique v i h a));
            }
