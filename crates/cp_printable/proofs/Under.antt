-- The strings of terms and skeletons under a substitution, and of skeletons that say the same.
use Rattle.std.proofs.Common.{◌≡◌, ℕ, List, [], ◌∷◌, Some, map, refl, sym, subst, ⊎_elim}
use Rattle.cp_lists.specs.Lists.{item_at, IsIn, here, there}
use Rattle.cp_lists.proofs.Members.{in_append, in_append_left, in_append_right, from_map}
use Rattle.cp_lists.proofs.Items.{at_place, item_of_map, item_of_take}
use Rattle.cp_model.specs.Term.{variable_term, akey_variable, pubk_term, symmetric_term, asymmetric_term, AtomTerm, text_variable, datum_variable, name_variable, key_term, Term, tag_term, atom_term, pair_term, enc_term, variables_of_atom, variables_of_key, variables_of, IsCarriedByTerm, itself_term, in_left_term, in_right_term, in_plaintext_term, Substitution, apply_to_key, apply_to_atom, apply_to, composed}
use Rattle.cp_model.specs.Bindings.{Binding, as_substitution}
use Rattle.cp_model.specs.declared.sort.Sort.{Sort}
use Rattle.cp_model.specs.declared.sort.Sort.TheVariants.{Text as text_sort, Datum as datum_sort, Name as name_sort, Skey as skey_sort, Akey as akey_sort}
use Rattle.cp_model.specs.declared.variable.Variable.{Variable}
use Rattle.cp_model.specs.declared.variable.Declaration.{Declaration}
use Rattle.cp_model.specs.Strand.{payload, event_map, Role, prefix_of}
use Rattle.cp_model.specs.declared.strand.Event.{Event}
use Rattle.cp_model.specs.declared.strand.Event.TheVariants.{Send as send, Receive as recv}
use Rattle.cp_model.specs.declared.node.Node.{Node}
use Rattle.cp_model.specs.declared.node.OrderPair.{OrderPair}
use Rattle.cp_model.specs.Skeleton.{SkeletonStrand, instance, listener, skeleton_trace, term_event_at, UniqueAt, Assumptions, FromProblem, Skeleton}
use Rattle.cp_model.specs.Given.{listed}
use Rattle.cp_model.proofs.LawTerms.{term_composed}
use Rattle.cp_model.proofs.LawStandings.{strand_of_event, event_on}
use Rattle.cp_model.proofs.LawPrefixes.{in_trace}
use Rattle.cp_model.specs.declared.step.Step.{Step}
use Rattle.cp_model.specs.declared.step.Step.TheVariants.{Left, Right, Plaintext}
use Rattle.cp_model.specs.Positions.{term_at}
use Rattle.cp_theory.specs.Normal.{strand_under, unique_under, assumptions_under, skeleton_under, with_pairs}
use Rattle.cp_theory.proofs.Under.{terms_kept}
use Rattle.cp_skel.proofs.EachOnce.{listed-non, listed-penetrator-non, listed-unique}
use Rattle.cp_collapse.specs.SameSkeletons.{IsSameStrand, same_instance, same_listener, AreSameStrands, no_strands, same_strands, SaysTheSame}
use Rattle.cp_roots.specs.Roots.{in_report_order}
use Rattle.cp_printable.specs.Strings.{strings_of_pair, strings_of_key, strings_of}
use Rattle.cp_printable.specs.Spelled.{IsSpelledTerm, IsSpelledAtom, AreSpelledAtoms, IsSpelledStrand, AreSpelledAssumptions, IsSpelledSkeleton}

-- The substitution gives variables terms whose strings are admitted: only keys that stand for variables of sort akey have any.
abbrev pub GivesStrings : (List ℕ → Type 0) → Substitution → Type 0
GivesStrings S f = (n : ℕ) (s : List ℕ) → IsIn s (strings_of_pair (f.akeys n).1) → S s

-- The strings of what a term carries are strings of the term.
carried_strings : {v t : Term} → IsCarriedByTerm v t → (s : List ℕ) → IsIn s (strings_of v) → IsIn s (strings_of t)
carried_strings itself_term s i = i
carried_strings (in_left_term {b = b} p) s i = in_append_left (strings_of b) (carried_strings p s i)
carried_strings (in_right_term {a = a} p) s i = in_append_right (strings_of a) (carried_strings p s i)
carried_strings (in_plaintext_term {k = k} p) s i = in_append_left (strings_of_key k) (carried_strings p s i)

module _ (S I : List ℕ → Type 0) where
  -- ---- atoms and terms

  -- What the substitution gives each of these variables has admitted strings.
  abbrev AllGive : Substitution → List Variable → Type 0
  AllGive f xs = (x : Variable) → IsIn x xs → IsSpelledTerm S (apply_to f (variable_term x))

  pub atom_by : (f : Substitution) (v : AtomTerm) → AllGive f (variables_of_atom v) → IsSpelledAtom S v → IsSpelledAtom S (apply_to_atom f v)
  atom_by f (text_variable n) gives is s i = elim i [ ]
  atom_by f (datum_variable n) gives is s i = elim i [ ]
  atom_by f (name_variable n) gives is s i = elim i [ ]
  atom_by f (key_term (symmetric_term k)) gives is s i = elim i [ ]
  atom_by f (key_term (asymmetric_term flag (akey_variable n))) gives is s i = gives (record { sort = akey_sort; number = n }) here s i
  atom_by f (key_term (asymmetric_term flag (pubk_term purpose a))) gives is s i = is s i

  pub term_by : (f : Substitution) (t : Term) → AllGive f (variables_of t) → IsSpelledTerm S t → IsSpelledTerm S (apply_to f t)
  term_by f (tag_term bytes) gives is s i = is s i
  term_by f (atom_term v) gives is s i = atom_by f v gives is s i
  term_by f (pair_term a b) gives is s i =
      ⊎_elim (λ j. term_by f a (λ x m. gives x (in_append_left (variables_of b) m)) (λ u m. is u (in_append_left (strings_of b) m)) s j)
      (λ j. term_by f b (λ x m. gives x (in_append_right (variables_of a) m)) (λ u m. is u (in_append_right (strings_of a) m)) s j)
      (in_append (strings_of (apply_to f a)) (strings_of (apply_to f b)) i)
  term_by f (enc_term a k) gives is s i =
      ⊎_elim (λ j. term_by f a (λ x m. gives x (in_append_left (variables_of_key k) m)) (λ u m. is u (in_append_left (strings_of_key k) m)) s j)
      (λ j. atom_by f (key_term k) (λ x m. gives x (in_append_right (variables_of a) m)) (λ u m. is u (in_append_right (strings_of a) m)) s j)
      (in_append (strings_of (apply_to f a)) (strings_of_key (apply_to_key f k)) i)

  gives_of_sort : (f : Substitution) → GivesStrings S f → (sort : Sort) (n : ℕ) → IsSpelledTerm S (apply_to f (variable_term (record { sort = sort; number = n })))
  gives_of_sort f gives text_sort n s i = elim i [ ]
  gives_of_sort f gives datum_sort n s i = elim i [ ]
  gives_of_sort f gives name_sort n s i = elim i [ ]
  gives_of_sort f gives skey_sort n s i = elim i [ ]
  gives_of_sort f gives akey_sort n s i = gives n s i

  pub gives_variable : (f : Substitution) → GivesStrings S f → (x : Variable) → IsSpelledTerm S (apply_to f (variable_term x))
  gives_variable f gives x = gives_of_sort f gives x.sort x.number

  pub atom_under : (f : Substitution) (v : AtomTerm) → GivesStrings S f → IsSpelledAtom S v → IsSpelledAtom S (apply_to_atom f v)
  atom_under f v gives is = atom_by f v (λ x i. gives_variable f gives x) is

  pub term_under : (f : Substitution) (t : Term) → GivesStrings S f → IsSpelledTerm S t → IsSpelledTerm S (apply_to f t)
  term_under f t gives is = term_by f t (λ x i. gives_variable f gives x) is

  -- ---- skeletons under a substitution

  atoms_under : (f : Substitution) (vs : List AtomTerm) → GivesStrings S f → AreSpelledAtoms S vs → AreSpelledAtoms S (map (apply_to_atom f) vs)
  atoms_under f vs gives are v i =
      let m = from_map (apply_to_atom f) vs i in
      subst (IsSpelledAtom S) m.2 (atom_under f m.0 gives (are m.0 m.1))

  uniques_under : (f : Substitution) (us : List UniqueAt) → GivesStrings S f → ((u : UniqueAt) → IsIn u us → IsSpelledAtom S u.value) → (u : UniqueAt) → IsIn u (map (unique_under f) us) → IsSpelledAtom S u.value
  uniques_under f us gives are u i =
      let m = from_map (unique_under f) us i in
      subst (λ (w : UniqueAt). IsSpelledAtom S w.value) m.2 (atom_under f m.0.value gives (are m.0 m.1))

  pub assumptions_under_spelled : (f : Substitution) (a : Assumptions) → GivesStrings S f → AreSpelledAssumptions S a → AreSpelledAssumptions S (assumptions_under f a)
  assumptions_under_spelled f a gives are = record {
    non = atoms_under f a.non_originating gives are.non;
    penetrator_non = atoms_under f a.penetrator_non_originating gives are.penetrator_non;
    unique = uniques_under f a.uniquely_originating gives are.unique;
  }

  composed_spelled : (f s : Substitution) (x : Variable) → GivesStrings S f → IsSpelledTerm S (apply_to s (variable_term x)) → IsSpelledTerm S (apply_to (composed s f) (variable_term x))
  composed_spelled f s x gives is =
      subst (IsSpelledTerm S) (sym (term_composed s f (variable_term x))) (term_under f (apply_to s (variable_term x)) gives is)

  pub strand_under_spelled : (f : Substitution) (st : SkeletonStrand) → GivesStrings S f → IsSpelledStrand S I st → IsSpelledStrand S I (strand_under f st)
  strand_under_spelled f (instance role height terms) gives is = (
    is.0,
    λ x i. subst (IsSpelledTerm S) (sym (terms_kept f role height terms x i)) (composed_spelled f (as_substitution terms) x gives (is.1 x i)),
  )
  strand_under_spelled f (listener t) gives is = term_under f t gives is

  strands_under : (f : Substitution) (ss : List SkeletonStrand) → GivesStrings S f → ((st : SkeletonStrand) → IsIn st ss → IsSpelledStrand S I st) → (st : SkeletonStrand) → IsIn st (map (strand_under f) ss) → IsSpelledStrand S I st
  strands_under f ss gives are st i =
      let m = from_map (strand_under f) ss i in
      subst (IsSpelledStrand S I) m.2 (strand_under_spelled f m.0 gives (are m.0 m.1))

  terms_under : (f : Substitution) (ts : List Term) → GivesStrings S f → ((t : Term) → IsIn t ts → IsSpelledTerm S t) → (t : Term) → IsIn t (map (apply_to f) ts) → IsSpelledTerm S t
  terms_under f ts gives are t i =
      let m = from_map (apply_to f) ts i in
      subst (IsSpelledTerm S) m.2 (term_under f m.0 gives (are m.0 m.1))

  pub under_spelled : (f : Substitution) (k : Skeleton) → GivesStrings S f → IsSpelledSkeleton S I k → IsSpelledSkeleton S I (skeleton_under f k)
  under_spelled f k gives is = record {
    strands = strands_under f k.strands gives is.strands;
    assumptions = assumptions_under_spelled f k.assumptions gives is.assumptions;
    values = terms_under f k.from_problem.values gives is.values;
    own = assumptions_under_spelled f k.from_problem.assumptions gives is.own;
  }

  -- ---- skeletons that say the same, other pairs, and the order of a report

  same_strand_spelled : {s t : SkeletonStrand} → IsSameStrand s t → IsSpelledStrand S I s → IsSpelledStrand S I t
  same_strand_spelled (same_instance agree) is = (is.0, λ x i. subst (IsSpelledTerm S) (agree x i) (is.1 x i))
  same_strand_spelled same_listener is = is

  same_strands_spelled : {ss ts : List SkeletonStrand} → AreSameStrands ss ts → ((s : SkeletonStrand) → IsIn s ss → IsSpelledStrand S I s) → (t : SkeletonStrand) → IsIn t ts → IsSpelledStrand S I t
  same_strands_spelled no_strands are t i = elim i [ ]
  same_strands_spelled (same_strands one more) are t here = same_strand_spelled one (are _ here)
  same_strands_spelled (same_strands one more) are t (there i) = same_strands_spelled more (λ s j. are s (there j)) t i

  pub same_spelled : (k l : Skeleton) → SaysTheSame k l → IsSpelledSkeleton S I k → IsSpelledSkeleton S I l
  same_spelled k l same is = record {
    strands = same_strands_spelled same.strands is.strands;
    assumptions = subst (AreSpelledAssumptions S) same.assumptions is.assumptions;
    values = subst (λ (p : FromProblem). (t : Term) → IsIn t p.values → IsSpelledTerm S t) same.from_problem is.values;
    own = subst (λ (p : FromProblem). AreSpelledAssumptions S p.assumptions) same.from_problem is.own;
  }

  pub with_pairs_spelled : (k : Skeleton) (pairs : List OrderPair) → IsSpelledSkeleton S I k → IsSpelledSkeleton S I (with_pairs k pairs)
  with_pairs_spelled k pairs is = record { strands = is.strands; assumptions = is.assumptions; values = is.values; own = is.own }

  -- So has a skeleton with another table.
  pub table_spelled : (k : Skeleton) (variables : List Declaration) → IsSpelledSkeleton S I k → IsSpelledSkeleton S I (record k { variables = variables })
  table_spelled k variables is = record { strands = is.strands; assumptions = is.assumptions; values = is.values; own = is.own }

  listed_spelled : (k : Skeleton) → AreSpelledAssumptions S k.assumptions → AreSpelledAssumptions S (listed k)
  listed_spelled k are = record {
    non = λ v i. are.non v (((listed-non k).same v).0 i);
    penetrator_non = λ v i. are.penetrator_non v (((listed-penetrator-non k).same v).0 i);
    unique = λ u i. are.unique u (((listed-unique k).same u).0 i);
  }

  pub in_order_spelled : (k : Skeleton) → IsSpelledSkeleton S I k → IsSpelledSkeleton S I (in_report_order k)
  in_order_spelled k is = record { strands = is.strands; assumptions = listed_spelled k is.assumptions; values = is.values; own = is.own }

  -- ---- events, parts, and what is carried

  event_by : (f : Substitution) (e : Event Term) → AllGive f (variables_of (payload e)) → IsSpelledTerm S (payload e) → IsSpelledTerm S (payload (event_map (apply_to f) e))
  event_by f (send t) gives is = term_by f t gives is
  event_by f (recv t) gives is = term_by f t gives is

  instance_event : (role : Role) (height : ℕ) (terms : List Binding) (i : ℕ) (e : Event Term) → IsSpelledStrand S I (instance role height terms) → item_at (skeleton_trace (instance role height terms)) i ≡ Some e → IsSpelledTerm S (payload e)
  instance_event role height terms i e is at =
      let m = item_of_map (event_map (apply_to (as_substitution terms))) (prefix_of role height) i e at in
      let own = item_of_take height role.trace i m.0 m.1 in
      subst (λ (d : Event Term). IsSpelledTerm S (payload d)) m.2
      (event_by (as_substitution terms) m.0 (λ x j. is.1 x (in_trace (prefix_of role height) i m.0 x m.1 j)) (is.0.trace m.0 (at_place role.trace i m.0 own.1)))

  listener_events : (t : Term) (e : Event Term) → IsIn e (skeleton_trace (listener t)) → payload e ≡ t
  listener_events t e here = refl
  listener_events t e (there here) = refl
  listener_events t e (there (there i)) = elim i [ ]

  pub strand_event : (st : SkeletonStrand) (i : ℕ) (e : Event Term) → IsSpelledStrand S I st → item_at (skeleton_trace st) i ≡ Some e → IsSpelledTerm S (payload e)
  strand_event (instance role height terms) i e is at = instance_event role height terms i e is at
  strand_event (listener t) i e is at = subst (IsSpelledTerm S) (sym (listener_events t e (at_place (skeleton_trace (listener t)) i e at))) is

  -- What an event carries, and what stands at a position, has admitted strings.
  pub event_spelled : (k : Skeleton) (n : Node) (e : Event Term) → IsSpelledSkeleton S I k → term_event_at k.strands n ≡ Some e → IsSpelledTerm S (payload e)
  event_spelled k n e is at =
      let st = strand_of_event k.strands n e at in
      strand_event st.0 n.index e (is.strands st.0 (at_place k.strands n.strand st.0 st.1)) (event_on k n st.0 e st.1 at)

  pub part_spelled : (t : Term) (path : List Step) (u : Term) → IsSpelledTerm S t → term_at t path ≡ Some u → IsSpelledTerm S u
  part_spelled t [] u is at = let same : t ≡ u = cc in subst (IsSpelledTerm S) same is
  part_spelled (pair_term a b) (Left ∷ path) u is at = part_spelled a path u (λ s i. is s (in_append_left (strings_of b) i)) at
  part_spelled (pair_term a b) (Right ∷ path) u is at = part_spelled b path u (λ s i. is s (in_append_right (strings_of a) i)) at
  part_spelled (enc_term a k) (Plaintext ∷ path) u is at = part_spelled a path u (λ s i. is s (in_append_left (strings_of_key k) i)) at
  part_spelled _ (Left ∷ path) u is at = absurd (cc)
  part_spelled _ (Right ∷ path) u is at = absurd (cc)
  part_spelled _ (Plaintext ∷ path) u is at = absurd (cc)

  pub carried_spelled : (v : AtomTerm) (t : Term) → IsSpelledTerm S t → IsCarriedByTerm (atom_term v) t → IsSpelledAtom S v
  carried_spelled v t is carried s i = is s (carried_strings carried s i)
