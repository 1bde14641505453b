-- Strands that say the same: saying the same is an equivalence, and their traces are equal.
use Rattle.std.proofs.Common.{◌≡◌, ℕ, zero, suc, List, [], ◌∷◌, Some, map, refl, sym, ap, ap₂, ◌∙◌, subst, subst₂, ◌≤◌, length, le_refl, arith}
use Rattle.cp_lists.specs.Lists.{item_at, IsIn}
use Rattle.cp_model.specs.Term.{Term, variables_of, Substitution, apply_to, composed, AgreeOnTerms, variable_term}
use Rattle.cp_model.specs.Bindings.{Binding, as_substitution}
use Rattle.cp_model.specs.Strand.{payload, event_map, Role, prefix_of, variables_of_trace, variables_of_prefix}
use Rattle.cp_model.specs.declared.strand.Event.{Event}
use Rattle.cp_model.specs.declared.node.Node.{Node}
use Rattle.cp_model.specs.Skeleton.{SkeletonStrand, instance, listener, skeleton_trace, skeleton_trace_or_none, term_event_at}
use Rattle.cp_model.specs.Standing.{image_on}
use Rattle.cp_lists.proofs.Members.{in_append_left, in_append_right}
use Rattle.cp_model.proofs.LawTerms.{term_composed}
use Rattle.cp_model.proofs.DeclaredTerms.{by_bindings}
use Rattle.cp_theory.specs.Normal.{strand_under}
use Rattle.cp_model.proofs.LawAgreement.{agree_event}
use Rattle.cp_collapse.specs.SameSkeletons.{IsSameStrand, same_instance, same_listener, AreSameStrands, no_strands, same_strands}

pub same_itself : (s : SkeletonStrand) → IsSameStrand s s
same_itself (instance role height terms) = same_instance (λ x i. refl)
same_itself (listener t) = same_listener

pub same_back : {s t : SkeletonStrand} → IsSameStrand s t → IsSameStrand t s
same_back (same_instance a) = same_instance (λ x i. sym (a x i))
same_back same_listener = same_listener

-- A strand that says the same as an instance is one, and one that says the same as a listener is that listener.
pub instance_like : {s t : SkeletonStrand} → IsSameStrand s t → (role : Role) (height : ℕ) (terms : List Binding) → t ≡ instance role height terms →
    (own : List Binding) × (s ≡ instance role height own) × AgreeOnTerms (variables_of_prefix role height) (as_substitution own) (as_substitution terms)
instance_like (same_instance {role = r} {height = n} {terms = own} {terms' = other} a) role height terms e =
    let p : r ≡ role = cc in
    let q : n ≡ height = cc in
    let o : other ≡ terms = cc in (
      own,
      ap₂ (λ (x : Role) (m : ℕ). instance x m own) p q,
      λ x i. a x (subst₂ (λ (y : Role) (m : ℕ). IsIn x (variables_of_prefix y m)) (sym p) (sym q) i) ∙ ap (λ (d : List Binding). apply_to (as_substitution d) (variable_term x)) o,
    )
instance_like same_listener role height terms e = absurd (cc)

pub listener_like : {s t : SkeletonStrand} → IsSameStrand s t → (u : Term) → t ≡ listener u → s ≡ listener u
listener_like (same_instance a) u e = absurd (cc)
listener_like same_listener u e = e

pub same_then : {s t u : SkeletonStrand} → IsSameStrand s t → IsSameStrand t u → IsSameStrand s u
same_then {s} p (same_instance {role = role} {height = height} {terms = terms} {terms' = terms'} b) =
    let i = instance_like p role height terms refl in
    subst (λ (d : SkeletonStrand). IsSameStrand d (instance role height terms')) (sym i.1) (same_instance (λ x j. i.2 x j ∙ b x j))
same_then p (same_listener {t = t}) = p

-- Terms that agree on the variables of a trace give it one trace.
same_events : (s t : Substitution) (es : List (Event Term)) → AgreeOnTerms (variables_of_trace es) s t → map (event_map (apply_to s)) es ≡ map (event_map (apply_to t)) es
same_events s t [] a = refl
same_events s t (e ∷ es) a =
    ap₂ ◌∷◌ (agree_event s t e (λ x p. a x (in_append_left (variables_of_trace es) p))) (same_events s t es (λ x p. a x (in_append_right (variables_of (payload e)) p)))

pub same_trace : {s t : SkeletonStrand} → IsSameStrand s t → skeleton_trace s ≡ skeleton_trace t
same_trace (same_instance {role = role} {height = height} {terms = s} {terms' = t} a) = same_events (as_substitution s) (as_substitution t) (prefix_of role height) a
same_trace same_listener = refl

-- Lists of strands that say the same.
pub all_same_itself : (ss : List SkeletonStrand) → AreSameStrands ss ss
all_same_itself [] = no_strands
all_same_itself (s ∷ ss) = same_strands (same_itself s) (all_same_itself ss)

pub all_same_back : {ss ts : List SkeletonStrand} → AreSameStrands ss ts → AreSameStrands ts ss
all_same_back no_strands = no_strands
all_same_back (same_strands p ps) = same_strands (same_back p) (all_same_back ps)

pub all_same_then : {ss ts us : List SkeletonStrand} → AreSameStrands ss ts → AreSameStrands ts us → AreSameStrands ss us
all_same_then no_strands q = q
all_same_then (same_strands p ps) (same_strands q qs) = same_strands (same_then p q) (all_same_then ps qs)

pub strand_at : {ss ts : List SkeletonStrand} → AreSameStrands ss ts → (i : ℕ) (t : SkeletonStrand) → item_at ts i ≡ Some t → (s : SkeletonStrand) × (item_at ss i ≡ Some s) × IsSameStrand s t
strand_at no_strands i t e = absurd (cc)
strand_at (same_strands {s = s} {s' = s'} p ps) zero t e = let same : s' ≡ t = cc in (s, refl, subst (IsSameStrand s) same p)
strand_at (same_strands p ps) (suc i) t e = strand_at ps i t e

pub instance_at : {ss ts : List SkeletonStrand} → AreSameStrands ss ts → (i : ℕ) (role : Role) (height : ℕ) (terms : List Binding) → item_at ts i ≡ Some (instance role height terms) →
    (own : List Binding) × (item_at ss i ≡ Some (instance role height own)) × AgreeOnTerms (variables_of_prefix role height) (as_substitution own) (as_substitution terms)
instance_at ps i role height terms e =
    let s = strand_at ps i (instance role height terms) e in
    let own = instance_like s.2 role height terms refl in
    (own.0, s.1 ∙ ap Some own.1, own.2)

pub listener_at : {ss ts : List SkeletonStrand} → AreSameStrands ss ts → (i : ℕ) (u : Term) → item_at ts i ≡ Some (listener u) → item_at ss i ≡ Some (listener u)
listener_at ps i u e = let s = strand_at ps i (listener u) e in s.1 ∙ ap Some (listener_like s.2 u refl)

pub same_trace_at : {ss ts : List SkeletonStrand} → AreSameStrands ss ts → (i : ℕ) → skeleton_trace_or_none (item_at ss i) ≡ skeleton_trace_or_none (item_at ts i)
same_trace_at no_strands i = refl
same_trace_at (same_strands p ps) zero = same_trace p
same_trace_at (same_strands p ps) (suc i) = same_trace_at ps i

pub same_event_at : {ss ts : List SkeletonStrand} → AreSameStrands ss ts → (n : Node) → term_event_at ss n ≡ term_event_at ts n
same_event_at ps n = ap (λ (es : List (Event Term)). item_at es n.index) (same_trace_at ps n.strand)

same_image_of : {s t : SkeletonStrand} → IsSameStrand s t → (start : Node) (i : ℕ) → image_on (Some s) start i ≡ image_on (Some t) start i
same_image_of (same_instance a) start i = refl
same_image_of same_listener start i = refl

pub same_image_at : {ss ts : List SkeletonStrand} → AreSameStrands ss ts → (j : ℕ) (start : Node) (i : ℕ) → image_on (item_at ss j) start i ≡ image_on (item_at ts j) start i
same_image_at no_strands j start i = refl
same_image_at (same_strands p ps) zero start i = same_image_of p start i
same_image_at (same_strands p ps) (suc j) start i = same_image_at ps j start i

-- Under a substitution they say the same.
same_strand_under : (d : Substitution) {s t : SkeletonStrand} → IsSameStrand s t → IsSameStrand (strand_under d s) (strand_under d t)
same_strand_under d (same_instance {role = role} {height = height} {terms = s} {terms' = t} a) =
    same_instance (λ x i.
    by_bindings (composed (as_substitution s) d) (variables_of_prefix role height) x i
    ∙ term_composed (as_substitution s) d (variable_term x)
    ∙ ap (apply_to d) (a x i)
    ∙ sym (term_composed (as_substitution t) d (variable_term x))
    ∙ sym (by_bindings (composed (as_substitution t) d) (variables_of_prefix role height) x i))
same_strand_under d same_listener = same_listener

pub all_same_under : (d : Substitution) {ss ts : List SkeletonStrand} → AreSameStrands ss ts → AreSameStrands (map (strand_under d) ss) (map (strand_under d) ts)
all_same_under d no_strands = no_strands
all_same_under d (same_strands p ps) = same_strands (same_strand_under d p) (all_same_under d ps)

-- They are as many.
pub as_many : {ss ts : List SkeletonStrand} → AreSameStrands ss ts → length ss ≤ length ts
as_many no_strands = le_refl 0
as_many (same_strands s r) = let l = as_many r in omega (arith, l)
