-- Variables of lists that are put behind one another.
use Rattle.std.proofs.Common.{◌≡◌, ℕ, suc, ◌≤◌, List, [], ◌∷◌, ◌++◌, length, drop, append_assoc, Bool, refl, sym, ap, ◌∙◌}
use Rattle.std.proofs.lemmas.List.{append-nil, drop_all}
use Rattle.cp_model.specs.Term.{Term, variables_of}
use Rattle.cp_model.specs.declared.variable.Variable.{Variable}
use Rattle.cp_model.specs.Strand.{payload, variables_of_trace}
use Rattle.cp_model.specs.declared.strand.Event.{Event}
use Rattle.cp_model.specs.declared.strand.Event.TheVariants.{Send as send}
use Rattle.cp_model.specs.Skeleton.{SkeletonStrand, skeleton_trace, Skeleton}
use Rattle.cp_model.specs.Problem.{variables_of_strands, variables_of_atoms, variables_of_skeleton, variables_of_terms, variables_of_uniques}
use Rattle.cp_skel.specs.Events.{LocatedEvent, is_role_strand, located_events_on, located_events_from, events_of, variables_of_located}

of_located-append : (os ps : List LocatedEvent) → variables_of_located (os ++ ps) ≡ variables_of_located os ++ variables_of_located ps
of_located-append [] ps = refl
of_located-append (o ∷ os) ps = ap (λ xs. variables_of (payload o.event) ++ xs) (of_located-append os ps) ∙ sym (append_assoc (variables_of (payload o.event)) (variables_of_located os) (variables_of_located ps))

on_strand : (s i : ℕ) (r : Bool) (es : List (Event Term)) → variables_of_located (located_events_on s i r es) ≡ variables_of_trace es
on_strand s i r [] = refl
on_strand s i r (e ∷ es) = ap (λ xs. variables_of (payload e) ++ xs) (on_strand s (suc i) r es)

from_strand : (s : ℕ) (ss : List SkeletonStrand) → variables_of_located (located_events_from s ss) ≡ variables_of_strands ss
from_strand s [] = refl
from_strand s (x ∷ xs) =
    of_located-append (located_events_on s 0 (is_role_strand x) (skeleton_trace x)) (located_events_from (suc s) xs)
    ∙ ap (λ ys. ys ++ variables_of_located (located_events_from (suc s) xs)) (on_strand s 0 (is_role_strand x) (skeleton_trace x))
    ∙ ap (λ ys. variables_of_trace (skeleton_trace x) ++ ys) (from_strand (suc s) xs)

-- The variables of the events of a skeleton are those of its strands.
pub of_events : (k : Skeleton) → variables_of_located (events_of k) ≡ variables_of_strands k.strands
of_events k = from_strand 0 k.strands

-- Five lists, the three in the middle of which stand together.
five_lists : (a b c d e : List Variable) → ((((a ++ b) ++ c) ++ d) ++ e) ≡ ((a ++ ((b ++ c) ++ d)) ++ e)
five_lists a b c d e = ap (λ xs. xs ++ e) (ap (λ xs. xs ++ d) (append_assoc a b c) ∙ append_assoc a (b ++ c) d)

-- ---- one more

-- A transmission behind others.
pub sent_behind : (es : List (Event Term)) (t : Term) → variables_of_trace (es ++ send t ∷ []) ≡ variables_of_trace es ++ variables_of t
sent_behind [] t = append-nil (variables_of t)
sent_behind (e ∷ es) t =
    ap (λ xs. variables_of (payload e) ++ xs) (sent_behind es t) ∙ sym (append_assoc (variables_of (payload e)) (variables_of_trace es) (variables_of t))

-- What is put behind others is the first of what was left.
pub put_next : (old new left rest whole added : List Variable) → new ≡ old ++ added → left ≡ added ++ rest → old ++ left ≡ whole → new ++ rest ≡ whole
put_next old new left rest whole added n l e = ap (λ xs. xs ++ rest) n ∙ append_assoc old added rest ∙ sym (ap (λ xs. old ++ xs) l) ∙ e

pub put_last : {A : Type 0} (of : List A → List Variable) (xs : List A) (i : ℕ) → length xs ≤ i → (new whole : List Variable) → of [] ≡ [] → new ++ of (drop i xs) ≡ whole → new ≡ whole
put_last of xs i end new whole none e = sym (ap (λ ys. new ++ of ys) (drop_all i xs end) ∙ ap (λ ys. new ++ ys) none ∙ append-nil new) ∙ e

-- ---- all that a skeleton uses

pub all_gathered : (k : Skeleton) (first messages non pen uniques all : List Variable) → first ≡ [] → messages ≡ first ++ variables_of_strands k.strands → non ≡ messages ++ variables_of_atoms k.assumptions.non_originating →
    pen ≡ non ++ variables_of_atoms k.assumptions.penetrator_non_originating → uniques ≡ pen ++ variables_of_uniques k.assumptions.uniquely_originating → all ≡ uniques ++ variables_of_terms k.from_problem.values → all ≡ variables_of_skeleton k ++ variables_of_terms k.from_problem.values
all_gathered k first messages non pen uniques all e0 e1 e2 e3 e4 e5 =
    let vs = variables_of_strands k.strands in
    let a = variables_of_atoms k.assumptions.non_originating in
    let b = variables_of_atoms k.assumptions.penetrator_non_originating in
    let u = variables_of_uniques k.assumptions.uniquely_originating in
    let t = variables_of_terms k.from_problem.values in
    e5 ∙ ap (λ (xs : List Variable). xs ++ t) (e4 ∙ ap (λ (xs : List Variable). xs ++ u) (e3 ∙ ap (λ (xs : List Variable). xs ++ b) (e2 ∙ ap (λ (xs : List Variable). xs ++ a) (e1 ∙ ap (λ (xs : List Variable). xs ++ vs) e0)))) ∙ five_lists vs a b u t
