-- The nodes, operations and numbers of labels of a label form as it is printed fit.
use Rattle.std.proofs.Common.{◌≡◌, ℕ, suc, ◌+◌, ◌<◌, ◌≤◌, List, [], ◌∷◌, ◌++◌, length, true, refl, ap, ◌∙◌, arith, lt-ltb, le-leb}
use Rattle.std.specs.Prelude.{Option, Some, None, map, drop, ◌&&◌, nat_lt}
use Rattle.std.proofs.lemmas.Bool.{eq-eqb}
use Rattle.cp_base.specs.declared.place.Place.{Place}
use Rattle.cp_lists.specs.Lists.{item_at, IsIn, here, there}
use Rattle.cp_lists.proofs.Items.{item_below}
use Rattle.cp_lists.proofs.Appended.{none_and}
use Rattle.cp_model.specs.Skeleton.{SkeletonStrand, skeleton_trace_or_none, term_event_at, IsNodeOf, Skeleton}
use Rattle.cp_model.specs.declared.tree.Operation.{Operation}
use Rattle.cp_model.specs.declared.tree.Operation.TheVariants.{Problem as by_problem, Collapsed as by_collapse, Contracted as by_contraction, Displaced as by_displacement, AddedStrand as by_added_strand, AddedListener as by_added_listener, Generalised as by_generalising}
use Rattle.cp_model.specs.declared.node.Node.{Node}
use Rattle.cp_language.specs.Printed.{numeral, no_place}
use Rattle.cp_language.specs.Report.{node_form, operation_words}
use Rattle.cp_language.specs.Problems.{is_known, name_in_front, Problem}
use Rattle.cp_report.specs.Misfits.{misfit_unless, each_misfits, entries_misfits}
use Rattle.cp_report.specs.Skeletons.{node_misfits}
use Rattle.cp_report.specs.declared.operations.OperationWord.{OperationWord}
use Rattle.cp_report.specs.Labels.{is_number, operation_word, block_checks, operation_misfits, operation_place_misfits}
use Rattle.cp_report.specs.FittingTrees.{IsOperationOn}
use Rattle.cp_report.proofs.PrintedMaps.{numbers_same}

-- ---- nodes

pub known : {A : Type 0} (o : Option A) → (x : A) × (o ≡ Some x) → is_known o ≡ true
known o e = ap is_known e.1

-- A node that is there fits.
pub node_fits : (strands : List SkeletonStrand) (n : Node) → IsNodeOf strands n → node_misfits strands (node_form n) ≡ []
node_fits strands n e = ap (λ b. misfit_unless b no_place) (known (term_event_at strands n) e)

pub nodes_fit : (strands : List SkeletonStrand) (ns : List Node) → ((n : Node) → IsIn n ns → IsNodeOf strands n) → each_misfits (node_misfits strands) (map node_form ns) ≡ []
nodes_fit strands [] h = refl
nodes_fit strands (n ∷ ns) h = none_and _ _ (node_fits strands n (h n here)) (nodes_fit strands ns (λ m i. h m (there i)))

-- A node that is there is on a strand.
strand_there : (strands : List SkeletonStrand) (n : Node) → IsNodeOf strands n → n.strand < length strands
strand_there strands n e = by (item_at strands n.strand) refl e.1
  where
    by : (o : Option SkeletonStrand) → item_at strands n.strand ≡ o → item_at (skeleton_trace_or_none o) n.index ≡ Some e.0 → n.strand < length strands
    by None p q = absurd (cc)
    by (Some s) p q = item_below strands n.strand s p

-- ---- operations

-- The word for an operation, as it is read.
abbrev pub word_for : Operation → OperationWord
word_for o = operation_word (name_in_front (operation_words o))

-- The entries of a partition fit, the first of these being number i.
blocks_fit : (ns : List ℕ) (i : ℕ) (ks : List SkeletonStrand) (ps : List ℕ) (at : Place) → length ps ≡ length ks → ((j n : ℕ) → item_at ps j ≡ Some n → (n ≤ i + j) × (item_at ns n ≡ Some n))
    → entries_misfits (block_checks ns i ks) at (map numeral ps) ≡ []
blocks_fit ns i [] [] at e h = refl
blocks_fit ns i [] (p ∷ ps) at e h = absurd (cc)
blocks_fit ns i (k ∷ ks) [] at e h = absurd (cc)
blocks_fit ns i (k ∷ ks) (p ∷ ps) at e h =
    let first = h 0 p refl in
    let low : p ≤ i = omega (arith, first.0) in
    let left : length ps ≡ length ks = omega (arith, e) in
    none_and _ _
    (ap (λ b. misfit_unless (b && is_number p (item_at ns p)) no_place) (le-leb p i low) ∙ ap (λ o. misfit_unless (is_number p o) no_place) first.1 ∙ ap (λ b. misfit_unless b no_place) (eq-eqb p p refl))
    (blocks_fit ns (suc i) ks ps at left (λ j n q. let r = h (suc j) n q in (omega (arith, r.0), r.1)))

-- An operation as it is printed fits,
pub operation_fits : (p : Problem) (k : Skeleton) (at : Place) (o : Operation) → IsOperationOn p k o → operation_misfits p at (operation_words o) ≡ []
operation_fits p k at by_problem h = refl
operation_fits p k at (by_collapse ps) h =
    ap (λ ns. entries_misfits (block_checks ns 0 p.skeleton.strands) at (map numeral ps)) (numbers_same ps)
    ∙ blocks_fit ps 0 p.skeleton.strands ps at h.each (λ j n e. let r = h.lowest j n e in (omega (arith, r.0), r.1))
operation_fits p k at (by_contraction n) h = refl
operation_fits p k at (by_displacement n) h = refl
operation_fits p k at (by_added_strand s) h = refl
operation_fits p k at (by_added_listener s) h = refl
operation_fits p k at by_generalising h = refl

node_named : (strands : List SkeletonStrand) (n : Node) → IsNodeOf strands n → misfit_unless (nat_lt n.strand (length strands)) no_place ++ misfit_unless (is_known (term_event_at strands n)) no_place ≡ []
node_named strands n e = none_and _ _ (ap (λ t. misfit_unless t no_place) (lt-ltb n.strand (length strands) (strand_there strands n e))) (ap (λ t. misfit_unless t no_place) (known (term_event_at strands n) e))

-- The strand or the node that an operation names is there.
abbrev pub IsThere : List SkeletonStrand → Operation → Type 0
IsThere strands by_problem = Unit {0}
IsThere strands (by_collapse ps) = Unit {0}
IsThere strands (by_contraction n) = IsNodeOf strands n
IsThere strands (by_displacement n) = IsNodeOf strands n
IsThere strands (by_added_strand s) = s < length strands
IsThere strands (by_added_listener s) = s < length strands
IsThere strands by_generalising = Unit {0}

-- and what it names is there.
pub operation_there : (strands : List SkeletonStrand) (o : Operation) → IsThere strands o → operation_place_misfits strands (word_for o) (drop 1 (operation_words o)) ≡ []
operation_there strands by_problem h = refl
operation_there strands (by_collapse ps) h = refl
operation_there strands (by_contraction n) h = node_named strands n h
operation_there strands (by_displacement n) h = node_named strands n h
operation_there strands (by_added_strand s) h = ap (λ t. misfit_unless t no_place) (lt-ltb s (length strands) h)
operation_there strands (by_added_listener s) h = ap (λ t. misfit_unless t no_place) (lt-ltb s (length strands) h)
operation_there strands by_generalising h = refl
