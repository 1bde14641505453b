-- The tree with a pair along a strand is the same as the example's tree, and is not true of the problem.
use Rattle.std.proofs.Common.{◌↔◌, List, [], ◌∷◌, Option, Some, None, refl, sym, ap, ◌∙◌, subst}
use Rattle.cp_lists.specs.Lists.{here, one_step, more_steps}
use Rattle.cp_lists.proofs.Members.{only_item}
use Rattle.cp_lists.proofs.Mapped.{map_same}
use Rattle.cp_model.specs.Senders.{ArePaired}
use Rattle.cp_model.specs.Term.{variable_term, AtomTerm, apply_to, apply_to_atom}
use Rattle.cp_model.specs.Bindings.{as_substitution}
use Rattle.cp_model.specs.Identity.{unchanged}
use Rattle.cp_model.specs.declared.strand.Event.TheVariants.{Send as send}
use Rattle.cp_model.specs.declared.node.Node.{Node}
use Rattle.cp_model.specs.declared.node.OrderPair.{OrderPair}
use Rattle.cp_model.specs.Skeleton.{SkeletonStrand, instance, listener, Assumptions, OrderStep, along_strand_of, along_pair, Before}
use Rattle.cp_model.specs.Tree.{Pattern, Test, Label, IsTrueOf}
use Rattle.cp_model.proofs.Images.{own_images}
use Rattle.cp_model.proofs.LawTerms.{term_composed, atom_unchanged, term_unchanged}
use Rattle.cp_model.proofs.LawOrder.{before_wider}
use Rattle.cp_theory.specs.EncryptionExamples.{locked, heard}
use Rattle.cp_tree.specs.Example.{heard_label, sent_label, heard_tree, one_step_limits}
use Rattle.cp_report.specs.UpToNames.{IsSameStrandUnder, unique_renamed, AreSameAssumptions, IsSamePattern, IsSameTest, IsSameLabel, IsSameTree}
use Rattle.cp_printable.specs.Example.{heard_problem}
use Rattle.cp_printable.specs.PairedTree.{along_listener, paired_label, paired_tree}

-- ---- a label is the same as itself with other pairs that generate its order

-- Strands, assumptions, tests and patterns are the same as themselves.
own_strands : (ks : List SkeletonStrand) → ArePaired (IsSameStrandUnder unchanged) ks ks
own_strands [] = tt
own_strands (instance role height terms ∷ ks) = (
  ((λ i. role), (λ i. height), λ x m. term_composed (as_substitution terms) unchanged (variable_term x) ∙ term_unchanged (apply_to (as_substitution terms) (variable_term x))),
  own_strands ks,
)
own_strands (listener t ∷ ks) = (term_unchanged t, own_strands ks)

own_assumptions : (a : Assumptions) → AreSameAssumptions unchanged a a
own_assumptions a = record {
  non = own_images (apply_to_atom unchanged) a.non_originating atom_unchanged;
  penetrator_non = own_images (apply_to_atom unchanged) a.penetrator_non_originating atom_unchanged;
  unique = own_images (unique_renamed unchanged) a.uniquely_originating (λ u. ap (λ (v : AtomTerm). record { value = v; origin = u.origin }) (atom_unchanged u.value));
}

own_test : (o : Option Test) → IsSameTest unchanged o o
own_test None = tt
own_test (Some t) = (refl, term_unchanged t.critical)

own_patterns : (qs : List Pattern) → ArePaired (IsSamePattern (λ x. x.number)) qs qs
own_patterns [] = tt
own_patterns (q ∷ qs) = (
  record { with_locals = λ x. x.number; one_to_one = λ x y i j e. e; others = λ x i other. refl; term = term_unchanged q.term; locals = own_images (λ x. x) q.locals (λ x. refl) },
  own_patterns qs,
)

-- A label with other pairs that generate the same order.
same_but_pairs : (l : Label) (pairs : List OrderPair) → ((x y : Node) → Before l.skeleton x y ↔ Before (record l.skeleton { pairs = pairs }) x y) → IsSameLabel l (record l { skeleton = record l.skeleton { pairs = pairs } })
same_but_pairs l pairs order = record {
  number = λ x. x.number;
  one_to_one = λ x y i j e. e;
  parent = refl;
  operation = refl;
  skeleton = record {
    strands = own_strands l.skeleton.strands;
    order = order;
    assumptions = own_assumptions l.skeleton.assumptions;
    mapped_strands = refl;
    mapped_values = map_same (apply_to unchanged) term_unchanged l.skeleton.from_problem.values;
    own_assumptions = own_assumptions l.skeleton.from_problem.assumptions;
    own_pairs = own_images (λ p. p) l.skeleton.from_problem.pairs (λ p. refl);
  };
  unrealised = refl;
  test = own_test l.test;
  escape = own_patterns l.escape;
  children = refl;
  mark = refl;
}

-- ---- the order of the example

-- The pair leads where the strand leads.
one_less : {x y : Node} → OrderStep paired_label.skeleton x y → OrderStep heard x y
one_less (along_strand_of e) = along_strand_of e
one_less (along_pair {p = p} i) = subst (λ (q : OrderPair). OrderStep heard q.earlier q.later) (sym (only_item i)) (along_strand_of {s = 0} {i = 0} {e = send locked} refl)

-- So does each way over it.
before_less : {x y : Node} → Before paired_label.skeleton x y → Before heard x y
before_less (one_step s) = one_step (one_less s)
before_less (more_steps s p) = more_steps (one_less s) (before_less p)

-- The orders are the same.
same_order : (x y : Node) → Before heard x y ↔ Before paired_label.skeleton x y
same_order x y = (λ b. before_wider heard paired_label.skeleton refl (λ p i. elim i [ ]) b, λ b. before_less b)

-- The trees are the same.
pub paired_same : IsSameTree heard_tree paired_tree
paired_same = record {
  labels = (same_but_pairs heard_label (along_listener ∷ []) same_order, (same_but_pairs sent_label sent_label.skeleton.pairs (λ x y. (λ b. b, λ b. b)), tt));
  outcome = refl;
}

-- ---- the pair

-- It does not go to another strand.
pub paired_untrue : IsTrueOf heard_problem.protocol heard_problem.skeleton one_step_limits paired_tree → ⊥
paired_untrue is = ((is.labels 0 paired_label refl).skeleton.order_pairs along_listener here).between_strands refl
