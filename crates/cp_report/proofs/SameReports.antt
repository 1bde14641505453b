-- Two labels, trees and reports that are the same as a third are the same; so those for which the same is printed are.
use Rattle.std.proofs.Common.{◌≡◌, ℕ, List, [], ◌∷◌, ◌++◌, refl, sym, ap, ◌∙◌, subst}
use Rattle.std.specs.Prelude.{Option, Some, None}
use Rattle.cp_lists.specs.Lists.{IsIn, here, there}
use Rattle.cp_lists.proofs.Items.{place_of}
use Rattle.cp_lists.proofs.Members.{in_append_left, in_append_right}
use Rattle.cp_model.specs.Senders.{ArePaired}
use Rattle.cp_model.specs.Term.{variables_of}
use Rattle.cp_model.specs.declared.variable.Variable.{Variable}
use Rattle.cp_model.specs.Problem.{variables_of_skeleton}
use Rattle.cp_model.specs.Pattern.{IsPattern}
use Rattle.cp_model.specs.Stated.{HasOwnAssumptions}
use Rattle.cp_model.specs.Tree.{Pattern, Test, Label, Tree}
use Rattle.cp_sexpr.specs.Syntax.{Forms, forms_of}
use Rattle.cp_language.specs.Report.{variables_of_terms, variables_of_test, variables_but, variables_of_patterns, occurring, report_forms}
use Rattle.cp_language.specs.Problems.{Problem}
use Rattle.cp_language.specs.Input.{Entry, input_of}
use Rattle.cp_language.proofs.NoLocals.{from_but}
use Rattle.cp_report.specs.FittingTrees.{TreeFits, problems_in}
use Rattle.cp_report.specs.ReadBack.{report_of}
use Rattle.cp_report.specs.Laws.{ArePrinted, CanBeStated}
use Rattle.cp_report.specs.UpToNames.{variable_numbered, renamed, renaming, IsOneToOne, IsSamePattern, IsSameTest, IsSameLabel, IsSameTree, IsSameEntry, IsSameReport}
use Rattle.cp_report.proofs.Inverses.{inverse_back, AreCovered, through, back, term_through, variable_through, one_through, images_through}
use Rattle.cp_report.proofs.SameSkeletons.{both_covered, term_covered, terms_covered, skeleton_covered, skeleton_through}
use Rattle.cp_report.proofs.LabelRead.{not_among}
use Rattle.cp_report.proofs.Premises.{reads_back}

-- ---- patterns

module _ (a b : Variable → ℕ) (p q r : Pattern) (h : IsSamePattern a p r) (g : IsSamePattern b q r) (occur : (x : Variable) → IsIn x p.locals → IsIn x (variables_of p.term)) where
  matched : AreCovered h.with_locals (variables_of p.term) g.with_locals (variables_of q.term)
  matched = term_covered h.with_locals g.with_locals p.term q.term (h.term ∙ sym g.term)

  -- what is no local comes from none
  no_local : (x y : Variable) → IsIn x (variables_of p.term) → (IsIn x p.locals → ⊥) → renamed g.with_locals y ≡ renamed h.with_locals x → IsIn y q.locals → ⊥
  no_local x y m other e l =
      let z = (h.locals (renamed g.with_locals y)).0 ((g.locals (renamed g.with_locals y)).1 (record { item = y; listed = l; image = refl })) in
      let same : z.item ≡ x = h.one_to_one z.item x (occur z.item z.listed) m (z.image ∙ e) in
      other (subst (λ (w : Variable). IsIn w p.locals) same z.listed)

  -- where one of the label's variables comes from
  plain : (x : Variable) → IsIn x (variables_of p.term) → (IsIn x p.locals → ⊥) → (y : Variable) × IsIn y (variables_of q.term) × (IsIn y q.locals → ⊥) × (renamed b y ≡ renamed a x)
  plain x m other =
      let c = matched x m in
      let n = no_local x c.from m other c.is in
      (c.from, c.listed, n, sym (ap (variable_numbered c.from.sort) (g.others c.from c.listed n)) ∙ c.is ∙ ap (variable_numbered x.sort) (h.others x m other))

  pub pattern_covered : AreCovered a (variables_but p.locals (variables_of p.term)) b (variables_but q.locals (variables_of q.term))
  pattern_covered x m =
      let o = from_but p.locals (variables_of p.term) x m in
      let c = plain x o.0 o.1 in
      record { from = c.0; listed = not_among q.locals (variables_of q.term) c.0 c.1 c.2; is = c.3 }

  module _ (ys : List Variable) (one : IsOneToOne b ys) (own : (x : Variable) → IsIn x q.locals → IsIn x (variables_of q.term)) (within : (y : Variable) → IsIn y (variables_of q.term) → (IsIn y q.locals → ⊥) → IsIn y ys) where
    pub pattern_through : IsSamePattern (through a b ys) p q
    pattern_through = record {
      with_locals = through h.with_locals g.with_locals (variables_of q.term);
      one_to_one = one_through h.with_locals g.with_locals (variables_of q.term) g.one_to_one (variables_of p.term) h.one_to_one matched;
      others = others;
      term = term_through h.with_locals g.with_locals (variables_of q.term) g.one_to_one p.term q.term (λ y i. i) (h.term ∙ sym g.term);
      locals = images_through (renamed h.with_locals) (renamed g.with_locals) (renamed (through h.with_locals g.with_locals (variables_of q.term))) (renamed (back h.with_locals g.with_locals (variables_of q.term) g.one_to_one))
          p.locals q.locals r.locals h.locals g.locals (λ x i. refl) (λ y i. ap (variable_numbered y.sort) (inverse_back g.with_locals (variables_of q.term) g.one_to_one y (own y i)));
    }
      where
        others : (x : Variable) → IsIn x (variables_of p.term) → (IsIn x p.locals → ⊥) → through h.with_locals g.with_locals (variables_of q.term) x ≡ through a b ys x
        others x m other =
            let c = matched x m in
            let n = no_local x c.from m other c.is in
            let d = sym (ap (variable_numbered c.from.sort) (g.others c.from c.listed n)) ∙ c.is ∙ ap (variable_numbered x.sort) (h.others x m other) in
            ap (λ (z : Variable). z.number) (variable_through h.with_locals g.with_locals (variables_of q.term) g.one_to_one x c.from c.listed c.is)
            ∙ sym (ap (λ (z : Variable). z.number) (variable_through a b ys one x c.from (within c.from c.listed n) d))

patterns_covered : (a b : Variable → ℕ) (ps qs rs : List Pattern) → ArePaired (IsSamePattern a) ps rs → ArePaired (IsSamePattern b) qs rs → ((p : Pattern) → IsIn p ps → IsPattern p) → AreCovered a (variables_of_patterns ps) b (variables_of_patterns qs)
patterns_covered a b [] qs rs h g are x m = elim m [ ]
patterns_covered a b (p ∷ ps) qs [] h g are x m = absurd h
patterns_covered a b (p ∷ ps) [] (r ∷ rs) h g are x m = absurd g
patterns_covered a b (p ∷ ps) (q ∷ qs) (r ∷ rs) h g are x m =
    both_covered a b (variables_but p.locals (variables_of p.term)) (variables_of_patterns ps) (variables_but q.locals (variables_of q.term)) (variables_of_patterns qs)
    (pattern_covered a b p q r h.0 g.0 (are p here).locals_occur) (patterns_covered a b ps qs rs h.1 g.1 (λ o i. are o (there i))) x m

patterns_through : (a b : Variable → ℕ) (ys : List Variable) (one : IsOneToOne b ys) (ps qs rs : List Pattern) → ArePaired (IsSamePattern a) ps rs → ArePaired (IsSamePattern b) qs rs → ((p : Pattern) → IsIn p ps → IsPattern p) → ((q : Pattern) → IsIn q qs → IsPattern q)
    → ((y : Variable) → IsIn y (variables_of_patterns qs) → IsIn y ys) → ArePaired (IsSamePattern (through a b ys)) ps qs
patterns_through a b ys one [] [] rs h g are are' within = tt
patterns_through a b ys one [] (q ∷ qs) [] h g are are' within = absurd g
patterns_through a b ys one [] (q ∷ qs) (r ∷ rs) h g are are' within = absurd h
patterns_through a b ys one (p ∷ ps) qs [] h g are are' within = absurd h
patterns_through a b ys one (p ∷ ps) [] (r ∷ rs) h g are are' within = absurd g
patterns_through a b ys one (p ∷ ps) (q ∷ qs) (r ∷ rs) h g are are' within = (
  pattern_through a b p q r h.0 g.0 (are p here).locals_occur ys one (are' q here).locals_occur (λ y i other. within y (in_append_left (variables_of_patterns qs) (not_among q.locals (variables_of q.term) y i other))),
  patterns_through a b ys one ps qs rs h.1 g.1 (λ o i. are o (there i)) (λ o i. are' o (there i)) (λ y i. within y (in_append_right (variables_but q.locals (variables_of q.term)) i)),
)

-- ---- tests

test_covered : (a b : Variable → ℕ) (t u v : Option Test) → IsSameTest (renaming a) t v → IsSameTest (renaming b) u v → AreCovered a (variables_of_test t) b (variables_of_test u)
test_covered a b None u v h g x m = elim m [ ]
test_covered a b (Some t) u None h g x m = absurd h
test_covered a b (Some t) None (Some v) h g x m = absurd g
test_covered a b (Some t) (Some u) (Some v) h g x m = term_covered a b t.critical u.critical (h.1 ∙ sym g.1) x m

test_through : (a b : Variable → ℕ) (ys : List Variable) (one : IsOneToOne b ys) (t u v : Option Test) → IsSameTest (renaming a) t v → IsSameTest (renaming b) u v → ((y : Variable) → IsIn y (variables_of_test u) → IsIn y ys) → IsSameTest (renaming (through a b ys)) t u
test_through a b ys one None None v h g within = tt
test_through a b ys one None (Some u) None h g within = absurd g
test_through a b ys one None (Some u) (Some v) h g within = absurd h
test_through a b ys one (Some t) u None h g within = absurd h
test_through a b ys one (Some t) None (Some v) h g within = absurd g
test_through a b ys one (Some t) (Some u) (Some v) h g within = (h.0 ∙ sym g.0, term_through a b ys one t.critical u.critical within (h.1 ∙ sym g.1))

-- ---- labels

-- What is used of a label that fits.
record IsProper (l : Label) : Type 0 where
  patterns : (q : Pattern) → IsIn q l.escape → IsPattern q
  assumed : HasOwnAssumptions l.skeleton

label_through : (l m s : Label) → IsProper l → IsProper m → IsSameLabel l s → IsSameLabel m s → IsSameLabel l m
label_through l m s is is' h g = record {
  number = through h.number g.number (occurring m);
  one_to_one = one_through h.number g.number (occurring m) g.one_to_one (occurring l) h.one_to_one covered;
  parent = h.parent ∙ sym g.parent;
  operation = h.operation ∙ sym g.operation;
  skeleton = skeleton_through h.number g.number (occurring m) g.one_to_one l.skeleton m.skeleton s.skeleton h.skeleton g.skeleton is'.assumed
      (λ y i. in_append_left (variables_of_patterns m.escape) (in_append_left (variables_of_test m.test) (in_append_left (variables_of_terms m.skeleton.from_problem.values) i)))
      (λ y i. in_append_left (variables_of_patterns m.escape) (in_append_left (variables_of_test m.test) (in_append_right (variables_of_skeleton m.skeleton) i)));
  unrealised = h.unrealised ∙ sym g.unrealised;
  test = test_through h.number g.number (occurring m) g.one_to_one l.test m.test s.test h.test g.test
      (λ y i. in_append_left (variables_of_patterns m.escape) (in_append_right (variables_of_skeleton m.skeleton ++ variables_of_terms m.skeleton.from_problem.values) i));
  escape = patterns_through h.number g.number (occurring m) g.one_to_one l.escape m.escape s.escape h.escape g.escape is.patterns is'.patterns
      (λ y i. in_append_right (variables_of_skeleton m.skeleton ++ variables_of_terms m.skeleton.from_problem.values ++ variables_of_test m.test) i);
  children = h.children ∙ sym g.children;
  mark = h.mark ∙ sym g.mark;
}
  where
    covered : AreCovered h.number (occurring l) g.number (occurring m)
    covered =
        both_covered h.number g.number (variables_of_skeleton l.skeleton ++ variables_of_terms l.skeleton.from_problem.values ++ variables_of_test l.test) (variables_of_patterns l.escape)
        (variables_of_skeleton m.skeleton ++ variables_of_terms m.skeleton.from_problem.values ++ variables_of_test m.test) (variables_of_patterns m.escape)
        (both_covered h.number g.number (variables_of_skeleton l.skeleton ++ variables_of_terms l.skeleton.from_problem.values) (variables_of_test l.test)
        (variables_of_skeleton m.skeleton ++ variables_of_terms m.skeleton.from_problem.values) (variables_of_test m.test)
        (both_covered h.number g.number (variables_of_skeleton l.skeleton) (variables_of_terms l.skeleton.from_problem.values) (variables_of_skeleton m.skeleton) (variables_of_terms m.skeleton.from_problem.values)
        (skeleton_covered h.number g.number l.skeleton m.skeleton s.skeleton h.skeleton g.skeleton)
        (terms_covered h.number g.number l.skeleton.from_problem.values m.skeleton.from_problem.values (h.skeleton.mapped_values ∙ sym g.skeleton.mapped_values)))
        (test_covered h.number g.number l.test m.test s.test h.test g.test))
        (patterns_covered h.number g.number l.escape m.escape s.escape h.escape g.escape is.patterns)

-- ---- trees and reports

labels_through : (ls ms ss : List Label) → ((l : Label) → IsIn l ls → IsProper l) → ((m : Label) → IsIn m ms → IsProper m) → ArePaired IsSameLabel ls ss → ArePaired IsSameLabel ms ss → ArePaired IsSameLabel ls ms
labels_through [] [] ss are are' h g = tt
labels_through [] (m ∷ ms) [] are are' h g = absurd g
labels_through [] (m ∷ ms) (s ∷ ss) are are' h g = absurd h
labels_through (l ∷ ls) ms [] are are' h g = absurd h
labels_through (l ∷ ls) [] (s ∷ ss) are are' h g = absurd g
labels_through (l ∷ ls) (m ∷ ms) (s ∷ ss) are are' h g = (
  label_through l m s (are l here) (are' m here) h.0 g.0,
  labels_through ls ms ss (λ k i. are k (there i)) (λ k i. are' k (there i)) h.1 g.1,
)

proper : (p : Problem) (t : Tree) → TreeFits p t → (l : Label) → IsIn l t.labels → IsProper l
proper p t fit l m = let r = place_of m in let f = fit r.0 l r.1 in record { patterns = f.consistent.patterns; assumed = f.stated.assumed }

-- Each tree fits some problem.
abbrev FitSome : List Problem → List Tree → Type 0
FitSome ps trees = ArePaired TreeFits ps trees

trees_through : (ps qs : List Problem) (ts us vs : List Tree) → FitSome ps ts → FitSome qs us → ArePaired IsSameTree ts vs → ArePaired IsSameTree us vs → ArePaired IsSameTree ts us
trees_through ps qs [] [] vs f e h g = tt
trees_through ps qs [] (u ∷ us) [] f e h g = absurd g
trees_through ps qs [] (u ∷ us) (v ∷ vs) f e h g = absurd h
trees_through ps qs (t ∷ ts) us [] f e h g = absurd h
trees_through ps qs (t ∷ ts) [] (v ∷ vs) f e h g = absurd g
trees_through [] qs (t ∷ ts) (u ∷ us) (v ∷ vs) f e h g = absurd f
trees_through (p ∷ ps) [] (t ∷ ts) (u ∷ us) (v ∷ vs) f e h g = absurd e
trees_through (p ∷ ps) (q ∷ qs) (t ∷ ts) (u ∷ us) (v ∷ vs) f e h g = (
  record {
    labels = labels_through t.labels u.labels v.labels (proper p t f.0) (proper q u e.0) h.0.labels g.0.labels;
    outcome = h.0.outcome ∙ sym g.0.outcome;
  },
  trees_through ps qs ts us vs f.1 e.1 h.1 g.1,
)

entries_through : (ds es cs : List Entry) → ArePaired IsSameEntry ds cs → ArePaired IsSameEntry es cs → ArePaired IsSameEntry ds es
entries_through [] [] cs h g = tt
entries_through [] (e ∷ es) [] h g = absurd g
entries_through [] (e ∷ es) (c ∷ cs) h g = absurd h
entries_through (d ∷ ds) es [] h g = absurd h
entries_through (d ∷ ds) [] (c ∷ cs) h g = absurd g
entries_through (d ∷ ds) (e ∷ es) (c ∷ cs) h g = (record { form = h.0.form ∙ sym g.0.form; protocol = h.0.protocol ∙ sym g.0.protocol; problem = h.0.problem ∙ sym g.0.problem }, entries_through ds es cs h.1 g.1)

-- Two inputs and their trees, for which the same is printed, are the same.
pub one_report : (input input' : Forms) (trees trees' : List Tree) → CanBeStated input trees → CanBeStated input' trees' → ArePrinted (forms_of (report_forms (input_of input) trees)) input' trees'
    → IsSameReport (record { entries = input_of input; trees = trees }) (record { entries = input_of input'; trees = trees' })
one_report input input' trees trees' can can' printed =
    let fs = forms_of (report_forms (input_of input) trees) in
    let h = (reads_back input trees fs can refl).same in
    let g = (reads_back input' trees' fs can' printed).same in
    record {
      entries = entries_through (input_of input) (input_of input') (report_of fs).entries h.entries g.entries;
      trees = trees_through (problems_in (input_of input)) (problems_in (input_of input')) trees trees' (report_of fs).trees can.fit can'.fit h.trees g.trees;
    }
