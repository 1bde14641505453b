-- The branch by one choice, from what the program makes.
use Rattle.std.proofs.Common.{◌≡◌, List, [], ◌++◌, length, sym, ap, ◌∙◌, subst}
use Rattle.std.proofs.lemmas.List.{append-nil}
use Rattle.cp_model.specs.Term.{Term, apply_to, composed}
use Rattle.cp_model.specs.declared.variable.Variable.{Variable}
use Rattle.cp_model.specs.declared.variable.Declaration.{Declaration}
use Rattle.cp_model.specs.Skeleton.{Skeleton}
use Rattle.cp_model.specs.Tree.{Pattern}
use Rattle.cp_model.proofs.LawTerms.{term_composed}
use Rattle.cp_theory.specs.Normal.{skeleton_under}
use Rattle.cp_unify.specs.Bindings.{Binding, as_substitution}
use Rattle.cp_collapse.specs.SameSkeletons.{SaysTheSame}
use Rattle.cp_normal.proofs.FormedBeside.{same_substitution}
use Rattle.cp_skel.specs.Tables.{DiffersInTable}
use Rattle.cp_pattern.specs.Opened.{with_new, opened_pattern, declared_as}
use Rattle.cp_pattern.specs.Unifiers.{UnifiesMostGenerally, NeverEqual}
use Rattle.cp_cohort.specs.Stages.{pattern_in, IsNextUnder}
use Rattle.cp_cohort.specs.Releases.{PartialSolution, came_by}
use Rattle.cp_cohort.specs.Candidates.{choice_of, IsBranchByChoice}

-- A pattern without locals is opened by the substitution alone, and declares nothing.
pub opened_alone : (x : PartialSolution) (p : Pattern) (r : List Binding) (t o : Term) → p.locals ≡ [] → r ≡ x.substitution → t ≡ p.term → o ≡ apply_to (as_substitution r) t →
    o ≡ opened_pattern p (came_by x) (length x.skeleton.variables)
opened_alone x p r t o none by term is =
    is ∙ ap (λ (q : List Binding). apply_to (as_substitution q) t) by ∙ ap (apply_to (came_by x)) term
    ∙ ap (λ (xs : List Variable). apply_to (with_new (length x.skeleton.variables) xs (came_by x)) p.term) (sym none)

pub declares_none : (ds : List Declaration) (p : Pattern) → p.locals ≡ [] → ds ≡ ds ++ declared_as ds p.locals
declares_none ds p none = sym (ap (λ (xs : List Variable). ds ++ declared_as ds xs) none ∙ append-nil ds)

-- The pattern's locals are new variables of a wider skeleton, and o is the pattern's term there.
module _ (x : PartialSolution) (p : Pattern) (e : Term) (k : Skeleton) (o : Term) (copied : k ≡ x.skeleton) (is_opened : o ≡ opened_pattern p (came_by x) (length k.variables)) where
  in_x : o ≡ pattern_in x p
  in_x = is_opened ∙ ap (λ (z : Skeleton). opened_pattern p (came_by x) (length z.variables)) copied

  pub never_made : NeverEqual e o → NeverEqual e (pattern_in x p)
  never_made never = subst (NeverEqual e) in_x never

  module _ (wider : Skeleton) (declared : wider.variables ≡ k.variables ++ declared_as k.variables p.locals) (rest : DiffersInTable k wider) (u : List Binding) (y : PartialSolution) where
    module _ (same : SaysTheSame (skeleton_under (as_substitution u) wider) y.skeleton) (variables : y.skeleton.variables ≡ wider.variables)
        (follows : (t : Term) → apply_to (as_substitution y.substitution) t ≡ apply_to (as_substitution u) (apply_to (came_by x) t)) where
      next_made : IsNextUnder x p (as_substitution u) y
      next_made =
          let r = subst (λ (z : Skeleton). DiffersInTable z wider) copied rest in
          let s = subst (λ (z : Skeleton). SaysTheSame (skeleton_under (as_substitution u) z) y.skeleton) r same in
          record {
            same = record { strands = s.strands; pairs = s.pairs; assumptions = s.assumptions; from_problem = s.from_problem };
            variables = variables ∙ declared ∙ ap (λ (z : Skeleton). z.variables ++ declared_as z.variables p.locals) copied;
            by = same_substitution (as_substitution y.substitution) (composed (came_by x) (as_substitution u)) (λ t. follows t ∙ sym (term_composed (came_by x) (as_substitution u) t));
          }

      pub branch_made : UnifiesMostGenerally e o (as_substitution u) → IsBranchByChoice x (choice_of e p) y
      branch_made m = record { by = as_substitution u; unifies = subst (λ (t : Term). UnifiesMostGenerally e t (as_substitution u)) in_x m; next = next_made }
