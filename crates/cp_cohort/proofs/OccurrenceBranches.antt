-- The branches by an occurrence outside the patterns: more is matched in each.
use Rattle.std.proofs.Common.{◌≡◌, ℕ, List, [], ◌∷◌, length, map, sym, ◌∙◌, subst, ⊎_elim}
use Rattle.cp_lists.specs.Lists.{item_at, IsIn, here, there}
use Rattle.cp_lists.proofs.Members.{in_append, from_map, head_or_behind, not_in_none}
use Rattle.cp_model.specs.Term.{Term, Substitution, apply_to}
use Rattle.cp_model.specs.Strand.{event_map}
use Rattle.cp_model.specs.Skeleton.{skeleton_trace_or_none, Skeleton}
use Rattle.cp_model.specs.Tree.{Pattern}
use Rattle.cp_theory.specs.Normal.{strand_under}
use Rattle.cp_theory.proofs.Under.{trace_under}
use Rattle.cp_model.specs.declared.step.Step.{Step}
use Rattle.cp_collapse.specs.SameSkeletons.{AreSameStrands}
use Rattle.cp_collapse.proofs.SameStrands.{same_trace_at}
use Rattle.cp_theory.specs.Above.{encryptions_above}
use Rattle.cp_pattern.proofs.LawMatches.{unifier_matches}
use Rattle.cp_pattern.specs.Unifiers.{UnifiesMostGenerally}
use Rattle.cp_cohort.specs.Releases.{Release, PartialSolution, came_by, IsFirstOutside}
use Rattle.cp_cohort.specs.Stages.{Choice, choices, pattern_in, IsNextUnder}
use Rattle.cp_cohort.specs.Candidates.{Tried, on_way, choice_of, IsBranchByChoice, AreBranchesByChoices, none_tried, no_branch, branch_by, OneMatches, MatchesMore}
use Rattle.cp_cohort.proofs.FurtherMatches.{one_matches_under}

-- ---- of which choice each is

-- A choice by which the candidate is a branch.
pub record IsBranchBy (x : PartialSolution) (cs : List Choice) (d : Tried) : Type 0 where
  pub choice : Choice
  pub listed : IsIn choice cs
  pub tried : PartialSolution
  pub branch : IsBranchByChoice x choice tried
  pub candidate : d ≡ on_way tried

by_later : (x : PartialSolution) (c : Choice) (cs : List Choice) (d : Tried) → IsBranchBy x cs d → IsBranchBy x (c ∷ cs) d
by_later x c cs d b = record { choice = b.choice; listed = there b.listed; tried = b.tried; branch = b.branch; candidate = b.candidate }

pub branch_of_choice : (x : PartialSolution) {cs : List Choice} {ds : List Tried} → AreBranchesByChoices x cs ds → (d : Tried) → IsIn d ds → IsBranchBy x cs d
branch_of_choice x none_tried d i = absurd (not_in_none i)
branch_of_choice x (no_branch {c = c} {cs = cs} never more) d i = by_later x c cs d (branch_of_choice x more d i)
branch_of_choice x (branch_by {c = c} {y = y} {cs = cs} one more) d i =
    ⊎_elim (λ e. record { choice = c; listed = here; tried = y; branch = one; candidate = e }) (λ j. by_later x c cs d (branch_of_choice x more d j)) (head_or_behind i)

-- A choice is of one of the encryptions and one of the patterns.
record IsChoiceOf (es : List Term) (ps : List Pattern) (c : Choice) : Type 0 where
  pub encryption : IsIn c.encryption es
  pub pattern : IsIn c.pattern ps

of_first : (e : Term) (es : List Term) (ps : List Pattern) (c : Choice) → (p : Pattern) × IsIn p ps × (choice_of e p ≡ c) → IsChoiceOf (e ∷ es) ps c
of_first e es ps c h = subst (IsChoiceOf (e ∷ es) ps) h.2 (record { encryption = here; pattern = h.1 })

choice_is_of : (es : List Term) (ps : List Pattern) (c : Choice) → IsIn c (choices es ps) → IsChoiceOf es ps c
choice_is_of [] ps c i = absurd (not_in_none i)
choice_is_of (e ∷ es) ps c i =
    ⊎_elim (λ j. of_first e es ps c (from_map (choice_of e) ps j)) (λ j. let o = choice_is_of es ps c j in record { encryption = there o.encryption; pattern = o.pattern }) (in_append (map (choice_of e) ps) (choices es ps) i)

-- ---- that more is matched

-- The events of a strand that says the same as one under a substitution.
pub same_trace : (u : Substitution) (k l : Skeleton) (a : ℕ) → AreSameStrands (map (strand_under u) k.strands) l.strands →
    skeleton_trace_or_none (item_at l.strands a) ≡ map (event_map (apply_to u)) (skeleton_trace_or_none (item_at k.strands a))
same_trace u k l a same = sym (same_trace_at same a) ∙ trace_under u k.strands a

module _ (r : Release) (x : PartialSolution) (t : Term) (path : List Step) (first : IsFirstOutside r x t path) where
  branch_matches_more : (c : Choice) → IsChoiceOf (encryptions_above t path) r.patterns c → (u : Substitution) (y : PartialSolution) → UnifiesMostGenerally c.encryption (pattern_in x c.pattern) u →
      IsNextUnder x c.pattern u y → MatchesMore r x y
  branch_matches_more c of u y m next = record {
    comes = record {
      by = u;
      trace = same_trace u x.skeleton y.skeleton r.strand next.same.strands;
      stays = λ e o. subst (λ (s : Substitution). OneMatches r.patterns s (apply_to u e)) (sym next.by) (one_matches_under r.patterns (came_by x) u e o);
    };
    index = first.index;
    earlier = first.earlier;
    event = first.event;
    there = first.there;
    path = path;
    encryption = c.encryption;
    above = subst (λ (z : Term). IsIn c.encryption (encryptions_above z path)) first.of_event of.encryption;
    was_not = λ o. first.first.outside (record { encryption = c.encryption; above = of.encryption; pattern = o.pattern; listed = o.listed; matches = o.matches });
    is = subst (λ (s : Substitution). OneMatches r.patterns s (apply_to u c.encryption)) (sym next.by)
        (record { pattern = c.pattern; listed = of.pattern; matches = unifier_matches c.pattern (came_by x) u (length x.skeleton.variables) c.encryption m.unifies });
  }

  pub matches_more : (d : Tried) → (b : IsBranchBy x (choices (encryptions_above t path) r.patterns) d) → MatchesMore r x b.tried
  matches_more d b =
      branch_matches_more b.choice (choice_is_of (encryptions_above t path) r.patterns b.choice b.listed) b.branch.by b.tried b.branch.unifies b.branch.next
