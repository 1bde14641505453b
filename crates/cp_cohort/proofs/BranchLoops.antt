-- The loops that put branches.
use Rattle.std.proofs.Common.{append_assoc, ◌≡◌, ℕ, ◌+◌, ◌<◌, ◌≤◌, List, [], ◌∷◌, ◌++◌, length, get_or, take, map, sym, ap, ◌∙◌, subst}
use Rattle.std.proofs.lemmas.List.{take_more, take_all, map-append, append-nil}
use Rattle.cp_model.specs.Term.{Term}
use Rattle.cp_model.specs.Tree.{Pattern}
use Rattle.cp_pattern.specs.Unifiers.{NeverEqual}
use Rattle.cp_cohort.specs.Releases.{PartialSolution}
use Rattle.cp_cohort.specs.Stages.{Choice, choices, pattern_in}
use Rattle.cp_cohort.specs.Candidates.{Tried, on_way, choice_of, IsBranchByChoice, AreBranchesByChoices, none_tried, no_branch, branch_by}

-- The list, with the branches of x by these choices behind it.
pub record PutsBranches (x : PartialSolution) (cs : List Choice) (old new : List Tried) : Type 0 where
  pub added : List Tried
  pub behind : new ≡ old ++ added
  pub are : AreBranchesByChoices x cs added

module _ (x : PartialSolution) where
  more_branches : {cs : List Choice} {made : List Tried} → AreBranchesByChoices x cs made → (ds : List Choice) (bs : List Tried) → AreBranchesByChoices x ds bs → AreBranchesByChoices x (cs ++ ds) (made ++ bs)
  more_branches none_tried ds bs more = more
  more_branches (no_branch never rest) ds bs more = no_branch never (more_branches rest ds bs more)
  more_branches (branch_by one rest) ds bs more = branch_by one (more_branches rest ds bs more)

  -- What is put by some choices, and then by others, is put by both.
  pub puts_then : (cs ds : List Choice) (old mid new : List Tried) → PutsBranches x cs old mid → PutsBranches x ds mid new → PutsBranches x (cs ++ ds) old new
  puts_then cs ds old mid new p q = record {
    added = p.added ++ q.added;
    behind = q.behind ∙ ap (λ (zs : List Tried). zs ++ q.added) p.behind ∙ append_assoc old p.added q.added;
    are = more_branches p.are ds q.added q.are;
  }

  pub puts_none : (old : List Tried) → PutsBranches x [] old old
  puts_none old = record { added = []; behind = sym (append-nil old); are = none_tried }

  pub never_put : (e : Term) (p : Pattern) (old : List Tried) → NeverEqual e (pattern_in x p) → PutsBranches x (choice_of e p ∷ []) old old
  never_put e p old never = record { added = []; behind = sym (append-nil old); are = no_branch never none_tried }

  pub branch_put : (e : Term) (p : Pattern) (y : PartialSolution) (old new : List Tried) → IsBranchByChoice x (choice_of e p) y → new ≡ old ++ on_way y ∷ [] → PutsBranches x (choice_of e p ∷ []) old new
  branch_put e p y old new one behind = record { added = on_way y ∷ []; behind = behind; are = branch_by one none_tried }

  -- ---- pattern by pattern

  module _ (e : Term) (ps : List Pattern) (i : ℕ) (p : Pattern) (lt : i < length ps) (is : p ≡ get_or ps i p) (old mid new : List Tried) where
    taken : take (i + 1) ps ≡ take i ps ++ p ∷ []
    taken = take_more ps i p lt ∙ ap (λ z. take i ps ++ z ∷ []) (sym is)

    pub next_pattern : PutsBranches x (map (choice_of e) (take i ps)) old mid → PutsBranches x (choice_of e p ∷ []) mid new → PutsBranches x (map (choice_of e) (take (i + 1) ps)) old new
    next_pattern so_far one =
        subst (λ (qs : List Pattern). PutsBranches x (map (choice_of e) qs) old new) (sym taken)
        (subst (λ (cs : List Choice). PutsBranches x cs old new) (sym (map-append (choice_of e) (take i ps) (p ∷ []))) (puts_then (map (choice_of e) (take i ps)) (choice_of e p ∷ []) old mid new so_far one))

  -- ---- encryption by encryption

  choices_more : (es : List Term) (e : Term) (ps : List Pattern) → choices (es ++ e ∷ []) ps ≡ choices es ps ++ map (choice_of e) ps
  choices_more [] e ps = append-nil (map (choice_of e) ps)
  choices_more (d ∷ es) e ps = ap (λ (cs : List Choice). map (choice_of d) ps ++ cs) (choices_more es e ps) ∙ sym (append_assoc (map (choice_of d) ps) (choices es ps) (map (choice_of e) ps))

  module _ (ps : List Pattern) (es : List Term) (i : ℕ) (e : Term) (lt : i < length es) (is : e ≡ get_or es i e) (old new : List Tried) where
    taken_term : take (i + 1) es ≡ take i es ++ e ∷ []
    taken_term = take_more es i e lt ∙ ap (λ z. take i es ++ z ∷ []) (sym is)

    pub next_encryption : AreBranchesByChoices x (choices (take i es) ps) old → PutsBranches x (map (choice_of e) ps) old new → AreBranchesByChoices x (choices (take (i + 1) es) ps) new
    next_encryption so_far puts =
        subst (λ (ds : List Term). AreBranchesByChoices x (choices ds ps) new) (sym taken_term)
        (subst (λ (cs : List Choice). AreBranchesByChoices x cs new) (sym (choices_more (take i es) e ps))
        (subst (AreBranchesByChoices x (choices (take i es) ps ++ map (choice_of e) ps)) (sym puts.behind) (more_branches so_far (map (choice_of e) ps) puts.added puts.are)))

  -- ---- at the end

  pub all_patterns : (e : Term) (ps : List Pattern) (i : ℕ) (old new : List Tried) → length ps ≤ i → PutsBranches x (map (choice_of e) (take i ps)) old new → PutsBranches x (map (choice_of e) ps) old new
  all_patterns e ps i old new le puts = subst (λ (qs : List Pattern). PutsBranches x (map (choice_of e) qs) old new) (take_all i ps le) puts

  pub all_encryptions : (ps : List Pattern) (es : List Term) (i : ℕ) (made : List Tried) → length es ≤ i → AreBranchesByChoices x (choices (take i es) ps) made → AreBranchesByChoices x (choices es ps) made
  all_encryptions ps es i made le are = subst (λ (ds : List Term). AreBranchesByChoices x (choices ds ps) made) (take_all i es le) are

  pub no_branches_yet : (made : List Tried) → made ≡ [] → AreBranchesByChoices x [] made
  no_branches_yet made e = subst (AreBranchesByChoices x []) (sym e) none_tried
