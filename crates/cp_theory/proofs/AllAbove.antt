-- No encryption is above the whole, so that a loop that goes down a position has gathered all at its end.
use Rattle.std.proofs.Common.{◌≡◌, ◌≤◌, ℕ, List, [], ◌++◌, length, drop, refl, sym, ap, ◌∙◌}
use Rattle.std.proofs.lemmas.List.{drop_all, append-nil}
use Rattle.cp_model.specs.Term.{Term, tag_term, atom_term, pair_term, enc_term}
use Rattle.cp_model.specs.declared.step.Step.{Step}
use Rattle.cp_theory.specs.Above.{encryptions_above}

-- Nothing encloses the position of the whole.
pub nothing_above : (t : Term) → encryptions_above t [] ≡ []
nothing_above (tag_term bytes) = refl
nothing_above (atom_term a) = refl
nothing_above (pair_term a b) = refl
nothing_above (enc_term a k) = refl

-- Where no step is left all are gathered.
pub all_above : (t : Term) (steps : List Step) (i : ℕ) (above whole : List Term) → length steps ≤ i → above ++ encryptions_above t (drop i steps) ≡ whole → above ≡ whole
all_above t steps i above whole le so_far =
    sym (append-nil above) ∙ ap (λ (es : List Term). above ++ es) (sym (ap (encryptions_above t) (drop_all i steps le) ∙ nothing_above t)) ∙ so_far
