-- Which terms are listed.
use Rattle.std.proofs.Common.{◌≡◌, ℕ, ◌+◌, ◌<◌, ◌≤◌, List, length, get_or, drop, sym, ap, ◌∙◌, Bool, true, false, ◌||◌, ◌↔◌, IsTrue}
use Rattle.std.proofs.lemmas.List.{drop_all}
use Rattle.cp_lists.proofs.Members.{drop_read}
use Rattle.cp_model.specs.Term.{Term}
use Rattle.cp_model.specs.Same.{same_term}
use Rattle.cp_term.proofs.SameTerms.{test_is}
use Rattle.cp_cohort.specs.GatheredLists.{has_term}

module _ (us : List Term) (i : ℕ) (u t : Term) (lt : i < length us) (is : u ≡ get_or us i u) where
  opened : has_term (drop i us) t ≡ (same_term u t || has_term (drop (i + 1) us) t)
  opened = ap (λ (vs : List Term). has_term vs t) (drop_read us i u lt is)

  tested : (r : Bool) → IsTrue r ↔ (u ≡ t) → same_term u t ≡ r
  tested r d = test_is u t r d

  pub has_found : (r : Bool) → IsTrue r ↔ (u ≡ t) → r ≡ true → (whole : Bool) → has_term (drop i us) t ≡ whole → true ≡ whole
  has_found r d holds whole so_far = sym (ap (λ (b : Bool). b || has_term (drop (i + 1) us) t) (tested r d ∙ holds)) ∙ sym opened ∙ so_far

  pub has_passed : (r : Bool) → IsTrue r ↔ (u ≡ t) → r ≡ false → (whole : Bool) → has_term (drop i us) t ≡ whole → has_term (drop (i + 1) us) t ≡ whole
  has_passed r d fails whole so_far = sym (ap (λ (b : Bool). b || has_term (drop (i + 1) us) t) (tested r d ∙ fails)) ∙ sym opened ∙ so_far

pub has_none : (us : List Term) (i : ℕ) (t : Term) → length us ≤ i → (whole : Bool) → has_term (drop i us) t ≡ whole → false ≡ whole
has_none us i t past whole so_far = ap (λ (vs : List Term). has_term vs t) (sym (drop_all i us past)) ∙ so_far
