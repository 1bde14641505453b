-- Skeletons with a strand more, and with a longer strand, as they are made.
use Rattle.std.proofs.Common.{◌≡◌, ◌≢◌, ℕ, zero, suc, ◌<◌, ◌≤◌, List, [], ◌∷◌, ◌++◌, length, set, refl, sym, ap, ◌∙◌, subst, arith}
use Rattle.std.specs.Prelude.{Some}
use Rattle.cp_lists.specs.Lists.{item_at}
use Rattle.cp_model.specs.Term.{Term, AgreeOnTerms}
use Rattle.cp_model.specs.Bindings.{as_substitution, bindings_of}
use Rattle.cp_model.specs.Strand.{Role, variables_of_prefix}
use Rattle.cp_model.specs.Skeleton.{SkeletonStrand, instance, Assumptions, Skeleton}
use Rattle.cp_model.specs.GivenAssumptions.{AddsGiven}
use Rattle.cp_skel.specs.JoinedAssumptions.{joined_assumptions}
use Rattle.cp_model.specs.PrefixVariables.{prefix_variables, is_added, added_variables, AreTermsFor, terms_of}
use Rattle.cp_strand.specs.Valued.{valued}
use Rattle.cp_model.specs.Extensions.{AddsStrand, CanExtend, Extends, IsClosedPrefix}
use Rattle.cp_skel.proofs.ValuedTerms.{value-terms, all-added, keeps-terms}

abbrev pub made : Role → ℕ → ℕ → List Term → List Term → List Term
made role before height old values = valued (is_added (variables_of_prefix role before) (variables_of_prefix role height)) old 0 role.variables values

module _ (old : Skeleton) (role r : Role) (height h : ℕ) (values ts : List Term) (more reserved joint : Assumptions) (same_role : r ≡ role) (same_height : h ≡ height)
    (kept : reserved ≡ old.assumptions) (all : joint ≡ joined_assumptions reserved more) where
  given : (s : ℕ) → AddsGiven r h (bindings_of ts) s old.assumptions (joined_assumptions old.assumptions more) → AddsGiven role height (bindings_of ts) s old.assumptions joint
  given s g =
      let whole : joined_assumptions old.assumptions more ≡ joint = sym (all ∙ ap (λ a. joined_assumptions a more) kept) in
      subst (AddsGiven role height (bindings_of ts) s old.assumptions) whole
      (subst (λ k. AddsGiven role k (bindings_of ts) s old.assumptions (joined_assumptions old.assumptions more)) same_height
      (subst (λ q. AddsGiven q h (bindings_of ts) s old.assumptions (joined_assumptions old.assumptions more)) same_role g))

  pub strand-added : (strands : List SkeletonStrand) (before : List Term) (n : ℕ) → ts ≡ made role 0 height before values → AreTermsFor (prefix_variables role height) values →
      strands ≡ old.strands ++ instance r h (bindings_of ts) ∷ [] → n ≡ length old.strands →
      AddsGiven r h (bindings_of ts) n old.assumptions (joined_assumptions old.assumptions more) →
      AddsStrand role height values old (record { variables = old.variables; strands = strands; pairs = old.pairs; assumptions = joint; from_problem = old.from_problem })
  strand-added strands before n is fit behind number g = record {
    terms = bindings_of ts;
    gives = ap (λ us. terms_of (as_substitution (bindings_of us)) (prefix_variables role height)) is
        ∙ ap (terms_of (as_substitution (bindings_of (made role 0 height before values)))) (sym (all-added role height))
        ∙ value-terms (is_added (variables_of_prefix role 0) (variables_of_prefix role height)) before role.variables values (subst (λ xs. AreTermsFor xs values) (sym (all-added role height)) fit);
    strands = behind ∙ ap (λ q. old.strands ++ instance q h (bindings_of ts) ∷ []) same_role ∙ ap (λ k. old.strands ++ instance role k (bindings_of ts) ∷ []) same_height;
    pairs = refl;
    assumptions = subst (λ m. AddsGiven role height (bindings_of ts) m old.assumptions joint) number (given n g);
    from_problem = refl;
  }

  pub strand-extended : (strands : List SkeletonStrand) (s before : ℕ) (terms : List Term) (can : CanExtend old s height values) → IsClosedPrefix can.role height →
      item_at old.strands s ≡ Some (instance role before (bindings_of terms)) → ts ≡ made role before height terms values →
      item_at strands s ≡ Some (instance r h (bindings_of ts)) → ((t : ℕ) → t ≢ s → item_at strands t ≡ item_at old.strands t) →
      AddsGiven r h (bindings_of ts) s old.assumptions (joined_assumptions old.assumptions more) →
      Extends s height values old (record { variables = old.variables; strands = strands; pairs = old.pairs; assumptions = joint; from_problem = old.from_problem })
  strand-extended strands s before terms can declared was is on others g =
      let both : Some (instance can.role can.before can.terms) ≡ Some (instance role before (bindings_of terms)) = sym can.on_instance ∙ was in
      let role_is : can.role ≡ role = cc in
      let before_is : can.before ≡ before = cc in
      let closed : IsClosedPrefix role height = subst (λ q. IsClosedPrefix q height) role_is declared in
      let fit : AreTermsFor (added_variables role before height) values =
      subst (λ k. AreTermsFor (added_variables role k height) values) before_is (subst (λ q. AreTermsFor (added_variables q can.before height) values) role_is can.fitting) in
      let higher : before ≤ height = subst (λ k. k ≤ height) before_is can.higher in
      record {
        role = role;
        before = before;
        old_terms = bindings_of terms;
        was_instance = was;
        terms = bindings_of ts;
        on_instance = on ∙ ap (λ q. Some (instance q h (bindings_of ts))) same_role ∙ ap (λ k. Some (instance role k (bindings_of ts))) same_height;
        keeps = subst (λ us. AgreeOnTerms (variables_of_prefix role before) (as_substitution (bindings_of terms)) (as_substitution (bindings_of us))) (sym is) (keeps-terms role before height terms values higher closed);
        gives = ap (λ us. terms_of (as_substitution (bindings_of us)) (added_variables role before height)) is
            ∙ value-terms (is_added (variables_of_prefix role before) (variables_of_prefix role height)) terms role.variables values fit;
        others = others;
        pairs = refl;
        assumptions = given s g;
        from_problem = refl;
      }

-- ---- a list in which one item is another

pub set-there : {A : Type 0} (xs : List A) (i : ℕ) (y : A) → i < length xs → item_at (set xs i y) i ≡ Some y
set-there [] i y lt = absurd (omega arith)
set-there (x ∷ xs) zero y lt = refl
set-there (x ∷ xs) (suc i) y lt = set-there xs i y (omega arith)

pub set-elsewhere : {A : Type 0} (xs : List A) (i : ℕ) (y : A) (j : ℕ) → j ≢ i → item_at (set xs i y) j ≡ item_at xs j
set-elsewhere [] i y j other = refl
set-elsewhere (x ∷ xs) zero y zero other = absurd (other refl)
set-elsewhere (x ∷ xs) zero y (suc j) other = refl
set-elsewhere (x ∷ xs) (suc i) y zero other = refl
set-elsewhere (x ∷ xs) (suc i) y (suc j) other = set-elsewhere xs i y j (λ e. other (ap suc e))
