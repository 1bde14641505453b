-- The normal forms of a skeleton, each with the unifiers of its steps behind a substitution.
use Rattle.std.proofs.Common.{◌≡◌, ℕ, false, List, [], ◌∷◌, map, refl, sym, ap, ap₂, ◌∙◌, subst}
use Rattle.cp_lists.specs.Lists.{IsIn, here, there}
use Rattle.cp_lists.proofs.Members.{from_map}
use Rattle.cp_model.specs.Term.{akey_variable, skey_variable, symmetric_term, asymmetric_term, text_variable, datum_variable, name_variable, key_term, Term, atom_term, value_of, after, Substitution, apply_to, composed}
use Rattle.cp_model.specs.Strand.{Protocol}
use Rattle.cp_model.specs.Bundle.{Bundle, IsBundle}
use Rattle.cp_model.specs.Skeleton.{Skeleton, IsSkeleton}
use Rattle.cp_model.specs.Standing.{Standing, StandsIn, StandsApart}
use Rattle.cp_model.specs.Senders.{ArePaired}
use Rattle.cp_model.proofs.LawTerms.{term_composed}
use Rattle.cp_unify.specs.Bindings.{Binding, as_substitution}
use Rattle.cp_theory.specs.Normal.{with_pairs, StandsAmong}
use Rattle.cp_normal.specs.NormalForms.{IsNormalFormOf}
use Rattle.cp_normal.specs.Exact.{HasForms}
use Rattle.cp_normal.specs.Formed.{Formed, StandsAmongFormed, AreFormedNormalForms, IsFormBeside, AreFormsBeside}
use Rattle.cp_normal.specs.Candidates.{unifiers_of, ComesOn, IsNormalFormOfSettled}
use Rattle.cp_normal.specs.declared.form.Form.{Form}
use Rattle.cp_normal.proofs.BySubstitution.{form_comes, form_solved, form_unifiers}
use Rattle.cp_normal.proofs.Forms.{normal_form, normal_form_unifiers}
use Rattle.cp_normal.proofs.FormsOf.{lose_no_standing}

-- ---- substitutions that do the same to each term are the same

module _ (s t : Substitution) (same : (u : Term) → apply_to s u ≡ apply_to t u) where
  texts_same : (n : ℕ) → s.texts n ≡ t.texts n
  texts_same n = let e : atom_term (text_variable (s.texts n)) ≡ atom_term (text_variable (t.texts n)) = same (atom_term (text_variable n)) in cc

  datums_same : (n : ℕ) → s.datums n ≡ t.datums n
  datums_same n = let e : atom_term (datum_variable (s.datums n)) ≡ atom_term (datum_variable (t.datums n)) = same (atom_term (datum_variable n)) in cc

  names_same : (n : ℕ) → s.names n ≡ t.names n
  names_same n = let e : atom_term (name_variable (s.names n)) ≡ atom_term (name_variable (t.names n)) = same (atom_term (name_variable n)) in cc

  skeys_same : (n : ℕ) → s.skeys n ≡ t.skeys n
  skeys_same n =
      let e : atom_term (key_term (symmetric_term (s.skeys n))) ≡ atom_term (key_term (symmetric_term (t.skeys n))) = same (atom_term (key_term (symmetric_term (skey_variable n)))) in cc

  akeys_same : (n : ℕ) → s.akeys n ≡ t.akeys n
  akeys_same n =
      let e : atom_term (key_term (asymmetric_term (s.akeys n).0 (s.akeys n).1)) ≡ atom_term (key_term (asymmetric_term (t.akeys n).0 (t.akeys n).1)) = same (atom_term (key_term (asymmetric_term false (akey_variable n)))) in
      let e0 : (s.akeys n).0 ≡ (t.akeys n).0 = cc in
      let e1 : (s.akeys n).1 ≡ (t.akeys n).1 = cc in
      λ i. (e0 i, e1 i)

  pub same_substitution : s ≡ t
  same_substitution = λ i. record {
    texts = λ n. texts_same n i;
    datums = λ n. datums_same n i;
    names = λ n. names_same n i;
    skeys = λ n. skeys_same n i;
    akeys = λ n. akeys_same n i;
  }

-- ---- normal forms, each with its steps

-- It is a normal form of k, and the substitution beside it is the one by which it comes.
pub record IsMadeBy (k : Skeleton) (f : Formed) : Type 0 where
  pub normal : IsNormalFormOf k f.skeleton
  pub by : (form_comes k f.skeleton normal).substitution ≡ f.substitution

module _ (k : Skeleton) (forms : List Formed) (made : (f : Formed) → IsIn f forms → IsMadeBy k f) (exact : HasForms k (map (λ (f : Formed). f.skeleton) forms)) where
  module _ (b : Bundle) (h : Standing) (stands : StandsIn k b h) where
    among_formed : (among : StandsAmong (map (λ (f : Formed). f.skeleton) forms) k b h) → (f : Formed) × IsIn f forms × (f.skeleton ≡ among.skeleton) → StandsAmongFormed forms b h
    among_formed among r =
        let f : Formed = r.0 in
        let m : IsMadeBy k f = made f r.1 in
        let there : StandsIn f.skeleton b h = subst (λ (l : Skeleton). StandsIn l b h) (sym r.2) among.stands in
        record {
          form = f;
          listed = r.1;
          stands = there;
          apart = subst (λ (l : Skeleton). StandsApart l h) (sym r.2) among.apart;
          same_values = λ t. subst (λ (s : Substitution). value_of (after h.values s) t ≡ value_of h.values t) m.by (form_solved k f.skeleton m.normal b h stands there t);
        }

  formed_lose_none : (protocol : Protocol) (b : Bundle) (h : Standing) → IsSkeleton protocol k → IsBundle protocol b → StandsIn k b h → StandsApart k h → StandsAmongFormed forms b h
  formed_lose_none protocol b h sk is stands apart =
      let among = lose_no_standing protocol k (map (λ (f : Formed). f.skeleton) forms) sk exact b h is stands apart in
      among_formed b h stands among (from_map (λ (f : Formed). f.skeleton) forms among.listed)

  pub formed_are_normal : AreFormedNormalForms k forms
  formed_are_normal = record {
    exact = exact;
    formed = λ f i. let m : IsMadeBy k f = made f i in record { comes = form_comes k f.skeleton m.normal; by = m.by };
    loses_none = formed_lose_none;
  }

-- ---- the program's forms

-- r is the normal form of a settled skeleton that comes from f by steps.
pub record IsMadeFrom (f r : Form) : Type 0 where
  pub last : Form
  pub comes_on : ComesOn f last
  pub form : IsNormalFormOfSettled last r
  pub variables : r.skeleton.variables ≡ f.skeleton.variables

module _ (f : Form) where
  module _ (r : Form) (m : IsMadeFrom f r) where
    made_form : Formed
    made_form = record { substitution = unifiers_of m.comes_on.steps; skeleton = with_pairs m.last.skeleton m.form.pairs }

    made_terms : (t : Term) → apply_to (as_substitution r.substitution) t ≡ apply_to (unifiers_of m.comes_on.steps) (apply_to (as_substitution f.substitution) t)
    made_terms t = ap (λ (bs : List Binding). apply_to (as_substitution bs) t) m.form.substitution ∙ m.comes_on.followed t

    made_beside : IsFormBeside f.skeleton f.substitution r made_form
    unfolding made_form
    made_beside = record {
      skeleton = m.form.same;
      variables = m.variables;
      terms = made_terms;
      substitution = same_substitution (as_substitution r.substitution) (composed (as_substitution f.substitution) (unifiers_of m.comes_on.steps))
          (λ t. made_terms t ∙ sym (term_composed (as_substitution f.substitution) (unifiers_of m.comes_on.steps) t));
    }

    is_normal : IsNormalFormOf f.skeleton (with_pairs m.last.skeleton m.form.pairs)
    is_normal = normal_form f.skeleton m.last.skeleton m.form.pairs m.comes_on.steps (m.form.normal, m.form.consistent) m.form.settled

    made_by : IsMadeBy f.skeleton made_form
    unfolding made_form is_normal
    made_by = record {
      normal = is_normal;
      by = form_unifiers f.skeleton (with_pairs m.last.skeleton m.form.pairs) is_normal
          ∙ normal_form_unifiers f.skeleton m.last.skeleton m.form.pairs m.comes_on.steps (m.form.normal, m.form.consistent) m.form.settled;
    }

  -- The forms, place by place.
  record AreListed (answers : List Form) : Type 0 where
    pub forms : List Formed
    pub each : ArePaired (IsFormBeside f.skeleton f.substitution) answers forms
    pub made : (g : Formed) → IsIn g forms → IsMadeBy f.skeleton g
    pub skeletons : map (λ (g : Formed). g.skeleton) forms ≡ map (λ (f : Form). f.skeleton) answers

  one_more : (r : Form) (rs : List Form) → IsMadeFrom f r → AreListed rs → AreListed (r ∷ rs)
  one_more r rs m so_far = record {
    forms = made_form r m ∷ so_far.forms;
    each = (made_beside r m, so_far.each);
    made = made_of;
    skeletons = ap₂ ◌∷◌ (sym (made_beside r m).skeleton) so_far.skeletons;
  }
    where
      made_of : (g : Formed) → IsIn g (made_form r m ∷ so_far.forms) → IsMadeBy f.skeleton g
      made_of g here = made_by r m
      made_of g (there i) = so_far.made g i

  all_listed : (rs : List Form) → ((r : Form) → IsIn r rs → IsMadeFrom f r) → AreListed rs
  all_listed [] each = record { forms = []; each = tt; made = λ g i. elim i [ ]; skeletons = refl }
  all_listed (r ∷ rs) each = one_more r rs (each r here) (all_listed rs (λ s i. each s (there i)))

  pub are_forms_beside : (answers : List Form) → HasForms f.skeleton (map (λ (f : Form). f.skeleton) answers) → ((r : Form) → IsIn r answers → IsMadeFrom f r) → AreFormsBeside f.skeleton f.substitution answers
  are_forms_beside answers exact each =
      let a : AreListed answers = all_listed answers each in
      record {
        forms = a.forms;
        normal = formed_are_normal f.skeleton a.forms a.made (subst (HasForms f.skeleton) (sym a.skeletons) exact);
        each = a.each;
      }
