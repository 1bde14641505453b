-- Reducing to a list, and release tests that are solved: of skeletons that say the same, and of normal forms.
use Rattle.std.proofs.Common.{◌≡◌, List, [], ◌∷◌, map, refl, sym, ap, ◌∙◌, subst}
use Rattle.cp_lists.specs.Lists.{IsIn, here, there}
use Rattle.cp_lists.proofs.Mapped.{map_same}
use Rattle.cp_lists.proofs.Members.{not_in_none, only_item, into_map}
use Rattle.cp_model.specs.Term.{Substitution, apply_to, composed}
use Rattle.cp_model.specs.Identity.{unchanged}
use Rattle.cp_model.specs.Strand.{Protocol}
use Rattle.cp_model.specs.Skeleton.{FromProblem, Skeleton, IsSkeleton}
use Rattle.cp_model.proofs.LawTerms.{term_unchanged}
use Rattle.cp_collapse.specs.SameSkeletons.{SaysTheSame}
use Rattle.cp_collapse.proofs.SameStandings.{same_stands, same_apart}
use Rattle.cp_normal.specs.BySubstitution.{ComesBySubstitution}
use Rattle.cp_normal.specs.Exact.{HasForms}
use Rattle.cp_normal.specs.Formed.{Formed, AreFormedNormalForms}
use Rattle.cp_normal.proofs.BySubstitution.{come_by_substitutions}
use Rattle.cp_theory.specs.Forms.{Form, KeepStandings, ReducesTo}
use Rattle.cp_theory.specs.Trials.{ReleaseTest, SolvesTest}
use Rattle.cp_theory.specs.Trials as trying
use Rattle.cp_theory.proofs.Built.{as_it_is, composed_stays, comes_down_by}

-- ---- skeletons that say the same

pub alike_keeps : (protocol : Protocol) (k l : Skeleton) → SaysTheSame k l → KeepStandings protocol k (as_it_is l ∷ [])
alike_keeps protocol k l same b h is stands apart = record {
  form = as_it_is l;
  listed = here;
  stands = same_stands k l same b h stands;
  apart = same_apart k l same h apart;
  fits = λ t. refl;
  problem_strands = ap (λ (f : FromProblem). f.strands) (sym same.from_problem);
  problem_values = ap (λ (f : FromProblem). f.values) (sym same.from_problem) ∙ sym (map_same (apply_to unchanged) term_unchanged k.from_problem.values);
}

pub alike_tried : (trial : ReleaseTest) (ks : List Skeleton) (s : Substitution) (k l : Skeleton) → SaysTheSame k l → SolvesTest trial ks s l → SolvesTest trial ks s k
alike_tried trial ks s k l same tried = trying.normalised (as_it_is l ∷ []) (alike_keeps trial.protocol k l same)
    (λ form i. subst (λ (f : Form). SolvesTest trial ks (composed s f.substitution) f.skeleton) (sym (only_item i)) (subst (λ (t : Substitution). SolvesTest trial ks t l) (sym (composed_stays s)) tried))

pub alike_comes_down : (protocol : Protocol) (ks : List Skeleton) (k l : Skeleton) → SaysTheSame k l → ReducesTo protocol ks l → ReducesTo protocol ks k
alike_comes_down protocol ks k l same d = comes_down_by protocol ks l k (alike_keeps protocol k l same) d

-- ---- normal forms

pub problem_strands_of : (k r : Skeleton) → ComesBySubstitution k r → r.from_problem.strands ≡ k.from_problem.strands
problem_strands_of k r c = ap (λ (f : FromProblem). f.strands) (sym c.same.from_problem)

pub problem_values_of : (k r : Skeleton) → (c : ComesBySubstitution k r) → r.from_problem.values ≡ map (apply_to c.substitution) k.from_problem.values
problem_values_of k r c = ap (λ (f : FromProblem). f.values) (sym c.same.from_problem)

-- The skeletons with the substitutions by which they come from k.
abbrev Comes : Skeleton → List Skeleton → Type 0
Comes k rs = (r : Skeleton) → IsIn r rs → ComesBySubstitution k r

abbrev forms_by : (k : Skeleton) (rs : List Skeleton) → Comes k rs → List Form
forms_by k [] by = []
forms_by k (r ∷ rs) by = record { substitution = (by r here).substitution; skeleton = r } ∷ forms_by k rs (λ q i. by q (there i))

in_forms : (k : Skeleton) (rs : List Skeleton) (by : Comes k rs) (r : Skeleton) (i : IsIn r rs) → IsIn (record { substitution = (by r i).substitution; skeleton = r }) (forms_by k rs by)
in_forms k [] by r i = elim i [ ]
in_forms k (q ∷ rs) by r here = here
in_forms k (q ∷ rs) by r (there i) = there (in_forms k rs (λ q i. by q (there i)) r i)

of_forms : (k : Skeleton) (rs : List Skeleton) (by : Comes k rs) (f : Form) → IsIn f (forms_by k rs by) → IsIn f.skeleton rs
of_forms k [] by f i = absurd (not_in_none i)
of_forms k (r ∷ rs) by f here = here
of_forms k (r ∷ rs) by f (there i) = there (of_forms k rs (λ q i. by q (there i)) f i)

-- What has these normal forms reduces to a list that has them.
pub forms_come_down : (protocol : Protocol) (ks : List Skeleton) (k : Skeleton) (rs : List Skeleton) → IsSkeleton protocol k → HasForms k rs → ((r : Skeleton) → IsIn r rs → IsIn r ks) → ReducesTo protocol ks k
forms_come_down protocol ks k rs sk has listed =
    let all = come_by_substitutions protocol k rs sk has in
    record {
      forms = forms_by k rs all.by;
      keep = λ b h is stands apart.
          let a = all.standing b h is stands apart in
          let c = all.by a.form a.listed in
          record {
            form = record { substitution = c.substitution; skeleton = a.form };
            listed = in_forms k rs all.by a.form a.listed;
            stands = a.stands;
            apart = a.apart;
            fits = a.same_values;
            problem_strands = problem_strands_of k a.form c;
            problem_values = problem_values_of k a.form c;
          };
      listed = λ f i. listed f.skeleton (of_forms k rs all.by f i);
    }

abbrev pub as_form : Formed → Form
as_form f = record { substitution = f.substitution; skeleton = f.skeleton }

pub formed_keep : (protocol : Protocol) (k : Skeleton) (forms : List Formed) → IsSkeleton protocol k → AreFormedNormalForms k forms → KeepStandings protocol k (map as_form forms)
formed_keep protocol k forms sk are b h is stands apart =
    let a = are.loses_none protocol b h sk is stands apart in
    let o = are.formed a.form a.listed in
    record {
      form = as_form a.form;
      listed = into_map as_form a.listed;
      stands = a.stands;
      apart = a.apart;
      fits = a.same_values;
      problem_strands = problem_strands_of k a.form.skeleton o.comes;
      problem_values = problem_values_of k a.form.skeleton o.comes ∙ ap (λ (s : Substitution). map (apply_to s) k.from_problem.values) o.by;
    }
