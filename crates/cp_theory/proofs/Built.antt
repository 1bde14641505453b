-- How skeletons reduce to lists, and how release tests are solved.
use Rattle.std.proofs.Common.{◌≡◌, List, [], ◌∷◌, map, Bool, refl, sym, ap, ◌∙◌, subst}
use Rattle.cp_lists.specs.Lists.{IsIn, here}
use Rattle.cp_lists.proofs.Mapped.{map_same}
use Rattle.cp_lists.proofs.Members.{only_item}
use Rattle.cp_model.specs.Term.{SymmetricTerm, skey_variable, ltk_term, PairTerm, akey_variable, pubk_term, Substitution, apply_to, apply_to_symmetric, apply_to_half, composed}
use Rattle.cp_model.specs.Identity.{unchanged}
use Rattle.cp_model.specs.Strand.{Protocol}
use Rattle.cp_model.specs.Skeleton.{Skeleton}
use Rattle.cp_model.specs.Standing.{StandsIn, StandsApart}
use Rattle.cp_model.proofs.LawTerms.{flag_last, term_unchanged}
use Rattle.cp_theory.specs.Normal.{SaysNoMore}
use Rattle.cp_theory.proofs.Weaker.{weaker_loses_none}
use Rattle.cp_theory.specs.Forms.{Form, KeepStandings, ReducesTo}
use Rattle.cp_theory.specs.Trials.{ReleaseTest, SolvesTest, settled, never, branched, normalised}

abbrev pub as_it_is : Skeleton → Form
as_it_is k = record { substitution = unchanged; skeleton = k }

-- A skeleton that says no more than another keeps its standings.
pub weaker_keeps : (protocol : Protocol) (l k : Skeleton) → SaysNoMore l k → KeepStandings protocol k (as_it_is l ∷ [])
weaker_keeps protocol l k says b h is stands apart =
    let r = weaker_loses_none protocol l k says b h is stands apart in
    let same : r.skeleton ≡ l = only_item r.listed in
    record {
      form = as_it_is l;
      listed = here;
      stands = subst (λ (m : Skeleton). StandsIn m b h) same r.stands;
      apart = subst (λ (m : Skeleton). StandsApart m h) same r.apart;
      fits = λ t. refl;
      problem_strands = says.problem_strands;
      problem_values = says.problem_values ∙ sym (map_same (apply_to unchanged) term_unchanged k.from_problem.values);
    }

itself_keeps : (protocol : Protocol) (k : Skeleton) → KeepStandings protocol k (as_it_is k ∷ [])
itself_keeps protocol k b h is stands apart = record {
  form = as_it_is k;
  listed = here;
  stands = stands;
  apart = apart;
  fits = λ t. refl;
  problem_strands = refl;
  problem_values = sym (map_same (apply_to unchanged) term_unchanged k.from_problem.values);
}

-- A skeleton of the list reduces to it.
pub listed_comes_down : (protocol : Protocol) (ks : List Skeleton) (k : Skeleton) → IsIn k ks → ReducesTo protocol ks k
listed_comes_down protocol ks k i = record {
  forms = as_it_is k ∷ [];
  keep = itself_keeps protocol k;
  listed = λ form j. subst (λ (f : Form). IsIn f.skeleton ks) (sym (only_item j)) i;
}

pub more_comes_down : (protocol : Protocol) (ks ls : List Skeleton) (k : Skeleton) → ((l : Skeleton) → IsIn l ks → IsIn l ls) → ReducesTo protocol ks k → ReducesTo protocol ls k
more_comes_down protocol ks ls k more d = record { forms = d.forms; keep = d.keep; listed = λ form i. more form.skeleton (d.listed form i) }

-- Where l keeps the standings of k, k reduces to what l reduces to.
pub comes_down_by : (protocol : Protocol) (ks : List Skeleton) (l k : Skeleton) → KeepStandings protocol k (as_it_is l ∷ []) → ReducesTo protocol ks l → ReducesTo protocol ks k
comes_down_by protocol ks l k keep d = record {
  forms = d.forms;
  keep = λ b h is stands apart.
      let w = keep b h is stands apart in
      let same : w.form ≡ as_it_is l = only_item w.listed in
      let r = d.keep b h is (subst (λ (f : Form). StandsIn f.skeleton b h) same w.stands) (subst (λ (f : Form). StandsApart f.skeleton h) same w.apart) in
      record {
        form = r.form;
        listed = r.listed;
        stands = r.stands;
        apart = r.apart;
        fits = r.fits;
        problem_strands = r.problem_strands ∙ subst (λ (f : Form). f.skeleton.from_problem.strands ≡ k.from_problem.strands) same w.problem_strands;
        problem_values = r.problem_values
            ∙ ap (map (apply_to r.form.substitution))
            (subst (λ (f : Form). f.skeleton.from_problem.values ≡ map (apply_to f.substitution) k.from_problem.values) same w.problem_values ∙ map_same (apply_to unchanged) term_unchanged k.from_problem.values);
      };
  listed = d.listed;
}

pub weaker_comes_down : (protocol : Protocol) (ks : List Skeleton) (l k : Skeleton) → SaysNoMore l k → ReducesTo protocol ks l → ReducesTo protocol ks k
weaker_comes_down protocol ks l k says d = comes_down_by protocol ks l k (weaker_keeps protocol l k says) d

pub more_tried : (trial : ReleaseTest) (ks ls : List Skeleton) {s : Substitution} {k : Skeleton} → ((l : Skeleton) → IsIn l ks → IsIn l ls) → SolvesTest trial ks s k → SolvesTest trial ls s k
more_tried trial ks ls {k = k} more (settled d) = settled (more_comes_down trial.protocol ks ls k more d)
more_tried trial ks ls more (never inside) = never inside
more_tried trial ks ls more (branched o by fits again) = branched o by fits (λ g inside. more_tried trial ks ls more (again g inside))
more_tried trial ks ls more (normalised forms keep again) = normalised forms keep (λ form i. more_tried trial ks ls more (again form i))

-- Nothing is changed after a substitution.
symmetric_stays : (k : SymmetricTerm) → apply_to_symmetric unchanged k ≡ k
symmetric_stays (skey_variable n) = refl
symmetric_stays (ltk_term a b) = refl

half_stays : (flag : Bool) (k : PairTerm) → apply_to_half unchanged flag k ≡ (flag, k)
half_stays flag (akey_variable n) = ap (λ (e : Bool). (e, akey_variable n)) (flag_last flag)
half_stays flag (pubk_term p a) = refl

pub composed_stays : (s : Substitution) → composed s unchanged ≡ s
composed_stays s = λ i. record {
  texts = s.texts;
  datums = s.datums;
  names = s.names;
  skeys = λ n. symmetric_stays (s.skeys n) i;
  akeys = λ n. half_stays (s.akeys n).0 (s.akeys n).1 i;
}

pub weaker_tried : (trial : ReleaseTest) (ks : List Skeleton) (s : Substitution) (l k : Skeleton) → SaysNoMore l k → SolvesTest trial ks s l → SolvesTest trial ks s k
weaker_tried trial ks s l k says tried = normalised (as_it_is l ∷ []) (weaker_keeps trial.protocol l k says)
    (λ form i. subst (λ (f : Form). SolvesTest trial ks (composed s f.substitution) f.skeleton) (sym (only_item i)) (subst (λ (t : Substitution). SolvesTest trial ks t l) (sym (composed_stays s)) tried))
