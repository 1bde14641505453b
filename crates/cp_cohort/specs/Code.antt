-- How guarded tests and releases are told apart.
use Rattle.std.specs.Prelude.{◌≡◌, ℕ, ◌==◌, if◌then◌else◌, List, refl}
use Rattle.std.specs.Coded.{Coded, code_by, coded_ℕ, coded_list, coded×}
use Rattle.cp_model.specs.Term.{Term}
use Rattle.cp_model.specs.Tree.{Pattern}
use Rattle.cp_model.specs.Skeleton.{Skeleton}
use Rattle.cp_model.specs.declared.node.Node.{Node}
use Rattle.cp_model.specs.declared.step.Step.{Step}
use Rattle.cp_model.specs.declared.step.Step.TheVariants.{Left, Right, Plaintext}
use Rattle.cp_term.specs.Code.{coded_term, coded_pattern}
use Rattle.cp_skel.specs.Code.{coded_node, coded_skeleton}
use Rattle.cp_cohort.specs.Releases.{Release}
use Rattle.cp_cohort.specs.Cohort.{GuardedTest}

abbrev pub coded_guarded_test : Coded GuardedTest
coded_guarded_test =
    code_by ((Skeleton × Node) × (Term × List Pattern)) (coded× (coded× coded_skeleton coded_node) (coded× coded_term (coded_list coded_pattern)))
    (λ q. ((q.skeleton, q.node), (q.critical, q.patterns)))
    (λ p. record { skeleton = p.0.0; node = p.0.1; critical = p.1.0; patterns = p.1.1 })
    (λ q. refl)

-- Steps by numbers, different ones by different numbers.
abbrev step_number : Step → ℕ
step_number Left = 0
step_number Right = 1
step_number Plaintext = 2

abbrev step_from : ℕ → Step
step_from n = if n == 0 then Left else if n == 1 then Right else Plaintext

pub step_back : (s : Step) → step_from (step_number s) ≡ s
step_back Left = refl
step_back Right = refl
step_back Plaintext = refl

abbrev coded_step : Coded Step
coded_step = code_by ℕ coded_ℕ step_number step_from step_back

abbrev pub coded_release : Coded Release
coded_release =
    code_by ((List Pattern × Term) × ((ℕ × ℕ) × List Step)) (coded× (coded× (coded_list coded_pattern) coded_term) (coded× (coded× coded_ℕ coded_ℕ) (coded_list coded_step)))
    (λ r. ((r.patterns, r.critical), ((r.strand, r.index), r.path)))
    (λ p. record { patterns = p.0.0; critical = p.0.1; strand = p.1.0.0; index = p.1.0.1; path = p.1.1 })
    (λ r. refl)
