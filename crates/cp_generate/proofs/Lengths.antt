-- How long the text is.
use Rattle.std.proofs.Common.{◌≤◌, ℕ, zero, suc, ◌+◌, ◌*◌, ◌%◌, ◌==◌, List, ◌++◌, length, Bool, true, false, if◌then◌else◌, arith, length-append, lit≤}
use Rattle.std.specs.List.{concat}
use Rattle.cp_generate.specs.Generated.{protocol_text, initiator_problem_text, responder_problem_text, problem_text, problem_texts_from, generated_text}

problem_length : (b : Bool) → length (if b then initiator_problem_text else responder_problem_text) ≤ 200
problem_length true = lit≤ tt
problem_length false = lit≤ tt

protocol_length : length protocol_text ≤ 400
protocol_length = lit≤ tt

one_longer : (one others : List ℕ) (n : ℕ) → length one ≤ 200 → length others ≤ 200 * n → length (one ++ others) ≤ 200 * suc n
one_longer one others n h k = omega (arith, length-append one others, h, k)

problems_length : (n i : ℕ) → length (concat (problem_texts_from i n)) ≤ 200 * n
problems_length zero i = omega arith
problems_length (suc n) i = one_longer (problem_text i) (concat (problem_texts_from (i + 1) n)) n (problem_length (i % 2 == 0)) (problems_length n (i + 1))

short_by : (protocol problems : List ℕ) (n : ℕ) → n ≤ 500 → length protocol ≤ 400 → length problems ≤ 200 * n → length (protocol ++ problems) ≤ 1048576
short_by protocol problems n few h k = omega (arith, length-append protocol problems, few, h, k)

pub text_short : (n : ℕ) → n ≤ 500 → length (generated_text n) ≤ 1048576
text_short n few = short_by protocol_text (concat (problem_texts_from 0 n)) n few protocol_length (problems_length n 0)
