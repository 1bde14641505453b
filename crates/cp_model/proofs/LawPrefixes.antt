-- What occurs in traces and their prefixes, and ways up a strand.
use Rattle.std.proofs.Common.{◌≡◌, ℕ, zero, suc, Some, ◌<◌, ◌≤◌, List, [], ◌∷◌, take, subst, ◌⊎◌, inl, inr, arith, eq-or-lt_of_le, le_of_suc-le-suc}
use Rattle.cp_lists.specs.Lists.{item_at, IsIn, Steps, one_step}
use Rattle.cp_lists.proofs.Members.{in_append, in_append_left, in_append_right, in_longer}
use Rattle.cp_lists.proofs.Reached.{steps_append}
use Rattle.cp_model.specs.Term.{Variable, Term, variables_of}
use Rattle.cp_model.specs.Bundle.{node_at}
use Rattle.cp_model.specs.declared.node.Node.{Node}
use Rattle.cp_model.specs.Strand.{Event, payload, Role, variables_of_trace, variables_of_prefix}

-- What occurs in a prefix occurs in a longer one.
variables_of_longer : (m n : ℕ) (es : List (Event Term)) → m ≤ n → (x : Variable) → IsIn x (variables_of_trace (take m es)) → IsIn x (variables_of_trace (take n es))
variables_of_longer zero n es le x p = elim p [ ]
variables_of_longer (suc m) n [] le x p = elim p [ ]
variables_of_longer (suc m) zero (e ∷ es) le x p = absurd (omega arith)
variables_of_longer (suc m) (suc n) (e ∷ es) le x p = in_longer (in_append (variables_of (payload e)) (variables_of_trace (take m es)) p) (variables_of_longer m n es (omega arith) x)

-- What occurs in a prefix occurs in the trace.
pub in_front_of_trace : (height : ℕ) (es : List (Event Term)) (x : Variable) → IsIn x (variables_of_trace (take height es)) → IsIn x (variables_of_trace es)
in_front_of_trace zero es x p = elim p [ ]
in_front_of_trace (suc height) [] x p = elim p [ ]
in_front_of_trace (suc height) (e ∷ es) x p = in_longer (in_append (variables_of (payload e)) (variables_of_trace (take height es)) p) (in_front_of_trace height es x)

pub variables_of_higher : (role : Role) (m n : ℕ) → m ≤ n → (x : Variable) → IsIn x (variables_of_prefix role m) → IsIn x (variables_of_prefix role n)
variables_of_higher role m n le x p = variables_of_longer m n role.trace le x p

-- What occurs in an event of a trace occurs in the trace.
pub in_trace : (es : List (Event Term)) (i : ℕ) (e : Event Term) (x : Variable) → item_at es i ≡ Some e → IsIn x (variables_of (payload e)) → IsIn x (variables_of_trace es)
in_trace [] i e x at p = absurd (cc)
in_trace (f ∷ es) zero e x at p = let same : e ≡ f = cc in in_append_left (variables_of_trace es) (subst (λ (d : Event Term). IsIn x (variables_of (payload d))) same p)
in_trace (f ∷ es) (suc i) e x at p = in_append_right (variables_of (payload f)) (in_trace es i e x at p)

-- Up a strand.
climb_one : {step : Node → Node → Type 0} (s i j : ℕ) → (i ≡ j) ⊎ (i < j) → (i < j → Steps step (node_at s i) (node_at s j)) → step (node_at s j) (node_at s (suc j)) → Steps step (node_at s i) (node_at s (suc j))
climb_one s i j (inl e) below last = rw e (one_step last)
climb_one s i j (inr l) below last = steps_append (below l) (one_step last)

pub climb : {step : Node → Node → Type 0} (s i j : ℕ) → i < j → ((k : ℕ) → k < j → step (node_at s k) (node_at s (suc k))) → Steps step (node_at s i) (node_at s j)
climb s i zero l up = absurd (omega arith)
climb s i (suc j) l up = climb_one s i j (eq-or-lt_of_le (le_of_suc-le-suc l)) (λ m. climb s i j m (λ k n. up k (omega arith))) (up j (omega arith))
