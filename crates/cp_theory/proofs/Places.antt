-- Positions of terms under substitutions, variables of what stands there, and events of traces.
use Rattle.std.proofs.Common.{◌≡◌, ℕ, suc, ◌<◌, List, [], ◌∷◌, Option, Some, refl, sym, ap, ◌∙◌, subst, arith}
use Rattle.cp_lists.specs.Lists.{item_at, IsIn, one_step, more_steps}
use Rattle.cp_lists.proofs.Members.{in_append_left, in_append_right}
use Rattle.cp_lists.proofs.Items.{item_of_map, item_of_take, item_before}
use Rattle.cp_model.specs.Message.{Message}
use Rattle.cp_model.specs.Term.{Term, tag_term, atom_term, pair_term, enc_term, variables_of, variables_of_key, Assignment, value_of, Substitution, apply_to}
use Rattle.cp_model.specs.declared.variable.Variable.{Variable}
use Rattle.cp_model.specs.Strand.{event_map, Role, prefix_of, Strand, regular, trace_of, Protocol}
use Rattle.cp_model.specs.declared.strand.Event.{Event}
use Rattle.cp_model.specs.declared.strand.Event.TheVariants.{Send as send, Receive as recv}
use Rattle.cp_model.specs.Bundle.{node_at, trace_or_none, event_at}
use Rattle.cp_model.specs.declared.node.Node.{Node}
use Rattle.cp_model.specs.Skeleton.{IsNodeOf, skeleton_trace_or_none, Skeleton, OrderStep, along_strand_of, along_pair, Before, IsSkeleton}
use Rattle.cp_model.specs.declared.step.Step.{Step}
use Rattle.cp_model.specs.declared.step.Step.TheVariants.{Left, Right, Plaintext}
use Rattle.cp_model.specs.Positions.{term_at}

-- A leaf has no parts.
no_part_of_tag : (bytes : List ℕ) (st : Step) (path : List Step) (u : Term) → term_at (tag_term bytes) (st ∷ path) ≡ Some u → ⊥
no_part_of_tag bytes Left path u at = cc
no_part_of_tag bytes Right path u at = cc
no_part_of_tag bytes Plaintext path u at = cc

-- Under a substitution there stands what stood there, under it.
pub term_at_under : (s : Substitution) (t : Term) (path : List Step) (u : Term) → term_at t path ≡ Some u → term_at (apply_to s t) path ≡ Some (apply_to s u)
term_at_under s t [] u at = let same : t ≡ u = cc in ap (λ (z : Term). Some (apply_to s z)) same
term_at_under s (tag_term bytes) (st ∷ path) u at = absurd (no_part_of_tag bytes st path u at)
term_at_under s (atom_term a) (Left ∷ path) u at = absurd (cc)
term_at_under s (atom_term a) (Right ∷ path) u at = absurd (cc)
term_at_under s (atom_term a) (Plaintext ∷ path) u at = absurd (cc)
term_at_under s (pair_term a b) (Left ∷ path) u at = term_at_under s a path u at
term_at_under s (pair_term a b) (Right ∷ path) u at = term_at_under s b path u at
term_at_under s (pair_term a b) (Plaintext ∷ path) u at = absurd (cc)
term_at_under s (enc_term a k) (Left ∷ path) u at = absurd (cc)
term_at_under s (enc_term a k) (Right ∷ path) u at = absurd (cc)
term_at_under s (enc_term a k) (Plaintext ∷ path) u at = term_at_under s a path u at

-- The variables of what stands at a position are the whole's.
pub position_variables : (t : Term) (path : List Step) (u : Term) → term_at t path ≡ Some u → (x : Variable) → IsIn x (variables_of u) → IsIn x (variables_of t)
position_variables t [] u at x i = let same : u ≡ t = cc in subst (λ (z : Term). IsIn x (variables_of z)) same i
position_variables (tag_term bytes) (st ∷ path) u at x i = absurd (no_part_of_tag bytes st path u at)
position_variables (atom_term a) (Left ∷ path) u at x i = absurd (cc)
position_variables (atom_term a) (Right ∷ path) u at x i = absurd (cc)
position_variables (atom_term a) (Plaintext ∷ path) u at x i = absurd (cc)
position_variables (pair_term a b) (Left ∷ path) u at x i = in_append_left (variables_of b) (position_variables a path u at x i)
position_variables (pair_term a b) (Right ∷ path) u at x i = in_append_right (variables_of a) (position_variables b path u at x i)
position_variables (pair_term a b) (Plaintext ∷ path) u at x i = absurd (cc)
position_variables (enc_term a k) (Left ∷ path) u at x i = absurd (cc)
position_variables (enc_term a k) (Right ∷ path) u at x i = absurd (cc)
position_variables (enc_term a k) (Plaintext ∷ path) u at x i = in_append_left (variables_of_key k) (position_variables a path u at x i)

-- A transmission whose value is that of an event.
pub sent_of : {A B : Type 0} (f : A → B) (e : Event A) (m : B) → event_map f e ≡ send m → (t : A) × (e ≡ send t) × (f t ≡ m)
sent_of f (send t) m p = (t, refl, cc)
sent_of f (recv t) m p = absurd (cc)

-- The role's event, of which a transmission of a regular strand is the value.
pub record RoleSends (role : Role) (height : ℕ) (values : Assignment) (i : ℕ) (m : Message) : Type 0 where
  pub below : i < height
  pub term : Term
  pub at : item_at role.trace i ≡ Some (send term)
  pub value : value_of values term ≡ m

pub role_sends : (strands : List Strand) (strand : ℕ) (role : Role) (height : ℕ) (values : Assignment) (i : ℕ) (m : Message) → item_at strands strand ≡ Some (regular role height values) →
    event_at strands (node_at strand i) ≡ Some (send m) → RoleSends role height values i m
role_sends strands strand role height values i m on ev =
    let there : item_at (trace_of (regular role height values)) i ≡ Some (send m) = ap (λ (o : Option Strand). item_at (trace_or_none o) i) (sym on) ∙ ev in
    let r = item_of_map (event_map (value_of values)) (prefix_of role height) i (send m) there in
    let p = item_of_take height role.trace i r.0 r.1 in
    let s = sent_of (value_of values) r.0 m r.2 in
    record { below = p.0; term = s.0; at = p.1 ∙ ap Some s.1; value = s.2 }

-- What is before another is a node.
node_of_step : (protocol : Protocol) (k : Skeleton) → IsSkeleton protocol k → {x y : Node} → OrderStep k x y → IsNodeOf k.strands x
node_of_step protocol k sk (along_strand_of {s = s} {i = i} {e = e} ev) = let r = item_before (skeleton_trace_or_none (item_at k.strands s)) i (suc i) e ev (omega arith) in (r.0, r.1)
node_of_step protocol k sk (along_pair {p = p} i) = let o = sk.order_pairs p i in (send o.sent, o.transmission)

pub node_before : (protocol : Protocol) (k : Skeleton) → IsSkeleton protocol k → {x y : Node} → Before k x y → IsNodeOf k.strands x
node_before protocol k sk (one_step s) = node_of_step protocol k sk s
node_before protocol k sk (more_steps s p) = node_of_step protocol k sk s
