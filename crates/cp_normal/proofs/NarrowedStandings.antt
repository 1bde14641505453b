-- A standing in which what is narrowed and what it is narrowed to stand solves the substitution between them.
use Rattle.std.proofs.Common.{◌≡◌, List, Some, sym, ap, ◌∙◌}
use Rattle.cp_lists.specs.Lists.{item_at}
use Rattle.cp_model.specs.Message.{Key, Atom, Message, atom, pair, enc}
use Rattle.cp_model.specs.Term.{AtomTerm, Term, atom_term, IsCarriedByTerm, itself_term, in_left_term, in_right_term, in_plaintext_term, Assignment, value_of_atom, value_of, after, Substitution, apply_to, apply_to_atom, composed}
use Rattle.cp_model.specs.Identity.{unchanged}
use Rattle.cp_model.specs.Strand.{payload, event_map}
use Rattle.cp_model.specs.declared.strand.Event.{Event}
use Rattle.cp_model.specs.declared.strand.Event.TheVariants.{Send as send, Receive as recv}
use Rattle.cp_model.specs.Bundle.{node_at, event_at, Bundle}
use Rattle.cp_model.specs.declared.node.Node.{Node}
use Rattle.cp_model.specs.Skeleton.{Skeleton, skeleton_trace_or_none, term_event_at}
use Rattle.cp_model.specs.Standing.{Standing, image_of, StandsIn}
use Rattle.cp_lists.proofs.Items.{item_of_map, map_of_item}
use Rattle.cp_model.proofs.LawTerms.{atom_composed, value_after, term_composed, term_unchanged}
use Rattle.cp_theory.specs.Normal.{skeleton_under}
use Rattle.cp_theory.proofs.Under.{trace_under, same_image as image_below}
use Rattle.cp_model.proofs.LawEvents.{payload_map}
use Rattle.cp_theory.proofs.Images.{IsImageOf, image_event_at}
use Rattle.cp_collapse.specs.SameSkeletons.{SaysTheSame}
use Rattle.cp_normal.specs.NormalForms.{IsNarrowed, NarrowsTo, none, one}
use Rattle.cp_collapse.proofs.SameFacts.{same_event}
use Rattle.cp_collapse.proofs.SameStandings.{same_image}
use Rattle.cp_normal.proofs.NarrowedUnder.{says_unchanged, says_both}

-- The substitution leaves the value of the message of each node.
abbrev pub LeavesValues : Assignment → Substitution → Skeleton → Type 0
LeavesValues g s k = (n : Node) (e : Event Term) → term_event_at k.strands n ≡ Some e → value_of g (apply_to s (payload e)) ≡ value_of g (payload e)

-- The events of a skeleton and of what it is under a substitution.
pub event_to_under : (s : Substitution) (k l : Skeleton) → SaysTheSame (skeleton_under s k) l → (n : Node) (e : Event Term) → term_event_at k.strands n ≡ Some e → term_event_at l.strands n ≡ Some (event_map (apply_to s) e)
event_to_under s k l same n e ev =
    sym (same_event (skeleton_under s k) l same n)
    ∙ ap (λ (es : List (Event Term)). item_at es n.index) (trace_under s k.strands n.strand)
    ∙ map_of_item (event_map (apply_to s)) (skeleton_trace_or_none (item_at k.strands n.strand)) n.index e ev

pub event_from_under : (s : Substitution) (k l : Skeleton) → SaysTheSame (skeleton_under s k) l → (n : Node) (f : Event Term) → term_event_at l.strands n ≡ Some f →
    (e : Event Term) × (term_event_at k.strands n ≡ Some e) × (event_map (apply_to s) e ≡ f)
event_from_under s k l same n f ev =
    item_of_map (event_map (apply_to s)) (skeleton_trace_or_none (item_at k.strands n.strand)) n.index f
    (sym (ap (λ (es : List (Event Term)). item_at es n.index) (trace_under s k.strands n.strand)) ∙ same_event (skeleton_under s k) l same n ∙ ev)

-- Equal values of a term give equal values of what it carries.
atom_inside : (a b : Atom) → atom a ≡ atom b → a ≡ b
atom_inside a b e = cc

pub carried_leaves : (g : Assignment) (s : Substitution) (v : AtomTerm) {t : Term} → IsCarriedByTerm (atom_term v) t → value_of g (apply_to s t) ≡ value_of g t → value_of_atom g (apply_to_atom s v) ≡ value_of_atom g v
carried_leaves g s v itself_term e = atom_inside (value_of_atom g (apply_to_atom s v)) (value_of_atom g v) e
carried_leaves g s v (in_left_term {a = a} {b = b} c) e = carried_leaves g s v c (left_of e)
  where
    left_of : {m n m' n' : Message} → pair m n ≡ pair m' n' → m ≡ m'
    left_of p = cc
carried_leaves g s v (in_right_term {a = a} {b = b} c) e = carried_leaves g s v c (right_of e)
  where
    right_of : {m n m' n' : Message} → pair m n ≡ pair m' n' → n ≡ n'
    right_of p = cc
carried_leaves g s v (in_plaintext_term {a = a} {k = k} c) e = carried_leaves g s v c (plain_of e)
  where
    plain_of : {m m' : Message} {k k' : Key} → enc m k ≡ enc m' k' → m ≡ m'
    plain_of p = cc

-- Where both stand by one standing, the substitution leaves the values.
pub standings_leave : (s : Substitution) (k l : Skeleton) (b : Bundle) (h : Standing) → SaysTheSame (skeleton_under s k) l → StandsIn k b h → StandsIn l b h → LeavesValues h.values s k
standings_leave s k l b h same stands stands' n e ev =
    let own : IsImageOf b h.values e (image_of k h n) = image_event_at k b h stands n e ev in
    let other : IsImageOf b h.values (event_map (apply_to s) e) (image_of l h n) = image_event_at l b h stands' n (event_map (apply_to s) e) (event_to_under s k l same n e ev) in
    let node : image_of k h n ≡ image_of l h n = sym (image_below s k h n) ∙ same_image (skeleton_under s k) l same h n in
    let at : event_at b.strands (image_of k h n) ≡ event_at b.strands (image_of l h n) = ap (event_at b.strands) node in
    let one_event : own.event ≡ other.event = some_inside own.event other.event (sym own.there ∙ at ∙ other.there) in
    ap (value_of h.values) (sym (payload_map (apply_to s) e)) ∙ sym other.message ∙ ap payload (sym one_event) ∙ own.message
  where
    some_inside : (x y : Event Message) → Some x ≡ Some y → x ≡ y
    some_inside x y p = cc

-- A step's unifier, with a rest that makes the values those that they were, is solved.
module _ (g : Assignment) (k m : Skeleton) (step : IsNarrowed k m) (r : Substitution) (leaves : LeavesValues g (composed step.unifier r) k) where
  misplaced_left : value_of_atom g (apply_to_atom (composed step.unifier r) step.entry.value) ≡ value_of_atom g step.entry.value
  misplaced_left =
      let o = step.misplaced.originates.1 in
      carried_leaves g (composed step.unifier r) step.entry.value o.carried (leaves step.node (send o.sent) o.transmission)

  heard_left : value_of_atom g (apply_to_atom (composed step.unifier r) step.heard) ≡ value_of_atom g step.heard
  heard_left =
      let d = step.heard_before in
      carried_leaves g (composed step.unifier r) step.heard d.carried (leaves (node_at step.node.strand d.index) (recv d.received) d.reception)

  unified : apply_to_atom (composed step.unifier r) step.entry.value ≡ apply_to_atom (composed step.unifier r) step.heard
  unified = atom_composed step.unifier r step.entry.value ∙ ap (apply_to_atom r) step.most_general.unifies ∙ sym (atom_composed step.unifier r step.heard)

  pub step_solved : (t : Term) → value_of (after g step.unifier) t ≡ value_of g t
  step_solved = step.most_general.general g (sym misplaced_left ∙ ap (value_of_atom g) unified ∙ heard_left)

  pub rest_leaves : LeavesValues g r m
  rest_leaves n f ev =
      let o = event_from_under step.unifier k m step.same n f ev in
      let e : Event Term = o.0 in
      let at : term_event_at k.strands n ≡ Some e = o.1 in
      let message : apply_to step.unifier (payload e) ≡ payload f = sym (payload_map (apply_to step.unifier) e) ∙ ap payload o.2 in
      ap (λ (t : Term). value_of g (apply_to r t)) (sym message)
      ∙ ap (value_of g) (sym (term_composed step.unifier r (payload e)))
      ∙ leaves n e at
      ∙ sym (step_solved (payload e))
      ∙ value_after g step.unifier (payload e)
      ∙ ap (value_of g) message

-- The substitution of the steps is solved where it leaves the values.
pub solved_unchanged : (g : Assignment) (t : Term) → value_of (after g unchanged) t ≡ value_of g t
solved_unchanged g t = value_after g unchanged t ∙ ap (value_of g) (term_unchanged t)

pub solved_both : (g : Assignment) (s r : Substitution) → ((t : Term) → value_of (after g s) t ≡ value_of g t) → ((t : Term) → value_of (after g r) t ≡ value_of g t) → (t : Term) → value_of (after g (composed s r)) t ≡ value_of g t
solved_both g s r p q t =
    value_after g (composed s r) t
    ∙ ap (value_of g) (term_composed s r t)
    ∙ sym (value_after g r (apply_to s t))
    ∙ q (apply_to s t)
    ∙ sym (value_after g s t)
    ∙ p t

pub narrows_solved : {k l : Skeleton} → NarrowsTo k l → (s : Substitution) × SaysTheSame (skeleton_under s k) l × ((g : Assignment) → LeavesValues g s k → (t : Term) → value_of (after g s) t ≡ value_of g t)
narrows_solved {k} none = (unchanged, says_unchanged k, λ g leaves. solved_unchanged g)
narrows_solved {k} {l} (one {l = m} step p) =
    let rest = narrows_solved p in (
      composed step.unifier rest.0,
      says_both k m l step.unifier rest.0 step.same rest.1,
      λ g leaves. solved_both g step.unifier rest.0 (step_solved g k m step rest.0 leaves) (rest.2 g (rest_leaves g k m step rest.0 leaves)),
    )

pub narrows_standing : (k l : Skeleton) (b : Bundle) (h : Standing) → NarrowsTo k l → StandsIn k b h → StandsIn l b h →
    (s : Substitution) × SaysTheSame (skeleton_under s k) l × ((t : Term) → value_of (after h.values s) t ≡ value_of h.values t)
narrows_standing k l b h p stands stands' =
    let r = narrows_solved p in (r.0, r.1, r.2 h.values (standings_leave r.0 k l b h r.1 stands stands'))
