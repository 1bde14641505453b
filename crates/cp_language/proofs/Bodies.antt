-- What the body of a problem without faults says: of its strands, of its assumptions, and of its pairs.
use Rattle.std.proofs.Common.{◌≡◌, ◌≢◌, ℕ, List, [], ◌∷◌, ◌++◌, length, Bool, true, false, ◌==◌, not, Option, Some, None, refl, sym, ap, ◌∙◌, subst, if◌then◌else◌, append_assoc, eq-eqb}
use Rattle.std.proofs.lemmas.Bool.{both_ways}
use Rattle.std.proofs.lemmas.List.{append-nil}
use Rattle.cp_lists.proofs.Appended.{none_before, none_behind, none_of_four}
use Rattle.cp_base.specs.declared.place.Place.{Place}
use Rattle.cp_base.specs.declared.place.Code.TheVariants.{BadNode, CyclicOrder}
use Rattle.cp_base.specs.declared.place.Refusal.{Refusal}
use Rattle.cp_model.specs.Term.{Term}
use Rattle.cp_model.specs.Strand.{Role}
use Rattle.cp_model.specs.declared.strand.Event.{Event}
use Rattle.cp_model.specs.declared.strand.Event.TheVariants.{Send as send, Receive as recv}
use Rattle.cp_model.specs.declared.variable.Declaration.{Declaration}
use Rattle.cp_model.specs.Skeleton.{SkeletonStrand, term_event_at}
use Rattle.cp_model.specs.declared.node.OrderPair.{OrderPair}
use Rattle.cp_sexpr.specs.Syntax.{Form, symbol, string, number, list, Forms}
use Rattle.cp_language.specs.declared.words.ItemHead.{ItemHead}
use Rattle.cp_language.specs.declared.words.ItemHead.TheVariants.{Role as role_item, Non as non_item, PenetratorNon as penetrator_non_item, Unique as unique_item, Strand as strand_item, Listener as listener_item, Precedes as precedes_item, Comment as comment_item, OutOfProfile as item_out_of_profile, Unknown as no_item}
use Rattle.cp_language.specs.Words.{item_head}
use Rattle.cp_language.specs.Faults.{fault, fault_unless, place_of, items_of}
use Rattle.cp_language.specs.Terms.{atom_faults, exceeds}
use Rattle.cp_language.specs.Roles.{Headed, headed, item_or_none, items_behind, list_items, unless_faulty, each_faults, headed_item_faults, item_faults, forms_under, is_non_item, is_penetrator_non_item, is_unique_item}
use Rattle.cp_language.specs.Problems.{instance_faults, listener_faults, node_of, node_faults, on_one_strand, reaches_within, closes_cycle, is_some_transmission, is_some_reception, direction_faults, pair_of_nodes, order_faults, pair_items_faults, pair_faults, between_strands, pair_of, pairs_in, pairs_faults, unique_faults, ItemStage, misplaced_unless, problem_item_faults, is_assumption_or_order, is_precedes_item, stage_after, pairs_if, body_faults, before_items}
use Rattle.cp_language.proofs.Terms.{holds}
use Rattle.cp_language.proofs.Items.{under_one, unless_parts}
use Rattle.cp_language.proofs.Strands.{IsFaultless, AreFaultless}

-- ---- places of items

not_misplaced : (b : Bool) (at : Place) (others : List Refusal) → misplaced_unless b at others ≡ [] → others ≡ []
not_misplaced true at others e = e
not_misplaced false at others e = absurd (cc)

-- ---- pairs

-- The pair is one of a skeleton with these strands, and closes no cycle with the pairs before it.
pub record IsNextPair (strands : List SkeletonStrand) (before : List OrderPair) (p : OrderPair) : Type 0 where
  pub sent : Term
  pub received : Term
  pub transmission : term_event_at strands p.earlier ≡ Some (send sent)
  pub reception : term_event_at strands p.later ≡ Some (recv received)
  pub between : p.earlier.strand ≢ p.later.strand
  pub no_way_back : reaches_within (length before) before p.later p.earlier ≡ false

-- Each of the pairs is such a one behind those before it.
abbrev pub AreBuilt : List SkeletonStrand → List OrderPair → List OrderPair → Type 0
AreBuilt strands before [] = Unit {0}
AreBuilt strands before (p ∷ ps) = IsNextPair strands before p × AreBuilt strands (before ++ p ∷ []) ps

pub built_behind : (strands : List SkeletonStrand) (before ps qs : List OrderPair) → AreBuilt strands before ps → AreBuilt strands (before ++ ps) qs → AreBuilt strands before (ps ++ qs)
built_behind strands before [] qs h k = subst (λ (rs : List OrderPair). AreBuilt strands rs qs) (append-nil before) k
built_behind strands before (p ∷ ps) qs h k =
    (h.0, built_behind strands (before ++ p ∷ []) ps qs h.1 (subst (λ (rs : List OrderPair). AreBuilt strands rs qs) (sym (append_assoc before (p ∷ []) ps)) k))

pub is_sent : (o : Option (Event Term)) → is_some_transmission o ≡ true → (t : Term) × (o ≡ Some (send t))
is_sent None e = absurd (cc)
is_sent (Some (send t)) e = (t, refl)
is_sent (Some (recv t)) e = absurd (cc)

pub is_received : (o : Option (Event Term)) → is_some_reception o ≡ true → (t : Term) × (o ≡ Some (recv t))
is_received None e = absurd (cc)
is_received (Some (send t)) e = absurd (cc)
is_received (Some (recv t)) e = (t, refl)

pub differ : (m n : ℕ) → (m == n) ≡ false → m ≢ n
differ m n e h = both_ways (m == n) e (eq-eqb m n h)

-- no fault in the order of a pair between two strands
no_cycle_fault : (b : Bool) (at : Place) (others : List Refusal) → (if b then fault at CyclicOrder else others) ≡ [] → (b ≡ false) × (others ≡ [])
no_cycle_fault true at others e = absurd (cc)
no_cycle_fault false at others e = (refl, e)

one_built : (strands : List SkeletonStrand) (before : List OrderPair) (at : Place) (f g : Form) (p : OrderPair) (b : Bool) → on_one_strand p ≡ b →
    order_faults strands before at f g (Some p) ≡ [] → AreBuilt strands before (if b then [] else p ∷ [])
one_built strands before at f g p true on e = tt
one_built strands before at f g p false on e =
    let q = no_cycle_fault (closes_cycle before p) at (direction_faults strands f g p) e in
    let no_way : reaches_within (length before) before p.later p.earlier ≡ false = rw on at q.0 in
    let directions = rw on at q.1 in
    let a = is_sent (term_event_at strands p.earlier) (holds (is_some_transmission (term_event_at strands p.earlier)) (place_of f) BadNode (none_before (fault_unless (is_some_transmission (term_event_at strands p.earlier)) (place_of f) BadNode) (fault_unless (is_some_reception (term_event_at strands p.later)) (place_of g) BadNode) directions)) in
    let c = is_received (term_event_at strands p.later) (holds (is_some_reception (term_event_at strands p.later)) (place_of g) BadNode (none_behind (fault_unless (is_some_transmission (term_event_at strands p.earlier)) (place_of f) BadNode) (fault_unless (is_some_reception (term_event_at strands p.later)) (place_of g) BadNode) directions)) in
    (record { sent = a.0; received = c.0; transmission = a.1; reception = c.1; between = differ p.earlier.strand p.later.strand on; no_way_back = no_way }, tt)

option_built : (strands : List SkeletonStrand) (before : List OrderPair) (at : Place) (f g : Form) (o : Option OrderPair) → order_faults strands before at f g o ≡ [] → AreBuilt strands before (between_strands o)
option_built strands before at f g None e = tt
option_built strands before at f g (Some p) e = one_built strands before at f g p (on_one_strand p) refl e

items_built : (strands : List SkeletonStrand) (before : List OrderPair) (at : Place) (fs : Forms) (items : List Form) → items_of fs ≡ items → pair_items_faults strands before at items ≡ [] →
    AreBuilt strands before (pair_of (list at fs))
items_built strands before at fs [] is e = absurd (cc)
items_built strands before at fs (f ∷ []) is e = absurd (cc)
items_built strands before at fs (f ∷ g ∷ rest) is e =
    let o = pair_of_nodes (node_of f) (node_of g) in
    let faults = unless_faulty (node_faults strands f ++ node_faults strands g) (order_faults strands before at f g o) in
    let p = none_of_four faults (exceeds 2 (list_items f)) (exceeds 2 (list_items g)) (exceeds 0 rest) e in
    let q = (unless_parts (node_faults strands f ++ node_faults strands g) (order_faults strands before at f g o) p.0).1 in
    rw is (option_built strands before at f g o q)

one_pair_built : (strands : List SkeletonStrand) (before : List OrderPair) (f : Form) → pair_faults strands before f ≡ [] → AreBuilt strands before (pair_of f)
one_pair_built strands before (list at fs) e = items_built strands before at fs (items_of fs) refl e
one_pair_built strands before (symbol at t) e = absurd (cc)
one_pair_built strands before (string at t) e = absurd (cc)
one_pair_built strands before (number at n) e = absurd (cc)

pairs_built : (strands : List SkeletonStrand) (before : List OrderPair) (fs : List Form) → pairs_faults strands before fs ≡ [] → AreBuilt strands before (pairs_in fs)
pairs_built strands before [] e = tt
pairs_built strands before (f ∷ fs) e =
    built_behind strands before (pair_of f) (pairs_in fs)
    (one_pair_built strands before f (none_before (pair_faults strands before f) (pairs_faults strands (before ++ pair_of f) fs) e))
    (pairs_built strands (before ++ pair_of f) fs (none_behind (pair_faults strands before f) (pairs_faults strands (before ++ pair_of f) fs) e))

pairs_of_both : (xs ys : List Form) → pairs_in (xs ++ ys) ≡ pairs_in xs ++ pairs_in ys
pairs_of_both [] ys = refl
pairs_of_both (x ∷ xs) ys = ap (λ (ps : List OrderPair). pair_of x ++ ps) (pairs_of_both xs ys) ∙ sym (append_assoc (pair_of x) (pairs_in xs) (pairs_in ys))

pairs_under_one : (strands : List SkeletonStrand) (before : List OrderPair) (b : Bool) (items rest : List Form) → (if b then pairs_faults strands before items else []) ≡ [] →
    AreBuilt strands (before ++ pairs_if b items) (pairs_in rest) → AreBuilt strands before (pairs_in (if b then items ++ rest else rest))
pairs_under_one strands before true items rest e h =
    subst (λ (ps : List OrderPair). AreBuilt strands before ps) (sym (pairs_of_both items rest)) (built_behind strands before (pairs_in items) (pairs_in rest) (pairs_built strands before items e) h)
pairs_under_one strands before false items rest e h = subst (λ (ps : List OrderPair). AreBuilt strands ps (pairs_in rest)) (append-nil before) h

-- ---- one item

module _ (roles : List Role) (ds : List Declaration) (strands : List SkeletonStrand) where
  -- what an item of this head says
  pub record SaysItem (before : List OrderPair) (k : ItemHead) (fs : List Form) : Type 0 where
    pub strand : IsFaultless roles ds k fs
    pub non : (if is_non_item k then each_faults (atom_faults ds) fs else []) ≡ []
    pub penetrator_non : (if is_penetrator_non_item k then each_faults (atom_faults ds) fs else []) ≡ []
    pub unique : (if is_unique_item k then each_faults (unique_faults strands ds) fs else []) ≡ []
    pub order : (if is_precedes_item k then pairs_faults strands before fs else []) ≡ []

  by_head : (before : List OrderPair) (stage : ItemStage) (at : Place) (k : ItemHead) (fs : List Form) → problem_item_faults roles ds strands before stage at k fs ≡ [] → SaysItem before k fs
  by_head before stage at strand_item fs e = record { strand = (at, not_misplaced (not stage.after_item) at (instance_faults roles ds at fs) e); non = refl; penetrator_non = refl; unique = refl; order = refl }
  by_head before stage at listener_item fs e = record { strand = (at, not_misplaced (not stage.after_item) at (listener_faults ds at fs) e); non = refl; penetrator_non = refl; unique = refl; order = refl }
  by_head before stage at non_item fs e = record { strand = tt; non = not_misplaced stage.after_strand at (each_faults (atom_faults ds) fs) e; penetrator_non = refl; unique = refl; order = refl }
  by_head before stage at penetrator_non_item fs e = record { strand = tt; non = refl; penetrator_non = not_misplaced stage.after_strand at (each_faults (atom_faults ds) fs) e; unique = refl; order = refl }
  by_head before stage at unique_item fs e = record { strand = tt; non = refl; penetrator_non = refl; unique = not_misplaced stage.after_strand at (each_faults (unique_faults strands ds) fs) e; order = refl }
  by_head before stage at precedes_item fs e = record { strand = tt; non = refl; penetrator_non = refl; unique = refl; order = not_misplaced stage.after_strand at (pairs_faults strands before fs) e }
  by_head before stage at comment_item fs e = record { strand = tt; non = refl; penetrator_non = refl; unique = refl; order = refl }
  by_head before stage at role_item fs e = absurd (cc)
  by_head before stage at item_out_of_profile fs e = absurd (cc)
  by_head before stage at no_item fs e = absurd (cc)

  says_item : (before : List OrderPair) (stage : ItemStage) (at : Place) (o : Option Headed) → headed_item_faults (problem_item_faults roles ds strands before stage) at o ≡ [] → SaysItem before (item_or_none o) (items_behind o)
  says_item before stage at None e = absurd (cc)
  says_item before stage at (Some h) e = by_head before stage at (item_head h.head) h.items e

  -- ---- the whole body

  pub record SaysBody (before : List OrderPair) (body : List Form) : Type 0 where
    pub stated : AreFaultless roles ds (before_items body)
    pub non : each_faults (atom_faults ds) (forms_under is_non_item body) ≡ []
    pub penetrator_non : each_faults (atom_faults ds) (forms_under is_penetrator_non_item body) ≡ []
    pub unique : each_faults (unique_faults strands ds) (forms_under is_unique_item body) ≡ []
    pub order : AreBuilt strands before (pairs_in (forms_under is_precedes_item body))

  one_more_stated : (b : Bool) (f : Form) (fs : List Form) → IsFaultless roles ds (item_or_none (headed f)) (items_behind (headed f)) → AreFaultless roles ds fs → AreFaultless roles ds (if b then [] else f ∷ fs)
  one_more_stated true f fs h hs = tt
  one_more_stated false f fs h hs = (h, hs)

  -- The body of a problem without faults.
  pub says_body : (before : List OrderPair) (stage : ItemStage) (body : List Form) → body_faults roles ds strands before stage body ≡ [] → SaysBody before body
  says_body before stage [] e = record { stated = tt; non = refl; penetrator_non = refl; unique = refl; order = tt }
  says_body before stage (f ∷ fs) e =
      let k = item_or_none (headed f) in
      let items = items_behind (headed f) in
      let first = item_faults (problem_item_faults roles ds strands before stage) f in
      let rest = body_faults roles ds strands (before ++ pairs_if (is_precedes_item k) items) (stage_after stage k) fs in
      let h = says_item before stage (place_of f) (headed f) (none_before first rest e) in
      let hs = says_body (before ++ pairs_if (is_precedes_item k) items) (stage_after stage k) fs (none_behind first rest e) in
      record {
        stated = one_more_stated (is_assumption_or_order k) f (before_items fs) h.strand hs.stated;
        non = under_one (is_non_item k) (atom_faults ds) items (forms_under is_non_item fs) h.non hs.non;
        penetrator_non = under_one (is_penetrator_non_item k) (atom_faults ds) items (forms_under is_penetrator_non_item fs) h.penetrator_non hs.penetrator_non;
        unique = under_one (is_unique_item k) (unique_faults strands ds) items (forms_under is_unique_item fs) h.unique hs.unique;
        order = pairs_under_one strands before (is_precedes_item k) items (forms_under is_precedes_item fs) h.order hs.order;
      }
