-- The example's tree is one that the search makes.
use Rattle.std.proofs.Common.{◌≡◌, ◌≢◌, ◌<◌, inl, inr, ℕ, zero, suc, List, [], ◌∷◌, length, map, false, true, Some, None, refl, sym, ap, ◌∙◌, subst, arith}
use Rattle.cp_lists.specs.Lists.{item_at, IsIn, here, there, one_step}
use Rattle.cp_lists.proofs.Members.{not_in_none, only_item, in_append_left, in_append_right}
use Rattle.cp_model.specs.Term.{Term}
use Rattle.cp_model.specs.declared.strand.Event.TheVariants.{Receive as recv}
use Rattle.cp_model.specs.Bundle.{node_at}
use Rattle.cp_model.specs.declared.node.Node.{Node}
use Rattle.cp_model.specs.Skeleton.{SkeletonStrand, term_event_at, along_pair, Skeleton}
use Rattle.cp_model.specs.Derivable.{DerivableAt, IsUnrealised}
use Rattle.cp_model.specs.Derivable as derivable
use Rattle.cp_model.specs.Realisation.{AllDerivable}
use Rattle.cp_model.specs.Homomorphism.{Embeds}
use Rattle.cp_model.specs.Tree.{Label}
use Rattle.cp_model.specs.declared.tree.Mark.{Mark}
use Rattle.cp_model.specs.declared.tree.Mark.TheVariants.{Shape as shape, LimitSteps as limit_steps, LimitStrands as limit_strands}
use Rattle.cp_derive.specs.Unrealised.{IsUnrealisedAt, ListsUnrealised}
use Rattle.cp_theory.specs.Above.{encryptions_above}
use Rattle.cp_theory.proofs.AllAbove.{nothing_above}
use Rattle.cp_theory.specs.EncryptionExamples.{locked, locker, protocol, heard, reception}
use Rattle.cp_theory.proofs.HeardEncryption.{no_instance, unlocked}
use Rattle.cp_shapes.specs.Shapes.{EmbedsAt, IsShapeAt}
use Rattle.cp_roots.specs.declared.root.Root.{Root}
use Rattle.cp_roots.specs.Roots.{in_report_order}
use Rattle.cp_cohort.specs.declared.child.Child.{Child}
use Rattle.cp_cohort.specs.GatheredLists.{nothing_given, none_left, left_out}
use Rattle.cp_cohort.specs.Example.{asked, one_child}
use Rattle.cp_cohort.proofs.OneChild.{is_cohort}
use Rattle.cp_escape.specs.Escape.{IsFirstWith, in_front, further, IsEscape}
use Rattle.cp_expansion.specs.ChosenTest.{IsTestOf, last_listener}
use Rattle.cp_expansion.specs.Expansion.{IsWidening, Expansion, IsExpansionOf, none_widens}
use Rattle.cp_tree.specs.Candidates.{IsCandidate, Candidate}
use Rattle.cp_tree.specs.Made.{Made, made_of_root, made_of_child, LabelLink, link_of}
use Rattle.cp_tree.specs.Searched.{all_settled, then_settled, IsMarkedAmong, as_shape, IsMarked, none_at_limit, IsTreeFrom}
use Rattle.cp_tree.specs.Resolves.{Resolves}
use Rattle.cp_tree.specs.Example.{heard_root, heard_test, heard_label, sent_label, heard_tree, one_step_limits}
use Rattle.cp_tree.proofs.Cases.{IsNew}
use Rattle.cp_tree.proofs.MarksSay.{not_both}
use Rattle.cp_tree.proofs.ExampleGeneral.{sent_is_most_general}

-- ---- the one reception that cannot be derived

underivable : DerivableAt heard reception locked → ⊥
underivable d = (unlocked d).1 refl

unrealised_here : IsUnrealisedAt heard reception
unrealised_here = record { message = locked; reception = refl; underivable = underivable }

heard_unrealised : IsUnrealised heard
heard_unrealised = record { node = reception; message = locked; reception = refl; underivable = underivable }

only_reception : (s i : ℕ) (t : Term) → term_event_at heard.strands (node_at s i) ≡ Some (recv t) → node_at s i ≡ reception
only_reception zero zero t at = refl
only_reception zero (suc zero) t at = absurd (cc)
only_reception zero (suc (suc i)) t at = absurd (cc)
only_reception (suc s) i t at = absurd (cc)

listed_reception : (n : Node) (t : Term) → term_event_at heard.strands n ≡ Some (recv t) → IsIn n (reception ∷ [])
listed_reception n t at = subst (λ (m : Node). IsIn m (reception ∷ [])) (sym (only_reception n.strand n.index t at)) here

lists_reception : ListsUnrealised heard (reception ∷ [])
lists_reception = record {
  each = λ n. (λ i. subst (IsUnrealisedAt heard) (sym (only_item i)) unrealised_here, λ u. listed_reception n u.message u.reception);
  others = λ n t at. inl (listed_reception n t at);
  rising = (λ m i. absurd (not_in_none i), tt);
}

-- ---- its expansion

no_strand_behind : (s : ℕ) (x : SkeletonStrand) → 0 < s → item_at heard.strands s ≡ Some x → ⊥
no_strand_behind zero x l at = omega (arith, l)
no_strand_behind (suc s) x l at = cc

test_of_heard : IsTestOf heard reception locked
test_of_heard = record {
  at_node = last_listener (record { term = locked; on_listener = refl }) unrealised_here (λ m on un l. no_strand_behind m.strand _ l on.on_listener);
  message = locked;
  reception = refl;
  path = [];
  critical = record { before = []; after = []; among = refl; underivable = underivable; derivable = λ d i. absurd (not_in_none i) };
}

no_escape : IsEscape heard reception locked []
no_escape = record {
  sent = [];
  before = left_out (λ b. let e : false ≡ true = b.by_role in cc) (left_out (λ b. let e : false ≡ true = b.by_role in cc) none_left);
  encryptions = [];
  each = nothing_given;
  once = refl;
}

none_first : {has : Term → Type 0} {t : Term} (ts : List Term) → ts ≡ [] → IsFirstWith has ts t → ⊥
none_first ts e (in_front h) = cc
none_first ts e (further n f) = cc

-- The child sends the encryption itself, so that nothing encloses it.
child_gives_none : IsWidening asked one_child → ⊥
child_gives_none w = none_first (encryptions_above w.widens.message []) (nothing_above w.widens.message) w.widens.outermost

none_gives : (c : Child) → IsIn c is_cohort.added → IsWidening asked c → ⊥
none_gives c i w =
    let listed : IsIn c (one_child ∷ []) = subst (IsIn c) (sym is_cohort.whole) (in_append_right is_cohort.contracted (in_append_right is_cohort.displaced (in_append_left is_cohort.listeners i))) in
    child_gives_none (subst (IsWidening asked) (only_item listed) w)

abbrev expansion : Expansion
expansion = record { test = heard_test; skeleton = heard; patterns = []; children = one_child ∷ [] }

is_expansion : IsExpansionOf protocol heard expansion
is_expansion = record { test = test_of_heard; escape = []; is_escape = no_escape; widened = none_widens (omega arith) is_cohort none_gives; table = refl }

none_listed : (k : Skeleton) → AllDerivable k → ListsUnrealised k []
none_listed k all = record {
  each = λ n. (λ i. absurd (not_in_none i), λ u. absurd (u.underivable (all n u.message u.reception)));
  others = λ n t at. inr (all n t at);
  rising = tt;
}

-- ---- the child is realised, and new

abbrev sent : Skeleton
sent = in_report_order one_child.skeleton

derivable_at : (s i : ℕ) (t : Term) → term_event_at sent.strands (node_at s i) ≡ Some (recv t) → DerivableAt sent (node_at s i) t
derivable_at zero zero t at =
    let same : locked ≡ t = cc in
    subst (DerivableAt sent reception) same (derivable.sent_before {m = node_at 1 0} (record { role = locker; height = 1; terms = _; on_instance = refl }) refl (one_step (along_pair here)))
derivable_at zero (suc zero) t at = absurd (cc)
derivable_at zero (suc (suc i)) t at = absurd (cc)
derivable_at (suc zero) zero t at = absurd (cc)
derivable_at (suc zero) (suc i) t at = absurd (cc)
derivable_at (suc (suc s)) i t at = absurd (cc)

sent_realised : AllDerivable sent
sent_realised n t at = derivable_at n.strand n.index t at

abbrev links : List LabelLink
links = map link_of heard_tree.labels

first_is_new : IsNew links 0
first_is_new n m = let l : n < 0 = m.earlier in omega (arith, l)

-- The strand that sends goes to no listener.
embeds_nowhere : (k l : Skeleton) → sent ≡ k → heard ≡ l → Embeds k l → ⊥
embeds_nowhere k l from to e =
    let h : Embeds sent heard = subst (λ (x : Skeleton). Embeds x heard) (sym from) (subst (Embeds k) (sym to) e) in
    let g = h.1.homomorphism.instances 1 locker 1 _ refl in
    no_instance (h.0.strands 1) locker g.to_height g.to_terms g.on_instance

behind_first : (n : ℕ) → n < 1 → EmbedsAt (map (λ (w : LabelLink). w.skeleton) links) 1 n → ⊥
behind_first zero l e =
    let first : Some sent ≡ Some e.first = e.at_first in
    let second : Some heard ≡ Some e.second = e.at_second in
    let from : sent ≡ e.first = cc in
    let to : heard ≡ e.second = cc in
    embeds_nowhere e.first e.second from to e.embeds
behind_first (suc n) l e = omega (arith, l)

second_is_new : IsNew links 1
second_is_new n m = behind_first n m.earlier m.embeds_back

-- ---- marks

abbrev candidates : List Candidate
candidates = record { number = 1; skeleton = sent } ∷ []

only_candidate : IsShapeAt (sent ∷ []) 0
only_candidate = record { within = omega arith; no_instance = λ n i. other_place n i.other i.embeds.first i.embeds.at_first }
  where
    other_place : (n : ℕ) → n ≢ 0 → (k : Skeleton) → item_at (sent ∷ []) n ≡ Some k → ⊥
    other_place zero ne k at = ne refl
    other_place (suc n) ne k at = cc

-- ---- the tree

abbrev sent_made : Made
sent_made = made_of_child 0 one_child

expands : Resolves protocol one_step_limits links (IsMarkedAmong candidates) 0 0 (made_of_root heard_root) heard_label (sent_made ∷ [])
expands = record {
  facts = record { dead = false; copy = None; unrealised = reception ∷ []; strands = length heard.strands };
  are_facts = record { dead = refl; dead_none = λ dead. absurd (cc); listed = λ _. lists_reception; copy = λ _. first_is_new; strands = refl };
  within = omega arith;
  by_rule = record { expansion = expansion; is_expansion = is_expansion; children = 1 ∷ []; count = refl; label = refl; made = refl };
}

shape_among : IsMarkedAmong candidates 1 (Some shape)
shape_among = as_shape {p = 0} (record { candidate = record { number = 1; skeleton = sent }; at = refl; number = refl }) only_candidate

stays : Resolves protocol one_step_limits links (IsMarkedAmong candidates) 1 1 sent_made sent_label []
stays = record {
  facts = record { dead = false; copy = None; unrealised = []; strands = length sent.strands };
  are_facts = record { dead = refl; dead_none = λ _. refl; listed = λ _. none_listed sent sent_realised; copy = λ _. second_is_new; strands = refl };
  within = omega arith;
  by_rule = inl (record { most_general = sent_is_most_general; mark = Some shape; marked = shape_among; is_leaf = (refl, refl) });
}

sent_is_candidate : IsCandidate sent_label
sent_is_candidate = record { lives = λ e. cc; not_seen = λ n e. cc; realised = sent_realised; own = refl }

parents_come_first : (i j : ℕ) (l : Label) → item_at heard_tree.labels j ≡ Some l → l.parent ≡ Some i → i < j
parents_come_first i zero l at e = absurd (let same : heard_label ≡ l = cc in let p : None ≡ Some i = ap (λ (x : Label). x.parent) same ∙ e in cc)
parents_come_first i (suc zero) l at e =
    let same : sent_label ≡ l = cc in
    let p : Some 0 ≡ Some i = ap (λ (x : Label). x.parent) same ∙ e in
    let q : 0 ≡ i = cc in
    omega (arith, q)
parents_come_first i (suc (suc j)) l at e = absurd (cc)

not_marked : (mark : Mark) → (None ≡ Some mark → ⊥) → (Some shape ≡ Some mark → ⊥) → IsMarked heard_tree.labels mark → ⊥
not_marked mark a b m = by m.0 m.1 m.2
  where
    by : (l : Label) → IsIn l heard_tree.labels → l.mark ≡ Some mark → ⊥
    by l here e = a e
    by l (there here) e = b e
    by l (there (there i)) e = not_in_none i

pub is_tree : IsTreeFrom protocol locker.variables one_step_limits (heard_root ∷ []) heard_tree
is_tree = record {
  declared = λ root i. ap (λ (r : Root). r.skeleton.variables) (only_item i);
  children = sent_made ∷ [];
  candidates = candidates;
  are_candidates = inr (λ c. not_both heard heard_unrealised c.realised, inl (sent_is_candidate, ([], refl, refl)));
  settled = then_settled expands (then_settled stays all_settled);
  numbers = refl;
  parents_first = parents_come_first;
  outcome = none_at_limit (not_marked limit_steps (λ e. cc) (λ e. cc)) (not_marked limit_strands (λ e. cc) (λ e. cc));
}
