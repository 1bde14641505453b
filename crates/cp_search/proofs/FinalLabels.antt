-- Labels whose open marks are put in.
use Rattle.std.proofs.Common.{◌≡◌, ◌≢◌, ◌⊎◌, inl, inr, ℕ, suc, ◌+◌, List, [], ◌∷◌, ◌++◌, length, map, Option, Some, None, sym, ap, subst, ◌∙◌, refl, arith}
use Rattle.cp_lists.specs.Lists.{item_at}
use Rattle.cp_model.specs.Strand.{Protocol}
use Rattle.cp_model.specs.declared.node.Node.{Node}
use Rattle.cp_model.specs.Skeleton.{Skeleton}
use Rattle.cp_model.specs.Realisation.{AllDerivable}
use Rattle.cp_model.specs.Tree.{Test, Label, is_expanded}
use Rattle.cp_model.specs.declared.tree.Mark.{Mark}
use Rattle.cp_model.specs.declared.tree.Mark.TheVariants.{Dead as dead, Seen as seen}
use Rattle.cp_model.specs.declared.tree.Limits.{Limits}
use Rattle.cp_tree.specs.Candidates.{Candidate, IsCandidate, CandidatesFrom}
use Rattle.cp_tree.specs.Made.{Made, LabelLink, link_of, seen_in_of}
use Rattle.cp_tree.specs.declared.rules.Rule.{Rule}
use Rattle.cp_tree.specs.declared.rules.Rule.TheVariants.{Leaf as leaf_with, Realised as realised, Tested as tested}
use Rattle.cp_tree.specs.Rules.{rule_of}
use Rattle.cp_tree.specs.Resolves.{ResolvesBy, Resolves}
use Rattle.cp_tree.proofs.ByRule.{becomes}
use Rattle.cp_tree.specs.Searched.{AreResolved, all_settled, then_settled, children_of}
use Rattle.cp_tree.proofs.Cases.{Becomes, is_dead, is_seen, is_realised, is_generalised, above_bound, at_limit, is_tested}
use Rattle.cp_tree.proofs.MarksSay.{not_both, not_with_table}
use Rattle.cp_search.specs.declared.made.Made as program
use Rattle.cp_search.specs.declared.resolved.Resolved.{Resolved}
use Rattle.cp_search.specs.declared.resolved.Resolved.TheVariants as settled
use Rattle.cp_search.specs.Candidates.{open_from}
use Rattle.cp_search.specs.TreeLabels.{labels_with}
use Rattle.cp_search.specs.ResolvedLabels.{resolved_labels, IsOpenMark}

-- The mark of the label is open.
pub record IsOpenLabel (l : Label) : Type 0 where
  pub unmarked : l.mark ≡ None
  pub untested : l.test ≡ None
  pub childless : l.children ≡ []

-- A label stays as it is; or its mark is open, and one is put in.
abbrev pub TakesMark : (ℕ → Option Mark → Type 0) → ℕ → Label → Label → Type 0
TakesMark marks i l n = ((IsOpenLabel l → ⊥) × (l ≡ n)) ⊎ (IsOpenLabel l × ((mark : Mark) × marks i (Some mark) × (record l { mark = Some mark } ≡ n)))

abbrev pub TakeMarks : (ℕ → Option Mark → Type 0) → ℕ → List Label → List Label → Type 0
TakeMarks marks i [] [] = Unit {0}
TakeMarks marks i [] (n ∷ ns) = ⊥
TakeMarks marks i (l ∷ ls) [] = ⊥
TakeMarks marks i (l ∷ ls) (n ∷ ns) = TakesMark marks i l n × TakeMarks marks (suc i) ls ns

-- The candidates: labels whose marks are open.
abbrev if_open_label : Option Test → Option Mark → List ℕ → Candidate → List Candidate → List Candidate
if_open_label (Some t) mark children c cs = cs
if_open_label None (Some m) children c cs = cs
if_open_label None None (n ∷ ns) c cs = cs
if_open_label None None [] c cs = c ∷ cs

abbrev candidate_or_none : ℕ → Label → List Candidate → List Candidate
candidate_or_none i l cs = if_open_label l.test l.mark l.children (record { number = i; skeleton = l.skeleton }) cs

abbrev pub open_labels : ℕ → List Label → List Candidate
open_labels i [] = []
open_labels i (l ∷ ls) = candidate_or_none i l (open_labels (suc i) ls)

pub open_ones : (n : ℕ) (ms : List program.Made) (ss : List Resolved) → open_labels n (resolved_labels ms ss) ≡ open_from n ms ss
open_ones n [] ss = refl
open_ones n (m ∷ ms) [] = refl
open_ones n (m ∷ ms) (settled.Leaf None ∷ ss) = ap (λ (cs : List Candidate). record { number = n; skeleton = m.skeleton } ∷ cs) (open_ones (suc n) ms ss)
open_ones n (m ∷ ms) (settled.Leaf (Some mark) ∷ ss) = open_ones (suc n) ms ss
open_ones n (m ∷ ms) (settled.Generalised child ∷ ss) = open_ones (suc n) ms ss
open_ones n (m ∷ ms) (settled.Expanded e ∷ ss) = open_ones (suc n) ms ss

module _ (marks : ℕ → Option Mark → Type 0) where
  pub marks_taken : (n : ℕ) (ms : List program.Made) (ss : List Resolved) (given : List Mark) → length given ≡ length (open_from n ms ss)
      → ((p : ℕ) (c : Candidate) (mark : Mark) → item_at (open_from n ms ss) p ≡ Some c → item_at given p ≡ Some mark → marks c.number (Some mark)) → TakeMarks marks n (resolved_labels ms ss) (labels_with ms ss given)
  marks_taken n [] ss given count each = tt
  marks_taken n (m ∷ ms) [] given count each = tt
  marks_taken n (m ∷ ms) (settled.Leaf None ∷ ss) [] count each = absurd (omega (arith, count))
  marks_taken n (m ∷ ms) (settled.Leaf None ∷ ss) (mark ∷ given) count each = (
    inr (record { unmarked = refl; untested = refl; childless = refl }, (mark, each 0 (record { number = n; skeleton = m.skeleton }) mark refl refl, refl)),
    marks_taken (suc n) ms ss given (omega (arith, count)) (λ p c k at is. each (suc p) c k at is),
  )
  marks_taken n (m ∷ ms) (settled.Leaf (Some mark) ∷ ss) given count each = (inl (λ o. (let e = o.unmarked in cc), refl), marks_taken (suc n) ms ss given count each)
  marks_taken n (m ∷ ms) (settled.Generalised child ∷ ss) given count each = (inl (λ o. (let e = o.childless in cc), refl), marks_taken (suc n) ms ss given count each)
  marks_taken n (m ∷ ms) (settled.Expanded x ∷ ss) given count each = (inl (λ o. (let e = o.untested in cc), refl), marks_taken (suc n) ms ss given count each)

  -- ---- what does not change

  same_children : (i : ℕ) (l n : Label) → TakesMark marks i l n → n.children ≡ l.children
  same_children i l n (inl t) = ap (λ (x : Label). x.children) (sym t.1)
  same_children i l n (inr t) = ap (λ (x : Label). x.children) (sym t.1.2)

  pub children_still : (i : ℕ) (ls ns : List Label) → TakeMarks marks i ls ns → children_of ns ≡ children_of ls
  children_still i [] [] t = refl
  children_still i [] (n ∷ ns) t = absurd t
  children_still i (l ∷ ls) [] t = absurd t
  children_still i (l ∷ ls) (n ∷ ns) t = ap (λ (xs : List ℕ). xs ++ children_of ns) (same_children i l n t.0) ∙ ap (λ (xs : List ℕ). l.children ++ xs) (children_still (suc i) ls ns t.1)

  module _ (unseen : (i : ℕ) (mark : Mark) → marks i (Some mark) → seen_in_of (Some mark) ≡ None) where
    same_link : (i : ℕ) (l n : Label) → TakesMark marks i l n → link_of n ≡ link_of l
    same_link i l n (inl t) = ap link_of (sym t.1)
    same_link i l n (inr t) =
        ap link_of (sym t.1.2)
        ∙ ap (λ (o : Option ℕ). record { parent = l.parent; seen_in = o; skeleton = l.skeleton }) (unseen i t.1.0 t.1.1 ∙ sym (ap seen_in_of t.0.unmarked))

    pub links_still : (i : ℕ) (ls ns : List Label) → TakeMarks marks i ls ns → map link_of ns ≡ map link_of ls
    links_still i [] [] t = refl
    links_still i [] (n ∷ ns) t = absurd t
    links_still i (l ∷ ls) [] t = absurd t
    links_still i (l ∷ ls) (n ∷ ns) t = ap (λ (w : LabelLink). w ∷ map link_of ns) (same_link i l n t.0) ∙ ap (λ (ws : List LabelLink). link_of l ∷ ws) (links_still (suc i) ls ns t.1)

  module _ (protocol : Protocol) (limits : Limits) (links : List LabelLink) where
    abbrev Before : ℕ → ℕ → Made → Label → List Made → Type 0
    Before = Becomes protocol limits links IsOpenMark

    -- ---- what becomes of labels

    other_mark : (i : ℕ) (m : Made) (l n : Label) (nodes : List Node) (rule : Rule) (gives : List Made) → TakesMark marks i l n → ResolvesBy protocol IsOpenMark i m nodes rule l gives → ResolvesBy protocol marks i m nodes rule n gives
    other_mark i m l n nodes (leaf_with mark) gives (inl t) h = (sym t.1 ∙ h.0, h.1)
    other_mark i m l n nodes (leaf_with mark) gives (inr t) h = absurd (let e : Some mark ≡ None = sym (ap (λ (x : Label). x.mark) h.0) ∙ t.0.unmarked in cc)
    other_mark i m l n nodes realised gives (inl t) (inl h) =
        absurd (t.0 (record { unmarked = ap (λ (x : Label). x.mark) h.is_leaf.0 ∙ h.marked; untested = ap (λ (x : Label). x.test) h.is_leaf.0; childless = ap (λ (x : Label). x.children) h.is_leaf.0 }))
    other_mark i m l n nodes realised gives (inl t) (inr h) = inr (record { skeleton = h.skeleton; generalises = h.generalises; child = h.child; label = sym t.1 ∙ h.label; made = h.made })
    other_mark i m l n nodes realised gives (inr t) (inl h) =
        let mark : Mark = t.1.0 in
        inl (record { most_general = h.most_general; mark = Some mark; marked = t.1.1; is_leaf = (sym t.1.2 ∙ ap (λ (x : Label). record x { mark = Some mark }) h.is_leaf.0, h.is_leaf.1) })
    other_mark i m l n nodes realised gives (inr t) (inr h) = absurd (let e : h.child ∷ [] ≡ [] = sym (ap (λ (x : Label). x.children) h.label) ∙ t.0.childless in cc)
    other_mark i m l n nodes tested gives (inl t) h = record { expansion = h.expansion; is_expansion = h.is_expansion; children = h.children; count = h.count; label = sym t.1 ∙ h.label; made = h.made }
    other_mark i m l n nodes tested gives (inr t) h = absurd (let e : Some h.expansion.test ≡ None = sym (ap (λ (x : Label). x.test) h.label) ∙ t.0.untested in cc)

    resolves_marked : (i before : ℕ) (m : Made) (l n : Label) (gives : List Made) → TakesMark marks i l n → Resolves protocol limits links IsOpenMark i before m l gives → Resolves protocol limits links marks i before m n gives
    resolves_marked i before m l n gives t r = record { facts = r.facts; are_facts = r.are_facts; within = r.within; by_rule = other_mark i m l n r.facts.unrealised (rule_of limits before r.facts) gives t r.by_rule }

    same_count : (i : ℕ) (l n : Label) → TakesMark marks i l n → is_expanded l.test ≡ is_expanded n.test
    same_count i l n (inl t) = ap (λ (x : Label). is_expanded x.test) t.1
    same_count i l n (inr t) = ap (λ (x : Label). is_expanded x.test) t.1.2

    pub resolved_marked : (i before : ℕ) (made : List Made) (labels news : List Label) (given : List Made) → AreResolved protocol limits links IsOpenMark i before made labels given → TakeMarks marks i labels news → AreResolved protocol limits links marks i before made news given
    resolved_marked i before made labels [] given all_settled t = all_settled
    resolved_marked i before made labels (n ∷ ns) given all_settled t = absurd t
    resolved_marked i before made labels [] given (then_settled b s) t = absurd t
    resolved_marked i before made labels (n ∷ ns) given (then_settled {m = m} {l = l} {made = ms} {labels = ls} {from_this = fs} {from_others = gs} b s) t =
        let counted : before + is_expanded l.test ≡ before + is_expanded n.test = ap (λ (k : ℕ). before + k) (same_count i l n t.0) in
        then_settled (resolves_marked i before m l n fs t.0 b) (subst (λ (k : ℕ). AreResolved protocol limits links marks (suc i) k ms ns gs) counted (resolved_marked (suc i) (before + is_expanded l.test) ms ls ns gs s t.1))

    -- ---- candidates

    module _ (lives : (i : ℕ) (mark : Mark) → marks i (Some mark) → mark ≢ dead) (unseen : (i k : ℕ) (mark : Mark) → marks i (Some mark) → mark ≢ seen k) where
      abbrev IsPick : ℕ → Label → Label → List Candidate → Type 0
      IsPick i l n cs = (IsCandidate n × (candidate_or_none i l cs ≡ record { number = i; skeleton = n.skeleton } ∷ cs)) ⊎ ((IsCandidate n → ⊥) × (candidate_or_none i l cs ≡ cs))

      taken : (i : ℕ) (l n : Label) (mark : Mark) (cs : List Candidate) → l.mark ≡ None → l.test ≡ None → l.children ≡ [] → AllDerivable l.skeleton → marks i (Some mark) → record l { mark = Some mark } ≡ n → IsPick i l n cs
      taken i l n mark cs unmarked untested none all is e =
          let same : l.skeleton ≡ n.skeleton = ap (λ (x : Label). x.skeleton) e in
          let c : IsCandidate (record l { mark = Some mark }) = record { lives = λ q. lives i mark is (cc); not_seen = λ k q. unseen i k mark is (cc); realised = all; own = none } in
          inl (
            subst IsCandidate e c,
            ap (λ (t : Option Test). if_open_label t l.mark l.children (record { number = i; skeleton = l.skeleton }) cs) untested
                ∙ (ap (λ (m : Option Mark). if_open_label None m l.children (record { number = i; skeleton = l.skeleton }) cs) unmarked
                ∙ (ap (λ (ns : List ℕ). if_open_label None None ns (record { number = i; skeleton = l.skeleton }) cs) none ∙ ap (λ (k : Skeleton). record { number = i; skeleton = k } ∷ cs) same)),
          )

      left : (i : ℕ) (l n : Label) (cs : List Candidate) → (IsCandidate l → ⊥) → l ≡ n → candidate_or_none i l cs ≡ cs → IsPick i l n cs
      left i l n cs other e same = inr (λ c. other (subst IsCandidate (sym e) c), same)

      pick : (i before : ℕ) (m : Made) (l n : Label) (gives : List Made) (cs : List Candidate) → Before i before m l gives → TakesMark marks i l n → IsPick i l n cs
      pick i before m l n gives cs (is_dead d) (inl t) = left i l n cs (λ c. c.lives refl) t.1 refl
      pick i before m l n gives cs (is_dead d) (inr t) = absurd (let e = t.0.unmarked in cc)
      pick i before m l n gives cs (is_seen {n = k} d u s) (inl t) = left i l n cs (λ c. c.not_seen k refl) t.1 refl
      pick i before m l n gives cs (is_seen d u s) (inr t) = absurd (let e = t.0.unmarked in cc)
      pick i before m l n gives cs (is_realised d w a g s) (inl t) = absurd (t.0 (record { unmarked = s; untested = refl; childless = refl }))
      pick i before m l n gives cs (is_realised d w a g s) (inr t) = taken i l n t.1.0 cs s refl refl a t.1.1 t.1.2
      pick i before m l n gives cs (is_generalised {child = k} d w a g) (inl t) = left i l n cs (λ c. (let e : k ∷ [] ≡ [] = c.own in cc)) t.1 refl
      pick i before m l n gives cs (is_generalised d w a g) (inr t) = absurd (let e = t.0.childless in cc)
      pick i before m l n gives cs (above_bound d w u r b) (inl t) = left i l n cs (λ c. not_both m.skeleton r c.realised) t.1 refl
      pick i before m l n gives cs (above_bound d w u r b) (inr t) = absurd (let e = t.0.unmarked in cc)
      pick i before m l n gives cs (at_limit d w u r b q) (inl t) = left i l n cs (λ c. not_both m.skeleton r c.realised) t.1 refl
      pick i before m l n gives cs (at_limit d w u r b q) (inr t) = absurd (let e = t.0.unmarked in cc)
      pick i before m l n gives cs (is_tested {e = e} d w u r b x y s) (inl t) = left i l n cs (λ c. not_with_table m.skeleton e.skeleton.variables r c.realised) t.1 refl
      pick i before m l n gives cs (is_tested d w u r b x y s) (inr t) = absurd (let e = t.0.untested in cc)

      abbrev Are : ℕ → List Label → List Candidate → Type 0
      Are = CandidatesFrom IsCandidate (λ l. l.skeleton)

      put_pick : (i : ℕ) (l n : Label) (ls ns : List Label) → IsPick i l n (open_labels (suc i) ls) → Are (suc i) ns (open_labels (suc i) ls) → Are i (n ∷ ns) (open_labels i (l ∷ ls))
      put_pick i l n ls ns (inl p) rest = inl (p.0, (open_labels (suc i) ls, p.1, rest))
      put_pick i l n ls ns (inr p) rest = inr (p.0, subst (Are (suc i) ns) (sym p.1) rest)

      pub candidates_are : (i before : ℕ) (made : List Made) (labels news : List Label) (given : List Made) → AreResolved protocol limits links IsOpenMark i before made labels given → TakeMarks marks i labels news → Are i news (open_labels i labels)
      candidates_are i before made labels [] given all_settled t = refl
      candidates_are i before made labels (n ∷ ns) given all_settled t = absurd t
      candidates_are i before made labels [] given (then_settled b s) t = absurd t
      candidates_are i before made labels (n ∷ ns) given (then_settled {m = m} {l = l} {made = ms} {labels = ls} {from_this = fs} {from_others = gs} b s) t =
          put_pick i l n ls ns (pick i before m l n fs (open_labels (suc i) ls) (becomes protocol limits links IsOpenMark i before m l fs b) t.0) (candidates_are (suc i) (before + is_expanded l.test) ms ls ns gs s t.1)
