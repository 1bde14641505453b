-- What became of each label, one by one.
use Rattle.std.proofs.Common.{◌≡◌, ◌⊎◌, inl, inr, ℕ, zero, suc, ◌+◌, ◌<◌, List, [], ◌∷◌, ◌++◌, length, take, false, Option, Some, None, refl, sym, ap, ◌∙◌, subst, ⊎_elim, arith}
use Rattle.std.proofs.lemmas.List.{length-map}
use Rattle.cp_lists.specs.Lists.{item_at, IsIn}
use Rattle.cp_lists.proofs.Items.{item_still, item_further}
use Rattle.cp_lists.proofs.Members.{in_append, from_map, not_in_none, only_item}
use Rattle.cp_lists.proofs.SameLists.{same_parts}
use Rattle.cp_model.specs.Strand.{Protocol}
use Rattle.cp_model.specs.declared.node.Node.{Node}
use Rattle.cp_model.specs.Skeleton.{Skeleton}
use Rattle.cp_model.specs.Derivable.{IsUnrealised}
use Rattle.cp_model.specs.Problem.{numbers_from}
use Rattle.cp_model.specs.Tree.{Label, is_expanded, expanded_count}
use Rattle.cp_model.specs.declared.tree.Mark.{Mark}
use Rattle.cp_model.specs.declared.tree.Mark.TheVariants.{Dead as dead, Seen as seen, LimitSteps as limit_steps, LimitStrands as limit_strands}
use Rattle.cp_model.specs.declared.tree.Limits.{Limits}
use Rattle.cp_model.proofs.NumbersFrom.{numbers_length}
use Rattle.cp_skel.specs.Tables.{DiffersInTable}
use Rattle.cp_cohort.specs.declared.child.Child.{Child}
use Rattle.cp_expansion.specs.Expansion.{Expansion, IsExpansionOf}
use Rattle.cp_general.specs.Generalisation.{GeneralisesTo}
use Rattle.cp_tree.specs.Made.{Made, made_of_child, made_of_generalisation, LabelLink}
use Rattle.cp_tree.specs.Searched.{leaf, AreResolved, all_settled, then_settled, children_of}
use Rattle.cp_tree.proofs.Cases.{Becomes, is_dead, is_seen, is_realised, is_generalised, above_bound, at_limit, is_tested}
use Rattle.cp_tree.proofs.Numbered.{numbers_append}
use Rattle.cp_tree.proofs.ByRule.{becomes}

module _ (protocol : Protocol) (limits : Limits) (links : List LabelLink) (marks : ℕ → Option Mark → Type 0) where
  -- ---- what becomes of one

  -- A label that is not expanded has the skeleton with which it was made, and no escape set.
  pub record IsUnexpanded (m : Made) (l : Label) : Type 0 where
    pub test : l.test ≡ None
    pub escape : l.escape ≡ []
    pub same : l.skeleton ≡ m.skeleton

  -- An expanded one has the test of its expansion.
  pub record IsExpanded (before : ℕ) (m : Made) (l : Label) : Type 0 where
    pub allowed : before < limits.steps
    pub expansion : Expansion
    pub is_expansion : IsExpansionOf protocol m.skeleton expansion
    pub test : l.test ≡ Some expansion.test

  -- What a label has of what was made, its skeleton maybe with more variables; and it has as many numbers of children as are made from it.
  pub record IsOfMade (before : ℕ) (m : Made) (l : Label) (gives : List Made) : Type 0 where
    pub parent : l.parent ≡ m.parent
    pub operation : l.operation ≡ m.operation
    pub skeleton : DiffersInTable m.skeleton l.skeleton
    pub count : length l.children ≡ length gives
    pub way : IsUnexpanded m l ⊎ IsExpanded before m l

  unexpanded_of_made : (before : ℕ) (m : Made) (nodes : List Node) (mark : Option Mark) (children : List ℕ) (gives : List Made) → length children ≡ length gives → IsOfMade before m (record (leaf m nodes mark) { children = children }) gives
  unexpanded_of_made before m nodes mark children gives e = record { parent = refl; operation = refl; skeleton = refl; count = e; way = inl (record { test = refl; escape = refl; same = refl }) }

  pub of_made : (i before : ℕ) (m : Made) (l : Label) (gives : List Made) → Becomes protocol limits links marks i before m l gives → IsOfMade before m l gives
  of_made i before m l gives (is_dead d) = unexpanded_of_made before m [] (Some dead) [] [] refl
  of_made i before m l gives (is_seen {nodes = nodes} {n = n} d u s) = unexpanded_of_made before m nodes (Some (seen n)) [] [] refl
  of_made i before m l gives (is_realised {mark = mark} d n a y s) = unexpanded_of_made before m [] mark [] [] refl
  of_made i before m l gives (is_generalised {g = g} {child = child} d n a w) = unexpanded_of_made before m [] None (child ∷ []) (made_of_generalisation i g ∷ []) refl
  of_made i before m l gives (above_bound {nodes = nodes} d n u r b) = unexpanded_of_made before m nodes (Some limit_strands) [] [] refl
  of_made i before m l gives (at_limit {nodes = nodes} d n u r b e) = unexpanded_of_made before m nodes (Some limit_steps) [] [] refl
  of_made i before m l gives (is_tested {e = e} {children = children} d n u r b c x s) =
      record { parent = refl; operation = refl; skeleton = refl; count = s ∙ sym (length-map e.children (made_of_child i)); way = inr (record { allowed = c; expansion = e; is_expansion = x; test = refl }) }

  pub unexpanded : (before : ℕ) (m : Made) (l : Label) (gives : List Made) → IsOfMade before m l gives → l.test ≡ None → IsUnexpanded m l
  unexpanded before m l gives is none = ⊎_elim (λ (u : IsUnexpanded m l). u) (λ (e : IsExpanded before m l). absurd (let same : None ≡ Some e.expansion.test = sym none ∙ e.test in cc)) is.way

  -- What is made from label i is made of a child of its expansion.
  pub record IsMadeOfChild (i : ℕ) (m x : Made) : Type 0 where
    pub unrealised : IsUnrealised m.skeleton
    pub allowed : 0 < limits.steps
    pub expansion : Expansion
    pub is_expansion : IsExpansionOf protocol m.skeleton expansion
    pub child : Child
    pub listed : IsIn child expansion.children
    pub is_made : made_of_child i child ≡ x

  -- Or it is made of what the label generalises to.
  pub record IsMadeOfGeneralisation (i : ℕ) (m x : Made) : Type 0 where
    pub skeleton : Skeleton
    pub generalises : GeneralisesTo m.skeleton skeleton
    pub is_made : made_of_generalisation i skeleton ≡ x

  -- Either way the label lives, and so does what is made from it.
  pub record IsMadeFrom (i : ℕ) (m x : Made) : Type 0 where
    pub lives : m.dead ≡ false
    pub parent : x.parent ≡ Some i
    pub made_lives : x.dead ≡ false
    pub way : IsMadeOfChild i m x ⊎ IsMadeOfGeneralisation i m x

  from_child : (i : ℕ) (m x : Made) → m.dead ≡ false → IsMadeOfChild i m x → IsMadeFrom i m x
  from_child i m x d c = record { lives = d; parent = ap (λ (y : Made). y.parent) (sym c.is_made); made_lives = ap (λ (y : Made). y.dead) (sym c.is_made); way = inl c }

  from_generalisation : (i : ℕ) (m x : Made) → m.dead ≡ false → IsMadeOfGeneralisation i m x → IsMadeFrom i m x
  from_generalisation i m x d c = record { lives = d; parent = ap (λ (y : Made). y.parent) (sym c.is_made); made_lives = ap (λ (y : Made). y.dead) (sym c.is_made); way = inr c }

  pub made_of : (i before : ℕ) (m : Made) (l : Label) (gives : List Made) (x : Made) → Becomes protocol limits links marks i before m l gives → IsIn x gives → IsMadeFrom i m x
  made_of i before m l gives x (is_dead d) p = absurd (not_in_none p)
  made_of i before m l gives x (is_seen d u s) p = absurd (not_in_none p)
  made_of i before m l gives x (is_realised d n a y s) p = absurd (not_in_none p)
  made_of i before m l gives x (is_generalised {g = g} d n a w) p = from_generalisation i m x d (record { skeleton = g; generalises = w; is_made = sym (only_item p) })
  made_of i before m l gives x (above_bound d n u r b) p = absurd (not_in_none p)
  made_of i before m l gives x (at_limit d n u r b e) p = absurd (not_in_none p)
  made_of i before m l gives x (is_tested {e = e} d n u r b c y s) p =
      let f = from_map (made_of_child i) e.children p in
      from_child i m x d (record { unrealised = r; allowed = omega (arith, c); expansion = e; is_expansion = y; child = f.0; listed = f.1; is_made = f.2 })

  -- ---- each one

  -- What became of the label at a place, where the first has number i, the number n was the first to be given, and `before` labels
  -- had been expanded.
  pub record IsSettledAt (i before n : ℕ) (made : List Made) (labels : List Label) (given : List Made) (place : ℕ) (l : Label) : Type 0 where
    pub so : Made
    pub at_made : item_at made place ≡ Some so
    pub number : ℕ
    pub number_is : number ≡ i + place
    pub expanded_before : ℕ
    pub counted : expanded_before ≡ before + expanded_count (take place labels)
    pub gives : List Made
    pub becomes : Becomes protocol limits links marks number expanded_before so l gives
    pub offset : ℕ
    pub numbers : l.children ≡ numbers_from (n + offset) gives
    pub behind : (q : ℕ) (x : Made) → item_at gives q ≡ Some x → item_at given (offset + q) ≡ Some x

  pub settled_at : (i before n : ℕ) (made : List Made) (labels : List Label) (given : List Made) → AreResolved protocol limits links marks i before made labels given → children_of labels ≡ numbers_from n given
      → (place : ℕ) (l : Label) → item_at labels place ≡ Some l → IsSettledAt i before n made labels given place l
  settled_at i before n made labels given all_settled e place l at = absurd (cc)
  settled_at i before n made labels given (then_settled {m = m} {l = x} {made = ms} {labels = ls} {from_this = fs} {from_others = gs} b s) e zero l at =
      let same : x ≡ l = cc in
      let parts = same_parts x.children (numbers_from n fs) (children_of ls) (numbers_from (n + length fs) gs) ((of_made i before m x fs (becomes protocol limits links marks i before m x fs b)).count ∙ sym (numbers_length n fs)) (e ∙ numbers_append n (n + length fs) fs gs refl) in
      let first : x.children ≡ numbers_from n fs = parts.0 in
      let none : n ≡ n + 0 = omega arith in
      let there_first : (q : ℕ) (y : Made) → item_at fs q ≡ Some y → item_at (fs ++ gs) (0 + q) ≡ Some y = (λ q y p. let z : 0 + q ≡ q = omega arith in ap (item_at (fs ++ gs)) z ∙ item_still fs gs q y p) in
      record {
        so = m;
        at_made = refl;
        number = i;
        number_is = omega arith;
        expanded_before = before;
        counted = omega arith;
        gives = fs;
        becomes = subst (λ (y : Label). Becomes protocol limits links marks i before m y fs) same (becomes protocol limits links marks i before m x fs b);
        offset = 0;
        numbers = ap (λ (y : Label). y.children) (sym same) ∙ first ∙ ap (λ (a : ℕ). numbers_from a fs) none;
        behind = there_first;
      }
  settled_at i before n made labels given (then_settled {m = m} {l = x} {made = ms} {labels = ls} {from_this = fs} {from_others = gs} b s) e (suc place) l at =
      let parts = same_parts x.children (numbers_from n fs) (children_of ls) (numbers_from (n + length fs) gs) ((of_made i before m x fs (becomes protocol limits links marks i before m x fs b)).count ∙ sym (numbers_length n fs)) (e ∙ numbers_append n (n + length fs) fs gs refl) in
      let rest : children_of ls ≡ numbers_from (n + length fs) gs = parts.1 in
      let r = settled_at (suc i) (before + is_expanded x.test) (n + length fs) ms ls gs s rest place l at in
      let later : (n + length fs) + r.offset ≡ n + (length fs + r.offset) = omega arith in
      let there_later : (q : ℕ) (y : Made) → item_at r.gives q ≡ Some y → item_at (fs ++ gs) ((length fs + r.offset) + q) ≡ Some y = (λ q y p. item_further fs gs (r.offset + q) ((length fs + r.offset) + q) y (omega arith) (r.behind q y p)) in
      record {
        so = r.so;
        at_made = r.at_made;
        number = r.number;
        number_is = (let w = r.number_is in omega (arith, w));
        expanded_before = r.expanded_before;
        counted = (let w = r.counted in omega (arith, w));
        gives = r.gives;
        becomes = r.becomes;
        offset = length fs + r.offset;
        numbers = r.numbers ∙ ap (λ (a : ℕ). numbers_from a r.gives) later;
        behind = there_later;
      }

  -- There is a label for each that was made.
  pub label_of_made : (i before : ℕ) (made : List Made) (labels : List Label) (given : List Made) → AreResolved protocol limits links marks i before made labels given → (place : ℕ) (m : Made) → item_at made place ≡ Some m → (l : Label) × (item_at labels place ≡ Some l)
  label_of_made i before made labels given all_settled place m at = absurd (cc)
  label_of_made i before made labels given (then_settled {l = x} b s) zero m at = (x, refl)
  label_of_made i before made labels given (then_settled {l = x} {made = ms} {labels = ls} {from_others = gs} b s) (suc place) m at = label_of_made (suc i) (before + is_expanded x.test) ms ls gs s place m at

  -- What was made from a label, and from which.
  pub record IsMadeFromOne (i : ℕ) (made : List Made) (x : Made) : Type 0 where
    pub place : ℕ
    pub so : Made
    pub at_made : item_at made place ≡ Some so
    pub number : ℕ
    pub number_is : number ≡ i + place
    pub is_made : IsMadeFrom number so x

  from_later : (i : ℕ) (m : Made) (ms : List Made) (x : Made) → IsMadeFromOne (suc i) ms x → IsMadeFromOne i (m ∷ ms) x
  from_later i m ms x r = record { place = suc r.place; so = r.so; at_made = r.at_made; number = r.number; number_is = (let w = r.number_is in omega (arith, w)); is_made = r.is_made }

  pub made_from : (i before : ℕ) (made : List Made) (labels : List Label) (given : List Made) → AreResolved protocol limits links marks i before made labels given → (x : Made) → IsIn x given → IsMadeFromOne i made x
  made_from i before made labels given all_settled x p = absurd (not_in_none p)
  made_from i before made labels given (then_settled {m = m} {l = l} {made = ms} {labels = ls} {from_this = fs} {from_others = gs} b s) x p =
      ⊎_elim
      (λ (a : IsIn x fs). record { place = 0; so = m; at_made = refl; number = i; number_is = omega arith; is_made = made_of i before m l fs x (becomes protocol limits links marks i before m l fs b) a })
      (λ (a : IsIn x gs). from_later i m ms x (made_from (suc i) (before + is_expanded l.test) ms ls gs s x a))
      (in_append fs gs p)
