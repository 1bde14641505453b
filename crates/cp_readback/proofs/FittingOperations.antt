-- Operations that fit: the strands and nodes that they name are there, partitions are partitions, and parents are where they belong.
use Rattle.std.proofs.Common.{◌≡◌, ℕ, zero, suc, ◌+◌, ◌<◌, ◌≤◌, List, [], ◌∷◌, length, Bool, true, ◌&&◌, ◌||◌, not, nat_lt, nat_le, refl, ap, subst, arith, ltb-true, leb-true}
use Rattle.std.specs.Prelude.{Option, Some, None, map, drop}
use Rattle.std.proofs.lemmas.Bool.{and_parts}
use Rattle.cp_base.specs.declared.place.Place.{Place}
use Rattle.cp_lists.specs.Lists.{item_at}
use Rattle.cp_lists.proofs.Appended.{none_before, none_behind}
use Rattle.cp_model.specs.Term.{Term}
use Rattle.cp_model.specs.declared.strand.Event.{Event}
use Rattle.cp_model.specs.Bundle.{node_at}
use Rattle.cp_model.specs.Skeleton.{SkeletonStrand, term_event_at, IsNodeOf, Skeleton}
use Rattle.cp_sexpr.specs.Syntax.{Form, symbol, string, number, list}
use Rattle.cp_language.specs.Faults.{place_of}
use Rattle.cp_language.specs.Roles.{text_of_symbol}
use Rattle.cp_language.specs.Problems.{Problem, is_known, number_of, name_in_front}
use Rattle.cp_report.specs.Misfits.{misfit_unless, entries_misfits, symbol_misfits, any_number_misfits}
use Rattle.cp_report.specs.Heads.{forms_after_head, entries_or_none, optional_misfits}
use Rattle.cp_report.specs.Skeletons.{strand_number_misfits}
use Rattle.cp_report.specs.declared.operations.OperationWord.{OperationWord}
use Rattle.cp_report.specs.declared.operations.OperationWord.TheVariants.{Problem as problem_word, Collapsed as collapsed_word, Contracted as contracted_word, Displaced as displaced_word, AddedStrand as added_strand_word, AddedListener as added_listener_word, Generalised as generalised_word, Unknown as no_operation_word}
use Rattle.cp_report.specs.Labels.{is_number, number_in_front, operation_word, is_operation, makes_root, block_misfits, block_checks, operation_kinds, operation_misfits, index_misfits, operation_place_misfits, operation_by, parent_misfits, label_of}
use Rattle.cp_report.specs.FittingTrees.{IsOperationOn, IsParentOf}
use Rattle.cp_report.proofs.NoMisfits.{none_of_unless, holds}
use Rattle.cp_readback.proofs.FittingItems.{number_fits}
use Rattle.cp_readback.proofs.FittingNumbers.{number_is, parent_there}

-- ---- partitions

-- There are as many entries as strands.
as_many_blocks : (ns : List ℕ) (i : ℕ) (ks : List SkeletonStrand) (at : Place) (fs : List Form) → entries_misfits (block_checks ns i ks) at fs ≡ [] → length (map number_of fs) ≡ length ks
as_many_blocks ns i [] at [] e = refl
as_many_blocks ns i [] at (f ∷ fs) e = absurd (cc)
as_many_blocks ns i (k ∷ ks) at [] e = absurd (cc)
as_many_blocks ns i (k ∷ ks) at (f ∷ fs) e = ap suc (as_many_blocks ns (suc i) ks at fs (none_behind (block_misfits ns i f) (entries_misfits (block_checks ns (suc i) ks) at fs) e))

-- Each entry is at most its place, and names a strand that names itself.
lowest_blocks : (ns : List ℕ) (i : ℕ) (ks : List SkeletonStrand) (at : Place) (fs : List Form) → entries_misfits (block_checks ns i ks) at fs ≡ [] → (j n : ℕ) → item_at (map number_of fs) j ≡ Some n → (n ≤ i + j) × (item_at ns n ≡ Some n)
lowest_blocks ns i ks at [] e j n g = absurd (cc)
lowest_blocks ns i [] at (f ∷ fs) e j n g = absurd (cc)
lowest_blocks ns i (k ∷ ks) at (f ∷ fs) e zero n g =
    let same : number_of f ≡ n = cc in
    let test = number_fits (λ m. nat_le m i && is_number m (item_at ns m)) f (none_before (block_misfits ns i f) (entries_misfits (block_checks ns (suc i) ks) at fs) e) in
    let both = and_parts (nat_le (number_of f) i) (is_number (number_of f) (item_at ns (number_of f))) test in
    let low : number_of f ≤ i = leb-true (number_of f) i both.0 in
    (omega (arith, same, low), subst (λ (m : ℕ). item_at ns m ≡ Some m) same (number_is (number_of f) (item_at ns (number_of f)) both.1))
lowest_blocks ns i (k ∷ ks) at (f ∷ fs) e (suc j) n g =
    let rest = lowest_blocks ns (suc i) ks at fs (none_behind (block_misfits ns i f) (entries_misfits (block_checks ns (suc i) ks) at fs) e) j n g in
    let low : n ≤ suc i + j = rest.0 in
    (omega (arith, low), rest.1)

-- ---- strands and nodes

-- A node whose index passes the test is there.
node_there : (strands : List SkeletonStrand) (s : ℕ) (f : Form) → index_misfits strands s f ≡ [] → IsNodeOf strands (node_at s (number_of f))
node_there strands s f e = by (term_event_at strands (node_at s (number_of f))) refl (number_fits (λ i. is_known (term_event_at strands (node_at s i))) f e)
  where
    by : (o : Option (Event Term)) → term_event_at strands (node_at s (number_of f)) ≡ o → is_known o ≡ true → IsNodeOf strands (node_at s (number_of f))
    by None q h = absurd (cc)
    by (Some x) q h = (x, q)

-- A strand whose number passes the test is there.
strand_there : (strands : List SkeletonStrand) (f : Form) → strand_number_misfits strands f ≡ [] → number_of f < length strands
strand_there strands f e = ltb-true (number_of f) (length strands) (number_fits (λ n. nat_lt n (length strands)) f e)

module _ (p : Problem) (k : Skeleton) where
  -- What a word and the entries behind it name is an operation on the skeleton.
  operation_on : (w : OperationWord) (at : Place) (fs : List Form) → entries_misfits (operation_kinds p w fs) at fs ≡ [] → operation_place_misfits k.strands w fs ≡ [] → IsOperationOn p k (operation_by w fs)
  operation_on problem_word at fs e h = tt
  operation_on collapsed_word at fs e h = record { each = as_many_blocks (map number_of fs) 0 p.skeleton.strands at fs e; lowest = lowest }
    where
      lowest : (i n : ℕ) → item_at (map number_of fs) i ≡ Some n → (n ≤ i) × (item_at (map number_of fs) n ≡ Some n)
      lowest i n g =
          let r = lowest_blocks (map number_of fs) 0 p.skeleton.strands at fs e i n g in
          let low : n ≤ 0 + i = r.0 in
          (omega (arith, low), r.1)
  operation_on contracted_word at [] e h = absurd (cc)
  operation_on contracted_word at (f ∷ []) e h = absurd (let rest = none_behind (any_number_misfits f) (at ∷ []) e in cc)
  operation_on contracted_word at (f ∷ g ∷ fs) e h = node_there k.strands (number_of f) g (none_behind (strand_number_misfits k.strands f) (index_misfits k.strands (number_of f) g) h)
  operation_on displaced_word at [] e h = absurd (cc)
  operation_on displaced_word at (f ∷ []) e h = absurd (let rest = none_behind (any_number_misfits f) (at ∷ []) e in cc)
  operation_on displaced_word at (f ∷ g ∷ fs) e h = node_there k.strands (number_of f) g (none_behind (strand_number_misfits k.strands f) (index_misfits k.strands (number_of f) g) h)
  operation_on added_strand_word at [] e h = absurd (cc)
  operation_on added_strand_word at (f ∷ fs) e h = strand_there k.strands f h
  operation_on added_listener_word at [] e h = absurd (cc)
  operation_on added_listener_word at (f ∷ fs) e h = strand_there k.strands f h
  operation_on generalised_word at fs e h = tt
  operation_on no_operation_word at fs e h = tt

  -- The same of the entries of an item.
  of_entries : (at : Place) (fs : List Form) → operation_misfits p at fs ≡ [] → operation_place_misfits k.strands (operation_word (name_in_front fs)) (drop 1 fs) ≡ []
      → IsOperationOn p k (operation_by (operation_word (name_in_front fs)) (drop 1 fs))
  of_entries at [] e h = absurd (cc)
  of_entries at (f ∷ fs) e h =
      operation_on (operation_word (text_of_symbol f)) at fs
      (none_of_unless (symbol_misfits (λ t. is_operation (operation_word t)) f) (entries_misfits (operation_kinds p (operation_word (text_of_symbol f)) fs) at fs) e).1 h

  -- The same of the item, which has to be there.
  pub operation_fits : (o : Option Form) → is_known o ≡ true → optional_misfits (operation_misfits p) o ≡ [] → operation_place_misfits k.strands (operation_word (name_in_front (entries_or_none o))) (drop 1 (entries_or_none o)) ≡ []
      → IsOperationOn p k (operation_by (operation_word (name_in_front (entries_or_none o))) (drop 1 (entries_or_none o)))
  operation_fits None known e h = absurd (cc)
  operation_fits (Some f) known e h = of_entries (place_of f) (forms_after_head f) e h

-- ---- the word, and the parent

-- A symbol that passes the test is one.
symbol_fits : (test : List ℕ → Bool) (f : Form) → symbol_misfits test f ≡ [] → test (text_of_symbol f) ≡ true
symbol_fits test (symbol at t) e = holds (test t) at e
symbol_fits test (string at t) e = absurd (cc)
symbol_fits test (number at n) e = absurd (cc)
symbol_fits test (list at fs) e = absurd (cc)

-- The word of an item without misfits names an operation.
pub word_names : (p : Problem) (o : Option Form) → is_known o ≡ true → optional_misfits (operation_misfits p) o ≡ [] → is_operation (operation_word (name_in_front (entries_or_none o))) ≡ true
word_names p None known e = absurd (cc)
word_names p (Some f) known e = by (forms_after_head f) e
  where
    by : (fs : List Form) → operation_misfits p (place_of f) fs ≡ [] → is_operation (operation_word (name_in_front fs)) ≡ true
    by [] h = absurd (cc)
    by (g ∷ fs) h =
        symbol_fits (λ t. is_operation (operation_word t)) g
        (none_of_unless (symbol_misfits (λ t. is_operation (operation_word t)) g) (entries_misfits (operation_kinds p (operation_word (text_of_symbol g)) fs) (place_of f) fs) h).0

-- A root has no parent, and a label that is no root has the parent that names it.
pub parent_fits : (p : Problem) (forms : List Form) (i : ℕ) (w : OperationWord) (fs : List Form) (o : Option Form) → is_operation w ≡ true → optional_misfits (λ at gs. misfit_unless (not (makes_root w)) at) o ≡ []
    → optional_misfits (parent_misfits (Some forms) i) o ≡ [] → (not (is_operation w && not (makes_root w)) || is_known o) ≡ true → IsParentOf (map (label_of p) forms) i (operation_by w fs) (number_in_front (entries_or_none o))
parent_fits p forms i problem_word fs None is root e h = refl
parent_fits p forms i problem_word fs (Some f) is root e h = absurd (cc)
parent_fits p forms i collapsed_word fs None is root e h = refl
parent_fits p forms i collapsed_word fs (Some f) is root e h = absurd (cc)
parent_fits p forms i contracted_word fs o is root e h = parent_there p forms i o e h
parent_fits p forms i displaced_word fs o is root e h = parent_there p forms i o e h
parent_fits p forms i added_strand_word fs o is root e h = parent_there p forms i o e h
parent_fits p forms i added_listener_word fs o is root e h = parent_there p forms i o e h
parent_fits p forms i generalised_word fs o is root e h = parent_there p forms i o e h
parent_fits p forms i no_operation_word fs o is root e h = absurd (cc)
