-- Tests, unrealised nodes and patterns that fit: the nodes are there, and the patterns are patterns.
use Rattle.std.proofs.Common.{◌≡◌, List, [], ◌∷◌, ◌++◌, Bool, true, refl, subst}
use Rattle.std.specs.Prelude.{Option, Some, None, map}
use Rattle.cp_base.specs.declared.place.Place.{Place}
use Rattle.cp_lists.specs.Lists.{IsIn}
use Rattle.cp_lists.proofs.Appended.{none_before, none_behind, none_of_three}
use Rattle.cp_lists.proofs.Members.{from_map}
use Rattle.cp_model.specs.Term.{Term}
use Rattle.cp_model.specs.declared.strand.Event.{Event}
use Rattle.cp_model.specs.declared.variable.Declaration.{Declaration}
use Rattle.cp_model.specs.declared.node.Node.{Node}
use Rattle.cp_model.specs.Pattern.{IsPattern}
use Rattle.cp_model.specs.Skeleton.{SkeletonStrand, term_event_at, IsNodeOf, Skeleton}
use Rattle.cp_model.specs.Tree.{Pattern}
use Rattle.cp_sexpr.specs.Syntax.{Form, Forms, none, more, symbol, string, number, list}
use Rattle.cp_language.specs.Faults.{place_of, items_of}
use Rattle.cp_language.specs.Problems.{is_known, first_form, node_of, option_node}
use Rattle.cp_report.specs.Misfits.{misfit_unless, lacking, each_misfits, entries_misfits, list_misfits, any_number_misfits}
use Rattle.cp_report.specs.Heads.{forms_after_head, entries_or_none, optional_misfits}
use Rattle.cp_report.specs.Spelled.{Scope, term_misfits, pattern_misfits, pattern_of}
use Rattle.cp_report.specs.Skeletons.{there_misfits, node_misfits, node_or_first}
use Rattle.cp_report.specs.Labels.{unrealised_misfits, test_misfits, test_of}
use Rattle.cp_report.specs.FittingTrees.{IsTestOn}
use Rattle.cp_spelled.proofs.ReadPatterns.{pattern-is}
use Rattle.cp_report.proofs.NoMisfits.{holds, none_of_each}

-- ---- nodes

-- A node that is stated.
record IsStatedNode (f : Form) : Type 0 where
  node : Node
  is : node_of f ≡ Some node

-- Two numbers state a node.
two_numbers : (at q : Place) (fs : Forms) → entries_misfits (any_number_misfits ∷ any_number_misfits ∷ []) q (items_of fs) ≡ [] → IsStatedNode (list at fs)
two_numbers at q none e = absurd (cc)
two_numbers at q (more f none) e = absurd (let rest = none_behind (any_number_misfits f) (q ∷ []) e in cc)
two_numbers at q (more (symbol a t) (more g gs)) e = absurd (cc)
two_numbers at q (more (string a t) (more g gs)) e = absurd (cc)
two_numbers at q (more (list a hs) (more g gs)) e = absurd (cc)
two_numbers at q (more (number a n) (more (number b m) gs)) e = record { node = record { strand = n; index = m }; is = refl }
two_numbers at q (more (number a n) (more (symbol b t) gs)) e = absurd (cc)
two_numbers at q (more (number a n) (more (string b t) gs)) e = absurd (cc)
two_numbers at q (more (number a n) (more (list b hs) gs)) e = absurd (cc)

-- A list of two numbers states one.
stated_node : (f : Form) → list_misfits (entries_misfits (any_number_misfits ∷ any_number_misfits ∷ [])) f ≡ [] → IsStatedNode f
stated_node (symbol at t) e = absurd (cc)
stated_node (string at t) e = absurd (cc)
stated_node (number at n) e = absurd (cc)
stated_node (list at fs) e = two_numbers at at fs e

-- A node without misfits is there.
pub node_fits : (strands : List SkeletonStrand) (f : Form) → node_misfits strands f ≡ [] → IsNodeOf strands (node_or_first (node_of f))
node_fits strands f e =
    let shape = list_misfits (entries_misfits (any_number_misfits ∷ any_number_misfits ∷ [])) f in
    let s = stated_node f (none_before shape (there_misfits strands (place_of f) (node_of f)) e) in
    by (node_of f) s.node s.is (none_behind shape (there_misfits strands (place_of f) (node_of f)) e)
  where
    event : (n : Node) (o : Option (Event Term)) → term_event_at strands n ≡ o → is_known o ≡ true → IsNodeOf strands n
    event n None q h = absurd (cc)
    event n (Some x) q h = (x, q)

    by : (o : Option Node) (n : Node) → o ≡ Some n → there_misfits strands (place_of f) o ≡ [] → IsNodeOf strands (node_or_first o)
    by None n q h = absurd (cc)
    by (Some m) n q h = event m (term_event_at strands m) refl (holds (is_known (term_event_at strands m)) (place_of f) h)

-- The unrealised nodes of an item are there; the item may be missing.
pub unrealised_there : (strands : List SkeletonStrand) (o : Option Form) → optional_misfits (unrealised_misfits strands) o ≡ [] → (n : Node) → IsIn n (map (λ f. node_or_first (option_node (Some f))) (entries_or_none o)) → IsNodeOf strands n
unrealised_there strands None e n m = elim m [ ]
unrealised_there strands (Some f) e n m =
    let one = from_map (λ g. node_or_first (option_node (Some g))) (forms_after_head f) m in
    subst (IsNodeOf strands) one.2
    (node_fits strands one.0 (none_of_each (node_misfits strands) (forms_after_head f) (none_behind (lacking 1 (place_of f) (forms_after_head f)) (each_misfits (node_misfits strands) (forms_after_head f)) e) one.0 one.1))

-- ---- the test

-- The node of a test is there.
first_node : (s : Scope) (strands : List SkeletonStrand) (at : Place) (fs : List Form) → test_misfits s strands at fs ≡ [] → IsNodeOf strands (node_or_first (option_node (first_form fs)))
first_node s strands at [] e = absurd (cc)
first_node s strands at (f ∷ fs) e = node_fits strands f (none_before (node_misfits strands f) (entries_misfits (term_misfits s ∷ []) at fs) e)

-- The same of the item; it may be missing.
pub test_there : (s : Scope) (k : Skeleton) (o : Option Form) → optional_misfits (test_misfits s k.strands) o ≡ [] → IsTestOn k (test_of s o)
test_there s k None e = tt
test_there s k (Some f) e = first_node s k.strands (place_of f) (forms_after_head f) e

-- ---- patterns

-- What is asked of patterns, where `tested` says whether there is a test.
abbrev pub patterns_misfits : List Declaration → Bool → Place → List Form → List Place
patterns_misfits ds tested at fs = misfit_unless tested at ++ lacking 1 at fs ++ each_misfits (pattern_misfits ds) fs

-- The patterns of an item without misfits are patterns; the item may be missing.
pub patterns_are : (ds : List Declaration) (tested : Bool) (o : Option Form) → optional_misfits (patterns_misfits ds tested) o ≡ [] → (q : Pattern) → IsIn q (map (pattern_of ds) (entries_or_none o)) → IsPattern q
patterns_are ds tested None e q m = elim m [ ]
patterns_are ds tested (Some f) e q m =
    let one = from_map (pattern_of ds) (forms_after_head f) m in
    let parts = none_of_three (misfit_unless tested (place_of f)) (lacking 1 (place_of f) (forms_after_head f)) (each_misfits (pattern_misfits ds) (forms_after_head f)) e in
    subst IsPattern one.2 (pattern-is ds one.0 (none_of_each (pattern_misfits ds) (forms_after_head f) parts.2 one.0 one.1))

-- Without a test there are no patterns.
pub none_untested : (ds : List Declaration) (s : Scope) (t o : Option Form) → optional_misfits (patterns_misfits ds (is_known t)) o ≡ [] → test_of s t ≡ None → map (pattern_of ds) (entries_or_none o) ≡ []
none_untested ds s None None e h = refl
none_untested ds s None (Some f) e h = absurd (cc)
none_untested ds s (Some g) o e h = absurd (cc)
