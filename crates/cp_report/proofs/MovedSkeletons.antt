-- Where the items of a label form stand does not matter for whether they state a skeleton, nor for which.
use Rattle.std.proofs.Common.{◌≡◌, ℕ, List, [], ◌∷◌, ◌++◌, true, false, refl, ◌∙◌, ap}
use Rattle.std.specs.Prelude.{Bool, Option, Some, None, map, not, length, codes, option_map, ◌&&◌, if◌then◌else◌, nat_lt, nat_le}
use Rattle.cp_base.specs.declared.place.Place.{Place}
use Rattle.cp_model.specs.Term.{AtomTerm}
use Rattle.cp_model.specs.Bindings.{bindings_of}
use Rattle.cp_model.specs.Strand.{Role, variables_of_prefix}
use Rattle.cp_model.specs.declared.node.Node.{Node}
use Rattle.cp_model.specs.declared.node.OrderPair.{OrderPair}
use Rattle.cp_model.specs.Skeleton.{SkeletonStrand, instance, listener}
use Rattle.cp_model.specs.Given.{has_atom}
use Rattle.cp_sexpr.specs.Syntax.{Form}
use Rattle.cp_sexpr.specs.Pieces.{start}
use Rattle.cp_sexpr.specs.ReadBack.{unplaced}
use Rattle.cp_language.specs.Faults.{place_of}
use Rattle.cp_language.specs.Terms.{as_atom}
use Rattle.cp_language.specs.Roles.{text_of_symbol, list_items}
use Rattle.cp_language.specs.Problems.{role_named, is_known, first_form, second_form, number_of, node_of, option_node, pair_of_nodes, between_strands, pair_of, pairs_in, Problem}
use Rattle.cp_report.specs.Misfits.{entries_misfits, any_number_misfits}
use Rattle.cp_report.specs.Heads.{forms_after_head, items_with, strand_heads}
use Rattle.cp_report.specs.Spelled.{Scope, term_misfits, atom_in}
use Rattle.cp_report.specs.Skeletons.{scope_of, declared_in_prefix, height_misfits, prefix_misfits, instance_misfits, states_instance, strand_misfits, instance_with, instance_of_entries, term_or_tag, strand_of, strands_of_label, there_misfits, node_misfits, is_further_pair, pair_stated, pair_misfits, pairs_misfits, precedes_misfits, atoms_misfits, node_or_first, unique_of, second_place}
use Rattle.cp_report.proofs.Moved.{at_start, all_moved, IsMoved, IsMovedInside, both, unless_moved, test_moved, place_moved, head_moved, entries_moved, lacking_moved, entries_misfits_moved, symbol_moved, number_moved, any_number_moved, list_moved}
use Rattle.cp_report.proofs.MovedTerms.{test_at_form, term_moved, atom_misfits_moved, atom_in_moved}
use Rattle.cp_report.proofs.MovedItems.{map_moved, items_with_moved, list_items_moved, text_moved, number_of_moved, first_moved, second_moved, scope_moved, mapping_moved, term_or_tag_moved, values_moved, node_moved, option_node_moved}

-- ---- strands: where they fit

height_moved : (o : Option Role) → IsMoved (height_misfits o)
height_moved None f = any_number_moved f
height_moved (Some role) f = number_moved (λ n. nat_lt 0 n && nat_le n (length role.trace)) f

prefix_moved : (s : Scope) (o : Option Role) (height : ℕ) → IsMovedInside (prefix_misfits s o height)
prefix_moved s None height at fs = refl
prefix_moved s (Some role) height at fs = mapping_moved s (declared_in_prefix (variables_of_prefix role height) 0 role.variables) at fs

instance_moved : (roles : List Role) (s : Scope) → IsMovedInside (instance_misfits roles s)
instance_moved roles s at [] = refl
instance_moved roles s at (name ∷ []) = refl
instance_moved roles s at (name ∷ height ∷ maplets) =
    unless_moved _ _ _ _
    (both _ _ _ _ (symbol_moved (λ t. is_known (role_named roles t)) name)
    (ap (λ t. height_misfits (role_named roles t) (unplaced height)) (text_moved name) ∙ height_moved (role_named roles (text_of_symbol name)) height))
    (ap (λ t. prefix_misfits s (role_named roles t) (number_of (unplaced height)) start (all_moved maplets)) (text_moved name)
    ∙ ap (λ n. prefix_misfits s (role_named roles (text_of_symbol name)) n start (all_moved maplets)) (number_of_moved height)
    ∙ prefix_moved s (role_named roles (text_of_symbol name)) (number_of height) at maplets)

chosen : (b : Bool) (xs ys us vs : List Place) → us ≡ at_start xs → vs ≡ at_start ys → (if b then us else vs) ≡ at_start (if b then xs else ys)
chosen true xs ys us vs e f = e
chosen false xs ys us vs e f = f

-- what is asked of the entries of a form
pub inside_moved : (inside : Place → List Form → List Place) → IsMovedInside inside → (f : Form) → inside (place_of (unplaced f)) (forms_after_head (unplaced f)) ≡ at_start (inside (place_of f) (forms_after_head f))
inside_moved inside m f = ap (λ p. inside p (forms_after_head (unplaced f))) (place_moved f) ∙ ap (inside start) (entries_moved f) ∙ m (place_of f) (forms_after_head f)

pub strand_misfits_moved : (roles : List Role) (s : Scope) → IsMoved (strand_misfits roles s)
strand_misfits_moved roles s f =
    ap (λ b. if b then instance_misfits roles s (place_of (unplaced f)) (forms_after_head (unplaced f)) else entries_misfits (term_misfits s ∷ []) (place_of (unplaced f)) (forms_after_head (unplaced f)))
    (head_moved (codes "defstrand" ∷ []) f)
    ∙ chosen (states_instance f) _ _ _ _ (inside_moved (instance_misfits roles s) (instance_moved roles s) f)
    (inside_moved (entries_misfits (term_misfits s ∷ [])) (λ at fs. entries_misfits_moved (term_misfits s ∷ []) at fs (term_moved s, tt)) f)

-- ---- strands: what they stand for

instance_with_moved : (s : Scope) (o : Option Role) (height : ℕ) (fs : List Form) → instance_with s o height (all_moved fs) ≡ instance_with s o height fs
instance_with_moved s None height fs = refl
instance_with_moved s (Some role) height fs = ap (λ ts. instance role height (bindings_of ts)) (values_moved s fs role.variables)

instance_of_moved : (roles : List Role) (s : Scope) (fs : List Form) → instance_of_entries roles s (all_moved fs) ≡ instance_of_entries roles s fs
instance_of_moved roles s [] = refl
instance_of_moved roles s (name ∷ []) = refl
instance_of_moved roles s (name ∷ height ∷ maplets) =
    ap (λ t. instance_with s (role_named roles t) (number_of (unplaced height)) (all_moved maplets)) (text_moved name)
    ∙ ap (λ n. instance_with s (role_named roles (text_of_symbol name)) n (all_moved maplets)) (number_of_moved height)
    ∙ instance_with_moved s (role_named roles (text_of_symbol name)) (number_of height) maplets

pub strand_moved : (roles : List Role) (s : Scope) (f : Form) → strand_of roles s (unplaced f) ≡ strand_of roles s f
strand_moved roles s f =
    ap (λ b. if b then instance_of_entries roles s (forms_after_head (unplaced f)) else listener (term_or_tag s (first_form (forms_after_head (unplaced f))))) (head_moved (codes "defstrand" ∷ []) f)
    ∙ ap (λ k. if states_instance f then k else listener (term_or_tag s (first_form (forms_after_head (unplaced f))))) (ap (instance_of_entries roles s) (entries_moved f) ∙ instance_of_moved roles s (forms_after_head f))
    ∙ ap (λ t. if states_instance f then instance_of_entries roles s (forms_after_head f) else listener t)
    (ap (λ gs. term_or_tag s (first_form gs)) (entries_moved f) ∙ ap (term_or_tag s) (first_moved (forms_after_head f)) ∙ term_or_tag_moved s (first_form (forms_after_head f)))

pub strands_moved : (p : Problem) (items : List Form) → strands_of_label p (all_moved items) ≡ strands_of_label p items
strands_moved p items =
    ap (λ s. map (strand_of p.protocol.roles s) (items_with strand_heads (all_moved items))) (scope_moved items)
    ∙ ap (map (strand_of p.protocol.roles (scope_of items))) (items_with_moved strand_heads items)
    ∙ map_moved (strand_of p.protocol.roles (scope_of items)) (strand_moved p.protocol.roles (scope_of items)) (items_with strand_heads items)

-- ---- nodes and pairs

there_moved : (strands : List SkeletonStrand) (at : Place) (o : Option Node) → there_misfits strands start o ≡ at_start (there_misfits strands at o)
there_moved strands at None = refl
there_moved strands at (Some n) = test_moved _ _ at refl

pub node_misfits_moved : (strands : List SkeletonStrand) → IsMoved (node_misfits strands)
node_misfits_moved strands f =
    both _ _ _ _
    (list_moved (entries_misfits (any_number_misfits ∷ any_number_misfits ∷ [])) (λ at fs. entries_misfits_moved (any_number_misfits ∷ any_number_misfits ∷ []) at fs (any_number_moved, (any_number_moved, tt))) f)
    (ap (λ p. there_misfits strands p (node_of (unplaced f))) (place_moved f) ∙ ap (there_misfits strands start) (node_moved f) ∙ there_moved strands (place_of f) (node_of f))

pub stated_moved : (f : Form) → pair_stated (unplaced f) ≡ pair_stated f
stated_moved f =
    ap (λ gs. pair_of_nodes (option_node (first_form gs)) (option_node (second_form gs))) (list_items_moved f)
    ∙ ap (λ o. pair_of_nodes o (option_node (second_form (all_moved (list_items f))))) (ap option_node (first_moved (list_items f)) ∙ option_node_moved (first_form (list_items f)))
    ∙ ap (pair_of_nodes (option_node (first_form (list_items f)))) (ap option_node (second_moved (list_items f)) ∙ option_node_moved (second_form (list_items f)))

pub pair_of_moved : (f : Form) → pair_of (unplaced f) ≡ pair_of f
pair_of_moved f = ap between_strands (stated_moved f)

pub pairs_in_moved : (fs : List Form) → pairs_in (all_moved fs) ≡ pairs_in fs
pairs_in_moved [] = refl
pairs_in_moved (f ∷ fs) = ap (λ ps. ps ++ pairs_in (all_moved fs)) (pair_of_moved f) ∙ ap (λ ps. pair_of f ++ ps) (pairs_in_moved fs)

pair_misfits_moved : (strands : List SkeletonStrand) (before : List OrderPair) → IsMoved (pair_misfits strands before)
pair_misfits_moved strands before f =
    unless_moved _ _ _ _
    (list_moved (entries_misfits (node_misfits strands ∷ node_misfits strands ∷ [])) (λ at fs. entries_misfits_moved (node_misfits strands ∷ node_misfits strands ∷ []) at fs (node_misfits_moved strands, (node_misfits_moved strands, tt))) f)
    (test_at_form (is_further_pair strands before (pair_stated (unplaced f))) (is_further_pair strands before (pair_stated f)) f (ap (is_further_pair strands before) (stated_moved f)))

pairs_misfits_moved : (strands : List SkeletonStrand) (before : List OrderPair) (fs : List Form) → pairs_misfits strands before (all_moved fs) ≡ at_start (pairs_misfits strands before fs)
pairs_misfits_moved strands before [] = refl
pairs_misfits_moved strands before (f ∷ fs) =
    both _ _ _ _ (pair_misfits_moved strands before f)
    (ap (λ ps. pairs_misfits strands (before ++ ps) (all_moved fs)) (pair_of_moved f) ∙ pairs_misfits_moved strands (before ++ pair_of f) fs)

pub precedes_moved : (strands : List SkeletonStrand) → IsMovedInside (precedes_misfits strands)
precedes_moved strands at fs = both _ _ _ _ (lacking_moved 1 at fs) (pairs_misfits_moved strands [] fs)

-- ---- assumptions

pub atoms_moved : (s : Scope) (before : List AtomTerm) (fs : List Form) → atoms_misfits s before (all_moved fs) ≡ at_start (atoms_misfits s before fs)
atoms_moved s before [] = refl
atoms_moved s before (f ∷ fs) =
    both _ _ _ _
    (unless_moved _ _ _ _ (atom_misfits_moved s f)
    (test_at_form (not (has_atom before (atom_in s (unplaced f)))) (not (has_atom before (atom_in s f))) f (ap (λ v. not (has_atom before v)) (atom_in_moved s f))))
    (ap (λ v. atoms_misfits s (before ++ v ∷ []) (all_moved fs)) (atom_in_moved s f) ∙ atoms_moved s (before ++ atom_in s f ∷ []) fs)

pub unique_moved : (s : Scope) (f : Form) → unique_of s (unplaced f) ≡ unique_of s f
unique_moved s f =
    let v = ap as_atom (ap (λ gs. term_or_tag s (first_form gs)) (list_items_moved f) ∙ ap (term_or_tag s) (first_moved (list_items f)) ∙ term_or_tag_moved s (first_form (list_items f))) in
    let n = ap node_or_first (ap (λ gs. option_node (second_form gs)) (list_items_moved f) ∙ ap option_node (second_moved (list_items f)) ∙ option_node_moved (second_form (list_items f))) in
    λ i. record { value = v i; origin = n i }

pub second_place_moved : (f : Form) (o : Option Form) → second_place (unplaced f) (option_map unplaced o) ≡ start
second_place_moved f None = place_moved f
second_place_moved f (Some g) = place_moved g
