-- Where problems of the input stand does not matter for their faults, nor for the skeletons that they state.
use Rattle.std.proofs.Common.{◌≡◌, ℕ, suc, ◌+◌, List, [], ◌∷◌, ◌++◌, true, false, refl, ◌∙◌, ap}
use Rattle.std.specs.Prelude.{Bool, Option, Some, None, length, not, option_map, ◌&&◌, ◌||◌, nat_lt, nat_le, if◌then◌else◌}
use Rattle.cp_base.specs.declared.place.Place.{Place}
use Rattle.cp_base.specs.declared.place.Code.TheVariants.{BadShape, UnknownProtocol, UnknownRole, DuplicateVar, BadHeight, NotInPrefix, UniqNowhere, BadNode, CyclicOrder}
use Rattle.cp_base.specs.declared.place.Refusal.{Refusal}
use Rattle.cp_model.specs.Term.{Term, tag_term}
use Rattle.cp_model.specs.Bindings.{bindings_of}
use Rattle.cp_model.specs.declared.variable.Variable.{Variable}
use Rattle.cp_model.specs.Strand.{Role, Protocol, variables_of_prefix}
use Rattle.cp_model.specs.declared.variable.Declaration.{Declaration}
use Rattle.cp_model.specs.declared.node.Node.{Node}
use Rattle.cp_model.specs.declared.node.OrderPair.{OrderPair}
use Rattle.cp_model.specs.Skeleton.{SkeletonStrand, instance, listener, term_event_at, Assumptions}
use Rattle.cp_model.specs.Given.{atoms_onto, uniques_onto, with_given}
use Rattle.cp_model.specs.Problem.{numbers_from, variable_terms}
use Rattle.cp_model.specs.Same.{has_variable}
use Rattle.cp_sexpr.specs.Syntax.{Form, symbol, string, number, list}
use Rattle.cp_sexpr.specs.Pieces.{start}
use Rattle.cp_sexpr.specs.ReadBack.{unplaced}
use Rattle.cp_language.specs.declared.words.ItemHead.{ItemHead}
use Rattle.cp_language.specs.declared.words.ItemHead.TheVariants.{Non as non_item, PenetratorNon as penetrator_non_item, Unique as unique_item, Strand as strand_item, Listener as listener_item, Precedes as precedes_item}
use Rattle.cp_language.specs.Words.{is_one_of}
use Rattle.cp_language.specs.Faults.{fault, items_of}
use Rattle.cp_language.specs.Terms.{variable_named, lacks, exceeds, atom_faults, as_atom, term_of}
use Rattle.cp_language.specs.Roles.{headed, text_of_symbol, list_items, items_behind, declarations_of, item_or_none, forms_under, is_non_item, is_penetrator_non_item, is_unique_item}
use Rattle.cp_language.specs.Problems.{protocol_named, role_named, is_known, role_name_faults, height_faults, role_variable_faults, mapped_faults, first_form, second_form, second_term_faults, maplet_items_faults, maplet_faults, mapped_identifier, maplets_faults, number_of, maplets_faults_of, instance_faults, listener_faults, term_mapped, Instantiated, is_fresh, term_or_fresh, with_term, instantiated, instance_of_role, instance_by, name_in_front, listened_term, strand_by, fresh_of, with_strand, Strands, strands_from, node_of, number_faults, two_number_faults, range_faults, node_faults, on_one_strand, closes_cycle, is_some_transmission, is_some_reception, direction_faults, order_faults, pair_of_nodes, pair_items_faults, pair_faults, pair_of, pairs_in, pairs_faults, origins_from, is_not_empty, unique_faults, ItemStage, misplaced_unless, problem_item_faults, is_strand_item, is_assumption_or_order, is_precedes_item, stage_after, pairs_if, body_faults, has_strand, roles_of, protocol_name_faults, before_items, problem_strands, problem_faults, own_uniques, own_assumptions, Problem, protocol_or_none, problem_with, problem_of}
use Rattle.cp_report.specs.Heads.{forms_after_head}
use Rattle.cp_report.proofs.Moved.{all_moved, items_moved, entries_moved}
use Rattle.cp_report.proofs.MovedItems.{list_items_moved, text_moved, number_of_moved, first_moved, second_moved, name_in_front_moved, node_moved}
use Rattle.cp_report.proofs.MovedSkeletons.{pair_of_moved, pairs_in_moved}
use Rattle.cp_report.proofs.MovedFaults.{faults_at_start, IsMovedFault, two, fault_moved, fault_at_form, lacks_moved, exceeds_moved, sort_faults_moved, term_faults_moved, atom_faults_moved, term_of_moved, atom_of_moved}
use Rattle.cp_report.proofs.MovedRoles.{IsMovedBehind, chosen_faults, vars_faults_moved, declarations_of_moved, unless_faulty_moved, each_faults_of_moved, IsMovedItem, item_faults_moved, item_or_none_moved, forms_under_moved, atoms_under_head_moved}

-- ---- strands: faults

role_name_moved : (roles : List Role) → IsMovedFault (role_name_faults roles)
role_name_moved roles (symbol at t) = fault_moved (is_known (role_named roles t)) (is_known (role_named roles t)) at UnknownRole refl
role_name_moved roles (string at t) = refl
role_name_moved roles (number at n) = refl
role_name_moved roles (list at fs) = refl

height_moved : (o : Option Role) → IsMovedFault (height_faults o)
height_moved (Some role) (number at n) = fault_moved _ (nat_lt 0 n && nat_le n (length role.trace)) at BadHeight refl
height_moved None (number at n) = refl
height_moved None (symbol at t) = refl
height_moved None (string at t) = refl
height_moved None (list at fs) = refl
height_moved (Some role) (symbol at t) = refl
height_moved (Some role) (string at t) = refl
height_moved (Some role) (list at fs) = refl

role_variable_moved : (role : Role) (height : ℕ) (ds : List Declaration) (at : Place) (term : Option Form) (o : Option Variable) →
    role_variable_faults role height ds start (option_map unplaced term) o ≡ faults_at_start (role_variable_faults role height ds at term o)
role_variable_moved role height ds at term None = refl
role_variable_moved role height ds at None (Some x) = two _ _ _ _ (fault_moved _ (has_variable (variables_of_prefix role height) x) at NotInPrefix refl) refl
role_variable_moved role height ds at (Some f) (Some x) = two _ _ _ _ (fault_moved _ (has_variable (variables_of_prefix role height) x) at NotInPrefix refl) (sort_faults_moved ds x.sort f)

mapped_moved : (role : Role) (height : ℕ) (ds : List Declaration) (before : List (List ℕ)) (f : Form) (term : Option Form) →
    mapped_faults role height ds before (unplaced f) (option_map unplaced term) ≡ faults_at_start (mapped_faults role height ds before f term)
mapped_moved role height ds before (symbol at t) term =
    two _ _ _ _ (chosen_faults (is_one_of t before) (fault at DuplicateVar) [] _ _ refl refl) (role_variable_moved role height ds at term (variable_named role.variables t))
mapped_moved role height ds before (string at t) term = refl
mapped_moved role height ds before (number at n) term = refl
mapped_moved role height ds before (list at fs) term = refl

second_term_moved : (ds : List Declaration) (o : Option Form) → second_term_faults ds (option_map unplaced o) ≡ faults_at_start (second_term_faults ds o)
second_term_moved ds None = refl
second_term_moved ds (Some f) = term_faults_moved ds f

maplet_items_moved : (role : Role) (height : ℕ) (ds : List Declaration) (before : List (List ℕ)) → IsMovedBehind (maplet_items_faults role height ds before)
maplet_items_moved role height ds before at [] = refl
maplet_items_moved role height ds before at (f ∷ fs) =
    two _ _ _ _ (two _ _ _ _ (two _ _ _ _ (lacks_moved 1 at fs)
    (ap (mapped_faults role height ds before (unplaced f)) (first_moved fs) ∙ mapped_moved role height ds before f (first_form fs)))
    (ap (second_term_faults ds) (first_moved fs) ∙ second_term_moved ds (first_form fs)))
    (exceeds_moved 1 fs)

maplet_faults_moved : (role : Role) (height : ℕ) (ds : List Declaration) (before : List (List ℕ)) → IsMovedFault (maplet_faults role height ds before)
maplet_faults_moved role height ds before (list at fs) = ap (maplet_items_faults role height ds before start) (items_moved fs) ∙ maplet_items_moved role height ds before at (items_of fs)
maplet_faults_moved role height ds before (symbol at t) = refl
maplet_faults_moved role height ds before (string at t) = refl
maplet_faults_moved role height ds before (number at n) = refl

mapped_identifier_moved : (f : Form) → mapped_identifier (unplaced f) ≡ mapped_identifier f
mapped_identifier_moved f = ap (λ gs. go (first_form gs)) (list_items_moved f) ∙ ap go (first_moved (list_items f)) ∙ by (first_form (list_items f))
  where
    go : Option Form → List (List ℕ)
    go None = []
    go (Some g) = text_of_symbol g ∷ []

    by : (o : Option Form) → go (option_map unplaced o) ≡ go o
    by None = refl
    by (Some g) = ap (λ t. t ∷ []) (text_moved g)

maplets_faults_moved : (role : Role) (height : ℕ) (ds : List Declaration) (before : List (List ℕ)) (fs : List Form) → maplets_faults role height ds before (all_moved fs) ≡ faults_at_start (maplets_faults role height ds before fs)
maplets_faults_moved role height ds before [] = refl
maplets_faults_moved role height ds before (f ∷ fs) =
    two _ _ _ _ (maplet_faults_moved role height ds before f)
    (ap (λ ts. maplets_faults role height ds (ts ++ before) (all_moved fs)) (mapped_identifier_moved f) ∙ maplets_faults_moved role height ds (mapped_identifier f ++ before) fs)

maplets_of_moved : (o : Option Role) (height : Form) (ds : List Declaration) (fs : List Form) → maplets_faults_of o (unplaced height) ds (all_moved fs) ≡ faults_at_start (maplets_faults_of o height ds fs)
maplets_of_moved None height ds fs = refl
maplets_of_moved (Some role) height ds fs = ap (λ n. maplets_faults role n ds [] (all_moved fs)) (number_of_moved height) ∙ maplets_faults_moved role (number_of height) ds [] fs

instance_faults_moved : (roles : List Role) (ds : List Declaration) → IsMovedBehind (instance_faults roles ds)
instance_faults_moved roles ds at [] = refl
instance_faults_moved roles ds at (name ∷ []) = refl
instance_faults_moved roles ds at (name ∷ height ∷ maplets) =
    two _ _ _ _ (two _ _ _ _ (role_name_moved roles name)
    (ap (λ t. height_faults (role_named roles t) (unplaced height)) (text_moved name) ∙ height_moved (role_named roles (text_of_symbol name)) height))
    (ap (λ t. maplets_faults_of (role_named roles t) (unplaced height) ds (all_moved maplets)) (text_moved name) ∙ maplets_of_moved (role_named roles (text_of_symbol name)) height ds maplets)

listener_faults_moved : (ds : List Declaration) → IsMovedBehind (listener_faults ds)
listener_faults_moved ds at [] = refl
listener_faults_moved ds at (f ∷ fs) = two _ _ _ _ (term_faults_moved ds f) (exceeds_moved 0 fs)

-- ---- strands: what they stand for

term_mapped_moved : (ds : List Declaration) (t : List ℕ) (fs : List Form) → term_mapped ds t (all_moved fs) ≡ term_mapped ds t fs
term_mapped_moved ds t [] = refl
term_mapped_moved ds t (f ∷ fs) =
    ap (λ ts. if is_one_of t ts then Some (message (second_form (list_items (unplaced f)))) else term_mapped ds t (all_moved fs)) (mapped_identifier_moved f)
    ∙ ap (λ m. if is_one_of t (mapped_identifier f) then Some m else term_mapped ds t (all_moved fs))
    (ap (λ gs. message (second_form gs)) (list_items_moved f) ∙ ap message (second_moved (list_items f)) ∙ by (second_form (list_items f)))
    ∙ ap (λ o. if is_one_of t (mapped_identifier f) then Some (message (second_form (list_items f))) else o) (term_mapped_moved ds t fs)
  where
    message : Option Form → Term
    message None = tag_term []
    message (Some g) = term_of ds g

    by : (o : Option Form) → message (option_map unplaced o) ≡ message o
    by None = refl
    by (Some g) = term_of_moved ds g

instantiated_moved : (prefix : List Variable) (ds : List Declaration) (fs : List Form) (next n : ℕ) (vs : List Declaration) → instantiated prefix ds (all_moved fs) next n vs ≡ instantiated prefix ds fs next n vs
instantiated_moved prefix ds fs next n [] = refl
instantiated_moved prefix ds fs next n (d ∷ rest) =
    ap (λ o.
    let fresh = not (is_known o) && has_variable prefix (record { sort = d.sort; number = n }) in
    with_term (term_or_fresh o fresh d.sort next) (if fresh then d ∷ [] else []) (instantiated prefix ds (all_moved fs) (if fresh then suc next else next) (suc n) rest)) (term_mapped_moved ds d.identifier fs)
    ∙ ap (with_term (term_or_fresh (term_mapped ds d.identifier fs) (is_fresh prefix ds fs n d) d.sort next) (if is_fresh prefix ds fs n d then d ∷ [] else []))
    (instantiated_moved prefix ds fs (if is_fresh prefix ds fs n d then suc next else next) (suc n) rest)

instance_by_moved : (o : Option Role) (ds : List Declaration) (next : ℕ) (fs : List Form) → instance_by o ds next (all_moved fs) ≡ instance_by o ds next fs
instance_by_moved None ds next fs = refl
instance_by_moved (Some role) ds next [] = refl
instance_by_moved (Some role) ds next (name ∷ []) = refl
instance_by_moved (Some role) ds next (name ∷ height ∷ maplets) =
    ap (λ n. let i = instance_of_role role ds next n (all_moved maplets) in (instance role n (bindings_of i.terms), i.fresh)) (number_of_moved height)
    ∙ ap (λ (i : Instantiated). (instance role (number_of height) (bindings_of i.terms), i.fresh)) (instantiated_moved (variables_of_prefix role (number_of height)) ds maplets next 0 role.variables)

heard_moved : (ds : List Declaration) (fs : List Form) → listened_term ds (all_moved fs) ≡ listened_term ds fs
heard_moved ds [] = refl
heard_moved ds (f ∷ fs) = term_of_moved ds f

strand_by_moved : (roles : List Role) (ds : List Declaration) (next : ℕ) (h : ItemHead) (fs : List Form) → strand_by roles ds next h (all_moved fs) ≡ strand_by roles ds next h fs
strand_by_moved roles ds next strand_item fs =
    ap (λ t. Some (instance_by (role_named roles t) ds next (all_moved fs))) (name_in_front_moved fs) ∙ ap Some (instance_by_moved (role_named roles (name_in_front fs)) ds next fs)
strand_by_moved roles ds next listener_item fs = ap (λ t. Some (listener t, [])) (heard_moved ds fs)
strand_by_moved roles ds next _ fs = refl

strands_from_moved : (roles : List Role) (ds : List Declaration) (next : ℕ) (fs : List Form) → strands_from roles ds next (all_moved fs) ≡ strands_from roles ds next fs
strands_from_moved roles ds next [] = refl
strands_from_moved roles ds next (f ∷ fs) =
    ap (λ s. with_strand s (strands_from roles ds (next + length (fresh_of s)) (all_moved fs))) one
    ∙ ap (with_strand (strand_by roles ds next (item_or_none (headed f)) (items_behind (headed f))))
    (strands_from_moved roles ds (next + length (fresh_of (strand_by roles ds next (item_or_none (headed f)) (items_behind (headed f))))) fs)
  where
    one : strand_by roles ds next (item_or_none (headed (unplaced f))) (items_behind (headed (unplaced f))) ≡ strand_by roles ds next (item_or_none (headed f)) (items_behind (headed f))
    one =
        ap (λ h. strand_by roles ds next h (items_behind (headed (unplaced f)))) (item_or_none_moved f)
        ∙ ap (strand_by roles ds next (item_or_none (headed f))) (entries_moved f) ∙ strand_by_moved roles ds next (item_or_none (headed f)) (forms_after_head f)

-- ---- nodes and pairs

range_moved : (strands : List SkeletonStrand) (at : Place) (o : Option Node) → range_faults strands start o ≡ faults_at_start (range_faults strands at o)
range_moved strands at None = refl
range_moved strands at (Some n) = fault_moved _ (is_known (term_event_at strands n)) at BadNode refl

number_faults_moved : IsMovedFault number_faults
number_faults_moved (number at n) = refl
number_faults_moved (symbol at t) = refl
number_faults_moved (string at t) = refl
number_faults_moved (list at fs) = refl

two_numbers_moved : (fs : List Form) → two_number_faults (all_moved fs) ≡ faults_at_start (two_number_faults fs)
two_numbers_moved [] = refl
two_numbers_moved (f ∷ []) = number_faults_moved f
two_numbers_moved (f ∷ g ∷ fs) = two _ _ _ _ (number_faults_moved f) (number_faults_moved g)

node_faults_moved : (strands : List SkeletonStrand) → IsMovedFault (node_faults strands)
node_faults_moved strands (list at fs) =
    two _ _ _ _ (two _ _ _ _ (ap (lacks 2 start) (items_moved fs) ∙ lacks_moved 2 at (items_of fs))
    (ap (range_faults strands start) (node_moved (list at fs)) ∙ range_moved strands at (node_of (list at fs))))
    (ap two_number_faults (items_moved fs) ∙ two_numbers_moved (items_of fs))
node_faults_moved strands (symbol at t) = refl
node_faults_moved strands (string at t) = refl
node_faults_moved strands (number at n) = refl

direction_moved : (strands : List SkeletonStrand) (f g : Form) (p : OrderPair) → direction_faults strands (unplaced f) (unplaced g) p ≡ faults_at_start (direction_faults strands f g p)
direction_moved strands f g p =
    chosen_faults (on_one_strand p) [] _ _ _ refl
    (two _ _ _ _ (fault_at_form _ (is_some_transmission (term_event_at strands p.earlier)) f BadNode refl) (fault_at_form _ (is_some_reception (term_event_at strands p.later)) g BadNode refl))

order_faults_moved : (strands : List SkeletonStrand) (before : List OrderPair) (at : Place) (f g : Form) (o : Option OrderPair) →
    order_faults strands before start (unplaced f) (unplaced g) o ≡ faults_at_start (order_faults strands before at f g o)
order_faults_moved strands before at f g None = refl
order_faults_moved strands before at f g (Some p) = chosen_faults (closes_cycle before p) (fault at CyclicOrder) _ _ _ refl (direction_moved strands f g p)

pair_items_moved : (strands : List SkeletonStrand) (before : List OrderPair) → IsMovedBehind (pair_items_faults strands before)
pair_items_moved strands before at [] = refl
pair_items_moved strands before at (f ∷ []) = refl
pair_items_moved strands before at (f ∷ g ∷ rest) =
    two _ _ _ _ (two _ _ _ _ (two _ _ _ _
    (unless_faulty_moved _ _ _ _ (two _ _ _ _ (node_faults_moved strands f) (node_faults_moved strands g))
    (ap (λ o. order_faults strands before start (unplaced f) (unplaced g) (pair_of_nodes o (node_of (unplaced g)))) (node_moved f)
    ∙ ap (λ o. order_faults strands before start (unplaced f) (unplaced g) (pair_of_nodes (node_of f) o)) (node_moved g)
    ∙ order_faults_moved strands before at f g (pair_of_nodes (node_of f) (node_of g))))
    (ap (exceeds 2) (list_items_moved f) ∙ exceeds_moved 2 (list_items f)))
    (ap (exceeds 2) (list_items_moved g) ∙ exceeds_moved 2 (list_items g)))
    (exceeds_moved 0 rest)

pair_faults_moved : (strands : List SkeletonStrand) (before : List OrderPair) → IsMovedFault (pair_faults strands before)
pair_faults_moved strands before (list at fs) = ap (pair_items_faults strands before start) (items_moved fs) ∙ pair_items_moved strands before at (items_of fs)
pair_faults_moved strands before (symbol at t) = refl
pair_faults_moved strands before (string at t) = refl
pair_faults_moved strands before (number at n) = refl

pairs_faults_moved : (strands : List SkeletonStrand) (before : List OrderPair) (fs : List Form) → pairs_faults strands before (all_moved fs) ≡ faults_at_start (pairs_faults strands before fs)
pairs_faults_moved strands before [] = refl
pairs_faults_moved strands before (f ∷ fs) =
    two _ _ _ _ (pair_faults_moved strands before f)
    (ap (λ ps. pairs_faults strands (before ++ ps) (all_moved fs)) (pair_of_moved f) ∙ pairs_faults_moved strands (before ++ pair_of f) fs)

-- ---- items of a problem

unique_faults_moved : (strands : List SkeletonStrand) (ds : List Declaration) → IsMovedFault (unique_faults strands ds)
unique_faults_moved strands ds f =
    unless_faulty_moved _ _ _ _ (atom_faults_moved ds f)
    (fault_at_form (is_not_empty (origins_from 0 strands (as_atom (term_of ds (unplaced f))))) (is_not_empty (origins_from 0 strands (as_atom (term_of ds f)))) f UniqNowhere
    (ap (λ v. is_not_empty (origins_from 0 strands v)) (atom_of_moved ds f)))

misplaced_moved : (b : Bool) (at : Place) (xs us : List Refusal) → us ≡ faults_at_start xs → misplaced_unless b start us ≡ faults_at_start (misplaced_unless b at xs)
misplaced_moved true at xs us e = e
misplaced_moved false at xs us e = refl

problem_item_moved : (roles : List Role) (ds : List Declaration) (strands : List SkeletonStrand) (before : List OrderPair) (stage : ItemStage) → IsMovedItem (problem_item_faults roles ds strands before stage)
problem_item_moved roles ds strands before stage at strand_item fs = misplaced_moved (not stage.after_item) at _ _ (instance_faults_moved roles ds at fs)
problem_item_moved roles ds strands before stage at listener_item fs = misplaced_moved (not stage.after_item) at _ _ (listener_faults_moved ds at fs)
problem_item_moved roles ds strands before stage at non_item fs = misplaced_moved stage.after_strand at _ _ (each_faults_of_moved (atom_faults ds) (atom_faults_moved ds) fs)
problem_item_moved roles ds strands before stage at penetrator_non_item fs = misplaced_moved stage.after_strand at _ _ (each_faults_of_moved (atom_faults ds) (atom_faults_moved ds) fs)
problem_item_moved roles ds strands before stage at unique_item fs = misplaced_moved stage.after_strand at _ _ (each_faults_of_moved (unique_faults strands ds) (unique_faults_moved strands ds) fs)
problem_item_moved roles ds strands before stage at precedes_item fs = misplaced_moved stage.after_strand at _ _ (pairs_faults_moved strands before fs)
problem_item_moved roles ds strands before stage at _ fs = refl

pairs_if_moved : (b : Bool) (fs : List Form) → pairs_if b (all_moved fs) ≡ pairs_if b fs
pairs_if_moved true fs = pairs_in_moved fs
pairs_if_moved false fs = refl

body_faults_moved : (roles : List Role) (ds : List Declaration) (strands : List SkeletonStrand) (before : List OrderPair) (stage : ItemStage) (fs : List Form) →
    body_faults roles ds strands before stage (all_moved fs) ≡ faults_at_start (body_faults roles ds strands before stage fs)
body_faults_moved roles ds strands before stage [] = refl
body_faults_moved roles ds strands before stage (f ∷ fs) =
    two _ _ _ _ (item_faults_moved (problem_item_faults roles ds strands before stage) (problem_item_moved roles ds strands before stage) f)
    (ap (λ h. body_faults roles ds strands (before ++ pairs_if (is_precedes_item h) (items_behind (headed (unplaced f)))) (stage_after stage h) (all_moved fs)) (item_or_none_moved f)
    ∙ ap (λ ps. body_faults roles ds strands (before ++ ps) (stage_after stage (item_or_none (headed f))) (all_moved fs))
    (ap (pairs_if (is_precedes_item (item_or_none (headed f)))) (entries_moved f) ∙ pairs_if_moved (is_precedes_item (item_or_none (headed f))) (forms_after_head f))
    ∙ body_faults_moved roles ds strands (before ++ pairs_if (is_precedes_item (item_or_none (headed f))) (items_behind (headed f))) (stage_after stage (item_or_none (headed f))) fs)

has_strand_moved : (fs : List Form) → has_strand (all_moved fs) ≡ has_strand fs
has_strand_moved [] = refl
has_strand_moved (f ∷ fs) =
    ap (λ h. is_strand_item h || has_strand (all_moved fs)) (item_or_none_moved f) ∙ ap (λ b. is_strand_item (item_or_none (headed f)) || b) (has_strand_moved fs)

protocol_name_moved : (above : List Protocol) → IsMovedFault (protocol_name_faults above)
protocol_name_moved above (symbol at t) = fault_moved _ (is_known (protocol_named above t)) at UnknownProtocol refl
protocol_name_moved above (string at t) = refl
protocol_name_moved above (number at n) = refl
protocol_name_moved above (list at fs) = refl

before_items_moved : (fs : List Form) → before_items (all_moved fs) ≡ all_moved (before_items fs)
before_items_moved [] = refl
before_items_moved (f ∷ fs) =
    ap (λ h. if is_assumption_or_order h then [] else unplaced f ∷ before_items (all_moved fs)) (item_or_none_moved f) ∙ by (is_assumption_or_order (item_or_none (headed f))) (before_items_moved fs)
  where
    by : (b : Bool) → before_items (all_moved fs) ≡ all_moved (before_items fs) → (if b then [] else unplaced f ∷ before_items (all_moved fs)) ≡ all_moved (if b then [] else f ∷ before_items fs)
    by true rest = refl
    by false rest = ap (λ gs. unplaced f ∷ gs) rest

problem_strands_moved : (roles : List Role) (ds : List Declaration) (body : List Form) → problem_strands roles ds (all_moved body) ≡ problem_strands roles ds body
problem_strands_moved roles ds body = ap (strands_from roles ds (length ds)) (before_items_moved body) ∙ strands_from_moved roles ds (length ds) (before_items body)

pub problem_faults_moved : (above : List Protocol) → IsMovedBehind (problem_faults above)
problem_faults_moved above at [] = refl
problem_faults_moved above at (name ∷ []) = refl
problem_faults_moved above at (name ∷ vars ∷ body) =
    let begun : ItemStage = record { after_strand = false; after_item = false } in
    let roles = roles_of (protocol_named above (text_of_symbol name)) in
    let ds = declarations_of vars in
    two _ _ _ _ (two _ _ _ _ (two _ _ _ _
    (fault_moved (has_strand (unplaced vars ∷ all_moved body)) (has_strand (vars ∷ body)) at BadShape (has_strand_moved (vars ∷ body)))
    (protocol_name_moved above name))
    (vars_faults_moved vars))
    (ap (λ t. body_faults (roles_of (protocol_named above t)) (declarations_of (unplaced vars)) (problem_strands (roles_of (protocol_named above t)) (declarations_of (unplaced vars)) (all_moved body)).strands [] begun (all_moved body)) (text_moved name)
    ∙ ap (λ d. body_faults roles d (problem_strands roles d (all_moved body)).strands [] begun (all_moved body)) (declarations_of_moved vars)
    ∙ ap (λ (s : Strands). body_faults roles ds s.strands [] begun (all_moved body)) (problem_strands_moved roles ds body)
    ∙ body_faults_moved roles ds (problem_strands roles ds body).strands [] begun body)

-- ---- what a problem stands for

pairs_under_head_moved : (fs : List Form) → pairs_in (forms_under is_precedes_item (all_moved fs)) ≡ pairs_in (forms_under is_precedes_item fs)
pairs_under_head_moved fs = ap pairs_in (forms_under_moved is_precedes_item fs) ∙ pairs_in_moved (forms_under is_precedes_item fs)

own_moved : (ds : List Declaration) (strands : List SkeletonStrand) (body : List Form) → own_assumptions ds strands (all_moved body) ≡ own_assumptions ds strands body
own_moved ds strands body =
    let a = atoms_under_head_moved ds is_non_item body in let b = atoms_under_head_moved ds is_penetrator_non_item body in let c = atoms_under_head_moved ds is_unique_item body in
    λ i. record { non_originating = atoms_onto [] (a i); penetrator_non_originating = atoms_onto [] (b i); uniquely_originating = uniques_onto [] (own_uniques strands (c i)) }

problem_with_moved : (protocol : Protocol) (ds : List Declaration) (body : List Form) (s : Strands) → problem_with protocol ds (all_moved body) s ≡ problem_with protocol ds body s
problem_with_moved protocol ds body s =
    let o = own_moved ds s.strands body in let ps = pairs_under_head_moved body in
    λ i. problem_by (o i) (ps i)
  where
    problem_by : Assumptions → List OrderPair → Problem
    problem_by own pairs = record {
      protocol = protocol;
      variables = ds ++ s.fresh;
      declared = length ds;
      skeleton = record {
        variables = ds ++ s.fresh;
        strands = s.strands;
        pairs = pairs;
        assumptions = with_given s.strands own;
        from_problem = record { strands = numbers_from 0 s.strands; values = variable_terms 0 (ds ++ s.fresh); assumptions = own; pairs = pairs };
      };
    }

pub problem_of_moved : (above : List Protocol) (fs : List Form) → problem_of above (all_moved fs) ≡ problem_of above fs
problem_of_moved above [] = refl
problem_of_moved above (name ∷ []) = refl
problem_of_moved above (name ∷ vars ∷ body) =
    let protocol = protocol_or_none (protocol_named above (text_of_symbol name)) in
    let ds = declarations_of vars in
    ap (λ t. let q = protocol_or_none (protocol_named above t) in problem_with q (declarations_of (unplaced vars)) (all_moved body) (problem_strands q.roles (declarations_of (unplaced vars)) (all_moved body))) (text_moved name)
    ∙ ap (λ d. problem_with protocol d (all_moved body) (problem_strands protocol.roles d (all_moved body))) (declarations_of_moved vars)
    ∙ ap (problem_with protocol ds (all_moved body)) (problem_strands_moved protocol.roles ds body)
    ∙ problem_with_moved protocol ds body (problem_strands protocol.roles ds body)
