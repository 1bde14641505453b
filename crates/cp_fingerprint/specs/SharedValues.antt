-- The bucket key and the light share: two numbers that tell how the role strands of a skeleton share values. No embedding makes either
-- smaller.
use Rattle.std.specs.Prelude.{◌+◌, ◌-◌, ◌*◌, ◌%◌, ◌/◌, ◌^◌, ℕ, suc, Bool, true, List, [], ◌∷◌, ◌++◌, min, map, if◌then◌else◌, Vec}
use Rattle.cp_model.specs.Term.{skey_variable, ltk_term, pubk_term, symmetric_term, asymmetric_term, text_variable, datum_variable, name_variable, key_term, Term, tag_term, atom_term, pair_term, enc_term, Substitution, apply_to, variable_term}
use Rattle.cp_model.specs.Bindings.{as_substitution}
use Rattle.cp_model.specs.declared.sort.Sort.TheVariants.{Text as text_sort, Datum as datum_sort, Name as name_sort, Skey as skey_sort}
use Rattle.cp_model.specs.declared.variable.Variable.{Variable}
use Rattle.cp_model.specs.Strand.{Role, variables_of_trace, variables_of_prefix}
use Rattle.cp_model.specs.declared.strand.Event.{Event}
use Rattle.cp_model.specs.declared.strand.Event.TheVariants.{Receive as recv}
use Rattle.cp_model.specs.declared.variable.Declaration.{Declaration}
use Rattle.cp_model.specs.Skeleton.{SkeletonStrand, instance, listener, Skeleton}
use Rattle.cp_model.specs.Same.{same_term, has_variable}
use Rattle.cp_fingerprint.specs.PartitionNumber.{mixed}
use Rattle.cp_fingerprint.specs.Slots.{Slot}

-- The number of a text.
abbrev pub text_number : ℕ → List ℕ → ℕ
text_number n [] = n
text_number n (byte ∷ bytes) = text_number (mixed n byte) bytes

-- How much the place with this number weighs, under a name of this number.
abbrev pub place_weight : ℕ → ℕ → ℕ
place_weight name place = mixed name place % 4093

-- The values of the problem's variables, from number i on.
abbrev pub value_slots : ℕ → List Term → List Slot
value_slots i [] = []
value_slots i (t ∷ ts) = record { weight = place_weight 1 i; value = t } ∷ value_slots (suc i) ts

-- The variable number i of these declarations.
abbrev pub declared_variable : ℕ → Declaration → Variable
declared_variable i d = record { sort = d.sort; number = i }

-- The values of the declared variables, from number i on, that are among the variables xs.
abbrev pub declared_slots : ℕ → List Variable → Substitution → ℕ → List Declaration → List Slot
declared_slots name xs s i [] = []
declared_slots name xs s i (d ∷ ds) = if has_variable xs (declared_variable i d)
    then record { weight = place_weight name i; value = apply_to s (variable_term (declared_variable i d)) } ∷ declared_slots name xs s (suc i) ds
    else declared_slots name xs s (suc i) ds

-- The values, under a substitution, of the variables that occur in a prefix of a role.
abbrev pub prefix_slots : Role → ℕ → Substitution → List Slot
prefix_slots role height s = declared_slots (text_number 1 role.name) (variables_of_prefix role height) s 0 role.variables

-- The values of the variables that occur in the prefix of a role strand.
abbrev pub strand_slots : SkeletonStrand → List Slot
strand_slots (instance role height terms) = prefix_slots role height (as_substitution terms)
strand_slots (listener t) = []

-- Lists of places, strung together.
abbrev pub strung : List (List Slot) → List Slot
strung [] = []
strung (xs ∷ xss) = xs ++ strung xss

-- The values of the problem's variables, and of the role strands' own.
abbrev pub slots_of : Skeleton → List Slot
slots_of k = value_slots 0 k.from_problem.values ++ strung (map strand_slots k.strands)

-- The places of each strand that the program holds, as lists.
abbrev pub lists_of : {A : Type 0} → List (Vec Slot A) → List (List Slot)
lists_of = map (λ v. v.items)

-- The greatest number that is kept.
abbrev pub kept : ℕ → ℕ
kept n = min n (2 ^ 64 - 1)

-- With n, how much the places weigh at which a value stands.
abbrev pub weight_from : ℕ → Term → List Slot → ℕ
weight_from n t [] = n
weight_from n t (x ∷ xs) = weight_from (if same_term x.value t then kept (n + x.weight) else n) t xs

-- With n, how much the places weigh at which the names of a key stand: of a long-term key its second name counts twice, so that
-- most keys are told apart that have the same names in another order.
abbrev pub named_from : ℕ → Term → List Slot → ℕ
named_from n (atom_term (key_term (symmetric_term (ltk_term a b)))) all =
    weight_from (weight_from (weight_from n (atom_term (name_variable a)) all) (atom_term (name_variable b)) all) (atom_term (name_variable b)) all
named_from n (atom_term (key_term (asymmetric_term flag (pubk_term purpose a)))) all = weight_from n (atom_term (name_variable a)) all
named_from n _ all = n

-- What the listeners hear.
abbrev pub listened : List SkeletonStrand → List (Event Term)
listened [] = []
listened (instance role height terms ∷ ss) = listened ss
listened (listener t ∷ ss) = recv t ∷ listened ss

-- The value is no text, datum, name or symmetric key that is a variable, or it is one of these variables.
abbrev pub is_heard : List Variable → Term → Bool
is_heard xs (tag_term bytes) = true
is_heard xs (atom_term (text_variable n)) = has_variable xs (record { sort = text_sort; number = n })
is_heard xs (atom_term (datum_variable n)) = has_variable xs (record { sort = datum_sort; number = n })
is_heard xs (atom_term (name_variable n)) = has_variable xs (record { sort = name_sort; number = n })
is_heard xs (atom_term (key_term (symmetric_term (skey_variable n)))) = has_variable xs (record { sort = skey_sort; number = n })
is_heard xs (atom_term (key_term (symmetric_term (ltk_term a b)))) = true
is_heard xs (atom_term (key_term (asymmetric_term flag k))) = true
is_heard xs (pair_term t u) = true
is_heard xs (enc_term t k) = true

-- How much it weighs that listeners hear the value.
abbrev pub heard_weight : List (Event Term) → Term → ℕ
heard_weight es t = if is_heard (variables_of_trace es) t then 4099 else 0

-- How much a value weighs: that it is heard, the places of its names, where it is a key, and its own places.
abbrev pub value_weight : List (Event Term) → List Slot → Term → ℕ
value_weight es all t = weight_from (named_from (heard_weight es t) t all) t all

-- The weight of a place, as often as its value weighs.
abbrev pub part_of : List (Event Term) → List Slot → Slot → ℕ
part_of es all x = kept (x.weight * value_weight es all x.value)

-- With n, how much the places xs share with all places: their parts, added up.
abbrev pub share_from : ℕ → List (Event Term) → List Slot → List Slot → ℕ
share_from n es all [] = n
share_from n es all (x ∷ xs) = share_from (kept (n + part_of es all x)) es all xs

-- A number as often as 2 ^ 16 goes into it: the more, the greater the number, and faster than it.
abbrev pub steepened : ℕ → ℕ
steepened n = kept (n * (n / 65536))

-- How much these places share with all places, steepened.
abbrev pub steep_share : List (Event Term) → List Slot → List Slot → ℕ
steep_share es all xs = steepened (share_from 0 es all xs)

-- The place, which weighs the more the less it did.
abbrev pub turned : Slot → Slot
turned x = record { weight = 4093 - x.weight; value = x.value }

-- How much these places share with all places, if light ones count for more.
abbrev pub light_share : List (Event Term) → List Slot → List Slot → ℕ
light_share es all xs = share_from 0 es all (map turned xs)

-- With n, a number for each of these lists, added up.
abbrev pub added_from : (List Slot → ℕ) → ℕ → List (List Slot) → ℕ
added_from f n [] = n
added_from f n (xs ∷ xss) = added_from f (kept (n + f xs)) xss

-- How much the places of the problem's variables share, and for each role strand how much its own places share, steepened, all
-- added up. A plain sum would be the same however the places that share are spread over the strands.
abbrev pub bucket_key_of : Skeleton → ℕ
bucket_key_of k =
    let es = listened k.strands in
    let all = slots_of k in
    added_from (steep_share es all) (share_from 0 es all (value_slots 0 k.from_problem.values)) (map strand_slots k.strands)

-- For each role strand how much its own places share, light ones counting for more, all added up. Of two skeletons in which the same
-- values stand at other places, one may have the greater bucket key; the other mostly has the greater light share.
abbrev pub light_share_of : Skeleton → ℕ
light_share_of k = added_from (light_share (listened k.strands) (slots_of k)) 0 (map strand_slots k.strands)
