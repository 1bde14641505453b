-- The events of instances, by the terms of the program's lists.
use Rattle.std.proofs.Common.{◌≡◌, ◌<◌, ℕ, zero, suc, List, [], ◌∷◌, Some, map, take, ap, refl, sym, ◌∙◌}
use Rattle.std.specs.Prelude.{None}
use Rattle.cp_lists.specs.Lists.{item_at}
use Rattle.cp_lists.proofs.Items.{take_of_item, map_of_item}
use Rattle.cp_model.specs.Term.{Term, Substitution, apply_to}
use Rattle.cp_model.specs.Values.{substitution_by}
use Rattle.cp_model.specs.Strand.{event_map, prefix_of}
use Rattle.cp_model.specs.declared.strand.Event.{Event}
use Rattle.cp_model.specs.Skeleton.{skeleton_trace}
use Rattle.cp_model.proofs.DeclaredTerms.{bindings_are}
use Rattle.cp_strand.specs.View.{InstanceData, instance_view}

-- The events of an instance are those of its prefix under its list of terms.
instance_trace : (i : InstanceData) → skeleton_trace (instance_view i) ≡ map (event_map (apply_to (substitution_by i.values))) (prefix_of i.role i.height)
instance_trace i = ap (λ (s : Substitution). map (event_map (apply_to s)) (prefix_of i.role i.height)) (bindings_are i.values)

-- Below its height an instance has the event of its role under its terms.
pub instance_event_is : (i : InstanceData) (es : List (Event Term)) (n : ℕ) (e new : Event Term) → es ≡ i.role.trace → n < i.height → Some e ≡ item_at es n →
    new ≡ event_map (apply_to (substitution_by i.values)) e → Some new ≡ item_at (skeleton_trace (instance_view i)) n
instance_event_is i es n e new own below there_is is =
    let listed : item_at i.role.trace n ≡ Some e = ap (λ xs. item_at xs n) (sym own) ∙ sym there_is in
    let taken : item_at (prefix_of i.role i.height) n ≡ Some e = take_of_item i.height i.role.trace n e below listed in
    ap Some is ∙ sym (map_of_item (event_map (apply_to (substitution_by i.values))) (prefix_of i.role i.height) n e taken) ∙ ap (λ xs. item_at xs n) (sym (instance_trace i))

none_of_map : (f : Event Term → Event Term) (es : List (Event Term)) (h n : ℕ) → None ≡ item_at es n → None ≡ item_at (map f (take h es)) n
none_of_map f [] zero n e = e
none_of_map f [] (suc h) n e = e
none_of_map f (x ∷ es) zero n e = nothing n
  where
    nothing : (m : ℕ) → None ≡ item_at (map f (take zero (x ∷ es))) m
    nothing m = refl
none_of_map f (x ∷ es) (suc h) zero e = absurd (cc)
none_of_map f (x ∷ es) (suc h) (suc n) e = none_of_map f es h n e

-- Where its role has no event, an instance has none.
pub no_instance_event : (i : InstanceData) (es : List (Event Term)) (n : ℕ) → es ≡ i.role.trace → None ≡ item_at es n → None ≡ item_at (skeleton_trace (instance_view i)) n
no_instance_event i es n own none =
    none_of_map (event_map (apply_to (substitution_by i.values))) i.role.trace i.height n (none ∙ ap (λ xs. item_at xs n) own) ∙ ap (λ xs. item_at xs n) (sym (instance_trace i))

-- The events of the prefix under its terms are those of the instance.
pub all_instance_events : (i : InstanceData) (es made : List (Event Term)) → es ≡ prefix_of i.role i.height →
    made ≡ map (event_map (apply_to (substitution_by i.values))) es → made ≡ skeleton_trace (instance_view i)
all_instance_events i es made own all = all ∙ ap (map (event_map (apply_to (substitution_by i.values)))) own ∙ sym (instance_trace i)
