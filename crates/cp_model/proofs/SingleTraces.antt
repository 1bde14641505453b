-- Places of lists, and origination on values and on terms.
use Rattle.std.proofs.Common.{◌≡◌, ℕ, ◌<◌, ◌⊎◌, inl, inr, List, [], map, Some, refl, sym, ap, ◌∙◌, subst}
use Rattle.std.proofs.lemmas.Bool.{cases_order}
use Rattle.cp_model.specs.Message.{Message, atom, IsCarriedBy}
use Rattle.cp_model.specs.Term.{Variable, AtomTerm, Term, atom_term, value_of, value_of_atom, atoms_by, IsDistinct}
use Rattle.cp_model.specs.Strand.{Event, send, recv, payload, event_map, OriginatesIn, OriginatesInTerms}
use Rattle.cp_lists.proofs.Items.{map_of_item, item_of_map}
use Rattle.cp_model.proofs.LawEvents.{payload_map}
use Rattle.cp_model.proofs.CarriedValues.{carried_value}
use Rattle.cp_model.proofs.SingleValues.{carried_term}

-- What makes a transmission is one.
sent_of : {A B : Type 0} (f : A → B) (e : Event A) {m : B} → event_map f e ≡ send m → (t : A) × (e ≡ send t) × (f t ≡ m)
sent_of f (send t) {m} p = let q : f t ≡ m = cc in (t, refl, q)
sent_of f (recv t) p = absurd (cc)

-- A value originates at one place of a trace.
pub one_origin : {trace : List (Event Message)} {v : Message} {i j : ℕ} → OriginatesIn trace v i → OriginatesIn trace v j → i ≡ j
one_origin {trace} {v} {i} {j} a b = of (cases_order i j)
  where
    of : (i ≡ j) ⊎ ((i < j) ⊎ (j < i)) → i ≡ j
    of (inl e) = e
    of (inr (inl h)) = absurd (b.first i (send a.sent) h a.transmission a.carried)
    of (inr (inr h)) = absurd (a.first j (send b.sent) h b.transmission b.carried)

module _ (number : Variable → ℕ) (distinct : IsDistinct number) where
  -- An atom originates on the values of a trace where it originates on its terms, and nowhere else.
  pub origin_of_value : (es : List (Event Term)) (v : AtomTerm) (i : ℕ) →
      OriginatesIn (map (event_map (value_of (atoms_by number))) es) (atom (value_of_atom (atoms_by number) v)) i → OriginatesInTerms es (atom_term v) i
  origin_of_value es v i o =
      let g = atoms_by number in
      let a = item_of_map (event_map (value_of g)) es i _ o.transmission in
      let s = sent_of (value_of g) a.0 a.2 in
      record {
        sent = s.0;
        transmission = a.1 ∙ ap Some s.1;
        carried = carried_term number distinct v s.0 (subst (IsCarriedBy (atom (value_of_atom g v))) (sym s.2) o.carried);
        first = λ j e lt at c. o.first j (event_map (value_of g) e) lt (map_of_item (event_map (value_of g)) es j _ at)
            (subst (IsCarriedBy (atom (value_of_atom g v))) (sym (payload_map (value_of g) e)) (carried_value g c));
      }

  pub origin_of_term : (es : List (Event Term)) (v : AtomTerm) (i : ℕ) →
      OriginatesInTerms es (atom_term v) i → OriginatesIn (map (event_map (value_of (atoms_by number))) es) (atom (value_of_atom (atoms_by number) v)) i
  origin_of_term es v i o =
      let g = atoms_by number in
      record {
        sent = value_of g o.sent;
        transmission = map_of_item (event_map (value_of g)) es i _ o.transmission;
        carried = carried_value g o.carried;
        first = λ j e lt at c.
            let a = item_of_map (event_map (value_of g)) es j _ at in
            o.first j a.0 lt a.1 (carried_term number distinct v (payload a.0)
            (subst (IsCarriedBy (atom (value_of_atom g v))) (ap payload (sym a.2) ∙ payload_map (value_of g) a.0) c));
      }
