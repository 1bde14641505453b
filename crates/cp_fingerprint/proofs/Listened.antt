-- What listeners hear of an embedded skeleton is heard where it goes.
use Rattle.std.proofs.Common.{◌≡◌, ◌≤◌, ℕ, zero, suc, Bool, true, false, if◌then◌else◌, List, [], ◌∷◌, ◌++◌, refl, sym, subst, arith, ⊎_elim}
use Rattle.std.specs.Prelude.{Some}
use Rattle.cp_lists.specs.Lists.{item_at, IsIn, here}
use Rattle.cp_lists.proofs.Members.{in_append, in_append_left, in_append_right}
use Rattle.cp_model.specs.Term.{SymmetricTerm, skey_variable, ltk_term, symmetric_term, asymmetric_term, text_variable, datum_variable, name_variable, key_term, Term, tag_term, atom_term, pair_term, enc_term, variables_of, variables_of_atom, apply_to, variable_term}
use Rattle.cp_model.specs.declared.sort.Sort.TheVariants.{Text as text_sort, Datum as datum_sort, Name as name_sort, Skey as skey_sort}
use Rattle.cp_model.specs.declared.variable.Variable.{Variable}
use Rattle.cp_model.specs.Strand.{variables_of_trace}
use Rattle.cp_model.specs.declared.strand.Event.TheVariants.{Receive as recv}
use Rattle.cp_model.specs.Skeleton.{SkeletonStrand, instance, listener, Skeleton}
use Rattle.cp_model.specs.Homomorphism.{SkeletonMap, IsEmbedding}
use Rattle.cp_model.specs.Same.{has_variable}
use Rattle.cp_model.proofs.SameTests.{variable_in, in_has_variable}
use Rattle.cp_model.proofs.OccurringVariables.{in_trace_under}
use Rattle.cp_fingerprint.specs.SharedValues.{listened, is_heard, heard_weight}

record IsHeardAt (ss : List SkeletonStrand) (x : Variable) : Type 0 where
  place : ℕ
  message : Term
  at : item_at ss place ≡ Some (listener message)
  occurs : IsIn x (variables_of message)

later : (s : SkeletonStrand) (ss : List SkeletonStrand) (x : Variable) → IsHeardAt ss x → IsHeardAt (s ∷ ss) x
later s ss x h = record { place = suc h.place; message = h.message; at = h.at; occurs = h.occurs }

heard_somewhere : (ss : List SkeletonStrand) (x : Variable) → IsIn x (variables_of_trace (listened ss)) → IsHeardAt ss x
heard_somewhere [] x p = elim p [ ]
heard_somewhere (instance role height terms ∷ ss) x p = later (instance role height terms) ss x (heard_somewhere ss x p)
heard_somewhere (listener t ∷ ss) x p =
    ⊎_elim (λ q. record { place = 0; message = t; at = refl; occurs = q }) (λ q. later (listener t) ss x (heard_somewhere ss x q)) (in_append (variables_of t) (variables_of_trace (listened ss)) p)

heard_of : (ss : List SkeletonStrand) (i : ℕ) (t : Term) (x : Variable) → item_at ss i ≡ Some (listener t) → IsIn x (variables_of t) → IsIn x (variables_of_trace (listened ss))
heard_of [] i t x at p = absurd (cc)
heard_of (s ∷ ss) zero t x at p = let e : listener t ≡ s = cc in subst (λ (r : SkeletonStrand). IsIn x (variables_of_trace (listened (r ∷ ss)))) e (in_append_left (variables_of_trace (listened ss)) p)
heard_of (instance role height terms ∷ ss) (suc i) t x at p = heard_of ss i t x at p
heard_of (listener u ∷ ss) (suc i) t x at p = in_append_right (variables_of u) (heard_of ss i t x at p)

module _ (a b : Skeleton) (f : SkeletonMap) (emb : IsEmbedding a b f) where
  abbrev own : List Variable
  own = variables_of_trace (listened a.strands)

  abbrev theirs : List Variable
  theirs = variables_of_trace (listened b.strands)

  heard_there : (x y : Variable) → IsIn x own → IsIn y (variables_of (apply_to f.terms (variable_term x))) → IsIn y theirs
  heard_there x y p q =
      let h = heard_somewhere a.strands x p in
      let in_one : IsIn y (variables_of (apply_to f.terms h.message) ++ []) = in_trace_under f.terms (recv h.message ∷ []) x y (in_append_left [] h.occurs) q in
      heard_of b.strands (f.strands h.place) (apply_to f.terms h.message) y (emb.homomorphism.listeners h.place h.message h.at)
      (⊎_elim (λ r. r) (λ r. elim r [ ]) (in_append (variables_of (apply_to f.terms h.message)) [] in_one))

  by_variable : (x y : Variable) → IsIn y (variables_of (apply_to f.terms (variable_term x))) → has_variable own x ≡ true → has_variable theirs y ≡ true
  by_variable x y q e = in_has_variable theirs y (heard_there x y (variable_in own x e) q)

  of_skey : (k : SymmetricTerm) → ((m : ℕ) → k ≡ skey_variable m → has_variable theirs (record { sort = skey_sort; number = m }) ≡ true) → is_heard theirs (atom_term (key_term (symmetric_term k))) ≡ true
  of_skey (skey_variable m) h = h m refl
  of_skey (ltk_term c d) h = refl

  still_heard : (t : Term) → is_heard own t ≡ true → is_heard theirs (apply_to f.terms t) ≡ true
  still_heard (tag_term bytes) e = refl
  still_heard (atom_term (text_variable n)) e = by_variable (record { sort = text_sort; number = n }) (record { sort = text_sort; number = f.terms.texts n }) here e
  still_heard (atom_term (datum_variable n)) e = by_variable (record { sort = datum_sort; number = n }) (record { sort = datum_sort; number = f.terms.datums n }) here e
  still_heard (atom_term (name_variable n)) e = by_variable (record { sort = name_sort; number = n }) (record { sort = name_sort; number = f.terms.names n }) here e
  still_heard (atom_term (key_term (symmetric_term (skey_variable n)))) e =
      of_skey (f.terms.skeys n)
      (λ m k. by_variable (record { sort = skey_sort; number = n }) (record { sort = skey_sort; number = m })
      (subst (λ (s : SymmetricTerm). IsIn (record { sort = skey_sort; number = m }) (variables_of_atom (key_term (symmetric_term s)))) (sym k) here) e)
  still_heard (atom_term (key_term (symmetric_term (ltk_term c d)))) e = refl
  still_heard (atom_term (key_term (asymmetric_term flag k))) e = refl
  still_heard (pair_term t u) e = refl
  still_heard (enc_term t k) e = refl

  more_if : (p q : Bool) → (p ≡ true → q ≡ true) → (if p then 4099 else 0) ≤ (if q then 4099 else 0)
  more_if true true on = omega arith
  more_if true false on = absurd (let h : false ≡ true = on refl in cc)
  more_if false q on = omega arith

  pub heard_more : (t : Term) → heard_weight (listened a.strands) t ≤ heard_weight (listened b.strands) (apply_to f.terms t)
  heard_more t = more_if (is_heard own t) (is_heard theirs (apply_to f.terms t)) (still_heard t)

pub heard_within : (xs : List Variable) (t : Term) → (if is_heard xs t then 4099 else 0) ≤ 18446744073709551615
heard_within xs t = by (is_heard xs t)
  where
    by : (c : Bool) → (if c then 4099 else 0) ≤ 18446744073709551615
    by true = omega arith
    by false = omega arith
