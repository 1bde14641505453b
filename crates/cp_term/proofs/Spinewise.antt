-- Terms under substitutions, as the code makes them.
use Rattle.std.proofs.Common.{◌≡◌, ◌≤◌, ℕ, Bool, true, List, [], ◌∷◌, ◌++◌, map, Option, refl, sym, ap, ◌∙◌, subst, arith}
use Rattle.std.specs.Prelude.{unwrap_or}
use Rattle.cp_model.specs.Term.{pubk_term, KeyTerm, asymmetric_term, Term, tag_term, atom_term, pair_term, enc_term, Substitution, apply_to_key, apply_to}
use Rattle.cp_term.specs.Keys.{key_as_term}
use Rattle.cp_term.specs.Size.{term_size}
use Rattle.cp_term.specs.Spines.{tail_of, SpineLeads, HasTail}

pub pubk_inverse : (s : Substitution) (flag : Bool) (p : Option (List ℕ)) (a b : ℕ) (t r : Term) → flag ≡ true → b ≡ s.names a →
    t ≡ key_as_term (asymmetric_term flag (pubk_term p a)) → r ≡ key_as_term (asymmetric_term true (pubk_term p b)) → r ≡ apply_to s t
pubk_inverse s flag p a b t r ef eb et er =
    er ∙ ap (λ (n : ℕ). key_as_term (asymmetric_term true (pubk_term p n))) eb
    ∙ sym (ap (apply_to s) (et ∙ ap (λ (f : Bool). key_as_term (asymmetric_term f (pubk_term p a))) ef))

-- Spines that are kept as a list of things that show terms.
pub leads_pushed : {A : Type 0} (f : A → Term) (xs : List A) (x : A) (t : Term) → SpineLeads (map f xs) t (f x) → HasTail (f x) →
    SpineLeads (map f (xs ++ x ∷ [])) t (tail_of (f x))
leads_pushed f [] x t h k = (h, k, refl)
leads_pushed f (y ∷ ys) x t h k = (h.0, h.1, leads_pushed f ys x (tail_of (f y)) h.2 k)

pub leads_popped : {A : Type 0} (f : A → Term) (xs : List A) (x : A) (t rest : Term) → SpineLeads (map f (xs ++ x ∷ [])) t rest →
    SpineLeads (map f xs) t (f x) × HasTail (f x) × (tail_of (f x) ≡ rest)
leads_popped f [] x t rest h = h
leads_popped f (y ∷ ys) x t rest h = let k = leads_popped f ys x (tail_of (f y)) rest h.2 in ((h.0, h.1, k.0), k.1, k.2)

tail_size : (t : Term) → term_size (tail_of t) ≤ term_size t
tail_size (tag_term bytes) = omega arith
tail_size (atom_term u) = omega arith
tail_size (pair_term a b) = omega arith
tail_size (enc_term a k) = omega arith

pub leads_size : (fs : List Term) (t rest : Term) → SpineLeads fs t rest → term_size rest ≤ term_size t
leads_size [] t rest h = omega (arith, ap term_size h)
leads_size (f ∷ fs) t rest h = omega (arith, leads_size fs (tail_of f) rest h.2, tail_size f, ap term_size h.0)

pub leads_on : {A : Type 0} (f : A → Term) (xs new : List A) (x : A) (t next : Term) → SpineLeads (map f xs) t (f x) → new ≡ xs ++ x ∷ [] →
    HasTail (f x) → tail_of (f x) ≡ next → SpineLeads (map f new) t next
leads_on f xs new x t next h e k n = rw (e, ← n) (leads_pushed f xs x t h k)

-- The topmost term of the spine that is left.
pub popped : {A : Type 0} (f : A → Term) (xs new : List A) (x : A) (t rest : Term) → SpineLeads (map f xs) t rest → xs ≡ new ++ x ∷ [] →
    SpineLeads (map f new) t (f x) × HasTail (f x) × (tail_of (f x) ≡ rest)
popped {A = A} f xs new x t rest h e = leads_popped f new x t rest (subst (λ (ys : List A). SpineLeads (map f ys) t rest) e h)

-- An encryption whose parts have become those under a substitution.
pub encryption_under : (s : Substitution) (above body key : Term) (new_key tail changed : Option Term) (k : KeyTerm) → key ≡ key_as_term k → above ≡ enc_term body k →
    unwrap_or new_key key ≡ apply_to s key → unwrap_or tail (tail_of above) ≡ apply_to s (tail_of above) →
    ((i j : KeyTerm) → key ≡ key_as_term i → unwrap_or new_key key ≡ key_as_term j → unwrap_or changed (enc_term body i) ≡ enc_term (unwrap_or tail body) j) →
    unwrap_or changed above ≡ apply_to s above
encryption_under s above body key new_key tail changed k ek ea new under_tail made =
    let tail_now : unwrap_or tail body ≡ apply_to s body = subst (λ (a : Term). unwrap_or tail (tail_of a) ≡ apply_to s (tail_of a)) ea under_tail in
    subst (λ (a : Term). unwrap_or changed a ≡ apply_to s a) (sym ea)
    (made k (apply_to_key s k) ek (new ∙ ap (apply_to s) ek) ∙ ap (λ (b : Term). enc_term b (apply_to_key s k)) tail_now)
