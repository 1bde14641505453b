-- The loop that solves the equations of the parts of two terms, one after the other.
use Rattle.std.proofs.Common.{◌≡◌, ◌⊎◌, inl, inr, Bool, true, false, List, ◌++◌, ap, ap₂}
use Rattle.cp_model.specs.Message.{pair, enc, key, atom}
use Rattle.cp_model.specs.Term.{KeyTerm, Term, tag_term, atom_term, pair_term, enc_term, variables_of_key, variables_of, Assignment, value_of_key, value_of}
use Rattle.cp_term.specs.Keys.{key_as_term}
use Rattle.cp_lists.proofs.Members.{in_append_left, in_append_right}
use Rattle.cp_unify.specs.Bindings.{Binding, variables_of_bindings}
use Rattle.cp_unify.specs.Sides.{ArePairs, AreEncryptions, AreApart}
use Rattle.cp_unify.specs.Solved.{IsSolved, IsSolution, SolvesBeside}
use Rattle.cp_unify.specs.Unifiers.{AreVariablesAmong, HasNoUnifier}
use Rattle.cp_unify.proofs.Members.{among_append, among_left, among_right}

-- The equation of s and t is that of their parts a and b and that of their parts c and d.
pub record AreSplit (s t a b c d : Term) : Type 0 where
  pub split : (g : Assignment) → value_of g s ≡ value_of g t → (value_of g a ≡ value_of g b) × (value_of g c ≡ value_of g d)
  pub joined : (g : Assignment) → value_of g a ≡ value_of g b → value_of g c ≡ value_of g d → value_of g s ≡ value_of g t
  pub first : AreVariablesAmong (variables_of a) (variables_of s)
  pub other_first : AreVariablesAmong (variables_of b) (variables_of t)
  pub rest : AreVariablesAmong (variables_of c) (variables_of s)
  pub other_rest : AreVariablesAmong (variables_of d) (variables_of t)

pairs_split : (a b c d : Term) → AreSplit (pair_term a c) (pair_term b d) a b c d
pairs_split a b c d = record {
  split = λ g e. let f : value_of g a ≡ value_of g b = cc in let h : value_of g c ≡ value_of g d = cc in (f, h);
  joined = λ g e f. ap₂ pair e f;
  first = among_left (variables_of a) (variables_of c);
  other_first = among_left (variables_of b) (variables_of d);
  rest = among_right (variables_of a) (variables_of c);
  other_rest = among_right (variables_of b) (variables_of d);
}

encryptions_split : (c d : Term) (k j : KeyTerm) → AreSplit (enc_term c k) (enc_term d j) (key_as_term k) (key_as_term j) c d
encryptions_split c d k j = record {
  split = λ g e. let f : value_of_key g k ≡ value_of_key g j = cc in let h : value_of g c ≡ value_of g d = cc in (ap (λ v. atom (key v)) f, h);
  joined = λ g e f. let h : value_of_key g k ≡ value_of_key g j = cc in ap₂ enc f h;
  first = among_right (variables_of c) (variables_of_key k);
  other_first = among_right (variables_of d) (variables_of_key j);
  rest = among_left (variables_of c) (variables_of_key k);
  other_rest = among_left (variables_of d) (variables_of_key j);
}

parts_split : (s t a b c d : Term) → ArePairs a b c d s t ⊎ AreEncryptions a b c d s t → AreSplit s t a b c d
parts_split s t a b c d (inl h) = rw (h.first, h.second) (pairs_split a b c d)
parts_split s t a b c d (inr h) = rw (h.first, h.second, h.is_key, h.is_other_key) (encryptions_split c d h.key h.other_key)

within : (s t a b : Term) (r q : List Binding) → AreVariablesAmong (variables_of a) (variables_of s) → AreVariablesAmong (variables_of b) (variables_of t) →
    AreVariablesAmong (variables_of_bindings q) (variables_of s ++ (variables_of t ++ variables_of_bindings r)) →
    AreVariablesAmong (variables_of a ++ (variables_of b ++ variables_of_bindings q)) (variables_of s ++ (variables_of t ++ variables_of_bindings r))
within s t a b r q f h k =
    among_append (variables_of a) _ _ (λ x i. in_append_left _ (f x i))
    (among_append (variables_of b) (variables_of_bindings q) _ (λ x i. in_append_right (variables_of s) (in_append_left _ (h x i))) k)

solved_parts : (s t a b c d : Term) (r next q : List Binding) → AreSplit s t a b c d → SolvesBeside a b r next → SolvesBeside c d next q → SolvesBeside s t r q
solved_parts s t a b c d r next q p h k = record {
  sound = λ g m. let n = k.sound g m in let o = h.sound g n.0 in (o.0, p.joined g o.1 n.1);
  general = λ g m e. let n = p.split g e in k.general g (h.general g m n.0) n.1;
  solved = k.solved;
  no_new = λ x i.
      let given : AreVariablesAmong (variables_of_bindings r) (variables_of s ++ (variables_of t ++ variables_of_bindings r)) =
      λ y j. in_append_right (variables_of s) (in_append_right (variables_of t) j) in
      let first : AreVariablesAmong (variables_of_bindings next) (variables_of s ++ (variables_of t ++ variables_of_bindings r)) =
      λ y j. within s t a b r r p.first p.other_first given y (h.no_new y j) in
      within s t c d r next p.rest p.other_rest first x (k.no_new x i);
}

-- What solves the equation of the terms that are left beside r, solves that of the whole terms beside s; and if nothing
-- does, nothing solves that.
pub record LeadsTo (a b : Term) (s : List Binding) (left right : Term) (r : List Binding) : Type 0 where
  pub solved : IsSolved r
  pub some : (q : List Binding) → SolvesBeside left right r q → SolvesBeside a b s q
  pub none : HasNoUnifier left right r → HasNoUnifier a b s

pub leads_first : (a b : Term) (s : List Binding) → IsSolved s → LeadsTo a b s a b s
leads_first a b s h = record { solved = h; some = λ q k. k; none = λ k. k }

pub is_solved : (a b : Term) (s r : List Binding) (same : Bool) → IsSolution same a b s r → same ≡ true → SolvesBeside a b s r
is_solved a b s r true h e = h
is_solved a b s r false h e = absurd (let f : false ≡ true = e in cc)

pub is_unsolvable : (a b : Term) (s r : List Binding) (same : Bool) → IsSolution same a b s r → same ≡ false → HasNoUnifier a b s
is_unsolvable a b s r true h e = absurd (let f : true ≡ false = e in cc)
is_unsolvable a b s r false h e = h

module _ (a b : Term) (s : List Binding) (left right : Term) (r : List Binding) (h : LeadsTo a b s left right r) where
  pub leads_on : (first other rest other_rest : Term) (next : List Binding) (same : Bool) →
      ArePairs first other rest other_rest left right ⊎ AreEncryptions first other rest other_rest left right →
      IsSolution same first other r next → same ≡ true → LeadsTo a b s rest other_rest next
  leads_on first other rest other_rest next same sides found e =
      let p : AreSplit left right first other rest other_rest = parts_split left right first other rest other_rest sides in
      let k : SolvesBeside first other r next = is_solved first other r next same found e in
      record {
        solved = k.solved;
        some = λ q m. h.some q (solved_parts left right first other rest other_rest r next q p k m);
        none = λ m. h.none (λ g n f. let o = p.split g f in m g (k.general g n o.0) o.1);
      }

  pub leads_nowhere : (first other rest other_rest : Term) (next : List Binding) (same : Bool) →
      ArePairs first other rest other_rest left right ⊎ AreEncryptions first other rest other_rest left right →
      IsSolution same first other r next → same ≡ false → HasNoUnifier a b s
  leads_nowhere first other rest other_rest next same sides found e =
      let p : AreSplit left right first other rest other_rest = parts_split left right first other rest other_rest sides in
      let k : HasNoUnifier first other r = is_unsolvable first other r next same found e in
      h.none (λ g n f. k g n (p.split g f).0)

  pub leads_to_end : (same : Bool) (q : List Binding) → IsSolution same left right r q → IsSolution same a b s q
  leads_to_end true q k = h.some q k
  leads_to_end false q k = h.none k

-- Terms of which one has parts without counterparts have no common value.
apart_values : (s t : Term) → AreApart s t → (g : Assignment) → value_of g s ≡ value_of g t → ⊥
apart_values (tag_term x) t h g e = h
apart_values (atom_term u) t h g e = h
apart_values (pair_term a b) (pair_term c d) h g e = h
apart_values (enc_term a k) (enc_term b j) h g e = h
apart_values (pair_term a b) (tag_term x) h g e = cc
apart_values (pair_term a b) (atom_term u) h g e = cc
apart_values (pair_term a b) (enc_term c k) h g e = cc
apart_values (enc_term a k) (tag_term x) h g e = cc
apart_values (enc_term a k) (atom_term u) h g e = cc
apart_values (enc_term a k) (pair_term b c) h g e = cc

pub leads_apart : (a b : Term) (s : List Binding) (left right : Term) (r : List Binding) → LeadsTo a b s left right r → AreApart left right → HasNoUnifier a b s
leads_apart a b s left right r h k = h.none (λ g m e. apart_values left right k g e)
