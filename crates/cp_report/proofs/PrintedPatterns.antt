-- A pattern as a report prints it fits, and is read back as the same pattern.
use Rattle.std.proofs.Common.{◌≡◌, ℕ, ◌+◌, ◌<◌, List, [], ◌∷◌, ◌++◌, length, Bool, true, false, refl, sym, ap, ◌∙◌, subst, arith}
use Rattle.std.specs.Prelude.{Option, Some, None, codes}
use Rattle.cp_base.specs.declared.place.Place.{Place}
use Rattle.cp_lists.specs.Lists.{item_at, IsIn}
use Rattle.cp_lists.proofs.Items.{at_place, item_below, place_of as place_in}
use Rattle.cp_model.specs.Term.{Term, variables_of, apply_to}
use Rattle.cp_model.specs.declared.variable.Variable.{Variable}
use Rattle.cp_model.specs.declared.variable.Declaration.{Declaration}
use Rattle.cp_model.specs.Pattern.{IsEncryption, IsPattern}
use Rattle.cp_model.specs.Stated.{IsImageOfOne, AreImages}
use Rattle.cp_model.specs.Tree.{Pattern}
use Rattle.cp_model.specs.Same.{has_variable}
use Rattle.cp_model.proofs.SameTests.{variable_in, in_has_variable}
use Rattle.cp_sexpr.specs.Syntax.{Form}
use Rattle.cp_language.specs.Faults.{place_of}
use Rattle.cp_language.specs.Printed.{variable, term_form, locals_in_order, place_among, local_or_name, pattern_form}
use Rattle.cp_report.specs.Misfits.{misfit_unless}
use Rattle.cp_report.specs.Heads.{has_head}
use Rattle.cp_report.specs.Spelled.{Scope, place_of_local, term_misfits, term_in, locals_in, clash_misfits, locals_onto, pattern_scope, pattern_misfits, variables_of_locals, pattern_of}
use Rattle.cp_report.specs.UpToNames.{renamed, renaming, IsOneToOne, IsSamePattern}
use Rattle.cp_report.proofs.SpelledTerms.{StandsFor, local_stands, printed_term_fits}
use Rattle.cp_report.proofs.PatternLocals.{all_pieces, term_pieces, piece_of, piece_is, not_placed, placed_at, place_holds, order_new, order_apart, order_all, numbered_locals, place_back, no_clash_in, locals_read, read_variable, variable_read}

-- The number of a variable in a pattern: locals are numbered behind the label's variables.
abbrev pub local_number : (Variable → ℕ) → ℕ → Variable → Option ℕ → ℕ
local_number number m x None = number x
local_number number m x (Some i) = m + i

module _ (named : Variable → Form) (plain : (x : Variable) → locals_in (named x) ≡ []) (number : Variable → ℕ) (ds : List Declaration) (p : Pattern) (is : IsPattern p) where
  abbrev order : List Variable
  order = locals_in_order p.locals [] (variables_of p.term)

  abbrev with_locals : Variable → ℕ
  with_locals x = local_number number (length ds) x (place_among 0 order x)

  abbrev printed_name : Variable → Form
  printed_name x = local_or_name named x (place_among 0 order x)

  abbrev scope : Scope
  scope = record { variables = ds; in_pattern = true; locals = numbered_locals 0 order }

  within : (y : Variable) → has_variable order y ≡ true → has_variable p.locals y ≡ true
  within y h = (order_new p.locals (variables_of p.term) [] y (variable_in order y h)).0

  -- ---- the locals are read in their order

  pieces : locals_in (pattern_form named p) ≡ all_pieces (λ x. piece_of x (place_among 0 order x)) (variables_of p.term)
  pieces = term_pieces printed_name (λ x. piece_of x (place_among 0 order x)) (λ x. piece_is named plain x (place_among 0 order x)) p.term

  locals_are : locals_onto [] (locals_in (pattern_form named p)) ≡ numbered_locals 0 order
  locals_are = ap (locals_onto []) pieces ∙ locals_read p.locals order (order_apart p.locals (variables_of p.term) []) within (variables_of p.term) refl

  scope_is : pattern_scope ds (pattern_form named p) ≡ scope
  scope_is = λ i. record { variables = ds; in_pattern = true; locals = locals_are i }

  clash_free : clash_misfits [] (locals_in (pattern_form named p)) ≡ []
  clash_free = ap (clash_misfits []) pieces ∙ no_clash_in p.locals order (order_apart p.locals (variables_of p.term) []) within (variables_of p.term)

  -- ---- where a local stands

  module _ (stands : (x : Variable) → IsIn x (variables_of p.term) → (IsIn x p.locals → ⊥) → StandsFor scope (named x) (renamed number x)) where
    no_place_of : (x : Variable) → IsIn x (variables_of p.term) → place_among 0 order x ≡ None → IsIn x p.locals → ⊥
    no_place_of x m e l =
        let r = place_in (order_all p.locals (variables_of p.term) [] x m (in_has_variable p.locals x l) refl) in
        let q : None ≡ Some (0 + r.0) = sym e ∙ placed_at 0 order r.0 x (order_apart p.locals (variables_of p.term) []) r.1 in
        absurd (cc)

    each_stands : (x : Variable) → IsIn x (variables_of p.term) → StandsFor scope (printed_name x) (renamed with_locals x)
    each_stands x m = by (place_among 0 order x) refl
      where
        by : (o : Option ℕ) → place_among 0 order x ≡ o → StandsFor scope (local_or_name named x o) (variable x.sort (local_number number (length ds) x o))
        by None e = stands x m (no_place_of x m e)
        by (Some i) e =
            let r = place_holds 0 order x i e in
            let j : ℕ = r.0 in
            let z : i ≡ 0 + j = r.1 in
            let w : 0 + j ≡ i = sym z in
            let same : j ≡ i = omega (arith, z) in
            let back : place_of_local (numbered_locals 0 order) i ≡ i = subst (λ (k : ℕ). place_of_local (numbered_locals 0 order) k ≡ j) w (place_back 0 order j (item_below order j x r.2)) ∙ same in
            subst (λ (k : ℕ). StandsFor scope (local_or_name named x (Some i)) (variable x.sort (length ds + k))) back (local_stands ds (numbered_locals 0 order) x.sort i)

    term_fits : term_misfits scope (pattern_form named p) ≡ []
    term_fits = (printed_term_fits scope printed_name with_locals p.term each_stands).0

    encrypts : has_head (codes "enc" ∷ []) (pattern_form named p) ≡ true
    encrypts = by p.term is.encryption
      where
        by : (t : Term) → IsEncryption t → has_head (codes "enc" ∷ []) (term_form printed_name t) ≡ true
        by t e = ap (λ (u : Term). has_head (codes "enc" ∷ []) (term_form printed_name u)) e.encrypted

    -- A pattern as it is printed fits.
    pub pattern_fits : pattern_misfits ds (pattern_form named p) ≡ []
    pattern_fits =
        ap (λ (b : Bool). misfit_unless b (place_of (pattern_form named p)) ++ term_misfits (pattern_scope ds (pattern_form named p)) (pattern_form named p) ++ clash_misfits [] (locals_in (pattern_form named p))) encrypts
        ∙ ap (λ (s : Scope). term_misfits s (pattern_form named p) ++ clash_misfits [] (locals_in (pattern_form named p))) scope_is
        ∙ ap (λ (ps : List Place). ps ++ clash_misfits [] (locals_in (pattern_form named p))) term_fits
        ∙ clash_free

    -- ---- it is the same pattern

    abbrev read : Pattern
    read = pattern_of ds (pattern_form named p)

    term_same : apply_to (renaming with_locals) p.term ≡ read.term
    term_same = sym (ap (λ (s : Scope). term_in s (pattern_form named p)) scope_is ∙ (printed_term_fits scope printed_name with_locals p.term each_stands).1)

    read_locals : read.locals ≡ variables_of_locals (length ds) (numbered_locals 0 order)
    read_locals = ap (variables_of_locals (length ds)) locals_are

    -- the number of a local
    local_at : (x : Variable) → IsIn x p.locals → (j : ℕ) × (item_at order j ≡ Some x) × (with_locals x ≡ length ds + j)
    local_at x l =
        let r = place_in (order_all p.locals (variables_of p.term) [] x (is.locals_occur x l) (in_has_variable p.locals x l) refl) in
        let j : ℕ = r.0 in
        let z : 0 + j ≡ j = omega arith in
        (j, r.1, ap (local_number number (length ds) x) (placed_at 0 order j x (order_apart p.locals (variables_of p.term) []) r.1) ∙ ap (λ (k : ℕ). length ds + k) z)

    locals_same : AreImages (renamed with_locals) p.locals read.locals
    locals_same y = (forth, back)
      where
        forth : IsIn y read.locals → IsImageOfOne (renamed with_locals) p.locals y
        forth m =
            let r = read_variable (length ds) 0 order y (subst (λ (ys : List Variable). IsIn y ys) read_locals m) in
            let x : Variable = r.1 in
            let l : IsIn x p.locals = variable_in p.locals x (within x (in_has_variable order x (at_place order r.0 x r.2))) in
            let z : 0 + r.0 ≡ r.0 = omega arith in
            let n : with_locals x ≡ length ds + r.0 = ap (local_number number (length ds) x) (placed_at 0 order r.0 x (order_apart p.locals (variables_of p.term) []) r.2) ∙ ap (λ (k : ℕ). length ds + k) z in
            record { item = x; listed = l; image = ap (λ (k : ℕ). variable x.sort k) n ∙ sym r.3 }

        back : IsImageOfOne (renamed with_locals) p.locals y → IsIn y read.locals
        back one =
            let a = local_at one.item one.listed in
            let e : variable one.item.sort (length ds + a.0) ≡ y = sym (ap (λ (k : ℕ). variable one.item.sort k) a.2) ∙ one.image in
            subst (λ (ys : List Variable). IsIn y ys) (sym read_locals) (subst (λ (z : Variable). IsIn z (variables_of_locals (length ds) (numbered_locals 0 order))) e (variable_read (length ds) 0 order a.0 one.item a.1))

    module _ (small : (x : Variable) → IsIn x (variables_of p.term) → (IsIn x p.locals → ⊥) → number x < length ds)
        (one : (x y : Variable) → IsIn x (variables_of p.term) → IsIn y (variables_of p.term) → (IsIn x p.locals → ⊥) → (IsIn y p.locals → ⊥) → renamed number x ≡ renamed number y → x ≡ y) where
      one_to_one : IsOneToOne with_locals (variables_of p.term)
      one_to_one x y m l e = by (place_among 0 order x) refl (place_among 0 order y) refl
          (ap (λ (v : Variable). v.sort) e) (ap (λ (v : Variable). v.number) e)
        where
          by : (o : Option ℕ) → place_among 0 order x ≡ o → (u : Option ℕ) → place_among 0 order y ≡ u → x.sort ≡ y.sort → local_number number (length ds) x o ≡ local_number number (length ds) y u → x ≡ y
          by None p None q s n = one x y m l (no_place_of x m p) (no_place_of y l q) (λ i. variable (s i) (n i))
          by None p (Some j) q s n = let less : number x < length ds = small x m (no_place_of x m p) in absurd (omega (arith, n, less))
          by (Some i) p None q s n = let less : number y < length ds = small y l (no_place_of y l q) in absurd (omega (arith, n, less))
          by (Some i) p (Some j) q s n =
              let a = place_holds 0 order x i p in
              let b = place_holds 0 order y j q in
              let r : a.0 ≡ b.0 = omega (arith, n, a.1, b.1) in
              let w : Some x ≡ Some y = sym a.2 ∙ ap (item_at order) r ∙ b.2 in
              cc

      -- A pattern as it is printed is read back as the same.
      pub pattern_back : IsSamePattern number p (pattern_of ds (pattern_form named p))
      pattern_back = record {
        with_locals = with_locals;
        one_to_one = one_to_one;
        others = λ x m other. plain_number x other;
        term = term_same;
        locals = locals_same;
      }
        where
          plain_number : (x : Variable) → (IsIn x p.locals → ⊥) → with_locals x ≡ number x
          plain_number x other = ap (local_number number (length ds) x) (not_placed 0 order x (none (has_variable order x) refl))
            where
              none : (b : Bool) → has_variable order x ≡ b → has_variable order x ≡ false
              none true h = absurd (other (variable_in p.locals x (within x h)))
              none false h = h
