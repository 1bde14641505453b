-- Entries of lists one after another.
use Rattle.std.proofs.Common.{◌≡◌, ℕ, zero, suc, List, [], ◌∷◌, length, map, Vec, Global, refl, sym, ap, ◌∙◌, Bool, true, false, ◌||◌, arith}
use Rattle.std.specs.Prelude.{Option, nat_le}
use Rattle.std.proofs.Math.Dec.{leb-suc-zero, leb-suc-suc}
use Rattle.std.proofs.lemmas.Bool.{le-leb}
use Rattle.cp_base.specs.declared.place.Place.{Place}
use Rattle.cp_sexpr.specs.Syntax.{Form}
use Rattle.cp_sexpr.specs.View.{view}
use Rattle.cp_sexpr.specs.declared.form.Form as program
use Rattle.cp_report.specs.Misfits.{place_before, misfit, misfit_unless, lacking, entries_misfits, list_misfits}
use Rattle.cp_scope.proofs.Views.{view-List, items_of-forms_of}
use Rattle.cp_spelled.specs.FirstMisfit.{first_onto}
use Rattle.cp_scope.proofs.FirstOf.{first_onto-append}

pub or_false : (b : Bool) → b ≡ (b || false)
or_false true = refl
or_false false = refl

-- ---- too few

pub lacking-is : (n : ℕ) (at : Place) (fs : List program.Form) → misfit_unless (nat_le n (length fs)) at ≡ lacking n at (map view fs)
lacking-is zero at fs = ap (λ b. misfit_unless b at) (le-leb 0 (length fs) (omega arith))
lacking-is (suc n) at [] = ap (λ b. misfit_unless b at) (leb-suc-zero n)
lacking-is (suc n) at (f ∷ fs) = ap (λ b. misfit_unless b at) (leb-suc-suc n (length fs)) ∙ lacking-is n at fs

-- ---- as many as there are kinds

module _ (kind : Form → List Place) (kinds : List (Form → List Place)) (at : Place) where
  -- none is left
  pub entry-missing : (fs : List program.Form) (o p : Option Place) → fs ≡ [] → p ≡ first_onto o (misfit at) → p ≡ first_onto o (entries_misfits (kind ∷ kinds) at (map view fs))
  entry-missing fs o p e h = h ∙ ap (λ gs. first_onto o (entries_misfits (kind ∷ kinds) at (map view gs))) (sym e)

  -- one after another
  pub entry-taken : (fs gs : List program.Form) (f : program.Form) (o p q : Option Place) → fs ≡ f ∷ gs → p ≡ first_onto o (kind (view f)) → q ≡ first_onto p (entries_misfits kinds at (map view gs))
      → q ≡ first_onto o (entries_misfits (kind ∷ kinds) at (map view fs))
  entry-taken fs gs f o p q e g h =
      h ∙ ap (λ x. first_onto x (entries_misfits kinds at (map view gs))) g ∙ sym (first_onto-append place_before o (kind (view f)) (entries_misfits kinds at (map view gs)))
      ∙ ap (λ hs. first_onto o (entries_misfits (kind ∷ kinds) at (map view hs))) (sym e)

-- ---- a list

pub list-read : (inside : Place → List Form → List Place) (f : program.Form) (at : Place) (v : Vec program.Form Global) (fs : List program.Form) → f ≡ program.List at v → fs ≡ v.items → inside at (map view fs) ≡ list_misfits inside (view f)
list-read inside f at v fs e g =
    ap (λ gs. inside at (map view gs)) g ∙ ap (inside at) (sym (items_of-forms_of (map view v.items))) ∙ sym (ap (list_misfits inside) (ap view e ∙ view-List at v))
