-- What is asked only where nothing before does not fit.
use Rattle.std.proofs.Common.{◌≡◌, List, [], ◌∷◌, Bool, true, false, refl, sym, ap, ◌∙◌}
use Rattle.std.specs.Prelude.{Option, Some, None, is_none}
use Rattle.cp_base.specs.declared.place.Place.{Place}
use Rattle.cp_scope.proofs.FirstOf as first
use Rattle.cp_report.specs.Misfits.{place_before, unless_misfit}
use Rattle.cp_spelled.specs.FirstMisfit.{first_onto, merged, onto_none}
use Rattle.cp_spelled.proofs.Firsts.{merged-unless}

module _ (o i j k : Option Place) (b : Bool) (rs others : List Place) (found : i ≡ first_onto None rs) (test : b ≡ is_none i) (whole : k ≡ merged o j) where
  pub asked : b ≡ true → j ≡ first_onto i others → k ≡ first_onto o (unless_misfit rs others)
  asked h e = merged-unless o i j k rs others found (first.onto_none-there place_before i j others (sym test ∙ h) e) whole

  pub not-asked : b ≡ false → j ≡ i → k ≡ first_onto o (unless_misfit rs others)
  not-asked h e = merged-unless o i j k rs others found (first.onto_none-not place_before i j others (sym test ∙ h) e) whole

-- What is merged where none was before is itself.
pub by_itself : (j : Option Place) → j ≡ merged None j
by_itself None = refl
by_itself (Some p) = refl

unless-unless : (ps qs rs : List Place) → unless_misfit (unless_misfit ps qs) rs ≡ unless_misfit ps (unless_misfit qs rs)
unless-unless [] qs rs = refl
unless-unless (p ∷ ps) qs rs = refl

-- one after the other, each asked only where nothing before does not fit
pub unless-twice : (o i j k l : Option Place) (ps qs rs : List Place) → i ≡ first_onto None ps → j ≡ onto_none i qs → k ≡ onto_none j rs → l ≡ merged o k → l ≡ first_onto o (unless_misfit ps (unless_misfit qs rs))
unless-twice o i j k l ps qs rs e f g h =
    merged-unless o j k l (unless_misfit ps qs) rs (merged-unless None i j j ps qs e f (by_itself j)) g h ∙ ap (first_onto o) (unless-unless ps qs rs)
