-- Strands for which no choice is left.
use Rattle.std.proofs.Common.{◌≡◌, ℕ, ◌<◌, Bool, true, not, length, Option, Some, None, sym, ap, arith}
use Rattle.std.specs.Prelude.{MatchOption}
use Rattle.std.specs.Option.{is_some}
use Rattle.cp_model.specs.Skeleton.{Skeleton}
use Rattle.cp_model.proofs.CarriedParts.{not_both}
use Rattle.cp_hom.specs.PartialMaps.{PartialMap}
use Rattle.cp_hom.specs.Choices.{ArePassed, IsNextChoice}
use Rattle.cp_hom.specs.OpenMaps.{NeverEmbeds}
use Rattle.cp_hom.specs.declared.items.Kind.TheVariants.{Strands}
use Rattle.cp_hom.specs.declared.items.Item.{Item}
use Rattle.cp_hom.specs.declared.known.Choice.{Choice}
use Rattle.cp_hom.proofs.Embedded.{item_taken}

abbrev strand_item : ℕ → Item
strand_item i = record { kind = Strands; index = i }

pub none_taken : (a b : Skeleton) (i : ℕ) (given : PartialMap) (found : Option Choice) (none : Bool) → is_some found ≡ not none → none ≡ true → i < length a.strands →
    MatchOption found (ArePassed a b (record { kind = Strands; index = i }) given 0 (length b.strands)) (IsNextChoice a b (record { kind = Strands; index = i }) given 0) → NeverEmbeds a b given
none_taken a b i given (Some choice) none is e l h = absurd (not_both (ap not e) (sym is))
none_taken a b i given None none is e l h = λ f follows embedding.
    let t = item_taken a b f embedding (strand_item i) l in
    h t.0 (omega arith) t.1 f follows t.2
