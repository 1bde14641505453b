-- Tests of members, of carried values and of the order, exactly.
use Rattle.std.proofs.Common.{◌≡◌, ℕ, List, [], map, Bool, true, false, not, ◌&&◌, refl, sym, ap, ◌∙◌}
use Rattle.std.specs.Prelude.{Some, None}
use Rattle.std.proofs.lemmas.Bool.Decides.{same_from_decides}
use Rattle.cp_lists.specs.Lists.{item_at, IsIn}
use Rattle.cp_lists.proofs.Items.{map_of_item, map_none}
use Rattle.cp_model.specs.Term.{AtomTerm, Term}
use Rattle.cp_model.specs.declared.strand.Event.{Event}
use Rattle.cp_model.specs.Skeleton.{UniqueAt}
use Rattle.cp_model.specs.Given.{has_atom, has_unique}
use Rattle.cp_model.proofs.Gathered.{atoms, uniques}
use Rattle.cp_report.specs.Skeletons.{carries_value}

pub exact-atom : (b : Bool) (vs : List AtomTerm) (v : AtomTerm) → (b ≡ true → IsIn v vs) → (IsIn v vs → b ≡ true) → b ≡ has_atom vs v
exact-atom b vs v f g = same_from_decides b (has_atom vs v) (f, g) (atoms.found vs v, atoms.finds vs v)

pub exact-unique : (b : Bool) (us : List UniqueAt) (u : UniqueAt) → (b ≡ true → IsIn u us) → (IsIn u us → b ≡ true) → b ≡ has_unique us u
exact-unique b us u f g = same_from_decides b (has_unique us u) (f, g) (uniques.found us u, uniques.finds us u)

-- ---- the order

pub on-one-strand : (a b c : Bool) → a ≡ true → false ≡ (not a && b && c)
on-one-strand true b c h = refl
on-one-strand false b c h = absurd (cc)

pub not-there : (a b c : Bool) → b ≡ false → false ≡ (not a && b && c)
not-there true b c h = refl
not-there false true c h = absurd (cc)
not-there false false c h = refl

pub led-to : (a b c : Bool) → a ≡ false → b ≡ true → c ≡ (not a && b && c)
led-to true b c h i = absurd (cc)
led-to false true c h i = refl
led-to false false c h i = absurd (cc)

-- ---- the event at a place

pub sent-there : (f : Event Term → Event Term) (es plain : List (Event Term)) (i : ℕ) (e : Event Term) (v : AtomTerm) → es ≡ plain → Some e ≡ item_at es i → carries_value v (Some (f e)) ≡ carries_value v (item_at (map f plain) i)
sent-there f es plain i e v same is = ap (carries_value v) (sym (map_of_item f plain i e (sym (is ∙ ap (λ xs. item_at xs i) same))))

pub none-sent : (f : Event Term → Event Term) (es plain : List (Event Term)) (i : ℕ) (v : AtomTerm) → es ≡ plain → None ≡ item_at es i → false ≡ carries_value v (item_at (map f plain) i)
none-sent f es plain i v same is = ap (carries_value v) (sym (map_none f plain i (sym (is ∙ ap (λ xs. item_at xs i) same))))
