-- What strands hold of instances, under substitutions.
use Rattle.std.specs.Prelude.{◌≡◌, map}
use Rattle.cp_model.specs.Term.{Substitution, apply_to_atom}
use Rattle.cp_strand.specs.declared.given.IndexedUnique.{IndexedUnique}
use Rattle.cp_strand.specs.declared.given.Given.{Given}

-- The index stays.
abbrev pub indexed_under : Substitution → IndexedUnique → IndexedUnique
indexed_under s u = record { value = apply_to_atom s u.value; index = u.index }

-- The values are those of the other under a substitution.
pub record IsGivenUnder (s : Substitution) (g h : Given) : Type 0 where
  pub non : h.non_originating.items ≡ map (apply_to_atom s) g.non_originating.items
  pub penetrator_non : h.penetrator_non_originating.items ≡ map (apply_to_atom s) g.penetrator_non_originating.items
  pub unique : h.uniquely_originating.items ≡ map (indexed_under s) g.uniquely_originating.items
