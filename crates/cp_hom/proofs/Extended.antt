-- Partial maps that are found one after the other.
use Rattle.std.specs.Prelude.{Option, Some, None}
use Rattle.cp_model.specs.Homomorphism.{SkeletonMap}
use Rattle.cp_hom.specs.PartialMaps.{PartialMap, ExtendsPartial, IsConsistent, IsExtended, IsOfNoExtension, FindsMaps}
use Rattle.cp_hom.specs.declared.partials.Partial.{Partial}

pub finds_like : (e f : SkeletonMap → Type 0) (given : PartialMap) (answer : Option Partial) →
    ((g : SkeletonMap) → e g → f g) → ((g : SkeletonMap) → f g → e g) → FindsMaps e given answer → FindsMaps f given answer
finds_like e f given None up down h = λ g follows w. h g follows (down g w)
finds_like e f given (Some q) up down h = record {
  extends = h.extends;
  sound = λ g follows. up g (h.sound g follows);
  general = λ g follows w. h.general g follows (down g w);
  consistent = h.consistent;
}

-- One fact, and then another.
pub finds_both : (d e f : SkeletonMap → Type 0) (given found : PartialMap) (answer : Option Partial) →
    ((g : SkeletonMap) → d g → e g → f g) → ((g : SkeletonMap) → f g → d g) → ((g : SkeletonMap) → f g → e g) →
    IsExtended d given found → FindsMaps e found answer → FindsMaps f given answer
finds_both d e f given found None up first second h k = λ g follows w. k g (h.general g follows (first g w)) (second g w)
finds_both d e f given found (Some q) up first second h k = record {
  extends = λ g follows. h.extends g (k.extends g follows);
  sound = λ g follows. up g (h.sound g (k.extends g follows)) (k.sound g follows);
  general = λ g follows w. k.general g (h.general g follows (first g w)) (second g w);
  consistent = λ own. k.consistent (h.consistent own);
}

-- What was found so far: of the whole fact the rest is left.
pub record IsSoFar (all rest : SkeletonMap → Type 0) (given found : PartialMap) : Type 0 where
  pub extends : (f : SkeletonMap) → ExtendsPartial f found → ExtendsPartial f given
  pub sound : (f : SkeletonMap) → ExtendsPartial f found → rest f → all f
  pub general : (f : SkeletonMap) → ExtendsPartial f given → all f → ExtendsPartial f found × rest f
  pub consistent : IsConsistent given → IsConsistent found

pub so_far_first : (all : SkeletonMap → Type 0) (given : PartialMap) → IsSoFar all all given given
so_far_first all given = record {
  extends = λ f follows. follows;
  sound = λ f follows w. w;
  general = λ f follows w. (follows, w);
  consistent = λ own. own;
}

pub so_far_next : (all rest one less : SkeletonMap → Type 0) (given found next : PartialMap) →
    ((f : SkeletonMap) → one f → less f → rest f) → ((f : SkeletonMap) → rest f → one f) → ((f : SkeletonMap) → rest f → less f) →
    IsSoFar all rest given found → IsExtended one found next → IsSoFar all less given next
so_far_next all rest one less given found next up first second h k = record {
  extends = λ f follows. h.extends f (k.extends f follows);
  sound = λ f follows w. h.sound f (k.extends f follows) (up f (k.sound f follows) w);
  general = λ f follows w. let r = h.general f follows w in (k.general f r.0 (first f r.1), second f r.1);
  consistent = λ own. k.consistent (h.consistent own);
}

pub so_far_never : (all rest one : SkeletonMap → Type 0) (given found : PartialMap) →
    ((f : SkeletonMap) → rest f → one f) → IsSoFar all rest given found → IsOfNoExtension one found → IsOfNoExtension all given
so_far_never all rest one given found first h k = λ f follows w. let r = h.general f follows w in k f r.0 (first f r.1)

pub so_far_all : (all rest : SkeletonMap → Type 0) (given found : PartialMap) → ((f : SkeletonMap) → rest f) → IsSoFar all rest given found → IsExtended all given found
so_far_all all rest given found done h = record {
  extends = h.extends;
  sound = λ f follows. h.sound f follows (done f);
  general = λ f follows w. (h.general f follows w).0;
  consistent = h.consistent;
}
