-- Strands that are made one after another.
use Rattle.std.proofs.Common.{◌≡◌, ℕ, ◌+◌, ◌<◌, ◌≤◌, List, [], ◌∷◌, ◌++◌, length, get_or, map, drop, refl, sym, ap, ◌∙◌}
use Rattle.std.specs.Prelude.{Option, Some, None}
use Rattle.std.proofs.lemmas.List.{drop_all, append_assoc, append-nil, length-append}
use Rattle.cp_lists.proofs.Members.{drop_read}
use Rattle.cp_model.specs.Strand.{Role}
use Rattle.cp_model.specs.declared.variable.Declaration.{Declaration}
use Rattle.cp_model.specs.Skeleton.{SkeletonStrand}
use Rattle.cp_sexpr.specs.Syntax.{Form}
use Rattle.cp_sexpr.specs.View.{view}
use Rattle.cp_sexpr.specs.declared.form.Form as program
use Rattle.cp_language.specs.Roles.{headed, item_or_none, items_behind}
use Rattle.cp_language.specs.Problems.{Strands, strand_by, strands_from, with_strand, fresh_of}
use Rattle.cp_roles.specs.MadeStrands.{IsMadeIf, AreMade}

-- Of the strands of a problem these are made, and the others are left.
pub record AreLeft (all left : Strands) (strands : List SkeletonStrand) (before now : List Declaration) : Type 0 where
  pub same : strands ++ left.strands ≡ all.strands
  pub behind : now ++ left.fresh ≡ before ++ all.fresh

lengths : (now after : List Declaration) (fresh : List Declaration) → after ≡ now ++ fresh → length after ≡ length now + length fresh
lengths now after fresh e =
    ap length e ∙ length-append now fresh

module _ (roles : List Role) (ds : List Declaration) (items : List program.Form) (k : ℕ) (all : Strands) (before : List Declaration) where
  abbrev pub made_by : ℕ → Form → Option (SkeletonStrand × List Declaration)
  made_by next f = strand_by roles ds next (item_or_none (headed f)) (items_behind (headed f))

  module _ (f : program.Form) (lt : k < length items) (is : f ≡ get_or items k f) (now after : List Declaration) (strands strands' : List SkeletonStrand)
      (h : AreLeft all (strands_from roles ds (length now) (map view (drop k items))) strands before now) where
    whole : strands_from roles ds (length now) (map view (drop k items)) ≡ with_strand (made_by (length now) (view f)) (strands_from roles ds (length now + length (fresh_of (made_by (length now) (view f)))) (map view (drop (k + 1) items)))
    whole = ap (λ gs. strands_from roles ds (length now) (map view gs)) (drop_read items k f lt is)

    pub none-made : (o : Option SkeletonStrand) → None ≡ o → IsMadeIf (made_by (length now) (view f)) o now after → strands' ≡ strands
        → AreLeft all (strands_from roles ds (length after) (map view (drop (k + 1) items))) strands' before after
    none-made (Some s) e m g = absurd (cc)
    none-made None e m g = by_made (made_by (length now) (view f)) refl m
      where
        by_made : (p : Option (SkeletonStrand × List Declaration)) → made_by (length now) (view f) ≡ p → IsMadeIf p None now after
            → AreLeft all (strands_from roles ds (length after) (map view (drop (k + 1) items))) strands' before after
        by_made (Some made) q n = absurd n
        by_made None q n =
            let same : length now + 0 ≡ length after = sym (lengths now after [] (n ∙ sym (append-nil now))) in
            let left : strands_from roles ds (length now) (map view (drop k items)) ≡ strands_from roles ds (length after) (map view (drop (k + 1) items)) =
            whole ∙ ap (λ p. with_strand p (strands_from roles ds (length now + length (fresh_of p)) (map view (drop (k + 1) items)))) q
            ∙ ap (λ x. strands_from roles ds x (map view (drop (k + 1) items))) same in
            record {
              same = ap (λ x. x ++ (strands_from roles ds (length after) (map view (drop (k + 1) items))).strands) g ∙ ap (λ l. strands ++ l.strands) (sym left) ∙ h.same;
              behind = ap (λ x. x ++ (strands_from roles ds (length after) (map view (drop (k + 1) items))).fresh) n ∙ ap (λ l. now ++ l.fresh) (sym left) ∙ h.behind;
            }

    pub one-made : (o : Option SkeletonStrand) (s : SkeletonStrand) → Some s ≡ o → IsMadeIf (made_by (length now) (view f)) o now after → strands' ≡ strands ++ s ∷ []
        → AreLeft all (strands_from roles ds (length after) (map view (drop (k + 1) items))) strands' before after
    one-made None s e m g = absurd (cc)
    one-made (Some s') s e m g = by_made (made_by (length now) (view f)) refl m
      where
        by_made : (p : Option (SkeletonStrand × List Declaration)) → made_by (length now) (view f) ≡ p → IsMadeIf p (Some s') now after
            → AreLeft all (strands_from roles ds (length after) (map view (drop (k + 1) items))) strands' before after
        by_made None q n = absurd n
        by_made (Some made) q n =
            let rest = strands_from roles ds (length after) (map view (drop (k + 1) items)) in
            let same : length now + length made.1 ≡ length after = sym (lengths now after made.1 n.behind) in
            let this : s ≡ made.0 = (let t : s ≡ s' = cc in t) ∙ n.same in
            let left : strands_from roles ds (length now) (map view (drop k items)) ≡ with_strand (Some made) rest =
            whole ∙ ap (λ p. with_strand p (strands_from roles ds (length now + length (fresh_of p)) (map view (drop (k + 1) items)))) q
            ∙ ap (λ x. with_strand (Some made) (strands_from roles ds x (map view (drop (k + 1) items)))) same in
            record {
              same = ap (λ x. x ++ rest.strands) (g ∙ ap (λ x. strands ++ x ∷ []) this) ∙ append_assoc strands (made.0 ∷ []) rest.strands ∙ ap (λ l. strands ++ l.strands) (sym left) ∙ h.same;
              behind = ap (λ x. x ++ rest.fresh) n.behind ∙ append_assoc now made.1 rest.fresh ∙ ap (λ l. now ++ l.fresh) (sym left) ∙ h.behind;
            }

  pub strands-done : length items ≤ k → (next : ℕ) (strands : List SkeletonStrand) (now : List Declaration) → AreLeft all (strands_from roles ds next (map view (drop k items))) strands before now → AreMade all strands before now
  strands-done le next strands now h =
      let none : strands_from roles ds next (map view (drop k items)) ≡ record { strands = []; fresh = [] } = ap (λ gs. strands_from roles ds next (map view gs)) (drop_all k items le) in
      record {
        same = sym (append-nil strands) ∙ sym (ap (λ l. strands ++ l.strands) none) ∙ h.same;
        behind = sym (append-nil now) ∙ sym (ap (λ l. now ++ l.fresh) none) ∙ h.behind;
      }
