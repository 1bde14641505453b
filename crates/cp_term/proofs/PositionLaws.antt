-- The positions of a term are those at which a term stands.
use Rattle.std.proofs.Common.{Bool, true, false, List, [], ◌∷◌, ◌++◌, Some, ◌≡◌, inl, inr, refl, sym, ap, ◌∙◌, subst, ⊎_elim}
use Rattle.std.specs.Prelude.{◌↔◌, option_and_then}
use Rattle.cp_lists.specs.Lists.{IsIn, here, there}
use Rattle.cp_lists.proofs.Members.{in_append_left, in_append_right, in_append}
use Rattle.cp_model.specs.Term.{Term, tag_term, atom_term, pair_term, enc_term, IsCarriedByTerm, itself_term, in_left_term, in_right_term, in_plaintext_term}
use Rattle.cp_model.specs.Positions.{part_at, here_if, paths_below, term_at, positions_where}
use Rattle.cp_term.specs.Preorder.{ComesBefore, AreInPreorder}
use Rattle.cp_model.specs.Same.{same_term}
use Rattle.cp_term.proofs.SameTerms.{same_Decides}
use Rattle.cp_term.proofs.Listed.{in_here, is_here, is_below, in_below}
use Rattle.cp_model.specs.declared.step.Step.{Step}
use Rattle.cp_model.specs.declared.step.Step.TheVariants.{Left, Right, Plaintext}

-- A term that passes the test stands at the path.
abbrev Stands : (Term → Bool) → Term → List Step → Type 0
Stands test t path = (u : Term) × (term_at t path ≡ Some u) × (test u ≡ true)

stands_here : (test : Term → Bool) (t : Term) (path : List Step) → IsIn path (here_if (test t)) → Stands test t path
stands_here test t path h = let e = in_here (test t) path h in (t, ap (term_at t) e.0, e.1)

stands_below : (test : Term → Bool) (s : Step) (t part : Term) (path : List Step) → part_at s t ≡ Some part →
    ((q : List Step) → IsIn q (positions_where test part) → Stands test part q) → IsIn path (paths_below s (positions_where test part)) → Stands test t path
stands_below test s t part path at inner h =
    let e = in_below s (positions_where test part) path h in
    let u = inner e.0 e.2 in
    (u.0, ap (term_at t) e.1 ∙ ap (option_and_then (λ p. term_at p e.0)) at ∙ u.1, u.2)

stands : (test : Term → Bool) (t : Term) (path : List Step) → IsIn path (positions_where test t) → Stands test t path
stands test (tag_term bytes) path h = stands_here test (tag_term bytes) path h
stands test (atom_term a) path h = stands_here test (atom_term a) path h
stands test (pair_term a b) path h =
    ⊎_elim (stands_here test (pair_term a b) path)
    (λ r. ⊎_elim (stands_below test Left (pair_term a b) a path refl (λ q i. stands test a q i))
    (stands_below test Right (pair_term a b) b path refl (λ q i. stands test b q i))
    (in_append (paths_below Left (positions_where test a)) (paths_below Right (positions_where test b)) r))
    (in_append (here_if (test (pair_term a b))) (paths_below Left (positions_where test a) ++ paths_below Right (positions_where test b)) h)
stands test (enc_term a k) path h =
    ⊎_elim (stands_here test (enc_term a k) path) (stands_below test Plaintext (enc_term a k) a path refl (λ q i. stands test a q i))
    (in_append (here_if (test (enc_term a k))) (paths_below Plaintext (positions_where test a)) h)

listed_here : (test : Term → Bool) (t u : Term) → Some t ≡ Some u → test u ≡ true → test t ≡ true
listed_here test t u e h = let same : t ≡ u = cc in ap test same ∙ h

listed : (test : Term → Bool) (t : Term) (path : List Step) (u : Term) → term_at t path ≡ Some u → test u ≡ true → IsIn path (positions_where test t)
listed test (tag_term bytes) [] u e h = is_here _ (listed_here test (tag_term bytes) u e h)
listed test (atom_term a) [] u e h = is_here _ (listed_here test (atom_term a) u e h)
listed test (pair_term a b) [] u e h = in_append_left _ (is_here _ (listed_here test (pair_term a b) u e h))
listed test (enc_term a k) [] u e h = in_append_left _ (is_here _ (listed_here test (enc_term a k) u e h))
listed test (pair_term a b) (Left ∷ path) u e h =
    in_append_right (here_if (test (pair_term a b))) (in_append_left _ (is_below Left _ path (listed test a path u e h)))
listed test (pair_term a b) (Right ∷ path) u e h =
    in_append_right (here_if (test (pair_term a b))) (in_append_right (paths_below Left (positions_where test a)) (is_below Right _ path (listed test b path u e h)))
listed test (enc_term a k) (Plaintext ∷ path) u e h =
    in_append_right (here_if (test (enc_term a k))) (is_below Plaintext _ path (listed test a path u e h))
listed test (pair_term a b) (Plaintext ∷ path) u e h = cc
listed test (enc_term a k) (Left ∷ path) u e h = cc
listed test (enc_term a k) (Right ∷ path) u e h = cc
listed test (tag_term bytes) (Left ∷ path) u e h = cc
listed test (tag_term bytes) (Right ∷ path) u e h = cc
listed test (tag_term bytes) (Plaintext ∷ path) u e h = cc
listed test (atom_term a) (Left ∷ path) u e h = cc
listed test (atom_term a) (Right ∷ path) u e h = cc
listed test (atom_term a) (Plaintext ∷ path) u e h = cc

pub positions_found : (test : Term → Bool) (whole : Term) (path : List Step) →
    IsIn path (positions_where test whole) ↔ ((t : Term) × (term_at whole path ≡ Some t) × (test t ≡ true))
positions_found test whole path = (stands test whole path, λ s. listed test whole path s.0 s.1 s.2)

same_stands : (part whole : Term) (path : List Step) → Stands (same_term part) whole path → term_at whole path ≡ Some part
same_stands part whole path s = s.1 ∙ ap Some (sym ((same_Decides part s.0).0 s.2))

-- A path is one of the positions of a part exactly where the part stands there.
pub part_found : (part whole : Term) (paths : List (List Step)) → paths ≡ positions_where (same_term part) whole → (path : List Step) →
    IsIn path paths ↔ (term_at whole path ≡ Some part)
part_found part whole paths all path = (
  λ h. same_stands part whole path (stands (same_term part) whole path (subst (IsIn path) all h)),
  λ e. subst (IsIn path) (sym all) (listed (same_term part) whole path part e ((same_Decides part part).1 refl)),
)

-- What a term carries stands at a position, and the other way round.
position_of : (part whole : Term) → IsCarriedByTerm part whole → (path : List Step) × (term_at whole path ≡ Some part)
position_of part whole itself_term = ([], refl)
position_of part whole (in_left_term {a} {b} h) = let r = position_of part a h in (Left ∷ r.0, r.1)
position_of part whole (in_right_term {a} {b} h) = let r = position_of part b h in (Right ∷ r.0, r.1)
position_of part whole (in_plaintext_term {a} {k} h) = let r = position_of part a h in (Plaintext ∷ r.0, r.1)

carried_here : (part whole : Term) → Some whole ≡ Some part → IsCarriedByTerm part whole
carried_here part whole e = let same : part ≡ whole = cc in subst (IsCarriedByTerm part) same itself_term

carried_at : (part whole : Term) (path : List Step) → term_at whole path ≡ Some part → IsCarriedByTerm part whole
carried_at part whole [] e = carried_here part whole e
carried_at part (pair_term a b) (Left ∷ path) e = in_left_term (carried_at part a path e)
carried_at part (pair_term a b) (Right ∷ path) e = in_right_term (carried_at part b path e)
carried_at part (enc_term a k) (Plaintext ∷ path) e = in_plaintext_term (carried_at part a path e)
carried_at part (pair_term a b) (Plaintext ∷ path) e = cc
carried_at part (enc_term a k) (Left ∷ path) e = cc
carried_at part (enc_term a k) (Right ∷ path) e = cc
carried_at part (tag_term bytes) (Left ∷ path) e = cc
carried_at part (tag_term bytes) (Right ∷ path) e = cc
carried_at part (tag_term bytes) (Plaintext ∷ path) e = cc
carried_at part (atom_term a) (Left ∷ path) e = cc
carried_at part (atom_term a) (Right ∷ path) e = cc
carried_at part (atom_term a) (Plaintext ∷ path) e = cc

pub carried_position : (whole part : Term) → IsCarriedByTerm part whole ↔ ((path : List Step) × (term_at whole path ≡ Some part))
carried_position whole part = (position_of part whole, λ r. carried_at part whole r.0 r.1)

-- Positions are in preorder.
order_joined : (ps qs : List (List Step)) → AreInPreorder ps → AreInPreorder qs → ((p q : List Step) → IsIn p ps → IsIn q qs → ComesBefore p q) → AreInPreorder (ps ++ qs)
order_joined [] qs i j h = j
order_joined (p ∷ ps) qs i j h =
    (λ q m. ⊎_elim (i.0 q) (λ n. h p q here n) (in_append ps qs m), order_joined ps qs i.1 j (λ r q m n. h r q (there m) n))

behind_step : (s : Step) (p q : List Step) (t : List Step) → t ≡ s ∷ q → ComesBefore p q → ComesBefore (s ∷ p) t
behind_step s p q t e h = subst (ComesBefore (s ∷ p)) (sym e) (inr (refl, h))

order_below : (s : Step) (ps : List (List Step)) → AreInPreorder ps → AreInPreorder (paths_below s ps)
order_below s [] i = tt
order_below s (p ∷ ps) i =
    (λ q m. let r = in_below s ps q m in behind_step s p r.0 q r.1 (i.0 r.0 r.2), order_below s ps i.1)

order_here : (b : Bool) → AreInPreorder (here_if b)
order_here true = (λ q m. elim m [ ], tt)
order_here false = tt

first_of_all : (p q r : List Step) (s : Step) → p ≡ [] → q ≡ s ∷ r → ComesBefore p q
first_of_all p q r s e f = subst (λ x. ComesBefore x q) (sym e) (subst (ComesBefore []) (sym f) tt)

left_of_right : (p q a b : List Step) → p ≡ Left ∷ a → q ≡ Right ∷ b → ComesBefore p q
left_of_right p q a b e f = subst (λ x. ComesBefore x q) (sym e) (subst (ComesBefore (Left ∷ a)) (sym f) (inl (refl, refl)))

pub positions_ordered : (test : Term → Bool) (t : Term) → AreInPreorder (positions_where test t)
positions_ordered test (tag_term bytes) = order_here (test (tag_term bytes))
positions_ordered test (atom_term a) = order_here (test (atom_term a))
positions_ordered test (pair_term a b) =
    order_joined (here_if (test (pair_term a b))) (paths_below Left (positions_where test a) ++ paths_below Right (positions_where test b)) (order_here _)
    (order_joined (paths_below Left (positions_where test a)) (paths_below Right (positions_where test b))
    (order_below Left _ (positions_ordered test a)) (order_below Right _ (positions_ordered test b))
    (λ p q m n. let r = in_below Left _ p m in let s = in_below Right _ q n in left_of_right p q r.0 s.0 r.1 s.1))
    (λ p q m n. ⊎_elim
    (λ l. let r = in_below Left _ q l in first_of_all p q r.0 Left (in_here _ p m).0 r.1)
    (λ l. let r = in_below Right _ q l in first_of_all p q r.0 Right (in_here _ p m).0 r.1)
    (in_append (paths_below Left (positions_where test a)) (paths_below Right (positions_where test b)) n))
positions_ordered test (enc_term a k) =
    order_joined (here_if (test (enc_term a k))) (paths_below Plaintext (positions_where test a)) (order_here _) (order_below Plaintext _ (positions_ordered test a))
    (λ p q m n. let r = in_below Plaintext _ q n in first_of_all p q r.0 Plaintext (in_here _ p m).0 r.1)

pub paths_ordered : (part whole : Term) (paths : List (List Step)) → paths ≡ positions_where (same_term part) whole → AreInPreorder paths
paths_ordered part whole paths all = subst AreInPreorder (sym all) (positions_ordered (same_term part) whole)
