-- Images of strands, in lists of placements and in lists of numbers.
use Rattle.std.proofs.Common.{◌≡◌, ◌≢◌, ℕ, ◌<◌, Bool, true, false, if◌then◌else◌, ◌==◌, List, [], ◌∷◌, ◌++◌, length, set, refl, sym, ap, ◌∙◌, subst, arith}
use Rattle.std.specs.Prelude.{Option, Some, None}
use Rattle.std.proofs.lemmas.Bool.Decides.{Decides-eqb}
use Rattle.cp_lists.proofs.Items.{item_apart, item_past, set_here, set_elsewhere, item_end}
use Rattle.cp_lists.specs.Lists.{item_at, IsIn, here, there}
use Rattle.cp_model.specs.Bundle.{node_at}
use Rattle.cp_model.specs.declared.node.Node.{Node}
use Rattle.cp_model.specs.Homomorphism.{SkeletonMap, mapped, number_or, strand_in}
use Rattle.cp_model.specs.Term.{Term, apply_to}
use Rattle.cp_unify.specs.Bindings.{Binding}
use Rattle.cp_unify.specs.Beside.{MatchesBeside, NeverMatchesBeside}
use Rattle.cp_hom.specs.PartialMaps.{PartialMap, image_in, Places, IsExtended, IsOfNoExtension}
use Rattle.cp_hom.specs.declared.partials.Placement.{Placement}

-- ---- placements

image_here : (p : Placement) (ps : List Placement) (s : ℕ) → p.strand ≡ s → image_in (p ∷ ps) s ≡ Some p.image
image_here p ps s e = choose (p.strand == s) ((Decides-eqb p.strand s).1 e)
  where
    choose : (b : Bool) → b ≡ true → (if b then Some p.image else image_in ps s) ≡ Some p.image
    choose true h = refl
    choose false h = absurd (let g : false ≡ true = h in cc)

image_later : (p : Placement) (ps : List Placement) (s : ℕ) → p.strand ≢ s → image_in (p ∷ ps) s ≡ image_in ps s
image_later p ps s other = choose (p.strand == s) (Decides-eqb p.strand s).0
  where
    choose : (b : Bool) → (b ≡ true → p.strand ≡ s) → (if b then Some p.image else image_in ps s) ≡ image_in ps s
    choose true h = absurd (other (h refl))
    choose false h = refl

-- An induction step by whether a placement is that of the strand.
by_strand : (p : Placement) (s : ℕ) (P : Type 0) → (p.strand ≡ s → P) → (p.strand ≢ s → P) → P
by_strand p s P same other = choose (p.strand == s) (Decides-eqb p.strand s).0 (Decides-eqb p.strand s).1
  where
    choose : (b : Bool) → (b ≡ true → p.strand ≡ s) → (p.strand ≡ s → b ≡ true) → P
    choose true h k = same (h refl)
    choose false h k = other (λ e. let g : false ≡ true = k e in cc)

pub image_kept : (ps qs : List Placement) (s t : ℕ) → image_in ps s ≡ Some t → image_in (ps ++ qs) s ≡ Some t
image_kept [] qs s t e = absurd (let g : ◌≡◌ {A = Option ℕ} None (Some t) = e in cc)
image_kept (p ∷ ps) qs s t e =
    by_strand p s (image_in ((p ∷ ps) ++ qs) s ≡ Some t)
    (λ same. image_here p (ps ++ qs) s same ∙ sym (image_here p ps s same) ∙ e)
    (λ other. image_later p (ps ++ qs) s other ∙ image_kept ps qs s t (sym (image_later p ps s other) ∙ e))

image_new : (ps : List Placement) (p : Placement) → image_in ps p.strand ≡ None → image_in (ps ++ (p ∷ [])) p.strand ≡ Some p.image
image_new [] p e = image_here p [] p.strand refl
image_new (q ∷ ps) p e =
    by_strand q p.strand (image_in ((q ∷ ps) ++ (p ∷ [])) p.strand ≡ Some p.image)
    (λ same. let f : Some q.image ≡ None = sym (image_here q ps p.strand same) ∙ e in cc)
    (λ other. image_later q (ps ++ (p ∷ [])) p.strand other ∙ image_new ps p (sym (image_later q ps p.strand other) ∙ e))

placed_some : (ps : List Placement) (p : Placement) → IsIn p ps → (t : ℕ) × (image_in ps p.strand ≡ Some t)
placed_some [] p m = elim m [ ]
placed_some (q ∷ ps) p here = (p.image, image_here p ps p.strand refl)
placed_some (q ∷ ps) p (there h) =
    by_strand q p.strand ((t : ℕ) × (image_in (q ∷ ps) p.strand ≡ Some t))
    (λ same. (q.image, image_here q ps p.strand same))
    (λ other. let r = placed_some ps p h in (r.0, image_later q ps p.strand other ∙ r.1))

-- What is placed goes where the placements say.
pub goes_there : (f : ℕ → ℕ) (ps : List Placement) (s t : ℕ) → Places f ps → image_in ps s ≡ Some t → f s ≡ t
goes_there f [] s t h e = absurd (let g : ◌≡◌ {A = Option ℕ} None (Some t) = e in cc)
goes_there f (p ∷ ps) s t h e =
    by_strand p s (f s ≡ t)
    (λ same. let g : Some p.image ≡ Some t = sym (image_here p ps s same) ∙ e in let k : p.image ≡ t = cc in ap f (sym same) ∙ h.0 ∙ k)
    (λ other. goes_there f ps s t h.1 (sym (image_later p ps s other) ∙ e))

-- So does a node on a strand that is placed.
pub node_there : (f : SkeletonMap) (ps : List Placement) (n : Node) (t : ℕ) → image_in ps n.strand ≡ Some t → Places f.strands ps → node_at t n.index ≡ mapped f n
node_there f ps n t at placed = ap (λ (s : ℕ). node_at s n.index) (sym (goes_there f.strands ps n.strand t placed at))

places_like : (f g : ℕ → ℕ) (ps : List Placement) → ((p : Placement) → IsIn p ps → f p.strand ≡ g p.strand) → Places f ps → Places g ps
places_like f g [] same h = tt
places_like f g (p ∷ ps) same h = (sym (same p here) ∙ h.0, places_like f g ps (λ q m. same q (there m)) h.1)

places_front : (f : ℕ → ℕ) (ps qs : List Placement) → Places f (ps ++ qs) → Places f ps
places_front f [] qs h = tt
places_front f (p ∷ ps) qs h = (h.0, places_front f ps qs h.1)

places_last : (f : ℕ → ℕ) (ps : List Placement) (p : Placement) → Places f (ps ++ (p ∷ [])) → f p.strand ≡ p.image
places_last f [] p h = h.0
places_last f (q ∷ ps) p h = places_last f ps p h.1

places_more : (f : ℕ → ℕ) (ps : List Placement) (p : Placement) → Places f ps → f p.strand ≡ p.image → Places f (ps ++ (p ∷ []))
places_more f [] p h e = (e, tt)
places_more f (q ∷ ps) p h e = (h.0, places_more f ps p h.1 e)

abbrev images_of : List Placement → ℕ → ℕ
images_of ps s = number_or s (image_in ps s)

consistent_more : (ps : List Placement) (p : Placement) → image_in ps p.strand ≡ None → Places (images_of ps) ps → Places (images_of (ps ++ (p ∷ []))) (ps ++ (p ∷ []))
consistent_more ps p free own =
    places_more (images_of (ps ++ (p ∷ []))) ps p
    (places_like (images_of ps) (images_of (ps ++ (p ∷ []))) ps
    (λ q m. let t = placed_some ps q m in ap (number_or q.strand) (t.1 ∙ sym (image_kept ps (p ∷ []) q.strand t.0 t.1))) own)
    (ap (number_or p.strand) (image_new ps p free))

-- ---- one more placement

pub number_there : (given : PartialMap) (s t other : ℕ) → image_in given.placements s ≡ Some other → other ≡ t → IsExtended (λ f. f.strands s ≡ t) given given
number_there given s t other at e = record {
  extends = λ f follows. follows;
  sound = λ f follows. goes_there f.strands given.placements s other follows.0 at ∙ e;
  general = λ f follows w. follows;
  consistent = λ own. own;
}

pub number_elsewhere : (given : PartialMap) (s t other : ℕ) → image_in given.placements s ≡ Some other → other ≢ t → IsOfNoExtension (λ f. f.strands s ≡ t) given
number_elsewhere given s t other at ne = λ f follows w. ne (sym (goes_there f.strands given.placements s other follows.0 at) ∙ w)

pub number_placed : (ps : List Placement) (bs : List Binding) (p : Placement) → image_in ps p.strand ≡ None →
    IsExtended (λ f. f.strands p.strand ≡ p.image) (record { placements = ps; bindings = bs }) (record { placements = ps ++ (p ∷ []); bindings = bs })
number_placed ps bs p free = record {
  extends = λ f follows. (places_front f.strands ps (p ∷ []) follows.0, follows.1);
  sound = λ f follows. places_last f.strands ps p follows.0;
  general = λ f follows w. (places_more f.strands ps p follows.0 w, follows.1);
  consistent = λ own. (consistent_more ps p free own.0, own.1);
}

-- ---- one more term

pub term_found : (ps : List Placement) (t u : Term) (r q : List Binding) → MatchesBeside t u r q →
    IsExtended (λ f. apply_to f.terms t ≡ u) (record { placements = ps; bindings = r }) (record { placements = ps; bindings = q })
term_found ps t u r q h = record {
  extends = λ f follows. (follows.0, h.extends f.terms follows.1);
  sound = λ f follows. h.sound f.terms follows.1;
  general = λ f follows w. (follows.0, h.general f.terms follows.1 w);
  consistent = λ own. (own.0, h.own own.1);
}

pub term_never : (ps : List Placement) (t u : Term) (r : List Binding) → NeverMatchesBeside t u r →
    IsOfNoExtension (λ f. apply_to f.terms t ≡ u) (record { placements = ps; bindings = r })
term_never ps t u r h = λ f follows w. h f.terms follows.1 w

-- ---- lists of images

by_number : (m n : ℕ) (P : Type 0) → (m ≡ n → P) → (m ≢ n → P) → P
by_number m n P same other = choose (m == n) (Decides-eqb m n).0 (Decides-eqb m n).1
  where
    choose : (b : Bool) → (b ≡ true → m ≡ n) → (m ≡ n → b ≡ true) → P
    choose true h k = same (h refl)
    choose false h k = other (λ e. let g : false ≡ true = k e in cc)

-- A number put at its own place changes nothing.
pub own_number : (xs : List ℕ) (n s : ℕ) → length xs ≡ n → strand_in (xs ++ (n ∷ [])) s ≡ strand_in xs s
own_number xs n s len =
    by_number n s (strand_in (xs ++ (n ∷ [])) s ≡ strand_in xs s)
    (λ same. ap (number_or s) (item_end xs n s (len ∙ same)) ∙ same ∙ sym (ap (number_or s) (item_past xs s (omega (arith, len, same)))))
    (λ other. ap (number_or s) (item_apart xs n s (λ e. other (sym len ∙ e))))

abbrev SentTo : ℕ → ℕ → List ℕ → List ℕ → Type 0
SentTo i y xs zs = (s : ℕ) → strand_in zs s ≡ (if i == s then y else strand_in xs s)

sent_by : (i y : ℕ) (xs zs : List ℕ) → ((s : ℕ) → i ≡ s → item_at zs s ≡ Some y) → ((s : ℕ) → i ≢ s → strand_in zs s ≡ strand_in xs s) → SentTo i y xs zs
sent_by i y xs zs here_is other_is s = choose (i == s) (Decides-eqb i s).0 (Decides-eqb i s).1
  where
    choose : (b : Bool) → (b ≡ true → i ≡ s) → (i ≡ s → b ≡ true) → strand_in zs s ≡ (if b then y else strand_in xs s)
    choose true h k = ap (number_or s) (here_is s (h refl))
    choose false h k = other_is s (λ e. let g : false ≡ true = k e in cc)

pub sent_within : (xs ys : List ℕ) (i y : ℕ) → ((s : ℕ) → strand_in ys s ≡ strand_in xs s) → i < length ys → SentTo i y xs (set ys i y)
sent_within xs ys i y same l =
    sent_by i y xs (set ys i y) (λ s e. subst (λ (n : ℕ). item_at (set ys i y) n ≡ Some y) e (set_here ys i y l))
    (λ s ne. ap (number_or s) (set_elsewhere ys i y s ne) ∙ same s)

pub sent_behind : (xs ys : List ℕ) (i y : ℕ) → ((s : ℕ) → strand_in ys s ≡ strand_in xs s) → length ys ≡ i → SentTo i y xs (ys ++ (y ∷ []))
sent_behind xs ys i y same len =
    sent_by i y xs (ys ++ (y ∷ [])) (λ s e. item_end ys y s (len ∙ e))
    (λ s ne. ap (number_or s) (item_apart ys y s (λ e. ne (sym len ∙ e))) ∙ same s)

-- One placement before others.
pub images_more : (p : Placement) (ps : List Placement) (xs zs : List ℕ) → SentTo p.strand p.image xs zs → ((s : ℕ) → strand_in xs s ≡ number_or s (image_in ps s)) →
    (s : ℕ) → strand_in zs s ≡ number_or s (image_in (p ∷ ps) s)
images_more p ps xs zs sent so_far s = sent s ∙ choose (p.strand == s)
  where
    choose : (b : Bool) → (if b then p.image else strand_in xs s) ≡ number_or s (if b then Some p.image else image_in ps s)
    choose true = refl
    choose false = so_far s
