-- The trees of the problems of an input.
use Rattle.std.proofs.Common.{◌≡◌, ℕ, zero, suc, ◌+◌, ◌<◌, ◌≤◌, List, [], ◌∷◌, ◌++◌, length, get_or, take, map, Option, Some, None, ◌⊎◌, inl, inr, refl, sym, ap, ◌∙◌, subst, arith, ⊎_elim, Ok, add-one, Bool, true, false}
use Rattle.std.specs.Prelude.{◌^◌}
use Rattle.std.specs.List.{AllZip, cons_option, filter_map}
use Rattle.std.proofs.lemmas.List.{append-nil, map-append, take_all}
use Rattle.std.proofs.lemmas.List.Elements.{filter_map-append}
use Rattle.std.proofs.Math.Seq.{take-suc}
use Rattle.std.proofs.lemmas.Slice.Zip.{all_zipped_more}
use Rattle.cp_app.specs.Steps.{is_complete}
use Rattle.cp_lists.specs.Lists.{item_at, IsIn, here, there}
use Rattle.cp_lists.proofs.Members.{in_append}
use Rattle.cp_lists.proofs.Items.{place_of}
use Rattle.cp_model.specs.Term.{variables_of}
use Rattle.cp_model.specs.declared.variable.Variable.{Variable}
use Rattle.cp_model.specs.declared.variable.Declaration.{Declaration}
use Rattle.cp_model.specs.Problem.{IsDeclared, variables_of_skeleton}
use Rattle.cp_model.specs.Tree.{Pattern, Test, Label, Tree, IsTrueOf}
use Rattle.cp_model.specs.declared.tree.Outcome.{Outcome}
use Rattle.cp_model.specs.declared.tree.Outcome.TheVariants.{Complete as complete, LimitSteps as at_step_limit, LimitStrands as at_strand_limit}
use Rattle.cp_model.specs.declared.tree.Limits.{Limits}
use Rattle.cp_sexpr.specs.Syntax.{Forms}
use Rattle.cp_language.specs.Problems.{Problem}
use Rattle.cp_language.specs.Report.{variables_of_terms, variables_of_test, variables_but, variables_of_patterns, occurring, HasItsVariables}
use Rattle.cp_language.specs.Input.{Entry, stated, input_of}
use Rattle.cp_language.specs.StatedInput.{IsInput}
use Rattle.cp_language.proofs.NoLocals.{from_but}
use Rattle.cp_load.specs.Inputs.{entry_view, input_entries}
use Rattle.cp_load.specs.declared.input.Entry.{Entry as ProgramEntry}
use Rattle.cp_load.specs.declared.input.Input.{Input}
use Rattle.cp_model.proofs.OccurringVariables.{term_with}
use Rattle.cp_theory.specs.Matches.{IsFreeIn}
use Rattle.cp_tree.specs.Searched.{IsTreeOf}
use Rattle.cp_tree.specs.LabelVariables.{DeclaresItsOwn}
use Rattle.cp_report.specs.FittingTrees.{TreeFits}
use Rattle.cp_language.proofs.Problems as wellformed
use Rattle.cp_app.specs.Analysis.{HaveFewVariables, IsAnalysable, IsAnalysisOf}

-- ---- variables

-- those of a test are its critical term's
in_test : (o : Option Test) (x : Variable) → IsIn x (variables_of_test o) → (t : Test) × (o ≡ Some t) × IsIn x (variables_of t.critical)
in_test None x m = elim m [ ]
in_test (Some t) x m = (t, refl, m)

-- those of patterns are one's, and no locals of it
in_patterns : (ps : List Pattern) (x : Variable) → IsIn x (variables_of_patterns ps) → (p : Pattern) × IsIn p ps × IsFreeIn x p
in_patterns [] x m = elim m [ ]
in_patterns (p ∷ ps) x m =
    ⊎_elim (λ q. let r = from_but p.locals (variables_of p.term) x q in (p, here, record { occurs = r.0; no_local = r.1 })) (λ q. let r = in_patterns ps x q in (r.0, there r.1, r.2))
    (in_append (variables_but p.locals (variables_of p.term)) (variables_of_patterns ps) m)

all_declared : (variables : List Declaration) (l : Label) → DeclaresItsOwn variables l → (x : Variable) → IsIn x (occurring l) → IsDeclared l.skeleton.variables x
all_declared variables l d x m =
    let own : List Variable = variables_of_skeleton l.skeleton in
    let mapped : List Variable = variables_of_terms l.skeleton.from_problem.values in
    let tested : List Variable = variables_of_test l.test in
    ⊎_elim
    (λ a. ⊎_elim
    (λ b. ⊎_elim (d.skeleton.occurring x) (λ q. let r = term_with l.skeleton.from_problem.values x q in d.skeleton.mapped r.0 x r.1 r.2) (in_append own mapped b))
    (λ q. let r = in_test l.test x q in d.test r.0 x r.1 r.2)
    (in_append (own ++ mapped) tested a))
    (λ q. let r = in_patterns l.escape x q in d.patterns r.0 x r.1 r.2)
    (in_append ((own ++ mapped) ++ tested) (variables_of_patterns l.escape) m)

-- Each label declares its variables.
abbrev pub AllDeclare : Problem → Tree → Type 0
AllDeclare p t = (i : ℕ) (l : Label) → item_at t.labels i ≡ Some l → DeclaresItsOwn p.variables l

has_variables : (p : Problem) (t : Tree) → AllDeclare p t → (l : Label) → IsIn l t.labels → HasItsVariables p l
has_variables p t all l listed =
    let place = place_of listed in
    let d = all place.0 l place.1 in
    record { later = d.more.more; variables = d.more.behind; declared = all_declared p.variables l d }

-- the tree of a problem is its analysis
pub analysis_of : (limits : Limits) (p : Problem) (t : Tree) → IsTrueOf p.protocol p.skeleton limits t → IsTreeOf p.protocol p.skeleton p.variables limits t → AllDeclare p t
    → (((l : Label) → IsIn l t.labels → HasItsVariables p l) → TreeFits p t) → IsAnalysisOf limits p t
analysis_of limits p t truth searched declares fits =
    let variables = has_variables p t declares in
    record { truth = truth; variables = variables; searched = searched; fits = fits variables }

-- ---- fewer variables than can be counted

pub few_counted : (ds : List Declaration) (n : ℕ) → n ≡ length ds → n < 2 ^ 64 → length ds < 2 ^ 64
few_counted ds n counted few = omega (arith, counted, few)

-- the labels before number i have few
abbrev pub HaveFewBefore : List Label → ℕ → Type 0
HaveFewBefore ls i = HaveFewVariables (take i ls)

pub few_before_first : (ls : List Label) → HaveFewBefore ls 0
few_before_first ls l listed = elim listed [ ]

pub few_next : (ls : List Label) (i : ℕ) (l : Label) → i < length ls → l ≡ get_or ls i l → length l.skeleton.variables < 2 ^ 64 → HaveFewBefore ls i → HaveFewBefore ls (i + 1)
few_next ls i l lt is few before m listed =
    let one : take (i + 1) ls ≡ take i ls ++ l ∷ [] = rw add-one (take-suc ls i l lt ∙ ap (λ q. take i ls ++ q ∷ []) (sym is)) in
    ⊎_elim (before m) (λ last. of_one m last)
    (in_append (take i ls) (l ∷ []) (rw (one) at listed))
  where
    of_one : (m : Label) → IsIn m (l ∷ []) → length m.skeleton.variables < 2 ^ 64
    of_one _ here = few
    of_one m (there listed) = elim listed [ ]

pub few_in_all : (ls : List Label) (i : ℕ) → length ls ≤ i → HaveFewBefore ls i → HaveFewVariables ls
few_in_all ls i h few = rw (take_all i ls h) at few

-- ---- each problem with its tree

pub zip_onto : {A B : Type 0} (P Q : A → B → Type 0) → ((x : A) (y : B) → P x y → Q x y) → (xs : List A) (ys : List B) → AllZip P xs ys → AllZip Q xs ys
zip_onto P Q f [] [] all = tt
zip_onto P Q f [] (y ∷ ys) all = absurd all
zip_onto P Q f (x ∷ xs) [] all = absurd all
zip_onto P Q f (x ∷ xs) (y ∷ ys) all = (f x y all.0, zip_onto P Q f xs ys all.1)

-- ---- the loop over the entries

-- The problem of an entry of the program, if it has one.
abbrev pub problem_of : ProgramEntry → Option Problem
problem_of e = stated (entry_view e)

-- The problems of entries of the program.
abbrev pub problems_of : List ProgramEntry → List Problem
problems_of es = filter_map stated (map entry_view es)

-- The trees of the problems of the first entries, as many as i.
abbrev pub AreTreesUpTo : Limits → List ProgramEntry → ℕ → List Tree → Type 0
AreTreesUpTo limits es i ts = AllZip (IsAnalysisOf limits) (problems_of (take i es)) ts

next_problems : (es : List ProgramEntry) (i : ℕ) (e : ProgramEntry) → i < length es → e ≡ get_or es i e → problems_of (take (i + 1) es) ≡ problems_of (take i es) ++ cons_option (problem_of e) []
next_problems es i e lt is =
    let one : take (i + 1) es ≡ take i es ++ e ∷ [] = rw add-one (take-suc es i e lt ∙ ap (λ q. take i es ++ q ∷ []) (sym is)) in
    ap problems_of one ∙ ap (filter_map stated) (map-append entry_view (take i es) (e ∷ [])) ∙ filter_map-append stated (map entry_view (take i es)) (entry_view e ∷ [])

pub none_next : (limits : Limits) (es : List ProgramEntry) (i : ℕ) (e : ProgramEntry) (ts : List Tree) → i < length es → e ≡ get_or es i e → None ≡ problem_of e → AreTreesUpTo limits es i ts → AreTreesUpTo limits es (i + 1) ts
none_next limits es i e ts lt is none before =
    let same : problems_of (take (i + 1) es) ≡ problems_of (take i es) =
    next_problems es i e lt is ∙ sym (ap (λ o. problems_of (take i es) ++ cons_option o []) none) ∙ append-nil (problems_of (take i es)) in
    subst (λ qs. AllZip (IsAnalysisOf limits) qs ts) (sym same) before

-- Behind the old trees stands that of the problem.
abbrev pub IsBehind : Limits → Problem → List Tree → List Tree → Type 0
IsBehind limits p old new = (t : Tree) × IsAnalysisOf limits p t × (new ≡ old ++ t ∷ [])

pub tree_next : (limits : Limits) (es : List ProgramEntry) (i : ℕ) (e : ProgramEntry) (p : Problem) (old new : List Tree) → i < length es → e ≡ get_or es i e → Some p ≡ problem_of e
    → IsBehind limits p old new → AreTreesUpTo limits es i old → AreTreesUpTo limits es (i + 1) new
tree_next limits es i e p old new lt is some (t, one, grew) before =
    let problems : problems_of (take (i + 1) es) ≡ problems_of (take i es) ++ p ∷ [] =
    next_problems es i e lt is ∙ sym (ap (λ o. problems_of (take i es) ++ cons_option o []) some) in
    subst (λ qs. AllZip (IsAnalysisOf limits) qs new) (sym problems)
    (subst (λ us. AllZip (IsAnalysisOf limits) (problems_of (take i es) ++ p ∷ []) us) (sym grew) (all_zipped_more (IsAnalysisOf limits) (problems_of (take i es)) old p t before one))

pub trees_done : (limits : Limits) (es : List ProgramEntry) (i : ℕ) (ts : List Tree) → length es ≤ i → AreTreesUpTo limits es i ts → AllZip (IsAnalysisOf limits) (problems_of es) ts
trees_done limits es i ts h all = rw (take_all i es h) at all

in_behind : (o : Option Problem) (ps : List Problem) (p : Problem) → IsIn p ps → IsIn p (cons_option o ps)
in_behind None ps p m = m
in_behind (Some q) ps p m = there m

pub is_listed : (es : List ProgramEntry) (i : ℕ) (e : ProgramEntry) (p : Problem) → i < length es → e ≡ get_or es i e → Some p ≡ problem_of e → IsIn p (problems_of es)
is_listed [] i e p lt is some = absurd (omega arith)
is_listed (d ∷ es) zero e p lt is some = subst (λ o. IsIn p (cons_option o (problems_of es))) (some ∙ ap problem_of is) here
is_listed (d ∷ es) (suc i) e p lt is some = in_behind (problem_of d) (problems_of es) p (is_listed es i e p (omega arith) is some)

-- ---- input of which nothing is refused

in_next : (o : Option Problem) (ps : List Problem) (p : Problem) → IsIn p (cons_option o ps) → (o ≡ Some p) ⊎ IsIn p ps
in_next None ps p m = inr m
in_next (Some q) ps _ here = inl refl
in_next (Some q) ps p (there m) = inr m

pub entry_of : (es : List Entry) (p : Problem) → IsIn p (filter_map stated es) → (e : Entry) × IsIn e es × (stated e ≡ Some p)
entry_of [] p m = elim m [ ]
entry_of (e ∷ es) p m = ⊎_elim (λ is. (e, here, is)) (λ q. let r = entry_of es p q in (r.0, there r.1, r.2)) (in_next (stated e) (filter_map stated es) p m)

-- The problems of an input of which nothing is refused are analysable.
analysable_problems : (fs : Forms) (es : List Entry) → IsInput fs (Ok es) → (p : Problem) → IsIn p (filter_map stated es) → IsAnalysable p
analysable_problems fs es loaded p listed =
    let found = entry_of (input_of fs) p (rw loaded.1 at listed) in
    record {
      is_over = record { of_role = (wellformed.are_skeletons fs found.0 p loaded.0 found.1 found.2).of_role };
      own = wellformed.map_to_themselves fs found.0 p loaded.0 found.1 found.2;
    }

pub analysable_entries : (fs : Forms) (input : Input) (es : List ProgramEntry) → es ≡ input.entries.items → IsInput fs (Ok (input_entries input)) → (p : Problem) → IsIn p (problems_of es) → IsAnalysable p
analysable_entries fs input es is loaded =
    subst (λ (os : List ProgramEntry). (p : Problem) → IsIn p (problems_of os) → IsAnalysable p) (sym is) (analysable_problems fs (input_entries input) loaded)

-- ---- outcomes

pub listed_at : (ts : List Tree) (i : ℕ) (t : Tree) → i < length ts → t ≡ get_or ts i t → IsIn t ts
listed_at [] i t lt is = absurd (omega arith)
listed_at (u ∷ ts) zero t lt is = subst (λ v. IsIn t (v ∷ ts)) is here
listed_at (u ∷ ts) (suc i) t lt is = there (listed_at ts i t (omega arith) is)

complete_is : (o : Outcome) → is_complete o ≡ true → o ≡ complete
complete_is complete is = refl
complete_is at_step_limit is = absurd (cc)
complete_is at_strand_limit is = absurd (cc)

pub incomplete : (ts : List Tree) (i : ℕ) (t : Tree) (b : Bool) → i < length ts → t ≡ get_or ts i t → b ≡ is_complete t.outcome → b ≡ false
    → (u : Tree) × IsIn u ts × (u.outcome ≡ complete → ⊥)
incomplete ts i t b lt is test not = (t, listed_at ts i t lt is, λ done. let e : false ≡ true = sym not ∙ test ∙ ap is_complete done in cc)

-- the trees before the one at i are complete
abbrev pub AreCompleteBefore : List Tree → ℕ → Type 0
AreCompleteBefore ts i = (t : Tree) → IsIn t (take i ts) → t.outcome ≡ complete

pub none_before : (ts : List Tree) → AreCompleteBefore ts 0
none_before ts t listed = elim listed [ ]

next : (ts : List Tree) (i : ℕ) (t : Tree) → i < length ts → t ≡ get_or ts i t → t.outcome ≡ complete → AreCompleteBefore ts i → AreCompleteBefore ts (suc i)
next [] i t lt is done before v listed = absurd (omega arith)
next (u ∷ ts) zero t lt is done before _ here = ap (λ v. v.outcome) (sym is) ∙ done
next (u ∷ ts) zero t lt is done before v (there listed) = elim listed [ ]
next (u ∷ ts) (suc i) t lt is done before _ here = before u here
next (u ∷ ts) (suc i) t lt is done before v (there listed) = next ts i t (omega arith) is done (λ w m. before w (there m)) v listed

pub complete_next : (ts : List Tree) (i : ℕ) (t : Tree) (b : Bool) → i < length ts → t ≡ get_or ts i t → b ≡ is_complete t.outcome → b ≡ true → AreCompleteBefore ts i → AreCompleteBefore ts (i + 1)
complete_next ts i t b lt is test done before = rw add-one (next ts i t lt is (complete_is t.outcome (sym test ∙ done)) before)

pub all_complete : (ts : List Tree) (i : ℕ) → length ts ≤ i → AreCompleteBefore ts i → (t : Tree) → IsIn t ts → t.outcome ≡ complete
all_complete ts i h before t listed = before t (rw (sym (take_all i ts h)) at listed)
