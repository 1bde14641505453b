-- Sums over trees, and what `bench` answers.
use Rattle.std.proofs.Common.{◌≡◌, ℕ, ◌+◌, ◌*◌, ◌<◌, ◌≤◌, List, [], ◌∷◌, ◌++◌, length, get_or, take, Bool, true, false, Ok, Err, Result, IfErr, IfOk, IsErrAnd, MatchResult, refl, sym, ap, ◌∙◌, subst, arith, add-one, nat_le, nat_lt, if◌then◌else◌}
use Rattle.std.specs.Prelude.{◌^◌}
use Rattle.std.specs.List.{filter_map}
use mir.Val.{bool_byte}
use Rattle.std.proofs.lemmas.Bool.Decides.{nat_tests}
use Rattle.std.proofs.lemmas.List.{take_all}
use Rattle.std.proofs.Math.Seq.{take-suc}
use Rattle.cp_base.specs.declared.place.Refusal.{Refusal}
use Rattle.cp_base.specs.declared.status.Status.TheVariants.{Done, Limit}
use Rattle.cp_model.specs.Tree.{Tree, IsTrueOf, expanded_count}
use Rattle.cp_model.specs.declared.tree.Limits.{Limits}
use Rattle.cp_model.specs.declared.tree.Outcome.{Outcome}
use Rattle.cp_model.specs.declared.tree.Outcome.TheVariants.{Complete, LimitSteps, LimitStrands}
use Rattle.cp_sexpr.specs.Reading.{IsReading, IsErrorOf}
use Rattle.cp_sexpr.specs.Syntax.{Forms}
use Rattle.cp_sexpr.specs.Written.{IsWritten}
use Rattle.cp_sexpr.specs.declared.error.OrMemory.{OrMemory}
use Rattle.cp_sexpr.specs.declared.error.OrMemory.TheVariants as errors
use Rattle.cp_sexpr.proofs.Unique.{one_reading_of}
use Rattle.cp_language.specs.Input.{Entry, faults_of, input_of, stated}
use Rattle.cp_language.specs.Report.{shape_count}
use Rattle.cp_language.specs.StatedInput.{IsInput}
use Rattle.cp_generate.specs.Generated.{generated_text, generated_forms}
use Rattle.cp_tree.specs.Searched.{IsTreeOf}
use Rattle.cp_app.specs.Analysis.{IsAnalysisOf}
use Rattle.cp_app.specs.Bench.{total, one_if_complete, bench_line, bench_status}
use Rattle.cp_app.specs.Details.{IsBenchmarkInDetail}
use Rattle.cp_app.specs.Headline.{HaveTrees}
use Rattle.cp_app.specs.Steps.{AreTotals, cause_of, outcomes_status, is_complete}
use Rattle.cp_app.specs.declared.bench.Totals.{Totals}
use Rattle.cp_app.specs.declared.stopped.Stopped.{Stopped}
use Rattle.cp_app.specs.declared.stopped.Stopped.TheVariants.{Memory}
use Rattle.cp_app.proofs.CommandCases.{faulty_or_not}
use Rattle.cp_app.proofs.ReportsBack.{same_reading}
use Rattle.cp_app.proofs.Trees.{zip_onto}

-- ---- sums

total_more : (f : Tree → ℕ) (ts : List Tree) (t : Tree) → total f (ts ++ t ∷ []) ≡ total f ts + f t
total_more f [] t = omega arith
total_more f (u ∷ ts) t = let more = total_more f ts t in omega (arith, more)

-- the trees before the next one, and it
pub next_tree : (ts : List Tree) (i : ℕ) (t : Tree) → i < length ts → t ≡ get_or ts i t → take (i + 1) ts ≡ take i ts ++ t ∷ []
next_tree ts i t lt is = rw add-one (take-suc ts i t lt ∙ ap (λ q. take i ts ++ q ∷ []) (sym is))

total_next : (f : Tree → ℕ) (ts : List Tree) (i : ℕ) (t : Tree) → i < length ts → t ≡ get_or ts i t → total f (take i ts) + f t ≡ total f (take (i + 1) ts)
total_next f ts i t lt is = sym (ap (total f) (next_tree ts i t lt is) ∙ total_more f (take i ts) t)

-- The sums over the first i trees, none of which is too large.
pub record AreTotalsUpTo (ts : List Tree) (i : ℕ) (all : Totals) : Type 0 where
  pub sums : AreTotals (take i ts) all
  pub labels : all.labels ≤ i * 18446744073709551615
  pub expanded : all.expanded ≤ i * 18446744073709551615
  pub shapes : all.shapes ≤ i * 18446744073709551615
  pub complete : all.complete ≤ i * 18446744073709551615

pub no_totals : (ts : List Tree) (all : Totals) → all.labels ≡ 0 → all.expanded ≡ 0 → all.shapes ≡ 0 → all.complete ≡ 0 → AreTotalsUpTo ts 0 all
no_totals ts all a b c d = record {
  sums = record { labels = a; expanded = b; shapes = c; complete = d };
  labels = omega (arith, a);
  expanded = omega (arith, b);
  shapes = omega (arith, c);
  complete = omega (arith, d);
}

-- the sums with those of one more tree
pub totals_next : (ts : List Tree) (i : ℕ) (t : Tree) (old new : Totals) (labels expanded shapes complete : ℕ) → i < length ts → t ≡ get_or ts i t → AreTotalsUpTo ts i old
    → labels ≡ length t.labels → expanded ≡ expanded_count t.labels → shapes ≡ shape_count t.labels → complete ≡ one_if_complete t.outcome
    → labels < 2 ^ 64 → expanded < 2 ^ 64 → shapes < 2 ^ 64 → complete < 2 ^ 64
    → new.labels ≡ old.labels + labels → new.expanded ≡ old.expanded + expanded → new.shapes ≡ old.shapes + shapes → new.complete ≡ old.complete + complete → AreTotalsUpTo ts (i + 1) new
totals_next ts i t old new labels expanded shapes complete lt is before l e s c lb eb sb cb nl ne ns nc = record {
  sums = record {
    labels = sum_next (λ u. length u.labels) old.labels new.labels labels nl before.sums.labels l;
    expanded = sum_next (λ u. expanded_count u.labels) old.expanded new.expanded expanded ne before.sums.expanded e;
    shapes = sum_next (λ u. shape_count u.labels) old.shapes new.shapes shapes ns before.sums.shapes s;
    complete = sum_next (λ u. one_if_complete u.outcome) old.complete new.complete complete nc before.sums.complete c;
  };
  labels = bound_next old.labels new.labels labels nl lb before.labels;
  expanded = bound_next old.expanded new.expanded expanded ne eb before.expanded;
  shapes = bound_next old.shapes new.shapes shapes ns sb before.shapes;
  complete = bound_next old.complete new.complete complete nc cb before.complete;
}
  where
    sum_next : (f : Tree → ℕ) (a b n : ℕ) → b ≡ a + n → a ≡ total f (take i ts) → n ≡ f t → b ≡ total f (take (i + 1) ts)
    sum_next f a b n grew was one = let next = total_next f ts i t lt is in omega (arith, grew, was, one, next)

    bound_next : (a b n : ℕ) → b ≡ a + n → n < 2 ^ 64 → a ≤ i * 18446744073709551615 → b ≤ (i + 1) * 18446744073709551615
    bound_next a b n grew few was = omega (arith, grew, few, was)

-- a test of an outcome as a number
pub one_of : (o : Outcome) → bool_byte (is_complete o) ≡ one_if_complete o
one_of Complete = refl
one_of LimitSteps = refl
one_of LimitStrands = refl

pub byte_few : (b : Bool) → bool_byte b < 2 ^ 64
byte_few true = omega arith
byte_few false = omega arith

pub totals_done : (ts : List Tree) (i : ℕ) (all : Totals) → length ts ≤ i → AreTotalsUpTo ts i all → AreTotals ts all
totals_done ts i all h up = rw (take_all i ts h) at up.sums

-- ---- the text that is generated is read and loaded

pub memory_at_reading : {A : Type 0} (result : Result A Stopped) (text : List ℕ) (n : ℕ) (e : OrMemory Refusal) → text ≡ generated_text n → IsWritten (generated_text n) (generated_forms n) → IsErrorOf text e → IsErrAnd result (λ cause. cause ≡ cause_of e)
    → IfErr result (λ cause. cause ≡ Memory)
memory_at_reading (Ok x) text n e is written error cause = tt
memory_at_reading (Err c) text n errors.Memory is written error cause = cause
memory_at_reading (Err c) text n (errors.Refused r) is written error cause =
    let clash = one_reading_of text (Ok (generated_forms n)) (Err r) (subst (λ t. IsWritten t (generated_forms n)) (sym is) written) error in absurd (cc)

pub forms_read : (text : List ℕ) (n : ℕ) (fs : Forms) → text ≡ generated_text n → IsWritten (generated_text n) (generated_forms n) → IsReading text (Ok fs) → fs ≡ generated_forms n
forms_read text n fs is written reading = same_reading text fs (generated_forms n) reading (subst (λ t. IsWritten t (generated_forms n)) (sym is) written)

pub memory_at_loading : {A : Type 0} (result : Result A Stopped) (fs : Forms) (n : ℕ) (e : OrMemory Refusal) → fs ≡ generated_forms n → faults_of (generated_forms n) ≡ [] → ((r : Refusal) → e ≡ errors.Refused r → IsInput fs (Err r))
    → IsErrAnd result (λ cause. cause ≡ cause_of e) → IfErr result (λ cause. cause ≡ Memory)
memory_at_loading (Ok x) fs n e is fine refused cause = tt
memory_at_loading (Err c) fs n errors.Memory is fine refused cause = cause
memory_at_loading (Err c) fs n (errors.Refused r) is fine refused cause = absurd (faulty_or_not (generated_forms n) r fine (subst (λ gs. IsInput gs (Err r)) is (refused r refl)))

-- what is given is kept where the error becomes another
pub if_kept : {T E D : Type 0} (Q : E → D → Type 0) (r : Result T E) (s : Result T D) (P : T → Type 0) → MatchResult r (λ x. s ≡ Ok x) (λ e. IsErrAnd s (Q e)) → IfOk r P → IfOk s P
if_kept Q (Ok x) s P is h = subst (λ t. IfOk t P) (sym is) h
if_kept Q (Err e) (Err d) P is h = tt
if_kept Q (Err e) (Ok y) P is h = absurd is

pub trees_loaded : (limits : Limits) (n : ℕ) (fs : Forms) (entries : List Entry) (trees : List Tree) → fs ≡ generated_forms n → IsInput fs (Ok entries) → HaveTrees (IsAnalysisOf limits) entries trees
    → HaveTrees (IsAnalysisOf limits) (input_of (generated_forms n)) trees
trees_loaded limits n fs entries trees is loaded = subst (λ es. HaveTrees (IsAnalysisOf limits) es trees) (loaded.1 ∙ ap input_of is)

-- ---- the answer

ends_of : (c n : ℕ) (b : Bool) → b ≡ nat_le n c → outcomes_status b ≡ bench_status n c
ends_of c n b is = go b (nat_lt c n) refl is
  where
    go : (b few : Bool) → nat_lt c n ≡ few → b ≡ nat_le n c → outcomes_status b ≡ (if few then Limit else Done)
    go true false p q = refl
    go false true p q = refl
    go true true p q = absurd (grind (arith, nat_tests))
    go false false p q = absurd (grind (arith, nat_tests))

pub benchmark_of : (n : ℕ) (limits : Limits) (trees : List Tree) (all : Totals) (text : List ℕ) (b : Bool) → HaveTrees (IsAnalysisOf limits) (input_of (generated_forms n)) trees → AreTotals trees all
    → text ≡ bench_line n all.labels all.expanded all.shapes all.complete → b ≡ nat_le n all.complete → IsBenchmarkInDetail n limits text (outcomes_status b)
benchmark_of n limits trees all text b analysed sums printed complete =
    let problems = filter_map stated (input_of (generated_forms n)) in
    record {
      benchmark = record {
        trees = trees;
        true_trees = zip_onto (IsAnalysisOf limits) (λ p t. IsTrueOf p.protocol p.skeleton limits t) (λ p t h. h.truth) problems trees analysed;
        printed = rw (sums.labels, sums.expanded, sums.shapes, sums.complete) at printed;
        ends = rw sums.complete at (ends_of all.complete n b complete);
      };
      searched = zip_onto (IsAnalysisOf limits) (λ p t. IsTreeOf p.protocol p.skeleton p.variables limits t) (λ p t h. h.searched) problems trees analysed;
    }
