-- Reports are read back as what they are printed for.
use Rattle.std.proofs.Common.{◌≡◌, ℕ, List, [], ◌∷◌, ◌++◌, Option, Some, None, Result, Ok, refl, sym, ap, ◌∙◌, subst}
use Rattle.std.specs.List.{AllZip, cons_option, filter_map}
use Rattle.cp_base.specs.declared.place.Refusal.{Refusal}
use Rattle.cp_model.specs.Senders.{ArePaired}
use Rattle.cp_model.specs.Tree.{Tree}
use Rattle.cp_sexpr.specs.Syntax.{Form, Forms, forms_of}
use Rattle.cp_sexpr.specs.Reading.{IsReading}
use Rattle.cp_sexpr.specs.ReadBack.{top_spellings}
use Rattle.cp_sexpr.specs.Spelling.{top_spelling}
use Rattle.cp_sexpr.proofs.Unique.{one_reading_of}
use Rattle.cp_language.specs.Problems.{Problem}
use Rattle.cp_language.specs.Input.{Entry, stated, faults_of, input_of}
use Rattle.cp_language.specs.Report.{report_forms, text_of_forms}
use Rattle.cp_report.specs.FittingTrees.{TreeFits, problem_onto, problems_in}
use Rattle.cp_report.specs.Laws.{CanBeStated}
use Rattle.cp_report.proofs.Premises.{reads_back}
use Rattle.cp_printable.specs.Proper.{AreProper}
use Rattle.cp_printable.proofs.ReadTexts.{read_as_they_are, can_be_read}
use Rattle.cp_words.specs.declared.command.CommandName.{CommandName}
use Rattle.cp_words.specs.declared.command.CommandName.TheVariants.{Analyse}
use Rattle.cp_app.specs.Headline.{HaveTrees}
use Rattle.cp_app.specs.Reported.{text_by}
use Rattle.cp_app.specs.ReadBack.{AreReadBack, IsReadBackAs}

-- ---- problems with their trees

onto_same : (o : Option Problem) (ps qs : List Problem) → ps ≡ qs → problem_onto o ps ≡ cons_option o qs
onto_same None ps qs same = same
onto_same (Some p) ps qs same = ap (λ rs. p ∷ rs) same

problems_same : (es : List Entry) → problems_in es ≡ filter_map stated es
problems_same [] = refl
problems_same (e ∷ es) = onto_same (stated e) (problems_in es) (filter_map stated es) (problems_same es)

paired : {A B : Type 0} (R : A → B → Type 0) (xs : List A) (ys : List B) → AllZip R xs ys → ArePaired R xs ys
paired R [] [] all = tt
paired R [] (y ∷ ys) all = absurd all
paired R (x ∷ xs) [] all = absurd all
paired R (x ∷ xs) (y ∷ ys) all = (all.0, paired R xs ys all.1)

can_be_stated : (input : Forms) (trees : List Tree) → faults_of input ≡ [] → HaveTrees TreeFits (input_of input) trees → CanBeStated input trees
can_be_stated input trees well_formed fit = record {
  well_formed = well_formed;
  fit = subst (λ ps. ArePaired TreeFits ps trees) (sym (problems_same (input_of input))) (paired TreeFits (filter_map stated (input_of input)) trees fit);
}

-- ---- texts

text_is : (fs : List Form) → text_of_forms fs ≡ top_spellings (forms_of fs)
text_is [] = refl
text_is (f ∷ fs) = ap (λ t. top_spelling f ++ t) (text_is fs)

same_forms : (fs gs : Forms) (a b : Result Forms Refusal) → a ≡ Ok fs → b ≡ Ok gs → a ≡ b → fs ≡ gs
same_forms fs gs a b is also e = cc

-- a text gives the same forms whenever it is read
pub same_reading : (text : List ℕ) (fs gs : Forms) → IsReading text (Ok fs) → IsReading text (Ok gs) → fs ≡ gs
same_reading text fs gs reading again = same_forms fs gs (Ok fs) (Ok gs) refl refl (one_reading_of text (Ok fs) (Ok gs) reading again)

-- what `analyse` prints is top forms
analyse_prints : (name : CommandName) (text : List ℕ) (input : Forms) (trees : List Tree) → text ≡ text_by name (input_of input) trees → name ≡ Analyse → text ≡ top_spellings (forms_of (report_forms (input_of input) trees))
analyse_prints name text input trees printed is = printed ∙ ap (λ n. text_by n (input_of input) trees) is ∙ text_is (report_forms (input_of input) trees)

-- ---- what is printed of trees that can be stated

pub read_back_as : (name : CommandName) (text : List ℕ) (input : Forms) (trees : List Tree) → text ≡ text_by name (input_of input) trees → faults_of input ≡ [] → HaveTrees TreeFits (input_of input) trees
    → AreProper (forms_of (report_forms (input_of input) trees)) → IsReadBackAs name text input trees
read_back_as name text input trees printed well_formed fit proper =
    let forms = forms_of (report_forms (input_of input) trees) in
    let back : AreReadBack input trees = λ fs same. reads_back input trees fs (can_be_stated input trees well_formed fit) same in
    record {
      forms = back;
      proper = proper;
      report = λ is fs reading. back fs (read_as_they_are forms fs proper (subst (λ t. IsReading t (Ok fs)) (analyse_prints name text input trees printed is) reading));
      readable = λ is within.
          let reads = can_be_read forms proper within in
          (reads.0, subst (λ t. IsReading t (Ok reads.0)) (sym (analyse_prints name text input trees printed is)) reads.1);
    }
