-- What the end of a command that reads says of its input and its output.
use Rattle.std.proofs.Common.{◌≡◌, ℕ, ◌+◌, ◌<◌, ◌≤◌, List, [], length, drop, Bool, true, false, Option, Some, None, Result, Ok, Err, ◌⊎◌, inl, inr, refl, sym, ap, ◌∙◌, arith, subst}
use Rattle.std.proofs.Math.Seq.{drop-append_seam}
use Rattle.std.specs.List.{filter_map}
use Rattle.std.specs.Result.{IfErr, IsErrAnd}
use Rattle.std.proofs.lemmas.List.{append-nil}
use Rattle.cp_base.specs.declared.place.Refusal.{Refusal}
use Rattle.cp_base.specs.declared.status.Failed.{Failed}
use Rattle.cp_base.specs.declared.status.Status.{Status}
use Rattle.cp_base.specs.declared.status.Status.TheVariants.{Done, Limit, Usage, Refused, ReadFault, WriteFault, Memory, TooLong}
use Rattle.cp_lists.specs.Lists.{IsIn}
use Rattle.cp_model.specs.Tree.{Label, Tree, IsTrueOf}
use Rattle.cp_sexpr.specs.Syntax.{Forms}
use Rattle.cp_sexpr.specs.Reading.{IsReading}
use Rattle.cp_sexpr.proofs.Unique.{one_reading_of}
use Rattle.cp_words.specs.declared.command.Command.{Command}
use Rattle.cp_app.specs.Headline.{most_bytes, HaveTrees, IsAccepted, SaysOutcomes}
use Rattle.cp_app.specs.Commands.{reads, Accepts, Answers}
use Rattle.cp_app.specs.Details.{AnswersInDetail, IsReportedInDetail}
use Rattle.cp_app.specs.Answered.{SaysWhole, HasAnswered, HasBrokenOff}
use Rattle.cp_app.specs.Endings.{IsRefusedFor, HasRefused, WasTooLong, TookAtMost}
use Rattle.cp_app.specs.Reported.{text_by}
use Rattle.cp_report.specs.FittingTrees.{TreeFits}
use Rattle.cp_app.specs.Steps.{status_of, IsCauseFor, HasStoppedReading, HasStopped, outcomes_status, cause_of, IsWhole, HasAnsweredAll, HasWrittenPart, HasEnded}
use Rattle.cp_app.proofs.CommandCases.{accepts_exactly, refuses_exactly, accepts_or_refuses, one_fault, detail_exactly, detail_answers}
use Rattle.cp_app.specs.Analysis.{IsAnalysisOf}
use Rattle.cp_app.proofs.Trees.{zip_onto}
use Rattle.cp_printable.proofs.DenotedTrees.{report_true}
use Rattle.cp_language.specs.Input.{Entry, stated, input_of}
use Rattle.cp_language.specs.StatedInput.{IsInput}
use Rattle.cp_language.specs.Report.{HasItsVariables}
use Rattle.cp_sexpr.specs.declared.error.OrMemory.{OrMemory}
use Rattle.cp_sexpr.specs.declared.error.OrMemory.TheVariants as errors
use Rattle.cp_tree.specs.Searched.{IsTreeOf}
use Rattle.cp_app.specs.declared.stopped.Stopped.{Stopped}
use Rattle.cp_app.specs.declared.stopped.Stopped.TheVariants as stopped
use Rattle.cp_app.proofs.ReportsBack.{same_reading, read_back_as}
use Rattle.cp_app.proofs.ProperAnalyses.{analyses_are_proper}
use Rattle.cp_printable.proofs.ReadTexts.{read_is_proper}

-- ---- an input is refused or accepted

same_error : (r s : Refusal) (a b : Result Forms Refusal) → a ≡ Err r → b ≡ Err s → a ≡ b → r ≡ s
same_error r s a b is also e = cc

-- an input that is accepted is not refused
pub accepted_or_refused : (command : Command) (input : List ℕ) (fs : Forms) (r : Refusal) → IsAccepted (Accepts command) input fs → IsRefusedFor command input r → ⊥
accepted_or_refused command input fs r accepted (inl reading) = let e = one_reading_of input (Ok fs) (Err r) accepted.read reading in cc
accepted_or_refused command input fs r accepted (inr (gs, reading, refuses)) =
    let e : fs ≡ gs = same_reading input fs gs accepted.read reading in
    accepts_or_refuses command.name gs r (subst (Accepts command) e accepted.accepts) refuses

-- an input is refused for one fault
pub one_refusal : (command : Command) (input : List ℕ) (r s : Refusal) → IsRefusedFor command input r → IsRefusedFor command input s → r ≡ s
one_refusal command input r s (inl reading) (inl again) = same_error r s (Err r) (Err s) refl refl (one_reading_of input (Err r) (Err s) reading again)
one_refusal command input r s (inl reading) (inr (gs, again, refuses)) = let e = one_reading_of input (Err r) (Ok gs) reading again in absurd (cc)
one_refusal command input r s (inr (fs, reading, refuses)) (inl again) = let e = one_reading_of input (Ok fs) (Err s) reading again in absurd (cc)
one_refusal command input r s (inr (fs, reading, refuses)) (inr (gs, again, other)) =
    let e : fs ≡ gs = same_reading input fs gs reading again in
    one_fault command.name gs r s (rw e at refuses) other

-- ---- what was written

took_all : (input : List ℕ) (left_new : Option (List ℕ)) → length input ≤ most_bytes → left_new ≡ Some [] → TookAtMost input left_new
took_all input left_new short at_end = (length input, omega arith, at_end ∙ ap (λ xs. Some xs) (sym (ap (λ xs. drop (length input) xs) (sym (append-nil input)) ∙ drop-append_seam input [])))

module _ (command : Command) (input : List ℕ) (left_new held_old held_new : Option (List ℕ)) where
  -- What is left by a run that ended so.
  abbrev Ended : Status → Type 0
  Ended status = HasEnded command input left_new held_old held_new status

  read_all_of : (b : Bool) (r : Result (Unit {0}) Failed) → reads command.name ≡ true → HasAnsweredAll command input left_new held_old held_new b r → TookAtMost input left_new
  read_all_of b r reading ended = took_all input left_new (ended.whole.accepted reading).1.short (ended.at_end reading)

  ended_took_at_most : (status : Status) → reads command.name ≡ true → Ended status → TookAtMost input left_new
  ended_took_at_most Done reading ended = read_all_of true (Ok tt) reading ended
  ended_took_at_most Limit reading ended = read_all_of false (Ok tt) reading ended
  ended_took_at_most Usage reading ended = absurd ended
  ended_took_at_most (Refused r) reading ended = took_all input left_new ended.1.short ended.1.at_end
  ended_took_at_most ReadFault reading ended = ended.1
  ended_took_at_most WriteFault reading (complete, ended) = read_all_of complete (Err (record {})) reading ended
  ended_took_at_most Memory reading ended = ended reading
  ended_took_at_most TooLong reading ended = (most_bytes + 1, omega arith, ended.1.left)

  written_answered : (before : List ℕ) (b : Bool) → held_old ≡ Some before → HasAnsweredAll command input left_new held_old held_new b (Ok tt) → HasAnswered (AnswersInDetail command) command input before left_new held_new (outcomes_status b)
  written_answered before b is written = record { text = written.text; at_end = written.at_end; held = written.put before is; answer = written.whole.answer }

  pub ended_in_detail : (before : List ℕ) (status : Status) → held_old ≡ Some before → SaysWhole status → Ended status → HasAnswered (AnswersInDetail command) command input before left_new held_new status
  ended_in_detail before status is (inl e) ended = subst (HasAnswered (AnswersInDetail command) command input before left_new held_new) (sym e) (written_answered before true is (subst Ended e ended))
  ended_in_detail before status is (inr e) ended = subst (HasAnswered (AnswersInDetail command) command input before left_new held_new) (sym e) (written_answered before false is (subst Ended e ended))

  pub answered_by_detail : (before : List ℕ) (status : Status) → HasAnswered (AnswersInDetail command) command input before left_new held_new status → HasAnswered (Answers command) command input before left_new held_new status
  answered_by_detail before status answered = record {
    text = answered.text;
    at_end = answered.at_end;
    held = answered.held;
    answer = detail_answers command.name command.limits input answered.text status answered.answer;
  }

  outcomes_are_whole : (b : Bool) → SaysWhole (outcomes_status b)
  outcomes_are_whole true = inl refl
  outcomes_are_whole false = inr refl

  pub ended_broken_off : (before : List ℕ) (status : Status) → held_old ≡ Some before → status ≡ WriteFault → Ended status → HasBrokenOff (AnswersInDetail command) command input before left_new held_new
  ended_broken_off before status is broken ended =
      let part : HasWrittenPart command input left_new held_old held_new = subst Ended broken ended in
      let put = part.1.put before is in
      record {
        text = part.1.text;
        status = outcomes_status part.0;
        put = put.0;
        whole = outcomes_are_whole part.0;
        shorter = put.1;
        at_end = part.1.at_end;
        held = put.2;
        answer = part.1.whole.answer;
      }

  pub broken_off_by_detail : (before : List ℕ) → HasBrokenOff (AnswersInDetail command) command input before left_new held_new → HasBrokenOff (Answers command) command input before left_new held_new
  broken_off_by_detail before broken = record {
    text = broken.text;
    status = broken.status;
    put = broken.put;
    whole = broken.whole;
    shorter = broken.shorter;
    at_end = broken.at_end;
    held = broken.held;
    answer = detail_answers command.name command.limits input broken.text broken.status broken.answer;
  }

  -- ---- a command that reads

  -- The source was read to its end, and its input is accepted.
  abbrev AcceptedAtEnd : Type 0
  AcceptedAtEnd = (left_new ≡ Some []) × ((fs : Forms) × IsAccepted (Accepts command) input fs)

  accepted_all : (b : Bool) (r : Result (Unit {0}) Failed) → reads command.name ≡ true → HasAnsweredAll command input left_new held_old held_new b r → AcceptedAtEnd
  accepted_all b r reading ended = (ended.at_end reading, ended.whole.accepted reading)

  pub ended_accepted : (status : Status) → reads command.name ≡ true → Ended status → (SaysWhole status ⊎ (status ≡ WriteFault)) → AcceptedAtEnd
  ended_accepted status reading ended (inl (inl e)) = accepted_all true (Ok tt) reading (subst Ended e ended)
  ended_accepted status reading ended (inl (inr e)) = accepted_all false (Ok tt) reading (subst Ended e ended)
  ended_accepted status reading ended (inr e) = let part : HasWrittenPart command input left_new held_old held_new = subst Ended e ended in accepted_all part.0 (Err (record {})) reading part.1

  pub ended_refused : (status : Status) (r : Refusal) → Ended status → status ≡ Refused r → HasRefused command input left_new r
  ended_refused status r ended is = let stopped : HasStopped command input left_new (stopped.Refused r) = subst Ended is ended in stopped.1

  refused_none : (r : Refusal) → IsRefusedFor command input r → AcceptedAtEnd → ⊥
  refused_none r refused accepted = accepted_or_refused command input accepted.1.0 r accepted.1.1 refused

  pub ended_only_refused : (status : Status) (r : Refusal) → reads command.name ≡ true → Ended status → length input ≤ most_bytes → IsRefusedFor command input r
      → (status ≡ Refused r) ⊎ ((status ≡ ReadFault) ⊎ (status ≡ Memory))
  ended_only_refused Done r reading ended short refused = absurd (refused_none r refused (accepted_all true (Ok tt) reading ended))
  ended_only_refused Limit r reading ended short refused = absurd (refused_none r refused (accepted_all false (Ok tt) reading ended))
  ended_only_refused Usage r reading ended short refused = absurd ended
  ended_only_refused (Refused s) r reading ended short refused = inl (ap (λ x. Refused x) (one_refusal command input s r ended.1.cause refused))
  ended_only_refused ReadFault r reading ended short refused = inr (inl refl)
  ended_only_refused WriteFault r reading (complete, ended) short refused = absurd (refused_none r refused (accepted_all complete (Err (record {})) reading ended))
  ended_only_refused Memory r reading ended short refused = inr (inr refl)
  ended_only_refused TooLong r reading ended short refused = let long = ended.1.long in absurd (omega arith)

  ended_too_long : (status : Status) → Ended status → status ≡ TooLong → WasTooLong input left_new
  ended_too_long status ended is = let stopped : HasStopped command input left_new stopped.TooLong = subst Ended is ended in stopped.1

  long_none : most_bytes < length input → AcceptedAtEnd → ⊥
  long_none long accepted = let short = accepted.1.1.short in omega arith

  pub ended_only_too_long : (status : Status) → reads command.name ≡ true → Ended status → most_bytes < length input → (status ≡ TooLong) ⊎ ((status ≡ ReadFault) ⊎ (status ≡ Memory))
  ended_only_too_long Done reading ended long = absurd (long_none long (accepted_all true (Ok tt) reading ended))
  ended_only_too_long Limit reading ended long = absurd (long_none long (accepted_all false (Ok tt) reading ended))
  ended_only_too_long Usage reading ended long = absurd ended
  ended_only_too_long (Refused r) reading ended long = let short = ended.1.short in absurd (omega arith)
  ended_only_too_long ReadFault reading ended long = inr (inl refl)
  ended_only_too_long WriteFault reading (complete, ended) long = absurd (long_none long (accepted_all complete (Err (record {})) reading ended))
  ended_only_too_long Memory reading ended long = inr (inr refl)
  ended_only_too_long TooLong reading ended long = inl refl

  -- ---- a command that reads nothing

  both_ways : reads command.name ≡ true → reads command.name ≡ false → ⊥
  both_ways reading silent = let e : true ≡ false = sym reading ∙ silent in cc

  pub ended_silent : (status : Status) → reads command.name ≡ false → Ended status → SaysWhole status ⊎ ((status ≡ WriteFault) ⊎ (status ≡ Memory))
  ended_silent Done silent ended = inl (inl refl)
  ended_silent Limit silent ended = inl (inr refl)
  ended_silent Usage silent ended = absurd ended
  ended_silent (Refused r) silent ended = absurd (both_ways ended.0 silent)
  ended_silent ReadFault silent ended = absurd (both_ways ended.0 silent)
  ended_silent WriteFault silent ended = inr (inl refl)
  ended_silent Memory silent ended = inr (inr refl)
  ended_silent TooLong silent ended = absurd (both_ways ended.0 silent)

  -- ---- any command

  pub ended_completes : (status : Status) (read written : Type 0) → Ended status → (status ≡ ReadFault → read) → (status ≡ WriteFault → written)
      → (reads command.name ≡ true → (fs : Forms) × IsAccepted (Accepts command) input fs) → (read → ⊥) → (written → ⊥) → SaysWhole status ⊎ (status ≡ Memory)
  ended_completes Done read written ended reading writing accepted not_read not_written = inl (inl refl)
  ended_completes Limit read written ended reading writing accepted not_read not_written = inl (inr refl)
  ended_completes Usage read written ended reading writing accepted not_read not_written = absurd ended
  ended_completes (Refused r) read written ended reading writing accepted not_read not_written = let fine = accepted ended.0 in absurd (accepted_or_refused command input fine.0 r fine.1 ended.1.cause)
  ended_completes ReadFault read written ended reading writing accepted not_read not_written = absurd (not_read (reading refl))
  ended_completes WriteFault read written ended reading writing accepted not_read not_written = absurd (not_written (writing refl))
  ended_completes Memory read written ended reading writing accepted not_read not_written = inr refl
  ended_completes TooLong read written ended reading writing accepted not_read not_written = let long = ended.1.long in let short = (accepted ended.0).1.short in absurd (omega arith)

-- ---- stopped behind the end of the input

pub stopped_behind_end : {A : Type 0} (command : Command) (result : Result A Stopped) (bytes input : List ℕ) (left_new : Option (List ℕ)) → reads command.name ≡ true → IfErr result (IsCauseFor command bytes) → length bytes ≤ most_bytes
    → (bytes ≡ input) × (left_new ≡ Some []) → IfErr result (HasStopped command input left_new)
stopped_behind_end command (Ok x) bytes input left_new reading cause short read = tt
stopped_behind_end command (Err (stopped.Refused r)) bytes input left_new reading cause short read = (reading, record { at_end = read.1; short = rw read.0 at short; cause = rw read.0 at cause })
stopped_behind_end command (Err stopped.ReadFault) bytes input left_new reading cause short read = absurd cause
stopped_behind_end command (Err stopped.TooLong) bytes input left_new reading cause short read = absurd cause
stopped_behind_end command (Err stopped.Memory) bytes input left_new reading cause short read = λ is. took_all input left_new (rw read.0 at short) read.1

-- before the end of the input
stopped_before : (command : Command) (input : List ℕ) (left_new : Option (List ℕ)) (cause : Stopped) → reads command.name ≡ true → HasStoppedReading input left_new cause → HasStopped command input left_new cause
stopped_before command input left_new (stopped.Refused r) reading h = absurd h
stopped_before command input left_new stopped.TooLong reading h = (reading, h)
stopped_before command input left_new stopped.ReadFault reading h = (reading, h)
stopped_before command input left_new stopped.Memory reading h = λ is. h

pub stopped_reading : {A : Type 0} (command : Command) (result : Result A Stopped) (cause : Stopped) (input : List ℕ) (left_new : Option (List ℕ)) → reads command.name ≡ true → HasStoppedReading input left_new cause → IsErrAnd result (λ c. c ≡ cause)
    → IfErr result (HasStopped command input left_new)
stopped_reading command (Ok x) cause input left_new reading held is = tt
stopped_reading command (Err c) cause input left_new reading held is = subst (HasStopped command input left_new) (sym is) (stopped_before command input left_new cause reading held)

-- a command that reads nothing stops for want of memory alone
pub stopped_silent : {A : Type 0} (command : Command) (result : Result A Stopped) (input : List ℕ) (left_new : Option (List ℕ)) → reads command.name ≡ false → IfErr result (λ cause. cause ≡ stopped.Memory) → IfErr result (HasStopped command input left_new)
stopped_silent command (Ok x) input left_new silent memory = tt
stopped_silent command (Err cause) input left_new silent memory = subst (HasStopped command input left_new) (sym memory) (λ reading. absurd (both_ways command input left_new left_new left_new reading silent))

-- ---- reports

pub whole_report : (command : Command) (bytes text : List ℕ) (fs : Forms) (entries : List Entry) (trees : List Tree) (b : Bool) → reads command.name ≡ true → length bytes ≤ most_bytes → IsReading bytes (Ok fs) → IsInput fs (Ok entries)
    → HaveTrees (IsAnalysisOf command.limits) entries trees → SaysOutcomes (outcomes_status b) trees → text ≡ text_by command.name entries trees → IsWhole command bytes text b
whole_report command bytes text fs entries trees b is_read short reading loaded analysed says printed =
    let problems = filter_map stated (input_of fs) in
    let all : HaveTrees (IsAnalysisOf command.limits) (input_of fs) trees = subst (λ es. HaveTrees (IsAnalysisOf command.limits) es trees) loaded.1 analysed in
    let prints : text ≡ text_by command.name (input_of fs) trees = printed ∙ ap (λ es. text_by command.name es trees) loaded.1 in
    let true_trees : HaveTrees (λ p t. IsTrueOf p.protocol p.skeleton command.limits t) (input_of fs) trees =
    zip_onto (IsAnalysisOf command.limits) (λ p t. IsTrueOf p.protocol p.skeleton command.limits t) (λ p t h. h.truth) problems trees all in
    let reported : IsReportedInDetail command.name (text_by command.name) command.limits bytes text (outcomes_status b) = record {
      reported = record {
        trees = trees;
        report = record {
          forms = fs;
          accepted = record { short = short; read = reading; accepts = loaded.0 };
          true_trees = true_trees;
          variables = zip_onto (IsAnalysisOf command.limits) (λ p t. (l : Label) → IsIn l t.labels → HasItsVariables p l) (λ p t h. h.variables) problems trees all;
          printed = prints;
        };
        outcomes = says;
      };
      searched = zip_onto (IsAnalysisOf command.limits) (λ p t. IsTreeOf p.protocol p.skeleton p.variables command.limits t) (λ p t h. h.searched) problems trees all;
      read_back = read_back_as command.name text fs trees prints loaded.0 (zip_onto (IsAnalysisOf command.limits) TreeFits (λ p t h. h.fits) problems trees all)
          (analyses_are_proper command.limits fs trees (read_is_proper bytes fs reading).0 loaded.0 all);
      denoted = λ gs is. report_true fs trees command.limits gs loaded.0 is true_trees;
    } in
    record {
      answer = (detail_exactly command.name command.limits bytes text (outcomes_status b) is_read).1 reported;
      accepted = λ r. (fs, record { short = short; read = reading; accepts = (accepts_exactly command.name fs is_read).1 loaded.0 });
    }

-- what the loader refuses, the input is refused for
pub load_cause : {A : Type 0} (command : Command) (input : List ℕ) (fs : Forms) (e : OrMemory Refusal) (result : Result A Stopped) → reads command.name ≡ true → IsErrAnd result (λ cause. cause ≡ cause_of e) → IsReading input (Ok fs)
    → ((r : Refusal) → e ≡ errors.Refused r → IsInput fs (Err r)) → IfErr result (IsCauseFor command input)
load_cause command input fs e (Ok x) is_read is reading refused = tt
load_cause command input fs (errors.Refused r) (Err cause) is_read is reading refused = subst (IsCauseFor command input) (sym is) (inr (fs, reading, (refuses_exactly command.name fs r is_read).1 (refused r refl)))
load_cause command input fs errors.Memory (Err cause) is_read is reading refused = subst (IsCauseFor command input) (sym is) tt

pub ended_ok : (command : Command) (input : List ℕ) (left_new held_old held_new : Option (List ℕ)) (b : Bool) (s : Status) → s ≡ outcomes_status b → HasAnsweredAll command input left_new held_old held_new b (Ok tt)
    → HasEnded command input left_new held_old held_new s
ended_ok command input left_new held_old held_new true s is written = subst (HasEnded command input left_new held_old held_new) (sym is) written
ended_ok command input left_new held_old held_new false s is written = subst (HasEnded command input left_new held_old held_new) (sym is) written

pub ended_stopped : (command : Command) (input : List ℕ) (left_new held_old held_new : Option (List ℕ)) (cause : Stopped) (s : Status) → s ≡ status_of cause → HasStopped command input left_new cause
    → HasEnded command input left_new held_old held_new s
ended_stopped command input left_new held_old held_new (stopped.Refused r) s is h = subst (HasEnded command input left_new held_old held_new) (sym is) h
ended_stopped command input left_new held_old held_new stopped.ReadFault s is h = subst (HasEnded command input left_new held_old held_new) (sym is) h
ended_stopped command input left_new held_old held_new stopped.TooLong s is h = subst (HasEnded command input left_new held_old held_new) (sym is) h
ended_stopped command input left_new held_old held_new stopped.Memory s is h = subst (HasEnded command input left_new held_old held_new) (sym is) h

-- ---- runs

-- What the words are says how a run of them ended.
module _ (o : Option Command) (input : List ℕ) (left_new held_old held_new : Option (List ℕ)) (s : Status) where
  abbrev Executed : Type 0
  Executed = (command : Command) → o ≡ Some command → HasEnded command input left_new held_old held_new s

  pub executed_too_long : Executed → (o ≡ None → s ≡ Usage) → s ≡ TooLong → WasTooLong input left_new
  executed_too_long executed usage is = go o refl
    where
      go : (p : Option Command) → o ≡ p → WasTooLong input left_new
      go None e = let both : Usage ≡ TooLong = sym (usage e) ∙ is in absurd (cc)
      go (Some command) e = ended_too_long command input left_new held_old held_new s (executed command e) is

  pub executed_took_at_most : Executed → (o ≡ None → left_new ≡ Some input) → ((command : Command) → o ≡ Some command → reads command.name ≡ false → left_new ≡ Some input) → TookAtMost input left_new
  executed_took_at_most executed usage silent = go o refl
    where
      of_command : (command : Command) → o ≡ Some command → (b : Bool) → reads command.name ≡ b → TookAtMost input left_new
      of_command command e true r = ended_took_at_most command input left_new held_old held_new s r (executed command e)
      of_command command e false r = (0, omega arith, silent command e r)

      go : (p : Option Command) → o ≡ p → TookAtMost input left_new
      go None e = (0, omega arith, usage e)
      go (Some command) e = of_command command e (reads command.name) refl

-- a command that is given accepted input, or that reads nothing, is answered
pub run_completes : (command : Command) (left_old left_new held_old held_new : Option (List ℕ)) (s : Status) (read written : Type 0)
    → ((input : List ℕ) → (reads command.name ≡ true → left_old ≡ Some input) → HasEnded command input left_new held_old held_new s) → (s ≡ ReadFault → read) → (s ≡ WriteFault → written)
    → (reads command.name ≡ true → (input : List ℕ) × (fs : Forms) × (left_old ≡ Some input) × IsAccepted (Accepts command) input fs) → (read → ⊥) → (written → ⊥) → SaysWhole s ⊎ (s ≡ Memory)
run_completes command left_old left_new held_old held_new s read written ended reading writing given not_read not_written = go (reads command.name) refl
  where
    go : (b : Bool) → reads command.name ≡ b → SaysWhole s ⊎ (s ≡ Memory)
    go true r =
        let input = given r in
        ended_completes command input.0 left_new held_old held_new s read written (ended input.0 (λ _. input.2)) reading writing (λ _. (input.1, input.3)) not_read not_written
    go false r =
        let silent : (x : reads command.name ≡ true) → ⊥ = λ x. both_ways command [] left_new held_old held_new x r in
        ended_completes command [] left_new held_old held_new s read written (ended [] (λ x. absurd (silent x))) reading writing (λ x. absurd (silent x)) not_read not_written
