-- An answer of a command that prints trees is a report.
use Rattle.std.proofs.Common.{◌≡◌, ℕ, List, true, Option}
use Rattle.cp_base.specs.declared.status.Status.{Status}
use Rattle.cp_words.specs.declared.command.Command.{Command}
use Rattle.cp_app.specs.Headline.{IsReported}
use Rattle.cp_app.specs.Commands.{reads, Answers}
use Rattle.cp_app.specs.Details.{AnswersInDetail, IsReportedInDetail}
use Rattle.cp_app.specs.Answered.{HasAnswered, HasBrokenOff}
use Rattle.cp_app.specs.Reported.{text_by, HasReported, HasReportedReadBack, HasReportedTruth, HasBrokenOffReport, HasBrokenOffSearch}
use Rattle.cp_app.proofs.CommandCases.{answers_reported, detail_exactly}

module _ (command : Command) (input before : List ℕ) (left_new held_new : Option (List ℕ)) (reading : reads command.name ≡ true) where
  -- Of an answer whose text is a report.
  abbrev whole_report : (Answer : List ℕ → List ℕ → Status → Type 0) (s : Status) (answered : HasAnswered Answer command input before left_new held_new s) → IsReported (text_by command.name) command.limits input answered.text s
      → HasReported command input before left_new held_new s
  whole_report Answer s answered reported = record {
    text = answered.text;
    trees = reported.trees;
    at_end = answered.at_end reading;
    held = answered.held;
    report = reported.report;
    outcomes = reported.outcomes;
  }

  pub answered_reported : (s : Status) → HasAnswered (Answers command) command input before left_new held_new s → HasReported command input before left_new held_new s
  answered_reported s answered = whole_report (Answers command) s answered (answers_reported command.name command.limits input answered.text s reading answered.answer)

  in_detail : (s : Status) (answered : HasAnswered (AnswersInDetail command) command input before left_new held_new s) → IsReportedInDetail command.name (text_by command.name) command.limits input answered.text s
  in_detail s answered = (detail_exactly command.name command.limits input answered.text s reading).0 answered.answer

  pub answered_read_back : (s : Status) → HasAnswered (AnswersInDetail command) command input before left_new held_new s → HasReportedReadBack command input before left_new held_new s
  answered_read_back s answered =
      let detail = in_detail s answered in
      record { searched = record { reported = whole_report (AnswersInDetail command) s answered detail.reported; searched = detail.searched }; read_back = detail.read_back }

  pub answered_truth : (s : Status) → HasAnswered (AnswersInDetail command) command input before left_new held_new s → HasReportedTruth command input before left_new held_new s
  answered_truth s answered =
      let detail = in_detail s answered in
      record { reported = whole_report (AnswersInDetail command) s answered detail.reported; denoted = detail.denoted }

  -- The same where only a prefix was put.
  abbrev broken_report : (Answer : List ℕ → List ℕ → Status → Type 0) (broken : HasBrokenOff Answer command input before left_new held_new) → IsReported (text_by command.name) command.limits input broken.text broken.status
      → HasBrokenOffReport command input before left_new held_new
  broken_report Answer broken reported = record {
    text = broken.text;
    trees = reported.trees;
    put = broken.put;
    shorter = broken.shorter;
    at_end = broken.at_end reading;
    held = broken.held;
    report = reported.report;
  }

  pub broken_off_reported : HasBrokenOff (Answers command) command input before left_new held_new → HasBrokenOffReport command input before left_new held_new
  broken_off_reported broken = broken_report (Answers command) broken (answers_reported command.name command.limits input broken.text broken.status reading broken.answer)

  pub broken_off_searched : HasBrokenOff (AnswersInDetail command) command input before left_new held_new → HasBrokenOffSearch command input before left_new held_new
  broken_off_searched broken =
      let detail : IsReportedInDetail command.name (text_by command.name) command.limits input broken.text broken.status = (detail_exactly command.name command.limits input broken.text broken.status reading).0 broken.answer in
      record { broken_off = broken_report (AnswersInDetail command) broken detail.reported; searched = detail.searched }
