use Rattle.cp_app.proofs.AnsweredReports.{answered_reported, answered_read_back, answered_truth, broken_off_reported, broken_off_searched}
use Rattle.cp_app.proofs.laws.answers_are_reports.Goals as goal

pub returns-clause-reported : goal.returns-clause-reported
returns-clause-reported c = λ command input before left_new held_new s reading. answered_reported command input before left_new held_new reading s

pub returns-clause-searched : goal.returns-clause-searched
returns-clause-searched c = λ command input before left_new held_new s reading answered. (answered_read_back command input before left_new held_new reading s answered).searched

pub returns-clause-read_back : goal.returns-clause-read_back
returns-clause-read_back c = λ command input before left_new held_new s reading. answered_read_back command input before left_new held_new reading s

pub returns-clause-denoted : goal.returns-clause-denoted
returns-clause-denoted c = λ command input before left_new held_new s reading. answered_truth command input before left_new held_new reading s

pub returns-clause-broken_off : goal.returns-clause-broken_off
returns-clause-broken_off c = broken_off_reported

pub returns-clause-searched_before_fault : goal.returns-clause-searched_before_fault
returns-clause-searched_before_fault c = broken_off_searched
