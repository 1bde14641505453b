use Rattle.cp_report.proofs.Premises.{reads_back}
use Rattle.cp_report.proofs.SameReports.{one_report}
use Rattle.cp_report.proofs.printed_reports_read_back.Goals as goal

pub returns : goal.returns
returns c = record { read_back = reads_back; one_report = one_report }
