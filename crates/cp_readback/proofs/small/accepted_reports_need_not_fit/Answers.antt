use Rattle.cp_readback.proofs.ExampleReports.{listed_accepted, renamed_accepted, unlisted_accepted, listed_whole, renamed_complete, renamed_unfit, unlisted_unfit}
use Rattle.cp_readback.proofs.small.accepted_reports_need_not_fit.Goals as goal

pub returns : goal.returns
returns c = record { listed = listed_accepted; whole = listed_whole; renamed = renamed_accepted; complete = renamed_complete; other_variables = renamed_unfit; unlisted = unlisted_accepted; no_assumption = unlisted_unfit }
