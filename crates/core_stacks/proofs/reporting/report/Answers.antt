use Rattle.std.specs.Prelude.{Ok}
use Rattle.py_process.proofs.Agreement.{ok_kept}
use Rattle.py_process.proofs.Full.{right_reports}
use Rattle.core_stacks.proofs.ReportCauses.{report_causes}
use Rattle.core_stacks.proofs.ReportLaws.{whole}
use Rattle.core_stacks.proofs.reporting.report.Goals as goal

pub returns-clause-whole : goal.returns-clause-whole
returns-clause-whole c = whole _ _ _ _ c.make_report.result c.make_report.ensures.settles.right

pub returns-clause-full : goal.returns-clause-full
returns-clause-full c = λ r asks h. c.make_report.ensures.settles.only (Ok r) (right_reports _ _ _ _ r h asks) (ok_kept r)

pub returns-clause-causes : goal.returns-clause-causes
returns-clause-causes c = report_causes _ _ _ _ c.make_report.result c.make_report.ensures.settles.right
