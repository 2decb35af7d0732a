use Rattle.std.proofs.Common.{◌≡◌, ◌++◌, take, vec_items}
use Rattle.std.specs.List.{flat_map}
use Rattle.page.specs.Pages.{report_line}
use Rattle.page.proofs.printing.add_reports.Given as goal

abbrev pub invariant-loop-report : goal.invariant-loop-report
invariant-loop-report l = vec_items l.text ≡ vec_items l.initial.text ++ flat_map report_line (take l.report-index l.reports)
