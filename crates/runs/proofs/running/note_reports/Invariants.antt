use Rattle.std.proofs.Common.{◌≡◌, ◌++◌, take, vec_items}
use Rattle.runs.specs.Runs.{reported_of}
use Rattle.runs.proofs.running.note_reports.Given as goal

abbrev pub invariant-loop-report : goal.invariant-loop-report
invariant-loop-report l = vec_items l.notes ≡ vec_items l.initial.notes ++ reported_of l.call (take l.report-index l.reports)
