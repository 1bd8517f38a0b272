use Rattle.std.proofs.Common.{◌≡◌, map, take}
use Rattle.report.specs.Rows.{row_pounds}
use Rattle.report.proofs.reporting.report_scheme.Given as goal

abbrev pub invariant-loop-row : goal.invariant-loop-row
invariant-loop-row g l = l.pounds.items ≡ map row_pounds (take l.row-index l.rows)
