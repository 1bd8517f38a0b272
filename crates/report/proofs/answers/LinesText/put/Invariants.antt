use Rattle.std.proofs.Common.{take}
use Rattle.std.specs.List.{flat_map}
use Rattle.page.specs.Adds.{Adds}
use Rattle.report.specs.Rows.{row_line}
use Rattle.report.proofs.answers.LinesText.put.Given as goal

abbrev pub invariant-loop-number : goal.invariant-loop-number
invariant-loop-number l =
    Adds l.initial.page (flat_map (row_line l.self.bytes.now l.self.rows.now) (take l.number-index l.number-items)) l.page
