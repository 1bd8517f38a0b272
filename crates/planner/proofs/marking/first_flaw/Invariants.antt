use Rattle.std.proofs.Common.{drop}
use Rattle.scheme.specs.Task.{task_of}
use Rattle.planner.proofs.Papers.{Front}
use Rattle.planner.proofs.marking.first_flaw.Given as goal

abbrev pub invariant-loop-place : goal.invariant-loop-place
invariant-loop-place l =
    Front (task_of l.scheme) l.bars l.paper l.place l.held (drop l.place l.paper)
