use Rattle.std.proofs.Common.{take}
use Rattle.scheme.specs.Task.{task_of}
use Rattle.rules.specs.Calls.{Since}
use Rattle.planner.specs.Views.{calls_of}
use Rattle.planner.proofs.types.Planner.conduct.Given as goal

abbrev pub invariant-loop-request : goal.invariant-loop-request
invariant-loop-request g l =
    Since g.T.Tariff.scale g.C.Chooser.room (calls_of (take l.request-index l.requests)) (task_of l.self.scheme)
    (g.C.Chooser.kept l.self.chooser)
