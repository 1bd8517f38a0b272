use Rattle.std.proofs.Common.{take}
use Rattle.scheme.specs.Task.{task_of}
use Rattle.inspection.specs.Sample.{Holds}
use Rattle.inspection.proofs.sample.enter_all.Given as goal

abbrev pub invariant-loop-needs : goal.invariant-loop-needs
invariant-loop-needs l = Holds (task_of l.initial.scheme) (take l.needs-index l.works) (task_of l.scheme)
