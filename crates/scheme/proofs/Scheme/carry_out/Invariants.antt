use Rattle.std.proofs.Common.{take}
use Rattle.scheme.specs.Orders.{Carried}
use Rattle.scheme.specs.Task.{task_of}
use Rattle.scheme.proofs.Scheme.carry_out.Given as goal

abbrev pub invariant-loop-place : goal.invariant-loop-place
invariant-loop-place l = Carried (task_of l.self).works (task_of l.self).standing (take l.place l.order) l.held
