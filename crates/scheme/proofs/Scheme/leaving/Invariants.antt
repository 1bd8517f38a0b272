use Rattle.std.proofs.Common.{◌<◌}
use Rattle.sets.specs.Member.{Members}
use Rattle.scheme.specs.Landmarks.{Leaves}
use Rattle.scheme.specs.Task.{task_of}
use Rattle.scheme.proofs.Scheme.leaving.Given as goal

abbrev pub invariant-loop-w : goal.invariant-loop-w
invariant-loop-w l = Members l.found (λ w. (w < l.w) × Leaves (task_of l.self).works l.items w)
