use Rattle.scheme.specs.Task.{task_of}
use Rattle.scheme.proofs.Drawing.{GrownTo}
use Rattle.scheme.proofs.Scheme.grown.Given as goal

abbrev pub invariant-loop-w : goal.invariant-loop-w
invariant-loop-w l = GrownTo (task_of l.self) l.initial.grown l.w l.grown
