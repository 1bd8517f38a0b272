use Rattle.sets.specs.Member.{Has}
use Rattle.scheme.specs.Pass.{Pass}
use Rattle.scheme.specs.Task.{task_of}
use Rattle.scheme.proofs.Scheme.pass.Given as goal

abbrev pub invariant-loop-w : goal.invariant-loop-w
invariant-loop-w l = Pass (task_of l.self).works (Has l.chosen) l.w l.initial.held l.held
