use Rattle.scheme.specs.Task.{task_of}
use Rattle.scheme.proofs.Placings.{Placing}
use Rattle.scheme.proofs.Scheme.place.Given as goal

abbrev pub invariant-loop-placed : goal.invariant-loop-placed
invariant-loop-placed l =
    Placing (task_of l.self).works l.initial.left (task_of l.self).standing l.initial.places l.left l.held l.placed l.places
