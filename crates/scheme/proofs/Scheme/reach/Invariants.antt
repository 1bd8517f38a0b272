use Rattle.std.proofs.Common.{◌-◌, ◌^◌}
use Rattle.sets.specs.declared.Set.{Set}
use Rattle.sets.specs.Member.{Has, Sub}
use Rattle.scheme.specs.Reach.{Closed}
use Rattle.scheme.specs.Task.{task_of}
use Rattle.scheme.proofs.Scheme.reach.Given as goal

-- what is held lies between the standing items and every closed set that holds them
abbrev pub invariant-grow : goal.invariant-grow
invariant-grow l = record {
  from : Sub l.self.standing l.held;
  within : (x : Set) → Sub l.self.standing x → Closed (task_of l.self).works (Has l.chosen) x → Sub l.held x;
}

abbrev pub decreases-grow : goal.decreases-grow
decreases-grow l = 2 ^ 64 - l.held.bits
