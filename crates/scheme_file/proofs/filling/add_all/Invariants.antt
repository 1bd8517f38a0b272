use Rattle.std.proofs.Common.{◌≡◌}
use Rattle.scheme.specs.Task.{task_of}
use Rattle.scheme_file.specs.Passes.{Adding}
use Rattle.scheme_file.proofs.filling.add_all.Given as goal

-- the items so far are added, and the others are to come
abbrev pub invariant-loop-item : goal.invariant-loop-item
invariant-loop-item g l =
    Adding l.initial.item-iterator.rest (g.part.get (task_of l.scheme)) l.item-iterator.rest
    × (task_of l.scheme ≡ g.part.put (task_of l.initial.scheme) (g.part.get (task_of l.scheme)))
