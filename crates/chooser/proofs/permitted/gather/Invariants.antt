use Rattle.std.proofs.Common.{take}
use Rattle.chooser.specs.Steps.{Gathered}
use Rattle.chooser.proofs.permitted.gather.Given as goal

abbrev pub invariant-loop-one : goal.invariant-loop-one
invariant-loop-one l = Gathered l.free (take l.one-index l.kept) l.found
