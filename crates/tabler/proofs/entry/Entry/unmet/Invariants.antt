use Rattle.tabler.proofs.Subsets.{Lacking}
use Rattle.tabler.proofs.entry.Entry.unmet.Given as goal

abbrev pub invariant-each : goal.invariant-each
invariant-each g l = Lacking l.self.draw.now.sets.now l.w l.initial.left l.place l.left
