use Rattle.std.proofs.Common.{Some}
use Rattle.searcher.proofs.Pairings.{Pairing}
use Rattle.searcher.proofs.draw.Draw.bound.Given as goal

abbrev pub invariant-loop-one : goal.invariant-loop-one
invariant-loop-one g l = Pairing (λ s w. goal.F-post g l.pick s (Some w)) l.self.sets.now l.node l.bound l.rest
