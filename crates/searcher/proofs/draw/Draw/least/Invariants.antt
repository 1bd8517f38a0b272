use Rattle.std.proofs.Common.{◌+◌}
use Rattle.searcher.proofs.Walks.{Walk, work, work_of}
use Rattle.searcher.proofs.draw.Draw.least.Given as goal

abbrev pub invariant-walk : goal.invariant-walk
invariant-walk g l =
    Walk g.T.Tariff.scale l.self.terms.prices.now l.self.works l.self.sets.now l.stack.items l.node l.best

abbrev pub decreases-walk : goal.decreases-walk
decreases-walk g l = work l.node + work_of l.stack.items
