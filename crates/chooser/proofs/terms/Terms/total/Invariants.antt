use Rattle.chooser.proofs.Tallies.{Tally}
use Rattle.chooser.proofs.terms.Terms.total.Given as goal

abbrev pub invariant-loop-w : goal.invariant-loop-w
invariant-loop-w g l = Tally g.T.Tariff.scale l.self.prices.now l.yielded l.total
