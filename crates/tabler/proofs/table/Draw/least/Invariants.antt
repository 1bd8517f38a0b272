use Rattle.tabler.specs.Table.{Filled}
use Rattle.tabler.proofs.table.Draw.least.Given as goal

abbrev pub invariant-fill : goal.invariant-fill
invariant-fill g l = Filled g.T.Tariff.scale l.self.terms.prices.now l.self.free l.self.sets.now l.table l.m
