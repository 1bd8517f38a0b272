use Rattle.tabler.proofs.Decided.{earlier_so, earlier_not}
use Rattle.tabler.proofs.table.Draw.earlier.Goals as goal

pub returns-then-precedes : goal.returns-then-precedes
returns-then-precedes g c = earlier_so _ _ _ c.args.self.now.capped _ _ c.if-precedes.ensures

pub returns-else-precedes : goal.returns-else-precedes
returns-else-precedes g c = earlier_not _ _ _ c.args.self.now.capped _ _ c.if-precedes.ensures
