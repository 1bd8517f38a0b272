use Rattle.planner.proofs.Leading.{led_opened}
use Rattle.planner.proofs.types.Planner.open.Goals as goal

pub invariant_of-self : goal.invariant_of-self
invariant_of-self g c = record { led = led_opened _ _ c.open.ensures c.clear.ensures }
