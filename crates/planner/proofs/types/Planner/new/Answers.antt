use Rattle.planner.proofs.Leading.{led_opened}
use Rattle.planner.proofs.types.Planner.new.Goals as goal

pub invariant_of-result : goal.invariant_of-result
invariant_of-result g c = record { led = led_opened _ _ c.open.ensures c.clear.ensures }
