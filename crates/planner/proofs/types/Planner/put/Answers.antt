use Rattle.planner.proofs.Asking.{leads_put}
use Rattle.planner.proofs.Leading.{led_on}
use Rattle.planner.proofs.types.Planner.put.Goals as goal

pub returns : goal.returns
returns g c = leads_put _ _ _ _ _ _ _ c.put.result _ c.put.ensures

pub invariant_of-self : goal.invariant_of-self
invariant_of-self g c = record { led = led_on _ _ (leads_put _ _ _ _ _ _ _ c.put.result _ c.put.ensures) c.args.self.now.led }
