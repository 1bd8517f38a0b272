use Rattle.rules.proofs.Effects.{effect_want}
use Rattle.planner.proofs.Leading.{led_by_effect}
use Rattle.planner.proofs.types.Planner.want.Goals as goal

pub returns-clause-effect : goal.returns-clause-effect
returns-clause-effect g c = effect_want _ _ _ _ _ _ c.want.result c.want.ensures

pub invariant_of-self : goal.invariant_of-self
invariant_of-self g c = record { led = led_by_effect _ _ (effect_want _ _ _ _ _ _ c.want.result c.want.ensures) c.args.self.now.led }
